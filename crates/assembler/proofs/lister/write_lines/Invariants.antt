use Rattle.std.proofs.Common.{◌≡◌, ℕ, ◌*◌, ◌≤◌, List, ◌++◌, drop}
use Rattle.assembler.specs.Listing.{listing}
use Rattle.assembler.specs.Writes.{Writes}
use Rattle.assembler.proofs.Rows.{words_in}
use Rattle.assembler.proofs.lister.write_lines.Given as goal

abbrev pub invariant-loop-word : goal.invariant-loop-word
invariant-loop-word l =
    ((p : List ℕ) × Writes l.initial.writer p l.writer × (p ++ listing (words_in (drop l.word-index l.word-items)) ≡ listing (words_in l.word-items)))
    × (l.writer.end ≤ 19 * l.word-index)
