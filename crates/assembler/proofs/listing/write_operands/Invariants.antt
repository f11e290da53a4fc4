use Rattle.std.proofs.Common.{◌≡◌, ℕ, List, ◌++◌, drop}
use Rattle.assembler.specs.Listing.{tail}
use Rattle.assembler.specs.Writes.{Writes}
use Rattle.assembler.proofs.listing.write_operands.Given as goal

abbrev pub invariant-loop-slot : goal.invariant-loop-slot
invariant-loop-slot l = (p : List ℕ) × Writes l.initial.writer p l.writer × (p ++ tail (drop l.slot-index l.slot-items) l.word ≡ tail l.slot-items l.word)
