use Rattle.std.proofs.Common.{◌≡◌, ◌+◌, ◌≤◌, length}
use Rattle.text.specs.Pieces.{pieces}
use Rattle.assembler.specs.Texts.{words_from, counted}
use Rattle.assembler.proofs.Counting.{plus}
use Rattle.assembler.proofs.assembler.count_words.Given as goal

abbrev pub invariant-loop-line : goal.invariant-loop-line
invariant-loop-line l =
    (plus l.count (counted (words_from (l.count + 1) l.lines)) ≡ counted (words_from 1 (pieces 10 l.text)))
    × (l.count + length l.lines ≤ 65537)

abbrev pub decreases-loop-line : goal.decreases-loop-line
decreases-loop-line l = length l.lines
