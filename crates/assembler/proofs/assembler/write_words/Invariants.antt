use Rattle.std.proofs.Common.{length}
use Rattle.text.specs.Pieces.{pieces}
use Rattle.assembler.specs.Texts.{words_from, words_of, bytes}
use Rattle.assembler.proofs.Counting.{Written}
use Rattle.assembler.proofs.assembler.write_words.Given as goal

abbrev pub invariant-loop-line : goal.invariant-loop-line
invariant-loop-line l = Written l.initial.writer (bytes (words_of (words_from 1 (pieces 10 l.text)))) l.writer l.lines

abbrev pub decreases-loop-line : goal.decreases-loop-line
decreases-loop-line l = length l.lines
