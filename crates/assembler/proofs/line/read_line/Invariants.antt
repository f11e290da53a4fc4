use Rattle.std.proofs.Common.{◌≡◌, ◌+◌, ◌^◌, ◌<◌, drop}
use Rattle.assembler.specs.Lines.{operands, line_word}
use Rattle.assembler.proofs.Slotting.{room}
use Rattle.assembler.proofs.line.read_line.Given as goal

abbrev pub invariant-loop-k : goal.invariant-loop-k
invariant-loop-k l = (operands (l.k + 2) l.word (drop l.k l.slots) l.fields ≡ line_word l.line) × (l.word + room (drop l.k l.slots) < 2 ^ 32)
