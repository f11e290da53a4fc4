use Rattle.std.proofs.Common.{◌∙◌}
use Rattle.assembler.proofs.Reading.{one_more}
use Rattle.assembler.proofs.Slotting.{room_more}
use Rattle.assembler.proofs.line.read_line.Goals as goal

pub loop-k-preserved : goal.loop-k-preserved
loop-k-preserved c =
    let due = c.slots-slots.result.now in
    let read = c.in_ok-value.ensures in (
      one_more c.loop-k.word c.loop-k.k due c.loop-k.fields c.loop-k-test.true read.reads.0 c.read_operand.new.fields c.in_ok-value.value read.reads.1 read.reads.2 ∙ c.loop-k.invariant.0,
      room_more c.loop-k.word c.in_ok-value.value due c.loop-k.k c.loop-k-test.true c.loop-k.invariant.1 read.bound,
    )
