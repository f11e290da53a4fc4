use Rattle.std.proofs.Common.{length, subst, ap, arith}
use Rattle.assembler.specs.Listing.{operand_text, tail}
use Rattle.assembler.specs.Writes.{Writes, HasRoom}
use Rattle.assembler.proofs.Slotting.{slot_at}
use Rattle.assembler.proofs.Tails.{operand_room, operand_more}
use Rattle.assembler.proofs.Writing.{writes_then}
use Rattle.assembler.proofs.listing.write_operands.Goals as goal

pub piece-requires : goal.piece-requires
piece-requires c =
    let w = c.loop-slot.invariant in
    let room : HasRoom c.args.writer.now (length (tail c.slots-slot-items.result.now c.args.word)) = omega (arith, c.requires, ap (λ ss. length (tail ss c.args.word)) c.slots-slot-items.ensures.value) in
    omega (arith, operand_room c.slots-slot-items.result.now c.loop-slot.slot-index c.args.word c.loop-slot-test.true w.1 w.2 room)

pub loop-slot-preserved : goal.loop-slot-preserved
loop-slot-preserved c =
    let w = c.loop-slot.invariant in
    let due = c.slots-slot-items.result.now in
    let kind = (slot_at due c.loop-slot.slot-index).kind in
    let operand = subst (λ n. Writes c.piece.new.self (operand_text kind n) c.write_operand.new.writer) c.part_of.ensures.value c.write_operand.ensures in
    operand_more due c.loop-slot.slot-index c.args.word c.loop-slot-test.true w.1 w.2 (writes_then c.piece.ensures operand)
