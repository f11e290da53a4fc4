use Rattle.std.proofs.Common.{length, ap, arith}
use Rattle.assembler.proofs.Writing.{writes_then, spelled_digit, spelled_step, length_step}
use Rattle.assembler.proofs.writer.Writer.+number.Goals as goal

pub piece-requires : goal.piece-requires
piece-requires t c = omega (arith, c.requires, ap length (spelled_digit c.args.n c.if-n-lt10.true))

pub returns-then-n-lt10 : goal.returns-then-n-lt10
returns-then-n-lt10 t c = rw (spelled_digit c.args.n c.if-n-lt10.true) c.piece.ensures

pub number-requires : goal.number-requires
number-requires t c = (omega arith, omega (arith, c.requires, length_step c.args.n c.if-n-lt10.false (omega arith)))

pub piece-requires-2 : goal.piece-requires-2
piece-requires-2 t c =
    let written = c.number.ensures.written in
    omega (arith, c.requires, written.size, written.till, length_step c.args.n c.if-n-lt10.false (omega arith))

pub returns : goal.returns
returns t c = rw (spelled_step c.args.n c.if-n-lt10.false (omega arith)) (writes_then c.number.ensures c.piece-2.ensures)
