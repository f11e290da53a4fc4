use Rattle.std.proofs.Common.{arith}
use Rattle.std.proofs.lemmas.Result.{err_from_is_err_and}
use Rattle.text.proofs.Joins.{some_pieces}
use Rattle.sheet.specs.Lines.{marks}
use Rattle.sheet.proofs.Readback.{read_tells}
use Rattle.sheet.proofs.remains.Remains.read.Goals as goal

pub returns : goal.returns
returns g c = let s = c.in_ok-earn.ensures in (omega arith, (s.0, read_tells 1 _ s.0 (some_pieces 10 c.args.sheet.now) s.1, s.2))

pub returns-in_err-earn : goal.returns-in_err-earn
unfolding marks
returns-in_err-earn g c =
    let p = err_from_is_err_and c.from_residual.result c.from_residual.ensures.1 in
    rw (p.1, p.2) (omega arith, c.in_err-earn.ensures)
