use Rattle.std.proofs.Common.{refl}
use Rattle.std.proofs.lemmas.Result.{err_from_is_err_and}
use Rattle.station.specs.Machines.{printed, no_paper}
use Rattle.station.proofs.Machines.{same_processor, same_machine}
use Rattle.station.proofs.device.print.Goals as goal

pub returns-in_err-put : goal.returns-in_err-put
returns-in_err-put g c =
    let p = err_from_is_err_and c.from_residual.result c.from_residual.ensures.1 in
    rw (p.1, p.2) (λ d. (no_paper refl c.in_err-put.ensures.0, same_machine _ _ _ _ _ _ refl refl c.in_err-put.ensures.1))

pub returns : goal.returns
returns g c = λ d. printed refl c.in_ok-put.ensures (same_processor _ _ _ _ c.advance.ensures refl) refl
