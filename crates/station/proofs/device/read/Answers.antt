use Rattle.std.proofs.Common.{rules, refl, ◌∙◌}
use Rattle.std.proofs.lemmas.Result.{err_from_is_err_and}
use Rattle.station.specs.Machines.{went}
use Rattle.station.proofs.Machines.{same_processor, same_machine, there, not_there, lent, lent_new, lent_back}
use Rattle.station.proofs.device.read.Goals as goal

pub returns-in_err-read : goal.returns-in_err-read
returns-in_err-read g c =
    let p = err_from_is_err_and c.from_residual.result c.from_residual.ensures.1 in
    let h = c.in_err-read.ensures in
    let cut = c.split_at_mut-rest.ensures in
    let memory = c.args.memory.now in
    let back = lent memory _ _ c.read.new.block c.args.at cut.front cut.back ∙ lent_back memory c.read.new.block c.args.at 512 (h.1 ∙ search rules) in
    rw (p.1, p.2) (λ kind k. (not_there _ _ _ h.0, same_machine _ _ _ _ _ _ (same_processor _ _ _ _ refl back) refl refl))

pub returns : goal.returns
returns g c = λ kind k.
    let cut = c.split_at_mut-rest.ensures in
    let memory = c.args.memory.now in
    let put = lent_new memory _ _ c.read.new.block _ c.args.at cut.front cut.back c.in_ok-read.ensures.1 in
    went (there _ _ _ c.in_ok-read.ensures.0) (same_processor _ _ _ _ c.advance.ensures put) refl refl
