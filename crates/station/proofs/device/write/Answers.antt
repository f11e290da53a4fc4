use Rattle.std.proofs.Common.{refl}
use Rattle.std.proofs.lemmas.Result.{err_from_is_err_and}
use Rattle.station.specs.Machines.{wrote}
use Rattle.station.proofs.Machines.{same_processor, there, of_block, first_bytes, unwritten}
use Rattle.station.proofs.device.write.Goals as goal

pub returns-in_err-write : goal.returns-in_err-write
returns-in_err-write g c =
    let p = err_from_is_err_and c.from_residual.result c.from_residual.ensures.1 in
    rw (p.1, p.2) (λ kind k. unwritten kind _ _ _ _ _ _ _ _ c.in_err-write.ensures)

pub returns : goal.returns
returns g c = λ kind k.
    wrote (there _ _ _ c.in_ok-write.ensures.0) (of_block _ _ _ _ _ (first_bytes c.args.memory.now c.in-Some.block.now c.args.at c.in-Some.ensures.cases.same) c.in_ok-write.ensures.1)
    (same_processor _ _ _ _ c.advance.ensures refl) refl
