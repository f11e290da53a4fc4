use Rattle.std.proofs.Common.{refl}
use Rattle.station.specs.Machines.{went}
use Rattle.station.proofs.device.step.Goals as goal

pub returns-in-Done : goal.returns-in-Done
returns-in-Done g c = let comes = rw c.in-Done.is at c.in_ok-step.ensures.comes in went (comes _) refl refl refl
