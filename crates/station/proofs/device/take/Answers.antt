use Rattle.std.proofs.Common.{refl}
use Rattle.station.specs.Machines.{took, no_input}
use Rattle.station.proofs.Machines.{same_processor, same_machine}
use Rattle.station.proofs.device.take.Goals as goal

pub returns-in_default : goal.returns-in_default
returns-in_default g c = λ d. (no_input refl c.in_default.ensures.0, same_machine _ _ _ _ _ _ refl refl c.in_default.ensures.1)

pub returns : goal.returns
returns g c = λ d. took refl c.in-Some.ensures (same_processor _ _ _ _ (cc) refl) refl
