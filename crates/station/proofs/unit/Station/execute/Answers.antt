use Rattle.std.proofs.Common.{refl, ◌∙◌, arith}
use Rattle.station.specs.Worlds.{has_ended}
use Rattle.station.proofs.Running.{of_length}
use Rattle.station.proofs.unit.Station.execute.Goals as goal

pub returns-else-memory-length-2 : goal.returns-else-memory-length-2
returns-else-memory-length-2 g c = has_ended (c.in-Ended.is ∙ of_length _ c.in-Ended.ending _ (omega arith)) refl refl refl
