use Rattle.station.proofs.Agreement.{run_short}
use Rattle.station.proofs.unit.Station.run.Goals as goal

pub returns : goal.returns
returns g c = record { runs = c.execute.ensures; short = run_short _ _ _ _ c.execute.result c.execute.ensures }
