use Rattle.station.proofs.Agreement.{histories_agree}
use Rattle.station.proofs.unit.Station.tally.Goals as goal

pub returns : goal.returns
returns g c = record { tallies = c.mark.ensures; histories = histories_agree }
