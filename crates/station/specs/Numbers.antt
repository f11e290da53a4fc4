-- The names of the stops, and the numbers of the refusals.
use Rattle.std.specs.Prelude.{ℕ, List, codes}
use Rattle.processor.specs.Names.{ending_name, want_name}
use Rattle.station.specs.declared.answer.Stop.{Stop}
use Rattle.station.specs.declared.answer.Stop.TheVariants.{Spent, Wants, Ended}
use Rattle.station.specs.declared.answer.StartRefusal.{StartRefusal}
use Rattle.station.specs.declared.answer.StartRefusal.TheVariants as start
use Rattle.station.specs.declared.answer.RunRefusal.{RunRefusal}
use Rattle.station.specs.declared.answer.RunRefusal.TheVariants as run
use Rattle.station.specs.declared.answer.TallyRefusal.{TallyRefusal}
use Rattle.station.specs.declared.answer.TallyRefusal.TheVariants as tally

abbrev pub stop_name : Stop → List ℕ
stop_name Spent = codes "SPENT"
stop_name (Wants want) = want_name want
stop_name (Ended e) = ending_name e

abbrev pub start_number : StartRefusal → ℕ
start_number start.Length = 1
start_number start.Uncollected = 2
start_number start.NoSector = 3

abbrev pub run_number : RunRefusal → ℕ
run_number run.NotStarted = 4
run_number run.OtherMemory = 5

abbrev pub tally_number : TallyRefusal → ℕ
tally_number tally.NotStarted = 4
tally_number tally.OtherMemory = 5
tally_number tally.NotEnded = 6
tally_number tally.TooLong = 7
tally_number (tally.Form fault) = 8
