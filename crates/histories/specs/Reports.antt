-- The history that a sitting is.
use Rattle.std.specs.Prelude.{ℕ, ◌+◌, List, [], ◌++◌, take, Ok, Err, Result}
use Rattle.console.specs.Consoles.{Kind}
use Rattle.station.specs.declared.answer.Answer.{Answer}
use Rattle.station.specs.declared.answer.RunRefusal.{RunRefusal}
use Rattle.station.specs.declared.answer.StartRefusal.{StartRefusal}
use Rattle.station.specs.Worlds.{World, console_of, Starts}
use Rattle.station.specs.Histories.{Totals, History, answered}
use Rattle.histories.specs.declared.Report.{Report}

-- what a history comes to after its start, a run, a feed, and a collection
abbrev pub at_start : List ℕ → Totals
at_start waiting = record { executed = 0; fed = waiting; collected = []; endings = [] }

abbrev pub after_run : Result Answer RunRefusal → Totals → Totals
after_run (Ok a) t = record { executed = t.executed + a.count; fed = t.fed; collected = t.collected; endings = answered a.stop t.endings }
after_run (Err refusal) t = t

abbrev pub after_feed : List ℕ → Totals → Totals
after_feed bytes t = record { executed = t.executed; fed = t.fed ++ bytes; collected = t.collected; endings = t.endings }

abbrev pub after_collection : List ℕ → Totals → Totals
after_collection bytes t = record { executed = t.executed; fed = t.fed; collected = t.collected ++ bytes; endings = t.endings }

-- what the calls of a sitting come to, on a script and a paper
abbrev pub comes_to : List ℕ → List ℕ → List ℕ → Report → Totals
comes_to waiting script paper r = after_collection (take r.came paper) (after_run r.second (after_feed (take r.went script) (after_run r.first (at_start waiting))))

-- A sitting that started is the history of its calls; one that was refused left all as it was.
abbrev pub Sat : Kind → World → List ℕ → List ℕ → Result Report StartRefusal → World → Type 0
Sat kind found script paper (Ok report) left = History kind found left (comes_to (console_of found).waiting script paper report)
Sat kind found script paper (Err refusal) left = Starts found (Err refusal) left
