-- A run is part of a history, accepted or refused.
use Rattle.std.proofs.Common.{ℕ, Ok, Err, Result, sym, subst}
use Rattle.console.specs.Consoles.{Kind}
use Rattle.station.specs.declared.answer.Answer.{Answer}
use Rattle.station.specs.declared.answer.RunRefusal.{RunRefusal}
use Rattle.station.specs.declared.answer.RunRefusal.TheVariants.{NotStarted, OtherMemory}
use Rattle.station.specs.Worlds.{World, memory_of, Runs}
use Rattle.station.specs.Histories.{Totals, History, ran, run_refused}
use Rattle.histories.specs.Reports.{after_run}

pub run_recorded : {kind : Kind} {found w : World} {t : Totals} (w' : World) (granted : ℕ) (r : Result Answer RunRefusal) → History kind found w t → Runs kind w granted r w' → History kind found w' (after_run r t)
run_recorded w' granted (Ok a) h runs = ran h runs
run_recorded {kind} {found} {w} {t} w' granted (Err NotStarted) h (why, same) = subst (λ (x : World). History kind found x t) (sym same) (run_refused (memory_of w) granted NotStarted w' h (why, same))
run_recorded {kind} {found} {w} {t} w' granted (Err OtherMemory) h (why, same) = subst (λ (x : World). History kind found x t) (sym same) (run_refused (memory_of w) granted OtherMemory w' h (why, same))
