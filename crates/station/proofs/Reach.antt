-- What a history reaches is what the machine alone reaches over the bytes that were fed.
use Rattle.std.proofs.Common.{◌≡◌, ℕ, zero, suc, ◌+◌, List, [], ◌∷◌, ◌++◌, length, get_or, take, drop, replicate, Some, None, Option, sym, refl, ap, ◌∙◌, subst, append_assoc, append-nil, add-zero, add-suc, arith}
use Rattle.processor.specs.declared.ending.Ending.{Ending}
use Rattle.processor.specs.declared.ending.Ending.TheVariants.{Halt}
use Rattle.processor.specs.Machine.{Processor, ends}
use Rattle.processor.specs.Effects.{action}
use Rattle.console.specs.Consoles.{Kind, Console}
use Rattle.console.specs.Queues.{AllOffered, none_offered, one_offered, AllPulled, none_pulled, one_pulled}
use Rattle.station.specs.declared.answer.Stop.{Stop}
use Rattle.station.specs.declared.answer.Stop.TheVariants as stop
use Rattle.station.specs.declared.unit.Phase.{Phase}
use Rattle.station.specs.declared.unit.Phase.TheVariants.{Running}
use Rattle.station.specs.Machines.{Machine, next as asks, Step, went, took, printed, wrote, Halts, Steps, no_step, one_step, Goes, all_spent, in_want, at_end, at_halt}
use Rattle.station.specs.Worlds.{World, processor_of, memory_of, sectors_of, console_of, started_with, ending_of, phase_after, Begun, goes_on, has_ended, Aside}
use Rattle.station.specs.Histories.{◌∈◌, latest, earlier, Totals, answered, History, started, ran, fed_bytes, collected_bytes, tallied, start_refused, run_refused, tally_refused, text}
use Rattle.station.proofs.Trace.{State, at, After, begun, then, after_more}

-- two different answers to one question
pub clash : {B : Type 0} {e : Ending} {o : Option Ending} → o ≡ None → o ≡ Some e → B
clash p q = let z : ◌≡◌ {A = ℕ} 0 1 = cc in absurd (omega arith)

-- the machine alone is over: it halted, or its next instruction cannot be done
pub data Over (stopped : Option Ending) (p : Processor) (ss : List (List ℕ)) (e : Ending) : Type 0 where
  by_halt : stopped ≡ Some e → Over stopped p ss e
  by_end : stopped ≡ None → action p ss ≡ ends e → Over stopped p ss e

pub data Fits (stopped : Option Ending) (p : Processor) (ss : List (List ℕ)) (ended : Option Ending) : Type 0 where
  running : stopped ≡ None → ended ≡ None → Fits stopped p ss ended
  over : {e : Ending} → ended ≡ Some e → Over stopped p ss e → Fits stopped p ss ended

-- the machine alone reaches this machine after so many steps, with this printed and this ending
pub record Reached (s : State) (n : ℕ) (m : Machine) (ended : Option Ending) (out : List ℕ) : Type 0 where
  pub stopped : Option Ending
  pub reaches : After s n (at m.processor m.disk.sectors m.console.waiting out stopped)
  pub fits : Fits stopped m.processor m.disk.sectors ended

not_stopped : {h : Option Ending} {p : Processor} {ss : List (List ℕ)} {o : Option Ending} → Fits h p ss o → o ≡ None → h ≡ None
not_stopped (running p q) r = p
not_stopped (over p q) r = clash r p

-- it is reached, and goes on
abbrev Going : State → ℕ → Machine → List ℕ → Type 0
Going s n m out = After s n (at m.processor m.disk.sectors m.console.waiting out None)

module _ (kind : Kind) {s : State} (before : List ℕ) where
  step_going : {n : ℕ} {m m' : Machine} → Going s n m (before ++ m.console.printed) → Step kind (asks m) m m' → Going s (suc n) m' (before ++ m'.console.printed)
  step_going r (went does p_is disk_is console_is) = then r (rw does (rw (← p_is, disk_is, console_is) refl))
  step_going r (took does taken p_is disk_is) = then r (rw (does, taken.first_waited) (rw (← p_is, disk_is, taken.printed_same) refl))
  step_going r (printed does put p_is disk_is) = then r (rw does (rw (← p_is, disk_is, put.printed_last, put.waiting_same, append_assoc) refl))
  step_going r (wrote does written p_is console_is) = then r (rw does (rw (← p_is, written.holds, console_is) refl))

  steps_going : {n : ℕ} {m : Machine} {k : ℕ} {m' : Machine} → Going s n m (before ++ m.console.printed) → Steps kind m k m' → Going s (n + k) m' (before ++ m'.console.printed)
  steps_going r no_step = rw add-zero r
  steps_going r (one_step steps step) = rw add-suc (step_going (steps_going r steps) step)

  halt_reached : {n : ℕ} {m m' : Machine} → Going s n m (before ++ m.console.printed) → Halts (asks m) m m' → Reached s (suc n) m' (Some Halt) (before ++ m'.console.printed)
  halt_reached r h = record {
    stopped = Some Halt;
    reaches = then r (rw h.asks (rw (h.disk_same, h.console_same) refl));
    fits = over refl (by_halt refl);
  }

  goes_reached : {n granted : ℕ} {m : Machine} {k : ℕ} {why : Stop} {m' : Machine} (size : ℕ) → Going s n m (before ++ m.console.printed) → Goes kind m granted k why m' → Reached s (n + k) m' (ending_of (phase_after size why)) (before ++ m'.console.printed)
  goes_reached size r (all_spent steps) = record { stopped = None; reaches = steps_going r steps; fits = running refl refl }
  goes_reached size r (in_want lt steps lacks) = record { stopped = None; reaches = steps_going r steps; fits = running refl refl }
  goes_reached size r (at_end lt steps does) = record { stopped = None; reaches = steps_going r steps; fits = over refl (by_end refl does) }
  goes_reached size r (at_halt lt steps halt) = rw add-suc (halt_reached (steps_going r steps) halt)

-- what a feed and a collection do to a console
offered_waiting : {c c' : Console} {bytes : List ℕ} → AllOffered c bytes c' → c'.waiting ≡ c.waiting ++ bytes
offered_waiting {c} none_offered = sym (append-nil c.waiting)
offered_waiting {c} (one_offered {bs = bs} {b = b} all one) =
    one.waits_last ∙ ap (λ (l : List ℕ). l ++ (b ∷ [])) (offered_waiting all) ∙ append_assoc c.waiting bs (b ∷ [])

offered_printed : {c c' : Console} {bytes : List ℕ} → AllOffered c bytes c' → c'.printed ≡ c.printed
offered_printed none_offered = refl
offered_printed (one_offered all one) = one.printed_same ∙ offered_printed all

pulled_printed : {kind : Kind} {c c' : Console} {bytes : List ℕ} → AllPulled kind c bytes c' → c.printed ≡ bytes ++ c'.printed
pulled_printed none_pulled = refl
pulled_printed {c' = c'} (one_pulled {bs = bs} {b = b} all one) =
    pulled_printed all ∙ ap (λ (l : List ℕ). bs ++ l) one.first_printed ∙ sym (append_assoc bs (b ∷ []) c'.printed)

pulled_waiting : {kind : Kind} {c c' : Console} {bytes : List ℕ} → AllPulled kind c bytes c' → c'.waiting ≡ c.waiting
pulled_waiting none_pulled = refl
pulled_waiting (one_pulled all one) = one.waiting_same ∙ pulled_waiting all

-- where the machine alone begins
abbrev pub begin : List ℕ → List (List ℕ) → List ℕ → State
begin memory ss fed = at (record { registers = replicate 64 0; memory = get_or ss 0 [] ++ drop 512 memory }) ss fed [] None

begins : (found w : World) → Begun found w → begin (memory_of found) (sectors_of found) (console_of w).waiting ≡ at (processor_of w) (sectors_of w) (console_of w).waiting (console_of w).printed None
begins found w b = λ i.
    at (record { registers = sym b.registers_zero i; memory = sym b.loaded i }) (sym b.disk_same i).sectors
    (console_of w).waiting (sym (ap (λ (k : Console). k.printed) b.console_same ∙ b.all_collected) i) None

-- what a history has reached
abbrev pub Stands : State → Totals → World → Type 0
Stands s t w = Reached s t.executed w.machine (ending_of w.phase) (text t w)

-- what is reached stays so where only the console changes
carry : {s : State} {n : ℕ} (w w' : World) (i out out' : List ℕ) (h : Option Ending) → After s n (at (processor_of w) (sectors_of w) i out h)
    → Fits h (processor_of w) (sectors_of w) (ending_of w.phase) → Aside w w' → (console_of w').waiting ≡ i → out' ≡ out → Reached s n w'.machine (ending_of w'.phase) out'
carry w w' i out out' h after fits aside waits outs =
    record {
      stopped = h;
      reaches = rw (aside.processor_same, aside.disk_same, waits, outs) after;
      fits = rw (aside.processor_same, aside.disk_same, aside.phase_same) fits;
    }

run_reached : {kind : Kind} {s : State} {w w' : World} {granted count : ℕ} {why : Stop} (t : Totals) → Stands s t w → w.phase ≡ Running (length (memory_of w))
    → Goes kind w.machine granted count why w'.machine → w'.phase ≡ phase_after (length (memory_of w)) why
    → Reached s (t.executed + count) w'.machine (ending_of w'.phase) (t.collected ++ (console_of w').printed)
run_reached {kind} {s} {w} {w'} {count = count} {why = why} t r is executes after =
    let none : r.stopped ≡ None = not_stopped r.fits (ap ending_of is) in
    let going : Going s t.executed w.machine (text t w) = subst (λ (h : Option Ending). After s t.executed (at (processor_of w) (sectors_of w) (console_of w).waiting (text t w) h)) none r.reaches in
    subst (λ (x : Phase). Reached s (t.executed + count) w'.machine (ending_of x) (t.collected ++ (console_of w').printed)) (sym after)
    (goes_reached kind t.collected (length (memory_of w)) going executes)

none_more : {s : State} {w w' : World} {count : ℕ} (t : Totals) → Stands s t w → count ≡ zero → w' ≡ w → Reached s (t.executed + count) w'.machine (ending_of w'.phase) (t.collected ++ (console_of w').printed)
none_more {s} {w} {w'} {count} t r none same =
    let total : t.executed ≡ t.executed + count = sym (ap (λ (n : ℕ). t.executed + n) none ∙ add-zero t.executed) in
    subst (λ (n : ℕ). Reached s n w'.machine (ending_of w'.phase) (t.collected ++ (console_of w').printed)) total
    (subst (λ (x : World). Reached s t.executed x.machine (ending_of x.phase) (t.collected ++ (console_of x).printed)) (sym same) r)

module _ {kind : Kind} {found : World} where
  pub reached : {w : World} {t : Totals} → History kind found w t → Stands (begin (memory_of found) (sectors_of found) t.fed) t w
  reached (started {w = w} b) =
      record {
        stopped = None;
        reaches = subst (λ (q : State). After (begin (memory_of found) (sectors_of found) (console_of w).waiting) zero q) (begins found w b) begun;
        fits = running refl (ap ending_of b.now_running);
      }
  reached (ran {w = w} {w' = w'} {t = t} h (goes_on is executes after)) = run_reached {w = w} {w' = w'} t (reached h) is executes after
  reached (ran {w = w} {w' = w'} {t = t} h (has_ended is none stops same)) = none_more {w = w} {w' = w'} t (reached h) none same
  reached (fed_bytes {w = w} {w' = w'} {t = t} {bytes = bytes} {went = n} h f) =
      let r = reached h in
      carry w w' ((console_of w).waiting ++ take n bytes) (text t w) (text t w') r.stopped (after_more (take n bytes) r.reaches) r.fits f.aside
      (offered_waiting f.offered.offers) (ap (λ (l : List ℕ). t.collected ++ l) (offered_printed f.offered.offers))
  reached (collected_bytes {w = w} {w' = w'} {t = t} {buffer' = buffer'} {came = n} h c) =
      let r = reached h in
      carry w w' (console_of w).waiting (text t w) ((t.collected ++ take n buffer') ++ (console_of w').printed) r.stopped r.reaches r.fits c.aside
      (pulled_waiting c.pulled.pulls)
      (append_assoc t.collected (take n buffer') (console_of w').printed ∙ ap (λ (l : List ℕ). t.collected ++ l) (sym (pulled_printed c.pulled.pulls)))
  reached (tallied sheet r h answer) = reached h
  reached (start_refused memory refusal w' h answer) = reached h
  reached (run_refused memory granted refusal w' h answer) = reached h
  reached (tally_refused memory sheet refusal h answer) = reached h

-- the endings that were answered are the station's
among_first : {e : Ending} {o : Option Ending} {es : List Ending} (d : Ending) → o ≡ Some d → (e ∈ es → o ≡ Some e) → e ∈ (d ∷ es) → o ≡ Some e
among_first d is before latest = is
among_first d is before (earlier among) = before among

ended_by : {e : Ending} {es : List Ending} (n : ℕ) (why : Stop) → (e ∈ es → ending_of (phase_after n why) ≡ Some e) → e ∈ answered why es → ending_of (phase_after n why) ≡ Some e
ended_by n stop.Spent before among = before among
ended_by n (stop.Wants want) before among = before among
ended_by n (stop.Ended d) before among = among_first d refl before among

answers_it : {e : Ending} {o : Option Ending} (d : Ending) (why : Stop) (es : List Ending) → why ≡ stop.Ended d → o ≡ Some d → (e ∈ es → o ≡ Some e) → e ∈ answered why es → o ≡ Some e
answers_it {e} d why es stops is before among = among_first d is before (subst (λ (x : Stop). e ∈ answered x es) stops among)

pub stays_ended : {kind : Kind} {found w : World} {t : Totals} (e : Ending) → History kind found w t → e ∈ t.endings → ending_of w.phase ≡ Some e
stays_ended e (started b) among = elim among [ ]
stays_ended e (ran {w = w} {a = a} h (goes_on is executes after)) among =
    ap ending_of after ∙ ended_by (length (memory_of w)) a.stop (λ before. clash (ap ending_of is) (stays_ended e h before)) among
stays_ended e (ran {t = t} {a = a} h (has_ended {e = d} is none stops same)) among =
    ap (λ (x : World). ending_of x.phase) same ∙ answers_it d a.stop t.endings stops (ap ending_of is) (λ before. stays_ended e h before) among
stays_ended e (fed_bytes h f) among = ap ending_of f.aside.phase_same ∙ stays_ended e h among
stays_ended e (collected_bytes h c) among = ap ending_of c.aside.phase_same ∙ stays_ended e h among
stays_ended e (tallied sheet r h answer) among = stays_ended e h among
stays_ended e (start_refused memory refusal w' h answer) among = stays_ended e h among
stays_ended e (run_refused memory granted refusal w' h answer) among = stays_ended e h among
stays_ended e (tally_refused memory sheet refusal h answer) among = stays_ended e h among

-- the length of the memory that a station was started with stays
phase_size : (n : ℕ) (why : Stop) → started_with (phase_after n why) ≡ Some n
phase_size n stop.Spent = refl
phase_size n (stop.Wants want) = refl
phase_size n (stop.Ended e) = refl

pub stays_sized : {kind : Kind} {found w : World} {t : Totals} → History kind found w t → started_with w.phase ≡ Some (length (memory_of found))
stays_sized (started b) = ap started_with b.now_running
stays_sized (ran {w = w} {a = a} h (goes_on is executes after)) = ap started_with after ∙ phase_size (length (memory_of w)) a.stop ∙ sym (ap started_with is) ∙ stays_sized h
stays_sized (ran h (has_ended is none stops same)) = ap (λ (x : World). started_with x.phase) same ∙ stays_sized h
stays_sized (fed_bytes h f) = ap started_with f.aside.phase_same ∙ stays_sized h
stays_sized (collected_bytes h c) = ap started_with c.aside.phase_same ∙ stays_sized h
stays_sized (tallied sheet r h answer) = stays_sized h
stays_sized (start_refused memory refusal w' h answer) = stays_sized h
stays_sized (run_refused memory granted refusal w' h answer) = stays_sized h
stays_sized (tally_refused memory sheet refusal h answer) = stays_sized h
