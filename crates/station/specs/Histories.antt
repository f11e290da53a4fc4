-- The histories of a station, and what any two of them have in common.
use Rattle.std.specs.Prelude.{◌≡◌, ℕ, zero, ◌+◌, ◌<◌, ◌≤◌, ◌⊎◌, List, [], ◌∷◌, ◌++◌, take, Some, Ok, Err, Result}
use Rattle.processor.specs.declared.ending.Ending.{Ending}
use Rattle.processor.specs.declared.ending.Want.{Want}
use Rattle.console.specs.Consoles.{Kind}
use Rattle.station.specs.declared.answer.Answer.{Answer}
use Rattle.station.specs.declared.answer.Stop.{Stop}
use Rattle.station.specs.declared.answer.Stop.TheVariants as stop
use Rattle.station.specs.declared.answer.StartRefusal.{StartRefusal}
use Rattle.station.specs.declared.answer.RunRefusal.{RunRefusal}
use Rattle.station.specs.declared.answer.TallyRefusal.{TallyRefusal}
use Rattle.station.specs.Machines.{next, Lacks}
use Rattle.station.specs.Worlds.{World, processor_of, memory_of, sectors_of, console_of, ending_of, Starts, Runs, Feeds, Collects, Tallies}

-- What a history comes to: how many steps its runs executed; the bytes that waited at the start and then all that were fed, in order;
-- the bytes that were collected, in order; the endings that its runs answered, the latest first.
pub record Totals : Type 0 where
  pub executed : ℕ
  pub fed : List ℕ
  pub collected : List ℕ
  pub endings : List Ending

abbrev pub answered : Stop → List Ending → List Ending
answered stop.Spent es = es
answered (stop.Wants want) es = es
answered (stop.Ended e) es = e ∷ es

-- the world with another memory
abbrev pub with_memory : List ℕ → World → World
with_memory memory w = record {
  machine = record { processor = record { registers = (processor_of w).registers; memory = memory }; disk = w.machine.disk; console = w.machine.console };
  phase = w.phase;
}

-- An accepted start from the world that it found, and the calls since then, each by the relation of its contract.
-- A call that is refused may name another memory, and leaves all as it was.
pub data History (kind : Kind) (found : World) : World → Totals → Type 0 where
  started : {w : World} → Starts found (Ok tt) w
      → History kind found w (record { executed = zero; fed = (console_of w).waiting; collected = []; endings = [] })
  ran : {w w' : World} {t : Totals} {granted : ℕ} {a : Answer} → History kind found w t → Runs kind w granted (Ok a) w'
      → History kind found w' (record { executed = t.executed + a.count; fed = t.fed; collected = t.collected; endings = answered a.stop t.endings })
  fed_bytes : {w w' : World} {t : Totals} {bytes : List ℕ} {went : ℕ} → History kind found w t → Feeds w bytes went w'
      → History kind found w' (record { executed = t.executed; fed = t.fed ++ take went bytes; collected = t.collected; endings = t.endings })
  collected_bytes : {w w' : World} {t : Totals} {buffer buffer' : List ℕ} {came : ℕ} → History kind found w t → Collects kind w buffer came w' buffer'
      → History kind found w' (record { executed = t.executed; fed = t.fed; collected = t.collected ++ take came buffer'; endings = t.endings })
  tallied : {w : World} {t : Totals} (sheet : List ℕ) (r : Result ℕ TallyRefusal) → History kind found w t → Tallies (processor_of w) w.phase (sectors_of w) sheet r
      → History kind found w t
  start_refused : {w : World} {t : Totals} (memory : List ℕ) (refusal : StartRefusal) (w' : World) → History kind found w t → Starts (with_memory memory w) (Err refusal) w'
      → History kind found w t
  run_refused : {w : World} {t : Totals} (memory : List ℕ) (granted : ℕ) (refusal : RunRefusal) (w' : World) → History kind found w t → Runs kind (with_memory memory w) granted (Err refusal) w'
      → History kind found w t
  tally_refused : {w : World} {t : Totals} (memory sheet : List ℕ) (refusal : TallyRefusal) → History kind found w t
      → Tallies (processor_of (with_memory memory w)) w.phase (sectors_of w) sheet (Err refusal) → History kind found w t

-- all that was printed in a history: what was collected, then what is not collected yet
abbrev pub text : Totals → World → List ℕ
text t w = t.collected ++ (console_of w).printed

-- xs is how ys begins
abbrev pub Begins : List ℕ → List ℕ → Type 0
Begins xs ys = (rest : List ℕ) × (ys ≡ xs ++ rest)

infix 4 ◌∈◌
pub data ◌∈◌ (e : Ending) : List Ending → Type 0 where
  latest : {es : List Ending} → e ∈ (e ∷ es)
  earlier : {d : Ending} {es : List Ending} → e ∈ es → e ∈ (d ∷ es)

-- registers, memory and sectors are the same
pub record SameMachine (w₁ w₂ : World) : Type 0 where
  pub registers_same : (processor_of w₁).registers ≡ (processor_of w₂).registers
  pub memory_same : memory_of w₁ ≡ memory_of w₂
  pub sectors_same : sectors_of w₁ ≡ sectors_of w₂

-- What one history tells of another: where it executed no more, it printed a beginning; once it has ended, the other never executes more.
pub record Follows (t₁ : Totals) (w₁ : World) (t₂ : Totals) (w₂ : World) : Type 0 where
  pub printed_first : t₁.executed ≤ t₂.executed → Begins (text t₁ w₁) (text t₂ w₂)
  pub none_past_end : (e : Ending) → e ∈ t₁.endings → t₂.executed ≤ t₁.executed

-- Two histories that have ended: equal endings, and for every sheet the same answer, points or refusal.
pub record BothEnded (w₁ w₂ : World) (e₁ e₂ : Ending) : Type 0 where
  pub ending_same : e₁ ≡ e₂
  pub tally_same : (sheet : List ℕ) (r₁ r₂ : Result ℕ TallyRefusal)
      → Tallies (processor_of w₁) w₁.phase (sectors_of w₁) sheet r₁ → Tallies (processor_of w₂) w₂.phase (sectors_of w₂) sheet r₂ → r₁ ≡ r₂

pub record Agree (t₁ : Totals) (w₁ : World) (t₂ : Totals) (w₂ : World) : Type 0 where
  pub first_follows : Follows t₁ w₁ t₂ w₂
  pub second_follows : Follows t₂ w₂ t₁ w₁
  pub at_equal_steps : t₁.executed ≡ t₂.executed → (text t₁ w₁ ≡ text t₂ w₂) × SameMachine w₁ w₂
  pub when_ended : (e₁ e₂ : Ending) → e₁ ∈ t₁.endings → e₂ ∈ t₂.endings → BothEnded w₁ w₂ e₁ e₂

-- Any two histories, on whatever disks and consoles, whose starts found equal memory and sectors, and of which one was fed a beginning of what the other was fed.
abbrev pub AnyTwoAgree : Type 0
AnyTwoAgree = (kind₁ kind₂ : Kind) (found₁ found₂ w₁ w₂ : World) (t₁ t₂ : Totals)
    → History kind₁ found₁ w₁ t₁ → History kind₂ found₂ w₂ t₂
    → memory_of found₁ ≡ memory_of found₂ → sectors_of found₁ ≡ sectors_of found₂ → Begins t₁.fed t₂.fed
    → Agree t₁ w₁ t₂ w₂

-- why a run that left this world executed less than it was granted: the station has ended, or its next instruction wants what is not there
abbrev pub CutShort : Answer → World → Type 0
CutShort a w =
    ((e : Ending) × (a.stop ≡ stop.Ended e) × (ending_of w.phase ≡ Some e))
    ⊎ ((want : Want) × (a.stop ≡ stop.Wants want) × Lacks (next w.machine) w.machine want)

-- No accepted run of a history stops early without a reason.
abbrev pub StopsForAReason : Type 0
StopsForAReason = (kind : Kind) (found w w' : World) (t : Totals) (granted : ℕ) (a : Answer)
    → History kind found w t → Runs kind w granted (Ok a) w' → a.count < granted → CutShort a w'

-- The law of histories.
pub record HistoriesAgree : Type 0 where
  pub any_two : AnyTwoAgree
  pub no_early_stop : StopsForAReason
