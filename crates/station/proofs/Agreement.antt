-- Any two histories agree.
use Rattle.std.proofs.Common.{◌≡◌, ℕ, ◌<◌, ◌⊎◌, List, ◌++◌, length, IfOk, Some, None, Ok, Err, Option, Result, sym, refl, ap, ◌∙◌, subst, inl, inr, arith}
use Rattle.processor.specs.declared.ending.Ending.{Ending}
use Rattle.processor.specs.declared.ending.Want.{Want}
use Rattle.processor.specs.Machine.{Processor}
use Rattle.processor.specs.Effects.{action}
use Rattle.console.specs.Consoles.{Kind}
use Rattle.station.specs.declared.answer.Answer.{Answer}
use Rattle.station.specs.declared.answer.Stop.{Stop}
use Rattle.station.specs.declared.answer.Stop.TheVariants as stop
use Rattle.station.specs.declared.answer.RunRefusal.{RunRefusal}
use Rattle.station.specs.declared.answer.TallyRefusal.{TallyRefusal}
use Rattle.station.specs.declared.unit.Phase.{Phase}
use Rattle.station.specs.declared.unit.Phase.TheVariants.{Ended}
use Rattle.station.specs.Machines.{Machine, next as asks, Lacks, Goes, all_spent, in_want, at_end, at_halt}
use Rattle.station.specs.Worlds.{World, processor_of, memory_of, sectors_of, console_of, ending_of, phase_after, Ran, goes_on, has_ended, Runs, Tallies}
use Rattle.station.specs.Histories.{◌∈◌, Totals, text, SameMachine, Follows, BothEnded, AnyTwoAgree, CutShort, StopsForAReason, HistoriesAgree}
use Rattle.station.proofs.Trace.{State, at, turn, After, after_more, same, prefix, last}
use Rattle.station.proofs.Reach.{clash, Over, by_halt, by_end, Fits, running, over, Reached, begin, reached, stays_ended, stays_sized}
use Rattle.station.proofs.Tallying.{one_answer, phase_known}

over_stuck : {h : Option Ending} {p : Processor} {ss : List (List ℕ)} {e : Ending} (i o : List ℕ) → Over h p ss e → turn h (action p ss) ss i o ≡ None
over_stuck i o (by_halt is) = rw is
over_stuck i o (by_end is does) = rw (is, does)

over_same : {h : Option Ending} {p : Processor} {ss : List (List ℕ)} {d e : Ending} → Over h p ss d → Over h p ss e → d ≡ e
over_same (by_halt p) (by_halt q) = cc
over_same (by_halt p) (by_end q r) = clash q p
over_same (by_end p q) (by_halt r) = clash p r
over_same (by_end p q) (by_end r s) = cc

fits_over : {h : Option Ending} {p : Processor} {ss : List (List ℕ)} {o : Option Ending} {e : Ending} → Fits h p ss o → o ≡ Some e → Over h p ss e
fits_over (running p q) is = clash q is
fits_over {h} {p} {ss} {e = e} (over {e = d} has way) is = let same_ending : d ≡ e = cc in subst (Over h p ss) same_ending way

-- tallies of worlds with equal parts
equal_worlds : (p₁ p₂ : Processor) (ph₁ ph₂ : Phase) (ss₁ ss₂ : List (List ℕ)) → p₁ ≡ p₂ → ph₁ ≡ ph₂ → ss₁ ≡ ss₂
    → (sheet : List ℕ) (r₁ r₂ : Result ℕ TallyRefusal) → Tallies p₁ ph₁ ss₁ sheet r₁ → Tallies p₂ ph₂ ss₂ sheet r₂ → r₁ ≡ r₂
equal_worlds p₁ p₂ ph₁ ph₂ ss₁ ss₂ p ph ss sheet r₁ r₂ t₁ t₂ =
    one_answer p₂ ph₂ ss₂ sheet r₁ r₂
    (subst (λ (x : Processor). Tallies x ph₂ ss₂ sheet r₁) p
    (subst (λ (x : Phase). Tallies p₁ x ss₂ sheet r₁) ph
    (subst (λ (x : List (List ℕ)). Tallies p₁ ph₁ x sheet r₁) ss t₁))) t₂

-- what two histories reach over the same input
module _ {s : State} (t₁ : Totals) (w₁ : World) (t₂ : Totals) (w₂ : World) (i₁ i₂ : List ℕ) (h₁ h₂ : Option Ending)
    (a₁ : After s t₁.executed (at (processor_of w₁) (sectors_of w₁) i₁ (text t₁ w₁) h₁)) (a₂ : After s t₂.executed (at (processor_of w₂) (sectors_of w₂) i₂ (text t₂ w₂) h₂))
    (ended₁ : (e : Ending) → e ∈ t₁.endings → Over h₁ (processor_of w₁) (sectors_of w₁) e)
  where
    follows : Follows t₁ w₁ t₂ w₂
    follows = record {
      printed_first = λ le. prefix a₁ a₂ le;
      none_past_end = λ e among. last (over_stuck i₁ (text t₁ w₁) (ended₁ e among)) a₁ a₂;
    }

    meet : t₁.executed ≡ t₂.executed → at (processor_of w₁) (sectors_of w₁) i₁ (text t₁ w₁) h₁ ≡ at (processor_of w₂) (sectors_of w₂) i₂ (text t₂ w₂) h₂
    meet is = same (rw is at a₁) a₂

    equal : t₁.executed ≡ t₂.executed → (text t₁ w₁ ≡ text t₂ w₂) × SameMachine w₁ w₂
    equal is =
        let m = meet is in (
          ap (λ (p : State). p.output) m,
          record {
            registers_same = ap (λ (p : State). p.processor.registers) m;
            memory_same = ap (λ (p : State). p.processor.memory) m;
            sectors_same = ap (λ (p : State). p.sectors) m;
          },
        )

    same_ending : (e₁ e₂ : Ending) → e₁ ∈ t₁.endings → Over h₂ (processor_of w₂) (sectors_of w₂) e₂ → t₁.executed ≡ t₂.executed → e₁ ≡ e₂
    same_ending e₁ e₂ among₁ over₂ is =
        over_same (subst (λ (p : State). Over p.halted p.processor p.sectors e₁) (meet is) (ended₁ e₁ among₁)) over₂

    both : (size : ℕ) (e₁ e₂ : Ending) → w₁.phase ≡ Ended size e₁ → w₂.phase ≡ Ended size e₂ → e₁ ≡ e₂ → t₁.executed ≡ t₂.executed → BothEnded w₁ w₂ e₁ e₂
    both size e₁ e₂ is₁ is₂ ending is =
        let m = meet is in
        record {
          ending_same = ending;
          tally_same =
              equal_worlds (processor_of w₁) (processor_of w₂) w₁.phase w₂.phase (sectors_of w₁) (sectors_of w₂)
              (ap (λ (p : State). p.processor) m) (is₁ ∙ ap (Ended size) ending ∙ sym is₂) (ap (λ (p : State). p.sectors) m);
        }

any_two : AnyTwoAgree
any_two kind₁ kind₂ found₁ found₂ w₁ w₂ t₁ t₂ log₁ log₂ memory sectors (rest, fed) =
    record {
      first_follows = f₁;
      second_follows = f₂;
      at_equal_steps = equal t₁ w₁ t₂ w₂ i₁ i₂ h₁ h₂ a₁ a₂ ended₁;
      when_ended = λ e₁ e₂ among₁ among₂.
          let x = f₁.none_past_end e₁ among₁ in
          let y = f₂.none_past_end e₂ among₂ in
          let is : t₁.executed ≡ t₂.executed = omega arith in
          both t₁ w₁ t₂ w₂ i₁ i₂ h₁ h₂ a₁ a₂ ended₁ (length (memory_of found₂)) e₁ e₂
          (phase_known w₁.phase (length (memory_of found₂)) e₁ (stays_sized log₁ ∙ ap (λ (l : List ℕ). Some (length l)) memory) (stays_ended e₁ log₁ among₁))
          (phase_known w₂.phase (length (memory_of found₂)) e₂ (stays_sized log₂) (stays_ended e₂ log₂ among₂))
          (same_ending t₁ w₁ t₂ w₂ i₁ i₂ h₁ h₂ a₁ a₂ ended₁ e₁ e₂ among₁ (ended₂ e₂ among₂) is) is;
    }
  where
    start₂ : State
    start₂ = begin (memory_of found₂) (sectors_of found₂) t₂.fed

    r₁ : Reached (begin (memory_of found₁) (sectors_of found₁) t₁.fed) t₁.executed w₁.machine (ending_of w₁.phase) (text t₁ w₁)
    r₁ = reached log₁

    r₂ : Reached start₂ t₂.executed w₂.machine (ending_of w₂.phase) (text t₂ w₂)
    r₂ = reached log₂

    i₁ : List ℕ
    i₁ = (console_of w₁).waiting ++ rest

    i₂ : List ℕ
    i₂ = (console_of w₂).waiting

    h₁ : Option Ending
    h₁ = r₁.stopped

    h₂ : Option Ending
    h₂ = r₂.stopped

    begins : begin (memory_of found₁) (sectors_of found₁) (t₁.fed ++ rest) ≡ start₂
    begins = λ i. begin (memory i) (sectors i) (sym fed i)

    a₁ : After start₂ t₁.executed (at (processor_of w₁) (sectors_of w₁) i₁ (text t₁ w₁) h₁)
    a₁ = subst (λ (s : State). After s t₁.executed (at (processor_of w₁) (sectors_of w₁) i₁ (text t₁ w₁) h₁)) begins (after_more rest r₁.reaches)

    a₂ : After start₂ t₂.executed (at (processor_of w₂) (sectors_of w₂) i₂ (text t₂ w₂) h₂)
    a₂ = r₂.reaches

    ended₁ : (e : Ending) → e ∈ t₁.endings → Over h₁ (processor_of w₁) (sectors_of w₁) e
    ended₁ e among = fits_over r₁.fits (stays_ended e log₁ among)

    ended₂ : (e : Ending) → e ∈ t₂.endings → Over h₂ (processor_of w₂) (sectors_of w₂) e
    ended₂ e among = fits_over r₂.fits (stays_ended e log₂ among)

    f₁ : Follows t₁ w₁ t₂ w₂
    f₁ = follows t₁ w₁ t₂ w₂ i₁ i₂ h₁ h₂ a₁ a₂ ended₁

    f₂ : Follows t₂ w₂ t₁ w₁
    f₂ = follows t₂ w₂ t₁ w₁ i₂ i₁ h₂ h₁ a₂ a₁ ended₂

-- a run that executed less than it was granted
goes_short : {kind : Kind} {m : Machine} {granted count : ℕ} {why : Stop} {m' : Machine} (size : ℕ) (ph : Phase) → Goes kind m granted count why m' → ph ≡ phase_after size why → count < granted
    → ((e : Ending) × (why ≡ stop.Ended e) × (ending_of ph ≡ Some e)) ⊎ ((want : Want) × (why ≡ stop.Wants want) × Lacks (asks m') m' want)
goes_short size ph (all_spent steps) after short = absurd (omega arith)
goes_short size ph (in_want {want = want} lt steps lacks) after short = inr (want, refl, lacks)
goes_short size ph (at_end {e = e} lt steps does) after short = inl (e, refl, ap ending_of after)
goes_short size ph (at_halt lt steps halt) after short = inl (_, refl, ap ending_of after)

pub cut_short : {kind : Kind} {w w' : World} {granted : ℕ} {a : Answer} → Ran kind w granted a w' → a.count < granted → CutShort a w'
cut_short {w = w} {w' = w'} (goes_on is executes after) short = goes_short (length (memory_of w)) w'.phase executes after short
cut_short (has_ended {e = e} is none stops same) short = inl (e, stops, ap (λ (x : World). ending_of x.phase) same ∙ ap ending_of is)

no_early_stop : StopsForAReason
no_early_stop kind found w w' t granted a log run short = cut_short run short

pub histories_agree : HistoriesAgree
histories_agree = record { any_two = any_two; no_early_stop = no_early_stop }

pub run_short : (kind : Kind) (w w' : World) (granted : ℕ) (r : Result Answer RunRefusal) → Runs kind w granted r w' → IfOk r (λ a. a.count < granted → CutShort a w')
run_short kind w w' granted (Ok a) runs = λ short. cut_short runs short
run_short kind w w' granted (Err refusal) runs = tt
