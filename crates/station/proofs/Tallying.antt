-- A tally has one answer.
use Rattle.std.proofs.Common.{◌≡◌, ℕ, cond, eqb, List, length, Some, Ok, Err, Result, sym, refl, ap, ◌∙◌, subst, arith}
use Rattle.std.proofs.lemmas.Bool.{cond-true, cond-false, eq-eqb, ne_eqb}
use Rattle.processor.specs.declared.ending.Ending.{Ending}
use Rattle.processor.specs.Machine.{Processor}
use Rattle.sheet.specs.declared.refusal.SheetRefusal.{SheetRefusal}
use Rattle.sheet.specs.declared.refusal.SheetRefusal.TheVariants as sheet
use Rattle.sheet.specs.Sheets.{Gives}
use Rattle.sheet.proofs.Sameness.{gives_same}
use Rattle.station.specs.declared.answer.TallyRefusal.{TallyRefusal}
use Rattle.station.specs.declared.answer.TallyRefusal.TheVariants.{NotStarted, OtherMemory, NotEnded, TooLong, Form}
use Rattle.station.specs.declared.unit.Phase.{Phase}
use Rattle.station.specs.declared.unit.Phase.TheVariants.{Unstarted, Running, Ended}
use Rattle.station.specs.Worlds.{started_with, ending_of, OtherLength, Tallies}

-- the ending that a sheet is held against, or why there is none
abbrev admits : Phase → ℕ → Result Ending TallyRefusal
admits Unstarted size = Err NotStarted
admits (Running n) size = cond (eqb n size) (Err NotEnded) (Err OtherMemory)
admits (Ended n e) size = cond (eqb n size) (Ok e) (Err OtherMemory)

-- what the station answers where the sheet gives this
abbrev pub told : Result ℕ SheetRefusal → Result ℕ TallyRefusal
told (Ok points) = Ok points
told (Err sheet.TooLong) = Err TooLong
told (Err (sheet.Form fault)) = Err (Form fault)

equal_sizes : {X : Type 0} (n : ℕ) (x y : X) → cond (eqb n n) x y ≡ x
equal_sizes n x y = cond-true (eqb n n) x y (eq-eqb n n refl)

other_memory : (phase : Phase) (size : ℕ) → OtherLength phase size → admits phase size ≡ Err OtherMemory
other_memory Unstarted size (n, is, other) = let z : ◌≡◌ {A = ℕ} 0 1 = cc in absurd (omega arith)
other_memory (Running m) size (n, is, other) = let same : m ≡ n = cc in cond-false (eqb m size) _ _ (ne_eqb m size (λ e. other (sym same ∙ e)))
other_memory (Ended m d) size (n, is, other) = let same : m ≡ n = cc in cond-false (eqb m size) _ _ (ne_eqb m size (λ e. other (sym same ∙ e)))

module _ (p : Processor) (phase : Phase) (ss : List (List ℕ)) (text : List ℕ) where
  -- a tally is refused for the station's sake, or answers what the sheet gives
  data Way (r : Result ℕ TallyRefusal) : Type 0 where
    refused : (why : TallyRefusal) → admits phase (length p.memory) ≡ Err why → r ≡ Err why → Way r
    given : (e : Ending) (s : Result ℕ SheetRefusal) → admits phase (length p.memory) ≡ Ok e → Gives p ss e text s → r ≡ told s → Way r

  way : (r : Result ℕ TallyRefusal) → Tallies p phase ss text r → Way r
  way (Ok points) (e, is, gives) = given e (Ok points) (ap (λ (x : Phase). admits x (length p.memory)) is ∙ equal_sizes (length p.memory) _ _) gives refl
  way (Err NotStarted) is = refused NotStarted (ap (λ (x : Phase). admits x (length p.memory)) is) refl
  way (Err OtherMemory) other = refused OtherMemory (other_memory phase (length p.memory) other) refl
  way (Err NotEnded) is = refused NotEnded (ap (λ (x : Phase). admits x (length p.memory)) is ∙ equal_sizes (length p.memory) _ _) refl
  way (Err TooLong) (e, is, gives) = given e (Err sheet.TooLong) (ap (λ (x : Phase). admits x (length p.memory)) is ∙ equal_sizes (length p.memory) _ _) gives refl
  way (Err (Form fault)) (e, is, gives) = given e (Err (sheet.Form fault)) (ap (λ (x : Phase). admits x (length p.memory)) is ∙ equal_sizes (length p.memory) _ _) gives refl

  ways_meet : (r r' : Result ℕ TallyRefusal) → Way r → Way r' → r ≡ r'
  ways_meet r r' (refused why is answer) (refused why' is' answer') = let same : why ≡ why' = cc in cc
  ways_meet r r' (refused why is answer) (given e s is' gives answer') = let z : ◌≡◌ {A = ℕ} 0 1 = cc in absurd (omega arith)
  ways_meet r r' (given e s is gives answer) (refused why is' answer') = let z : ◌≡◌ {A = ℕ} 0 1 = cc in absurd (omega arith)
  ways_meet r r' (given e s is gives answer) (given e' s' is' gives' answer') =
      let same : e ≡ e' = cc in
      let equal : s ≡ s' = gives_same p ss e' text s s' (subst (λ (d : Ending). Gives p ss d text s) same gives) gives' in
      answer ∙ ap told equal ∙ sym answer'

  pub one_answer : (r r' : Result ℕ TallyRefusal) → Tallies p phase ss text r → Tallies p phase ss text r' → r ≡ r'
  one_answer r r' t t' = ways_meet r r' (way r t) (way r' t')

-- a phase is known by the memory's length and the ending
pub phase_known : (phase : Phase) (n : ℕ) (e : Ending) → started_with phase ≡ Some n → ending_of phase ≡ Some e → phase ≡ Ended n e
phase_known Unstarted n e is ends = let z : ◌≡◌ {A = ℕ} 0 1 = cc in absurd (omega arith)
phase_known (Running m) n e is ends = let z : ◌≡◌ {A = ℕ} 0 1 = cc in absurd (omega arith)
phase_known (Ended m d) n e is ends = let size : m ≡ n = cc in let same : d ≡ e = cc in cc
