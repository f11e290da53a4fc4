-- A sheet gives one answer.
use Rattle.std.proofs.Common.{◌≡◌, ℕ, List, Ok, Err, Result, sym, refl, ap, ◌∙◌, subst, arith}
use Rattle.text.specs.declared.fault.Fault.{Fault}
use Rattle.text.specs.Pieces.{pieces}
use Rattle.processor.specs.declared.ending.Ending.{Ending}
use Rattle.processor.specs.Machine.{Processor}
use Rattle.sheet.specs.declared.mark.Mark.{Mark}
use Rattle.sheet.specs.declared.refusal.SheetRefusal.{SheetRefusal}
use Rattle.sheet.specs.declared.refusal.SheetRefusal.TheVariants.{TooLong, Form}
use Rattle.sheet.specs.Marks.{Earns, all_points, no_points, Earn, no_marks, one_mark}
use Rattle.sheet.specs.Lines.{marks}
use Rattle.sheet.specs.Grammar.{Tell}
use Rattle.sheet.specs.Sheets.{Gives}
use Rattle.sheet.proofs.Readback.{tell_read}

module _ {p : Processor} {ss : List (List ℕ)} {e : Ending} where
  earns_same : {m : Mark} {n k : ℕ} → Earns p ss e m n → Earns p ss e m k → n ≡ k
  earns_same (all_points h) (all_points h') = refl
  earns_same (all_points h) (no_points not) = absurd (not h)
  earns_same (no_points not) (all_points h) = absurd (not h)
  earns_same (no_points not) (no_points not') = refl

  pub earn_same : {ms : List Mark} {n k : ℕ} → Earn p ss e ms n → Earn p ss e ms k → n ≡ k
  earn_same no_marks no_marks = refl
  earn_same (one_mark a rest) (one_mark b rest') = let x = earns_same a b in let y = earn_same rest rest' in cc

module _ (p : Processor) (ss : List (List ℕ)) (e : Ending) (sheet : List ℕ) where
  same_marks : (ms ms' : List Mark) → Tell (pieces 10 sheet) ms → Tell (pieces 10 sheet) ms' → ms ≡ ms'
  same_marks ms ms' t t' = let both : Ok ms ≡ Ok ms' = sym (tell_read 1 t) ∙ tell_read 1 t' in cc

  told_or_not : {A : Type 0} (ms : List Mark) (f : Fault) → Tell (pieces 10 sheet) ms → marks sheet ≡ Err f → A
  unfolding marks
  told_or_not ms f t is = let both : Ok ms ≡ Err f = sym (tell_read 1 t) ∙ is in let z : ◌≡◌ {A = ℕ} 0 1 = cc in absurd (omega arith)

  pub gives_same : (r r' : Result ℕ SheetRefusal) → Gives p ss e sheet r → Gives p ss e sheet r' → r ≡ r'
  gives_same (Ok n) (Ok k) (short, (ms, tells, earn)) (short', (ms', tells', earn')) =
      ap Ok (earn_same (subst (λ (l : List Mark). Earn p ss e l n) (same_marks ms ms' tells tells') earn) earn')
  gives_same (Ok n) (Err TooLong) (short, told) long = absurd (omega arith)
  gives_same (Ok n) (Err (Form f)) (short, (ms, tells, earn)) (short', is) = told_or_not ms f tells is
  gives_same (Err TooLong) (Ok n) long (short, told) = absurd (omega arith)
  gives_same (Err TooLong) (Err TooLong) long long' = refl
  gives_same (Err TooLong) (Err (Form f)) long (short, is) = absurd (omega arith)
  gives_same (Err (Form f)) (Ok n) (short, is) (short', (ms, tells, earn)) = told_or_not ms f tells is
  gives_same (Err (Form f)) (Err TooLong) (short, is) long = absurd (omega arith)
  gives_same (Err (Form f)) (Err (Form f')) (short, is) (short', is') = let same : f ≡ f' = cc in ap (λ (x : Fault). Err (Form x)) same
