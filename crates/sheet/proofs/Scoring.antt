-- A sheet is scored line by line.
use Rattle.std.proofs.Common.{◌≡◌, ℕ, suc, ◌+◌, ◌<◌, eqb, List, [], ◌∷◌, length, None, Ok, Err, Option, Result, sym, refl, ap, ◌∙◌, subst, add-zero, add_assoc, zero-add, arith, Bor}
use Rattle.std.proofs.lemmas.Bool.{cond-false, ne_eqb}
use Rattle.text.specs.declared.fault.Cause.TheVariants.{End}
use Rattle.text.specs.declared.fault.FieldFault.{FieldFault}
use Rattle.text.specs.declared.fault.Fault.{Fault}
use Rattle.text.specs.Faults.{at_field, at_line, on_line}
use Rattle.text.specs.Readers.{Advances}
use Rattle.text.proofs.Placing.{on_line_ok, fault_on_line}
use Rattle.processor.specs.declared.ending.Ending.{Ending}
use Rattle.processor.specs.Machine.{Processor}
use Rattle.sheet.specs.declared.mark.Mark.{Mark}
use Rattle.sheet.specs.Marks.{Earns, no_marks, one_mark}
use Rattle.sheet.specs.Lines.{line_mark, onward, with_line, marks_from}
use Rattle.sheet.specs.Sheets.{Score}

-- points so far, and what the rest gives
abbrev pub plus : ℕ → Result ℕ Fault → Result ℕ Fault
plus n (Ok k) = Ok (n + k)
plus n (Err fault) = Err fault

plus_plus : (n k : ℕ) (r : Result ℕ Fault) → plus n (plus k r) ≡ plus (n + k) r
plus_plus n k (Ok j) = ap Ok (sym (add_assoc n k j))
plus_plus n k (Err fault) = refl

plus_none : (r : Result ℕ Fault) → r ≡ plus 0 r
plus_none (Ok k) = ap Ok (sym (zero-add k))
plus_none (Err fault) = refl

module _ (p : Processor) (ss : List (List ℕ)) (e : Ending) where
  -- After so many lines, whatever the lines that are left give, the sheet gives with the points so far.
  pub record Carries (total count : ℕ) (left all : List (List ℕ)) : Type 0 where
    pub carry : (r : Result ℕ Fault) → Score p ss e (marks_from (count + 1) left) r → Score p ss e (marks_from 1 all) (plus total r)

  pub carries_first : (left all : List (List ℕ)) → left ≡ all → Carries 0 0 left all
  carries_first left all is = record { carry = λ r s. subst (Score p ss e (marks_from 1 all)) (plus_none r) (subst (λ (l : List (List ℕ)). Score p ss e (marks_from 1 l) r) is s) }

  -- a line, and then at least what follows the last newline
  below : (i : ℕ) (line : List ℕ) (after : List (List ℕ)) → 0 < length after → marks_from i (line ∷ after) ≡ with_line (on_line (line_mark line) i) (marks_from (suc i) after)
  below i line [] some = absurd (omega arith)
  below i line (q ∷ ps) some = refl

  scored : (m : Mark) (n : ℕ) (read : Result (List Mark) Fault) (r : Result ℕ Fault) → Earns p ss e m n → Score p ss e read r → Score p ss e (onward m read) (plus n r)
  scored m n read (Ok k) earns (ms, is, earn) = (m ∷ ms, ap (onward m) is, one_mark earns earn)
  scored m n read (Err fault) earns is = ap (onward m) is

  module _ {total count : ℕ} {left all : List (List ℕ)} (c : Carries total count left all) where
    pub carries_more : (line : List ℕ) (after : List (List ℕ)) (m : Mark) (n : ℕ) → left ≡ line ∷ after → 0 < length after → line_mark line ≡ Ok m → Earns p ss e m n → Carries (total + n) (count + 1) after all
    carries_more line after m n cut some told earns =
        let same : suc (count + 1) ≡ count + 1 + 1 = omega arith in
        let way : marks_from (count + 1) left ≡ onward m (marks_from (count + 1 + 1) after) =
        ap (marks_from (count + 1)) cut ∙ below (count + 1) line after some ∙ ap (λ x. with_line (on_line x (count + 1)) (marks_from (suc (count + 1)) after)) told ∙ ap (λ i. onward m (marks_from i after)) same
        in
        record {
          carry = λ r s.
              subst (Score p ss e (marks_from 1 all)) (plus_plus total n r)
              (c.carry (plus n r) (subst (λ (x : Result (List Mark) Fault). Score p ss e x (plus n r)) (sym way) (scored m n (marks_from (count + 1 + 1) after) r earns s)));
        }

    pub carries_all : left ≡ [] ∷ [] → Score p ss e (marks_from 1 all) (Ok total)
    carries_all is = subst (λ (n : ℕ). Score p ss e (marks_from 1 all) (Ok n)) (add-zero total) (c.carry (Ok 0) ([], ap (marks_from (count + 1)) is, no_marks))

    pub bad_line : (line : List ℕ) (after : List (List ℕ)) (f : FieldFault) → left ≡ line ∷ after → 0 < length after → line_mark line ≡ Err f → Score p ss e (marks_from 1 all) (Err (at_line (count + 1) f))
    bad_line line after f cut some told =
        c.carry (Err (at_line (count + 1) f))
        (ap (marks_from (count + 1)) cut ∙ below (count + 1) line after some ∙ ap (λ x. with_line (on_line x (count + 1)) (marks_from (suc (count + 1)) after)) told)

    pub unended : (last : List ℕ) → left ≡ last ∷ [] → 0 < length last → Score p ss e (marks_from 1 all) (Err (at_line (count + 1) (at_field 0 End)))
    unended last cut some =
        c.carry (Err (at_line (count + 1) (at_field 0 End)))
        (ap (marks_from (count + 1)) cut ∙ cond-false (eqb (length last) 0) _ _ (ne_eqb (length last) 0 (λ z. omega arith)))

-- a reader of lines that came to the text's end
pub at_the_end : (before after : List (List ℕ)) (r : Result (Option (Bor (List ℕ))) FieldFault) (i : ℕ) (o : Option (Bor (List ℕ))) → Advances before r after → on_line r i ≡ Ok o → o ≡ None → before ≡ [] ∷ []
at_the_end before after r i o adv e is = (subst (λ x. Advances before (Ok x) after) is (subst (λ x. Advances before x after) (on_line_ok r i o e) adv)).0

-- a reader of lines that found no newline after the last line
pub unended_line : (before after : List (List ℕ)) (r : Result (Option (Bor (List ℕ))) FieldFault) (i : ℕ) (fault : Fault) → Advances before r after → on_line r i ≡ Err fault → (last : List ℕ) × (before ≡ last ∷ []) × (0 < length last) × (fault ≡ at_line i (at_field 0 End))
unended_line before after r i fault adv e =
    let f = fault_on_line r i fault e in
    let told = subst (λ x. Advances before x after) f.1 adv in
    (told.0.0, told.0.2, told.0.1, sym f.2 ∙ ap (at_line i) told.2)
