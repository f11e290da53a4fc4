-- What `on_line` hands on, and the lines that a reader handed out.
use Rattle.std.proofs.Common.{◌≡◌, ℕ, List, ◌∷◌, Some, Ok, Err, Option, Result, refl, ap, subst, arith, Bor}
use Rattle.text.specs.declared.fault.FieldFault.{FieldFault}
use Rattle.text.specs.declared.fault.Fault.{Fault}
use Rattle.text.specs.Faults.{at_line, on_line}
use Rattle.text.specs.Readers.{Advances}

pub on_line_ok : {X : Type 0} (r : Result X FieldFault) (i : ℕ) (x : X) → on_line r i ≡ Ok x → r ≡ Ok x
on_line_ok (Ok y) i x e = let is : y ≡ x = cc in ap Ok is
on_line_ok (Err f) i x e = absurd (let z : ◌≡◌ {A = ℕ} 0 1 = cc in omega arith)

pub fault_on_line : {X : Type 0} (r : Result X FieldFault) (i : ℕ) (fault : Fault) → on_line r i ≡ Err fault → (f : FieldFault) × (r ≡ Err f) × (at_line i f ≡ fault)
fault_on_line (Ok y) i fault e = absurd (let z : ◌≡◌ {A = ℕ} 0 1 = cc in omega arith)
fault_on_line (Err f) i fault e = let is : at_line i f ≡ fault = cc in (f, refl, is)

-- the line that was handed out
pub handed : (before after : List (List ℕ)) (o : Option (Bor (List ℕ))) (line : Bor (List ℕ)) → Advances before (Ok o) after → o ≡ Some line → before ≡ line.now ∷ after
handed before after o line adv is = subst (λ x. Advances before (Ok x) after) is adv

pub handed_on_line : (before after : List (List ℕ)) (r : Result (Option (Bor (List ℕ))) FieldFault) (i : ℕ) (o : Option (Bor (List ℕ))) (line : Bor (List ℕ)) → Advances before r after → on_line r i ≡ Ok o → o ≡ Some line → before ≡ line.now ∷ after
handed_on_line before after r i o line adv e is = handed before after o line (subst (λ x. Advances before x after) (on_line_ok r i o e) adv) is
