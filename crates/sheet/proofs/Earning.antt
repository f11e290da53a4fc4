-- What a mark earns, by the test that its value is there.
use Rattle.std.proofs.Common.{◌≡◌, ℕ, zero, Bool, true, false, List, MatchBool, sym, subst}
use Rattle.processor.specs.declared.ending.Ending.{Ending}
use Rattle.processor.specs.Machine.{Processor}
use Rattle.sheet.specs.declared.mark.Mark.{Mark}
use Rattle.sheet.specs.Marks.{points_of, Holds, Earns, all_points, no_points}

module _ (p : Processor) (ss : List (List ℕ)) (e : Ending) (m : Mark) (r : Bool) (test : MatchBool r (Holds p ss e m) (Holds p ss e m → ⊥)) where
  pub earned : (n : ℕ) → r ≡ true → n ≡ points_of m → Earns p ss e m n
  earned n is points = subst (Earns p ss e m) (sym points) (all_points (subst (λ (b : Bool). MatchBool b (Holds p ss e m) (Holds p ss e m → ⊥)) is test))

  pub unearned : r ≡ false → Earns p ss e m zero
  unearned is = no_points (subst (λ (b : Bool). MatchBool b (Holds p ss e m) (Holds p ss e m → ⊥)) is test)
