-- The next instruction, as it is fetched.
use Rattle.std.proofs.Common.{◌≡◌, ℕ, ◌+◌, ◌%◌, ◌<◌, ◌≤◌, true, false, ◌||◌, ◌⊎◌, List, length, Option, sym, ap, ◌∙◌, subst, inl, inr}
use Rattle.std.proofs.lemmas.Bool.{cond-true, cond-false, eq-eqb, ne_eqb, lt-ltb, le-ltb, or_from, or_left, or_right, not_from_true, not_from_false}
use Rattle.u5.specs.Words.{decoded}
use Rattle.u5.specs.declared.instruction.Instruction.{Instruction}
use Rattle.processor.specs.declared.ending.Ending.TheVariants.{Fetch}
use Rattle.processor.specs.Words.{number_of}
use Rattle.processor.specs.Machine.{Processor, ends}
use Rattle.processor.specs.Effects.{value, counter, unaligned, outside, bytes_at, fetched, unfetchable, obeyed, action}

module _ (p : Processor) (ss : List (List ℕ)) where
  pub not_fetched : unfetchable p ≡ true → action p ss ≡ ends Fetch
  unfolding action
  not_fetched bad = cond-true (unfetchable p) _ _ bad

  pub obeys : unfetchable p ≡ false → action p ss ≡ obeyed (decoded (fetched p)) p ss
  unfolding action
  obeys good = cond-false (unfetchable p) _ _ good

-- the tests of an address that the code has read from r63
module _ (p : Processor) (at : ℕ) (is : at ≡ value p counter) where
  pub cannot : (at % 4 ≡ 0 → ⊥) ⊎ (length p.memory < at + 4) → unfetchable p ≡ true
  cannot bad = subst (λ n. (unaligned n 4 || outside n 4 p) ≡ true) is (from bad)
    where
      from : (at % 4 ≡ 0 → ⊥) ⊎ (length p.memory < at + 4) → (unaligned at 4 || outside at 4 p) ≡ true
      from (inl ne) = or_left (unaligned at 4) (outside at 4 p) (not_from_false _ (ne_eqb (at % 4) 0 ne))
      from (inr lt) = or_right (unaligned at 4) (outside at 4 p) (lt-ltb (length p.memory) (at + 4) lt)

  pub can : at % 4 ≡ 0 → at + 4 ≤ length p.memory → unfetchable p ≡ false
  can aligned inside =
      subst (λ n. (unaligned n 4 || outside n 4 p) ≡ false) is
      (or_from (unaligned at 4) (outside at 4 p) (not_from_true _ (eq-eqb (at % 4) 0 aligned)) (le-ltb (length p.memory) (at + 4) inside))

  -- the instruction that the code has decoded
  pub decodes_to : (o : Option Instruction) (w : ℕ) → at % 4 ≡ 0 → at + 4 ≤ length p.memory → w ≡ number_of (bytes_at at 4 p) → o ≡ decoded w → (ss : List (List ℕ)) → action p ss ≡ obeyed o p ss
  decodes_to o w aligned inside loads decodes ss =
      obeys p ss (can aligned inside)
      ∙ ap (λ n. obeyed (decoded (number_of (bytes_at n 4 p))) p ss) (sym is)
      ∙ ap (λ n. obeyed (decoded n) p ss) (sym loads)
      ∙ ap (λ x. obeyed x p ss) (sym decodes)
