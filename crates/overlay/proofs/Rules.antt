-- The rules of a table: what they say of a place that is found, and that they hold through a change of its entries.
use Rattle.std.proofs.Common.{◌≡◌, ℕ, ◌<◌, ◌≤◌, ◌≢◌, List, [], ◌∷◌, ◌++◌, length, get_or, Some, None, Option, sym, ap, ◌∙◌, subst, ⊎_elim, length-append, arith}
use Rattle.std.specs.Option.{IfSome}
use Rattle.std.specs.List.{All, AllWithin}
use Rattle.std.proofs.Math.Seq.{get_or-append_seam}
use Rattle.std.proofs.lemmas.List.{length-map, map-set, map-append, get_or-map, set-get_or, get_or_append_left}
use Rattle.std.proofs.lemmas.List.Elements.{All-set, All-push}
use Rattle.std.proofs.lemmas.Bool.{cases_lt, cases_order}
use Rattle.overlay.specs.declared.entry.Entry.{Entry}
use Rattle.overlay.specs.Entries.{keys, rewritten, Apart, IsSized, IsForOther, Finds, StandsOnlyAt}

-- No sector stands twice, so the place that is found is the only one.
pub found_only : (es : List Entry) (s : ℕ) (r : Option ℕ) → Apart (keys es) → Finds es s r → IfSome r (λ i. StandsOnlyAt es s i)
found_only es s None apart absent = tt
found_only es s (Some i) apart (less, same, _) = λ k within at.
    let e : Entry = record { sector = s; bytes = [] } in
    let n : length (keys es) ≡ length es = length-map es (λ (e : Entry). e.sector) in
    let is : get_or (keys es) k 0 ≡ get_or (keys es) i 0 = at ∙ sym (get_or-map (λ (e : Entry). e.sector) es i e 0 less ∙ same e) in
    ⊎_elim
    (λ (here : k ≡ i). here)
    (⊎_elim
    (λ (before : k < i). absurd (apart k i before (omega (arith, n)) is))
    (λ (behind : i < k). absurd (apart i k behind (omega (arith, n)) (sym is))))
    (cases_order k i)

module _ (es new : List Entry) (i : ℕ) (block : List ℕ) (is : new ≡ rewritten es i block) where
  pub rewritten_apart : Apart (keys es) → Apart (keys new)
  rewritten_apart apart =
      subst (λ ks. Apart ks)
      (sym (ap keys is ∙ map-set (λ (e : Entry). e.sector) es i (record { sector = get_or (keys es) i 0; bytes = block }) ∙ set-get_or (keys es) i 0))
      apart

  pub rewritten_sized : length block ≡ 512 → All IsSized es → All IsSized new
  rewritten_sized full sized =
      subst (λ fs. All IsSized fs) (sym is) (All-set IsSized es i (record { sector = get_or (keys es) i 0; bytes = block }) full sized)

-- A key that is new stands apart from the others.
apart_more : (ks : List ℕ) (s : ℕ) → Apart ks → ((k : ℕ) → k < length ks → get_or ks k 0 ≢ s) → Apart (ks ++ s ∷ [])
apart_more ks s apart new i j less within same =
    let shorter : i < length ks = omega (arith, length-append ks (s ∷ [])) in
    let at_i : get_or (ks ++ s ∷ []) i 0 ≡ get_or ks i 0 = get_or_append_left ks (s ∷ []) 0 i shorter in
    ⊎_elim
    (λ (lt : j < length ks). apart i j less lt (sym at_i ∙ same ∙ get_or_append_left ks (s ∷ []) 0 j lt))
    (λ (ge : length ks ≤ j).
    let at : j ≡ length ks = omega (arith, length-append ks (s ∷ [])) in
    new i shorter (sym at_i ∙ same ∙ ap (λ n. get_or (ks ++ s ∷ []) n 0) at ∙ get_or-append_seam ks s [] 0))
    (cases_lt j (length ks))

module _ (es new : List Entry) (s : ℕ) (block : List ℕ) (is : new ≡ es ++ record { sector = s; bytes = block } ∷ []) where
  pub added_apart : AllWithin (IsForOther s) es 0 (length es) → Apart (keys es) → Apart (keys new)
  added_apart absent apart =
      let e : Entry = record { sector = s; bytes = block } in
      subst (λ ks. Apart ks) (sym (ap keys is ∙ map-append (λ (e : Entry). e.sector) es (e ∷ [])))
      (apart_more (keys es) s apart
      (λ k lt same.
      let within : k < length es = omega (arith, length-map es (λ (e : Entry). e.sector)) in
      absent k e (omega arith) within (sym (get_or-map (λ (e : Entry). e.sector) es k e 0 within) ∙ same)))

  pub added_sized : length block ≡ 512 → All IsSized es → All IsSized new
  added_sized full sized = subst (λ fs. All IsSized fs) (sym is) (All-push IsSized es (record { sector = s; bytes = block }) sized full)
