-- What is looked up in the entries of a table, and in those after a change.
use Rattle.std.proofs.Common.{◌≡◌, ℕ, zero, suc, ◌+◌, ◌<◌, ◌≤◌, Bool, true, false, cond, eqb, List, [], ◌∷◌, ◌++◌, length, get_or, Some, None, Ok, Err, sym, refl, ap, ◌∙◌, arith}
use Rattle.std.specs.List.{AllWithin}
use Rattle.std.proofs.lemmas.Bool.{eq-eqb, ne_eqb, cond-true, cond-false, both_ways}
use Rattle.std.proofs.lemmas.List.{get_or-map}
use Rattle.std.proofs.lemmas.Bool.Decides.{nat_tests}
use Rattle.overlay.specs.declared.entry.Entry.{Entry}
use Rattle.overlay.specs.declared.kept.Full.{Full}
use Rattle.overlay.specs.Entries.{keys, holds, looked_up, upsert, rewritten, IsForOther, Finds, Has, Lacks, Keeps, StandsOnlyAt}

absent_later : (s : ℕ) (e : Entry) (es : List Entry) (n : ℕ) → AllWithin (IsForOther s) (e ∷ es) 0 (suc n) → AllWithin (IsForOther s) es 0 n
absent_later s e es n absent k d le lt = absent (suc k) d (omega arith) (omega arith)

absent_first : (s : ℕ) (e : Entry) (es : List Entry) (n : ℕ) → AllWithin (IsForOther s) (e ∷ es) 0 (suc n) → eqb e.sector s ≡ false
absent_first s e es n absent = ne_eqb e.sector s (absent 0 e (omega arith) (omega arith))

found_at : {X : Type 0} (f : Entry → X) (es : List Entry) (i s : ℕ) (d : X) (b : Entry) → i < length es → (get_or es i b).sector ≡ s → AllWithin (IsForOther s) es 0 i → looked_up f es s d ≡ f (get_or es i b)
unfolding looked_up
found_at f [] i s d b less same absent = absurd (omega arith)
found_at f (e ∷ es) zero s d b less same absent = cond-true (eqb e.sector s) _ _ (eq-eqb e.sector s same)
found_at f (e ∷ es) (suc i) s d b less same absent =
    cond-false (eqb e.sector s) _ _ (absent_first s e es i absent)
    ∙ found_at f es i s d b (omega arith) same (absent_later s e es i absent)

not_found : {X : Type 0} (f : Entry → X) (es : List Entry) (s : ℕ) (d : X) → AllWithin (IsForOther s) es 0 (length es) → looked_up f es s d ≡ d
unfolding looked_up
not_found f [] s d absent = refl
not_found f (e ∷ es) s d absent =
    cond-false (eqb e.sector s) _ _ (absent_first s e es (length es) absent)
    ∙ not_found f es s d (absent_later s e es (length es) absent)

-- What stands at the first place of a sector is what a look-up gives.
pub has_found : (es : List Entry) (s i : ℕ) (b : Entry) → Finds es s (Some i) → Has es s (get_or es i b).bytes
has_found es s i b (less, same, absent) =
    (found_at (λ _. true) es i s false b less (same b) absent, λ d. sym (found_at (λ e. e.bytes) es i s d b less (same b) absent))

-- No place before the only one has the sector.
absent_before : (es : List Entry) (s i : ℕ) → i < length es → StandsOnlyAt es s i → AllWithin (IsForOther s) es 0 i
absent_before es s i less only k d from before same =
    let within : k < length es = omega arith in
    let here : k ≡ i = only k within (get_or-map (λ (e : Entry). e.sector) es k d 0 within ∙ same) in
    absurd (omega arith)

-- What stands at the only place of a sector is what a look-up gives; that the place is the first is not used.
pub has_at_only_place : (es : List Entry) (s i : ℕ) (b : Entry) → Finds es s (Some i) → StandsOnlyAt es s i → Has es s (get_or es i b).bytes
has_at_only_place es s i b (less, same, _) only = has_found es s i b (less, same, absent_before es s i less only)

pub lacks_absent : (es : List Entry) (s : ℕ) → Finds es s None → Lacks es s
lacks_absent es s absent = (not_found (λ _. true) es s false absent, λ d. sym (not_found (λ e. e.bytes) es s d absent))

-- The entry that is found is the one that `upsert` changes.
upsert_found : (es : List Entry) (i s : ℕ) (block : List ℕ) → i < length es → get_or (keys es) i 0 ≡ s → AllWithin (IsForOther s) es 0 i → rewritten es i block ≡ upsert es s block
unfolding upsert
upsert_found [] i s block less same absent = absurd (omega arith)
upsert_found (e ∷ es) zero s block less same absent =
    ap (λ k. record { sector = k; bytes = block } ∷ es) same
    ∙ sym (cond-true (eqb e.sector s) _ _ (eq-eqb e.sector s same))
upsert_found (e ∷ es) (suc i) s block less same absent =
    ap (λ r. e ∷ r) (upsert_found es i s block (omega arith) same (absent_later s e es i absent))
    ∙ sym (cond-false (eqb e.sector s) _ _ (absent_first s e es i absent))

-- Where none is found, `upsert` adds one at the end.
upsert_added : (es : List Entry) (s : ℕ) (block : List ℕ) → AllWithin (IsForOther s) es 0 (length es) → es ++ record { sector = s; bytes = block } ∷ [] ≡ upsert es s block
unfolding upsert
upsert_added [] s block absent = refl
upsert_added (e ∷ es) s block absent =
    ap (λ r. e ∷ r) (upsert_added es s block (absent_later s e es (length es) absent))
    ∙ sym (cond-false (eqb e.sector s) _ _ (absent_first s e es (length es) absent))

module _ (es after : List Entry) (s : ℕ) (block : List ℕ) where
  pub keeps_found : (i : ℕ) → Finds es s (Some i) → after ≡ rewritten es i block → Keeps es s block (Ok tt) after
  keeps_found i (less, same, absent) is =
      let b : Entry = record { sector = s; bytes = [] } in (
        λ none. absurd (both_ways _ none (found_at (λ _. true) es i s false b less (same b) absent)),
        is ∙ upsert_found es i s block less (get_or-map (λ (e : Entry). e.sector) es i b 0 less ∙ same b) absent,
      )

  pub keeps_added : Finds es s None → length es < 32 → after ≡ es ++ record { sector = s; bytes = block } ∷ [] → Keeps es s block (Ok tt) after
  keeps_added absent room is = (λ _. room, is ∙ upsert_added es s block absent)

  pub keeps_full : (r : Full) → Finds es s None → 32 ≤ length es → after ≡ es → Keeps es s block (Err r) after
  keeps_full r absent full is = (not_found (λ _. true) es s false absent, full, is)

looked_up_cond : {X : Type 0} (f : Entry → X) (t : Bool) (es fs : List Entry) (k : ℕ) (d : X) → looked_up f (cond t es fs) k d ≡ cond t (looked_up f es k d) (looked_up f fs k d)
looked_up_cond f true es fs k d = refl
looked_up_cond f false es fs k d = refl

-- Tests of a key and of a sought sector, in either order.
tests_swapped : {X : Type 0} (a s k : ℕ) (x b u : X) → cond (eqb a s) (cond (eqb s k) b u) (cond (eqb a k) x (cond (eqb s k) b u)) ≡ cond (eqb s k) b (cond (eqb a k) x u)
tests_swapped a s k x b u = grind (arith, nat_tests)

pub looked_up_upsert : {X : Type 0} (f : Entry → X) (es : List Entry) (s : ℕ) (block : List ℕ) (k : ℕ) (d : X) → looked_up f (upsert es s block) k d ≡ cond (eqb s k) (f (record { sector = s; bytes = block })) (looked_up f es k d)
unfolding looked_up upsert
looked_up_upsert f [] s block k d = refl
looked_up_upsert f (e ∷ es) s block k d =
    looked_up_cond f (eqb e.sector s) _ _ k d
    ∙ ap (λ r. cond (eqb e.sector s) (cond (eqb s k) (f (record { sector = s; bytes = block })) (looked_up f es k d)) (cond (eqb e.sector k) (f e) r)) (looked_up_upsert f es s block k d)
    ∙ tests_swapped e.sector s k (f e) (f (record { sector = s; bytes = block })) (looked_up f es k d)

length_cond : (t : Bool) (es fs : List Entry) → length (cond t es fs) ≡ cond t (length es) (length fs)
length_cond true es fs = refl
length_cond false es fs = refl

-- One entry more, unless there was one for the sector.
pub length_upsert : (es : List Entry) (s : ℕ) (block : List ℕ) → length (upsert es s block) ≡ cond (holds es s) (length es) (length es + 1)
unfolding looked_up upsert
length_upsert [] s block = refl
length_upsert (e ∷ es) s block =
    let h = length_upsert es s block in
    length_cond (eqb e.sector s) _ _ ∙ grind (arith, nat_tests)
