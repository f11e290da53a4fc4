-- What the entries of a table say of sectors.
use Rattle.std.specs.Prelude.{◌≡◌, ℕ, ◌<◌, ◌≤◌, Bool, true, false, cond, List, [], ◌∷◌, map, length, ◌==◌, ◌≢◌, Some, None, Ok, Err, Option, Result, slice_index, slice_set}
use Rattle.std.specs.List.{AllWithin, HoldsAt}
use Rattle.overlay.specs.declared.entry.Entry.{Entry}
use Rattle.overlay.specs.declared.kept.Full.{Full}

-- The sectors that the entries are for.
abbrev pub keys : List Entry → List ℕ
keys es = map (λ e. e.sector) es

-- No two of the keys are the same: no sector stands twice.
abbrev pub Apart : List ℕ → Type 0
Apart ks = (i j : ℕ) → i < j → j < length ks → slice_index ks i ≢ slice_index ks j

-- An entry's bytes are as long as a sector.
abbrev pub IsSized : Entry → Type 0
IsSized e = length e.bytes ≡ 512

-- An entry is for another sector than s.
abbrev pub IsForOther : ℕ → Entry → Type 0
IsForOther s e = e.sector ≢ s

-- The place of the first entry for s, where there is one.
abbrev pub Finds : List Entry → ℕ → Option ℕ → Type 0
Finds es s None = AllWithin (IsForOther s) es 0 (length es)
Finds es s (Some i) = (i < length es) × HoldsAt (λ e. e.sector ≡ s) es i × AllWithin (IsForOther s) es 0 i

-- The sector s stands at no place but i.
abbrev pub StandsOnlyAt : List Entry → ℕ → ℕ → Type 0
StandsOnlyAt es s i = (k : ℕ) → k < length es → slice_index (keys es) k ≡ s → k ≡ i

-- The entry at i has new bytes, for the same sector.
abbrev pub rewritten : List Entry → ℕ → List ℕ → List Entry
rewritten es i block = slice_set es i (record { sector = slice_index (keys es) i; bytes = block })

-- What f says of the entry for s, or d where there is none.
unfoldable pub looked_up : {X : Type 0} → (Entry → X) → List Entry → ℕ → X → X
looked_up f [] s d = d
looked_up f (e ∷ es) s d = cond (e.sector == s) (f e) (looked_up f es s d)

-- Whether there is an entry for s.
abbrev pub holds : List Entry → ℕ → Bool
holds es s = looked_up (λ _. true) es s false

-- What stands in s where the entries lie over the bytes d.
abbrev pub over : List Entry → ℕ → List ℕ → List ℕ
over es s d = looked_up (λ e. e.bytes) es s d

-- The entries once s has these bytes: its entry is changed in place, or a new one comes last.
unfoldable pub upsert : List Entry → ℕ → List ℕ → List Entry
upsert [] s block = record { sector = s; bytes = block } ∷ []
upsert (e ∷ es) s block = cond (e.sector == s) (record { sector = s; bytes = block } ∷ es) (e ∷ upsert es s block)

-- The table has these bytes for s.
abbrev pub Has : List Entry → ℕ → List ℕ → Type 0
Has es s bytes = (holds es s ≡ true) × ((d : List ℕ) → bytes ≡ over es s d)

-- The table has no bytes for s.
abbrev pub Lacks : List Entry → ℕ → Type 0
Lacks es s = (holds es s ≡ false) × ((d : List ℕ) → d ≡ over es s d)

-- What the table answers to bytes for s, and its entries before and after.
abbrev pub Keeps : List Entry → ℕ → List ℕ → Result (Unit {0}) Full → List Entry → Type 0
Keeps before s block (Ok _) after = (holds before s ≡ false → length before < 32) × (after ≡ upsert before s block)
Keeps before s block (Err _) after = (holds before s ≡ false) × (32 ≤ length before) × (after ≡ before)
