-- What functions over any disk promise, said by the meaning of disks alone.
use Rattle.std.specs.Prelude.{◌≡◌, ℕ, suc, ◌+◌, ◌<◌, ◌≤◌, ◌⊎◌, List, [], ◌++◌, length, take, drop, Some, None, Ok, Err, Option, Result, slice_index_or}
use Rattle.disk.specs.declared.NoSuchSector.{NoSuchSector}
use Rattle.disk.specs.declared.WriteRefusal.{WriteRefusal}
use Rattle.disk.specs.declared.WriteRefusal.TheVariants as refusal
use Rattle.disk.specs.Disks.{Disk, Written, Unkept}

-- What a copy answers, and the disk that it goes to before and after it.
abbrev pub Copies : List (List ℕ) → ℕ → Disk → Result (Unit {0}) WriteRefusal → Disk → Type 0
Copies from sector before (Ok _) after = (sector < length from) × Written before sector (slice_index_or from sector []) after
Copies from sector before (Err refusal.NoSuchSector) after = ((length from ≤ sector) ⊎ (length before.sectors ≤ sector)) × (after ≡ before)
Copies from sector before (Err refusal.NoKeep) after = Unkept before sector × (after ≡ before)

-- What a read into a part of a longer buffer answers, and the buffer before and after it.
abbrev pub ReadsAt : List (List ℕ) → ℕ → ℕ → List ℕ → Result (Unit {0}) NoSuchSector → List ℕ → Type 0
ReadsAt sectors sector at before (Ok _) after = (sector < length sectors) × (after ≡ take at before ++ (slice_index_or sectors sector [] ++ drop (at + 512) before))
ReadsAt sectors sector at before (Err _) after = (length sectors ≤ sector) × (after ≡ before)

-- The number of the last sector, if there is one.
abbrev pub Last : List (List ℕ) → Option ℕ → Type 0
Last sectors None = length sectors ≡ 0
Last sectors (Some last) = length sectors ≡ suc last
