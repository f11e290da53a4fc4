-- What a disk means: its sectors, which of them are kept, and how many more it can keep.
use Rattle.std.specs.Prelude.{◌≡◌, ℕ, zero, suc, ◌<◌, ◌≤◌, Bool, true, false, ◌≢◌, ◌⊎◌, List, [], length, Ok, Err, Result, slice_index_or, slice_set}
use Rattle.disk.specs.declared.NoSuchSector.{NoSuchSector}
use Rattle.disk.specs.declared.ReadRefusal.{ReadRefusal}
use Rattle.disk.specs.declared.ReadRefusal.TheVariants as read_refusal
use Rattle.disk.specs.declared.WriteRefusal.{WriteRefusal}
use Rattle.disk.specs.declared.WriteRefusal.TheVariants as refusal

-- A kept sector can be written again and again. Each sector that becomes kept uses one of the keeps.
pub record Disk : Type 0 where
  pub sectors : List (List ℕ)
  pub kept : ℕ → Bool
  pub keeps : ℕ

-- The disk that a value means.
abbrev pub disk : {D : Type 0} → (D → List (List ℕ)) → (D → ℕ → Bool) → (D → ℕ) → D → Disk
disk sectors kept keeps d = record { sectors = sectors d; kept = kept d; keeps = keeps d }

-- At most 65,536 sectors, of 512 bytes each.
pub record Whole (sectors : List (List ℕ)) : Type 0 where
  pub few : length sectors ≤ 65536
  pub sized : (s : ℕ) → s < length sectors → length (slice_index_or sectors s []) ≡ 512

-- A sector is written, and no other. One that was not kept becomes kept, and uses one keep.
pub record Written (before : Disk) (sector : ℕ) (block : List ℕ) (after : Disk) : Type 0 where
  pub holds : after.sectors ≡ slice_set before.sectors sector block
  pub kept_now : after.kept sector ≡ true
  pub kept_others : (other : ℕ) → other ≢ sector → after.kept other ≡ before.kept other
  pub paid : ((before.kept sector ≡ true) × (after.keeps ≡ before.keeps)) ⊎ ((before.kept sector ≡ false) × (before.keeps ≡ suc after.keeps))

-- A sector that is not kept can't become so, since no keep is left.
pub record Unkept (disk : Disk) (sector : ℕ) : Type 0 where
  pub not_kept : disk.kept sector ≡ false
  pub none_left : disk.keeps ≡ zero

-- What a read answers, and the lent block before and after it.
abbrev pub Reads : List (List ℕ) → ℕ → List ℕ → Result (Unit {0}) NoSuchSector → List ℕ → Type 0
Reads sectors sector before (Ok _) after = (sector < length sectors) × (after ≡ slice_index_or sectors sector [])
Reads sectors sector before (Err _) after = (length sectors ≤ sector) × (after ≡ before)

-- The same where the block is a lent part of any length: only one of 512 bytes is read into.
abbrev pub ReadsInto : List (List ℕ) → ℕ → List ℕ → Result (Unit {0}) ReadRefusal → List ℕ → Type 0
ReadsInto sectors sector before (Ok _) after = (sector < length sectors) × (length before ≡ 512) × (after ≡ slice_index_or sectors sector [])
ReadsInto sectors sector before (Err read_refusal.NoSuchSector) after = (length sectors ≤ sector) × (after ≡ before)
ReadsInto sectors sector before (Err read_refusal.NotOneSector) after = (sector < length sectors) × (length before ≢ 512) × (after ≡ before)

-- What a write answers, and the disk before and after it.
abbrev pub Writes : Disk → ℕ → List ℕ → Result (Unit {0}) WriteRefusal → Disk → Type 0
Writes before sector block (Ok _) after = (sector < length before.sectors) × Written before sector block after
Writes before sector block (Err refusal.NoSuchSector) after = (length before.sectors ≤ sector) × (after ≡ before)
Writes before sector block (Err refusal.NoKeep) after = (sector < length before.sectors) × Unkept before sector × (after ≡ before)
