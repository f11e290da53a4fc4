-- Bytes cut into sectors of 512, and what a write to one of them leaves.
use Rattle.std.specs.Prelude.{◌≡◌, ℕ, ◌+◌, ◌*◌, ◌/◌, ◌<◌, ◌≤◌, min, true, List, map, length, take, drop, Ok, Err, Result}
use Rattle.std.specs.List.{range_with_len, between}
use Rattle.disk.specs.Disks.{Disk}
use Rattle.disk.specs.declared.WriteRefusal.{WriteRefusal}
use Rattle.disk.specs.declared.WriteRefusal.TheVariants.{NoSuchSector, NoKeep}

-- How many whole sectors there are: what is past the last one or past the 65,536th belongs to none.
abbrev pub sector_count : List ℕ → ℕ
sector_count bytes = min (length bytes / 512) 65536

-- The bytes of one sector.
abbrev pub sector_at : List ℕ → ℕ → List ℕ
sector_at bytes s = between (s * 512) (s * 512 + 512) bytes

-- The sectors of an image.
unfoldable pub cut : List ℕ → List (List ℕ)
cut bytes = map (sector_at bytes) (range_with_len 0 (sector_count bytes))

-- The disk that lent bytes are: every sector is kept from the start, so that no keep is ever needed.
abbrev pub imaged : List ℕ → Disk
imaged bytes = record { sectors = cut bytes; kept = λ _. true; keeps = 0 }

-- One sector has new bytes, and no byte outside it is touched.
pub record Rewritten (before : List ℕ) (sector : ℕ) (block after : List ℕ) : Type 0 where
  pub length_same : length after ≡ length before
  pub holds : sector_at after sector ≡ block
  pub front_same : take (sector * 512) after ≡ take (sector * 512) before
  pub rest_same : drop (sector * 512 + 512) after ≡ drop (sector * 512 + 512) before

-- What a write to an image answers, and all its bytes before and after it: it is never out of keeps.
abbrev pub Rewrites : List ℕ → ℕ → List ℕ → Result (Unit {0}) WriteRefusal → List ℕ → Type 0
Rewrites before sector block (Ok _) after = (sector < sector_count before) × Rewritten before sector block after
Rewrites before sector block (Err NoSuchSector) after = (sector_count before ≤ sector) × (after ≡ before)
Rewrites before sector block (Err NoKeep) after = ⊥
