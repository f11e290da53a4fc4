-- How the entries of a table lie over the sectors of the disk below.
use Rattle.std.specs.Prelude.{ℕ, ◌-◌, false, List, [], map, length, slice_index_or}
use Rattle.std.specs.List.{range_with_len}
use Rattle.disk.specs.Disks.{Disk}
use Rattle.overlay.specs.declared.entry.Entry.{Entry}
use Rattle.overlay.specs.Entries.{over, holds}

-- The sectors below, with the entries over them.
unfoldable pub laid : List Entry → List (List ℕ) → List (List ℕ)
laid es below = map (λ s. over es s (slice_index_or below s [])) (range_with_len 0 (length below))

-- The disk that an overlay is: it keeps the sectors that have an entry, and there is room for 32.
abbrev pub overlaid : List Entry → List (List ℕ) → Disk
overlaid es below = record { sectors = laid es below; kept = holds es; keeps = 32 - length es }

-- An overlay at its start.
abbrev pub starting : List (List ℕ) → Disk
starting below = record { sectors = below; kept = λ _. false; keeps = 32 }
