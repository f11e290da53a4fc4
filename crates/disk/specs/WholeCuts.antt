-- The sectors of an image are whole.
use Rattle.std.specs.Prelude.{◌≡◌, ℕ, ◌+◌, ◌*◌, ◌<◌, ◌≤◌, List, [], length, slice_index_or}
use Rattle.std.proofs.Common.{ap, ◌∙◌, arith}
use Rattle.std.proofs.lemmas.List.FromFn.{length-map-range_with_len, get_or-map-range_with_len}
use Rattle.std.proofs.lemmas.List.Edits.{length-between}
use Rattle.disk.specs.Disks.{Whole}
use Rattle.disk.specs.Cuts.{cut, sector_at, sector_count}

pub cut_length : (bytes : List ℕ) → length (cut bytes) ≡ sector_count bytes
unfolding cut
cut_length bytes = length-map-range_with_len (sector_at bytes) 0 (sector_count bytes)

pub cut_at : (bytes : List ℕ) (s : ℕ) (d : List ℕ) → s < sector_count bytes → slice_index_or (cut bytes) s d ≡ sector_at bytes s
unfolding cut
cut_at bytes s d below = get_or-map-range_with_len (sector_at bytes) 0 (sector_count bytes) s s d below (omega arith)

-- Each sector ends within the bytes.
pub sector_inside : (bytes : List ℕ) (s : ℕ) → s < sector_count bytes → s * 512 + 512 ≤ length bytes
sector_inside bytes s below = omega arith

pub sector_length : (bytes : List ℕ) (s : ℕ) → s < sector_count bytes → length (sector_at bytes s) ≡ 512
sector_length bytes s below =
    let i = sector_inside bytes s below in
    length-between bytes (s * 512) (s * 512 + 512) i ∙ omega arith

pub cut_whole : (bytes : List ℕ) → Whole (cut bytes)
cut_whole bytes = record {
  few = omega (arith, cut_length bytes);
  sized = λ s h.
      let below : s < sector_count bytes = omega (arith, cut_length bytes) in
      ap length (cut_at bytes s [] below) ∙ sector_length bytes s below;
}
