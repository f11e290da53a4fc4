-- Bytes as chunks of 512 are the sectors that they are cut into.
use Rattle.std.proofs.Common.{◌≡◌, ℕ, zero, suc, ◌+◌, ◌-◌, ◌*◌, ◌/◌, ◌≤◌, List, ◌∷◌, map, length, take, drop, refl, ap, ap₂, ◌∙◌, arith}
use Rattle.std.specs.List.{range_with_len}
use Rattle.std.specs.Simd.{first_chunks}
use Rattle.std.proofs.lemmas.List.{drop-drop}
use Rattle.disk.specs.Cuts.{cut, sector_at, sector_count}

chunks_from : (j k m : ℕ) (bytes xs : List ℕ) → j ≤ k → xs ≡ drop (m * 512) bytes → take j (first_chunks 512 k xs) ≡ map (sector_at bytes) (range_with_len m j)
chunks_from zero k m bytes xs h is = refl
chunks_from (suc j) zero m bytes xs h is = absurd (omega arith)
chunks_from (suc j) (suc k) m bytes xs h is =
    ap₂ ◌∷◌
    (ap (take 512) is ∙ ap (λ n. take n (drop (m * 512) bytes)) {x = 512} {y = m * 512 + 512 - m * 512} (omega arith))
    (chunks_from j k (m + 1) bytes (drop 512 xs) (omega arith) (ap (drop 512) is ∙ drop-drop 512 (m * 512) bytes ∙ ap (λ n. drop n bytes) {x = m * 512 + 512} {y = (m + 1) * 512} (omega arith)))

pub first_chunks_cut : (bytes : List ℕ) (n : ℕ) → n ≡ sector_count bytes → take n (first_chunks 512 (length bytes / 512) bytes) ≡ cut bytes
unfolding cut
first_chunks_cut bytes n is =
    ap (λ j. take j (first_chunks 512 (length bytes / 512) bytes)) is ∙ chunks_from (sector_count bytes) (length bytes / 512) 0 bytes bytes (omega arith) refl
