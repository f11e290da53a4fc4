-- The sectors of an overlay are whole where those below are.
use Rattle.std.specs.Prelude.{◌≡◌, ℕ, suc, ◌<◌, List, [], ◌∷◌, length, ◌==◌, slice_index_or}
use Rattle.std.specs.List.{All}
use Rattle.std.proofs.Common.{ap, ◌∙◌, arith}
use Rattle.std.proofs.lemmas.List.FromFn.{length-map-range_with_len, get_or-map-range_with_len}
use Rattle.std.proofs.lemmas.Bool.{cond_both}
use Rattle.disk.specs.Disks.{Whole}
use Rattle.overlay.specs.declared.entry.Entry.{Entry}
use Rattle.overlay.specs.Entries.{over, looked_up, IsSized}
use Rattle.overlay.specs.Layers.{laid}

pub laid_length : (es : List Entry) (below : List (List ℕ)) → length (laid es below) ≡ length below
unfolding laid
laid_length es below = length-map-range_with_len (λ s. over es s (slice_index_or below s [])) 0 (length below)

pub laid_at : (es : List Entry) (below : List (List ℕ)) (s : ℕ) (d : List ℕ) → s < length below → slice_index_or (laid es below) s d ≡ over es s (slice_index_or below s [])
unfolding laid
laid_at es below s d h = get_or-map-range_with_len (λ s. over es s (slice_index_or below s [])) 0 (length below) s s d h (omega arith)

-- What an entry has for a sector is as long as a sector.
over_sized : (es : List Entry) (s : ℕ) (d : List ℕ) → All IsSized es → length d ≡ 512 → length (over es s d) ≡ 512
unfolding looked_up
over_sized [] s d sized full = full
over_sized (e ∷ es) s d sized full =
    cond_both (e.sector == s) e.bytes (over es s d) (λ bytes. length bytes ≡ 512)
    (λ _. sized 0 e (omega arith))
    (λ _. over_sized es s d (λ k b h. sized (suc k) b (omega arith)) full)

pub laid_whole : (es : List Entry) (below : List (List ℕ)) → All IsSized es → Whole below → Whole (laid es below)
laid_whole es below sized whole = record {
  few = omega (arith, laid_length es below, whole.few);
  sized = λ s h.
      let lt : s < length below = omega (arith, laid_length es below) in
      ap length (laid_at es below s [] lt) ∙ over_sized es s (slice_index_or below s []) sized (whole.sized s lt);
}
