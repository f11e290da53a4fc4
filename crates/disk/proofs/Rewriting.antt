-- A write to one sector's bytes is a write to that sector of the cut.
use Rattle.std.proofs.Common.{◌≡◌, ℕ, ◌+◌, ◌-◌, ◌*◌, ◌/◌, ◌<◌, ◌≤◌, min, ◌≢◌, List, length, get_or, take, drop, set, Ok, Err, Result, sym, refl, ap, ◌∙◌, inl, ⊎_elim, arith}
use borrow.Rule.Slice.PartMut.{put_mid}
use Rattle.std.proofs.lemmas.Slice.{between-put_mid, between_is, take-put_mid_below, drop-put_mid}
use Rattle.std.proofs.lemmas.List.{same_lists, get_or-set_same, get_or-set_other, length-set, length-append, length-take, length-drop, take-take, drop-drop}
use Rattle.std.proofs.lemmas.Bool.{cases_eq, cases_lt}
use Rattle.disk.specs.declared.WriteRefusal.{WriteRefusal}
use Rattle.disk.specs.declared.WriteRefusal.TheVariants.{NoSuchSector, NoKeep}
use Rattle.disk.specs.Disks.{Writes}
use Rattle.disk.specs.Cuts.{cut, imaged, sector_at, sector_count, Rewritten, Rewrites}
use Rattle.disk.specs.WholeCuts.{cut_length, cut_at, sector_inside}

-- What lies in front of the written sector is the same, and so is each sector there.
earlier_sector_same : (before after : List ℕ) (s k : ℕ) → k < s → take (s * 512) after ≡ take (s * 512) before → sector_at after k ≡ sector_at before k
earlier_sector_same before after s k less same =
    let le : k * 512 + 512 ≤ s * 512 = omega arith in
    between_is after (k * 512) (k * 512 + 512)
    ∙ ap (drop (k * 512)) (sym (take-take (k * 512 + 512) (s * 512) after le) ∙ ap (take (k * 512 + 512)) same ∙ take-take (k * 512 + 512) (s * 512) before le)
    ∙ sym (between_is before (k * 512) (k * 512 + 512))

-- The same for what lies behind it.
later_sector_same : (before after : List ℕ) (s k : ℕ) → s < k → drop (s * 512 + 512) after ≡ drop (s * 512 + 512) before → sector_at after k ≡ sector_at before k
later_sector_same before after s k more same =
    let far : k * 512 ≡ (s * 512 + 512) + (k * 512 - (s * 512 + 512)) = omega arith in
    let past : (bytes : List ℕ) → drop (k * 512) bytes ≡ drop (k * 512 - (s * 512 + 512)) (drop (s * 512 + 512) bytes) =
    λ bytes. ap (λ n. drop n bytes) far ∙ sym (drop-drop (k * 512 - (s * 512 + 512)) (s * 512 + 512) bytes) in
    ap (take (k * 512 + 512 - k * 512)) (past after ∙ ap (drop (k * 512 - (s * 512 + 512))) same ∙ sym (past before))

module _ (before : List ℕ) (s : ℕ) (block after : List ℕ) (below : s < sector_count before) (w : Rewritten before s block after) where
  other_sector_same : (k : ℕ) → k ≢ s → sector_at after k ≡ sector_at before k
  other_sector_same k ne =
      ⊎_elim
      (λ (less : k < s). earlier_sector_same before after s k less w.front_same)
      (λ (more : s ≤ k). later_sector_same before after s k (omega (arith, ne)) w.rest_same)
      (cases_lt k s)

  count_same : sector_count after ≡ sector_count before
  count_same = ap (λ n. min (n / 512) 65536) w.length_same

  pub cut_rewritten : cut after ≡ set (cut before) s block
  cut_rewritten =
      same_lists _ _
      (cut_length after ∙ count_same ∙ sym (cut_length before) ∙ sym (length-set (cut before) s block))
      (λ k d within.
      let in_after : k < sector_count after = omega (arith, cut_length after) in
      let in_before : k < sector_count before = omega (arith, count_same) in
      cut_at after k d in_after
      ∙ ⊎_elim
      (λ (same : k ≡ s).
      ap (sector_at after) same
      ∙ w.holds
      ∙ sym (get_or-set_same (cut before) s block d (omega (arith, cut_length before)))
      ∙ ap (λ n. get_or (set (cut before) s block) n d) (sym same))
      (λ (ne : k ≢ s). other_sector_same k ne ∙ sym (cut_at before k d in_before) ∙ sym (get_or-set_other (cut before) s k block d ne))
      (cases_eq k s))

-- A block that was copied over the part of a sector.
pub copied_over : (bytes : List ℕ) (s width : ℕ) (block new : List ℕ) → s < sector_count bytes → width ≡ 512 → new ≡ block → length block ≡ 512 → Rewritten bytes s block (put_mid (s * 512) width bytes new)
copied_over bytes s width block new below wide copied full =
    let i = sector_inside bytes s below in
    let from : s * 512 ≤ length bytes = omega arith in
    let size : length new ≡ width = ap length copied ∙ full ∙ sym wide in
    record {
      length_same = simp (length-append, length-take, length-drop) (omega arith);
      holds = between-put_mid (s * 512) width bytes new (s * 512 + 512) from (omega arith) ∙ copied;
      front_same = take-put_mid_below (s * 512) width bytes new (s * 512) (omega arith) from;
      rest_same = drop-put_mid (s * 512) width bytes new (s * 512 + 512) (omega arith) from size;
    }

-- What a write leaves in the bytes is what it leaves of the disk that they are.
pub image_written : (before : List ℕ) (s : ℕ) (block : List ℕ) (r : Result (Unit {0}) WriteRefusal) (after : List ℕ) → Rewrites before s block r after → Writes (imaged before) s block r (imaged after)
image_written before s block (Ok _) after (below, w) = (
  omega (arith, cut_length before),
  record {
    holds = cut_rewritten before s block after below w;
    kept_now = refl;
    kept_others = λ _ _. refl;
    paid = inl (refl, refl);
  },
)
image_written before s block (Err NoSuchSector) after (past, same) = (omega (arith, cut_length before), ap imaged same)
image_written before s block (Err NoKeep) after never = absurd never
