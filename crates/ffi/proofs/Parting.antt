-- A part of bytes, and what a write to it leaves.
use Rattle.std.proofs.Common.{◌≡◌, ℕ, ◌+◌, ◌-◌, ◌<◌, ◌≤◌, min, max, List, [], ◌++◌, length, get_or, take, drop, sym, refl, ap, ◌∙◌, subst, inl, inr, arith, length-append, length-drop, take-append-drop, length-take, rules}
use borrow.Rule.Slice.PartMut.{put_mid}
use Rattle.std.specs.List.{between}
use Rattle.std.proofs.lemmas.List.Edits.{get_or-between}
use Rattle.std.proofs.lemmas.List.{same_lists, nil_from_length, take_all, take_at}
use Rattle.std.proofs.lemmas.Slice.{between_is, take-put_mid_below, drop-put_mid, between-put_mid, drop-append-drop, overwrites}
use Rattle.std.proofs.lemmas.Bool.{cases_lt}
use Rattle.ffi.specs.Parts.{ElsewhereSame}

-- A part that is cut off where the bytes end is the part.
pub part_is : (xs : List ℕ) (from to begin end : ℕ) → end ≡ min to (length xs) → begin ≡ min from end → between begin end xs ≡ between from to xs
part_is xs from to begin end e b =
    same_lists _ _ (simp (length-take, length-drop) (omega arith))
    (λ k d h.
    let below : k < min (end - begin) (length xs - begin) = simp (length-take, length-drop) at h in
    let here : begin ≡ from = omega arith in
    get_or-between xs begin end k d (omega arith) ∙ ap (λ n. get_or xs (n + k) d) here ∙ sym (get_or-between xs from to k d (omega arith)))

-- A part before one that is written is as it was.
pub part_before : (xs ys : List ℕ) (i j at size : ℕ) → j ≤ at → at ≤ length xs → between i j (put_mid at size xs ys) ≡ between i j xs
part_before xs ys i j at size before within =
    between_is (put_mid at size xs ys) i j ∙ ap (λ l. drop i l) (take-put_mid_below at size xs ys j before within) ∙ sym (between_is xs i j)

module _ (xs ys : List ℕ) (from to begin end : ℕ) (ends : end ≡ min to (length xs)) (begins : begin ≡ min from end) (fits : length ys ≡ end - begin) where
  size_kept : length (put_mid begin (end - begin) xs ys) ≡ length xs
  size_kept = search (rules, overwrites)

  -- The part holds what was written.
  pub part_written : between from to (put_mid begin (end - begin) xs ys) ≡ ys
  part_written =
      let size = size_kept in
      let within : begin ≤ length xs = omega arith in
      sym (part_is (put_mid begin (end - begin) xs ys) from to begin end (ends ∙ ap (λ n. min to n) (sym size)) begins)
      ∙ between-put_mid begin (end - begin) xs ys end within fits

  untouched : end < from → put_mid begin (end - begin) xs ys ≡ xs
  untouched past =
      let at_end : begin ≡ end = omega arith in
      let none : end - begin ≡ 0 = omega arith in
      let nothing : ys ≡ [] = nil_from_length ys (fits ∙ none) in
      ap (λ n. put_mid begin n xs ys) none ∙ ap (λ l. put_mid begin 0 xs l) nothing ∙ take-append-drop begin xs

  -- Outside the part all is as it was.
  pub elsewhere : ElsewhereSame from to xs (put_mid begin (end - begin) xs ys)
  elsewhere =
      let within : begin ≤ length xs = omega arith in
      record {
        length_same = size_kept;
        front_same = elim (cases_lt end from) [ inl past ↦ ap (take from) (untouched past) | inr before ↦ take-put_mid_below begin (end - begin) xs ys from (omega arith) within ];
        rest_same = drop-put_mid begin (end - begin) xs ys (max from to) (omega arith) within fits;
      }

  -- What holds of the cut part before and after the write holds of the part.
  pub on_part : (P : List ℕ → List ℕ → Type 0) → P (between begin end xs) ys → P (between from to xs) (between from to (put_mid begin (end - begin) xs ys))
  on_part P h = subst (λ l. P l (between from to (put_mid begin (end - begin) xs ys))) (part_is xs from to begin end ends begins) (subst (λ l. P (between begin end xs) l) (sym part_written) h)

-- So many first bytes, cut off where the bytes end.
pub front_is : (xs : List ℕ) (size end : ℕ) → end ≡ min size (length xs) → take end xs ≡ take size xs
front_is xs size end ends =
    elim (cases_lt size (length xs)) [
      | inl short ↦ let same : end ≡ size = omega arith in ap (λ n. take n xs) same
      | inr long ↦ take_all end xs (omega arith) ∙ sym (take_all size xs (omega arith))
    ]

module _ (xs ys : List ℕ) (size end : ℕ) (ends : end ≡ min size (length xs)) (fits : length ys ≡ end) where
  front_size_kept : length (ys ++ drop end xs) ≡ length xs
  front_size_kept = simp (length-append, length-drop) (omega arith)

  -- The first bytes are what was written.
  pub front_written : take size (ys ++ drop end xs) ≡ ys
  front_written =
      let cut : take end (ys ++ drop end xs) ≡ take size (ys ++ drop end xs) = front_is (ys ++ drop end xs) size end (ends ∙ ap (λ n. min size n) (sym front_size_kept)) in
      sym cut ∙ take_at ys (drop end xs) end fits

  -- Past the first bytes all is as it was.
  pub past_front : ElsewhereSame 0 size xs (ys ++ drop end xs)
  past_front = record {
    length_same = front_size_kept;
    front_same = refl;
    rest_same = drop-append-drop end xs ys (max 0 size) (omega arith) fits;
  }

  -- What holds of the first bytes, cut off, before and after the write holds of the first bytes.
  pub on_front : (P : List ℕ → List ℕ → Type 0) → P (take end xs) ys → P (take size xs) (take size (ys ++ drop end xs))
  on_front P h = subst (λ l. P l (take size (ys ++ drop end xs))) (front_is xs size end ends) (subst (λ l. P (take end xs) l) (sym front_written) h)
