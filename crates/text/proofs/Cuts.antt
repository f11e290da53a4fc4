-- Pieces of a text: one step of a reader.
use Rattle.std.proofs.Common.{◌≡◌, ℕ, ◌+◌, ◌-◌, ◌<◌, ◌≤◌, false, not, eqb, leb, Some, None, List, [], ◌∷◌, length, take, drop, sym, ap, ◌∙◌, ⊎_elim, arith, length-drop}
use Rattle.std.specs.List.{position, position_or_len}
use Rattle.std.proofs.lemmas.List.{drop-drop, take_all}
use Rattle.std.proofs.lemmas.List.Elements.{All-from_get_or}
use Rattle.std.proofs.lemmas.List.Splits.{slice_split_none, slice_split_first}
use Rattle.std.proofs.lemmas.List.Sums.{prefix_len_passes, prefix_len-le-length}
use Rattle.std.proofs.lemmas.Bool.{not-true, lt-leb, cases_lt}
use Rattle.std.proofs.lemmas.Bool.Decides.{nat_tests}
use Rattle.text.specs.Pieces.{pieces, left}
use Rattle.text.proofs.Joins.{left_inside}

-- the first place that holds the mark, or the end
pub place_Some : (m : ℕ) (text : List ℕ) (at n : ℕ) → position (λ c. eqb c m) (drop at text) ≡ Some n → at + n ≡ at + position_or_len (λ c. eqb c m) (drop at text)
place_Some m text at n e = grind arith

pub place_None : (m : ℕ) (text : List ℕ) (at : ℕ) → at ≤ length text → position (λ c. eqb c m) (drop at text) ≡ None → length text ≡ at + position_or_len (λ c. eqb c m) (drop at text)
place_None m text at h e = grind (arith, nat_tests, length-drop at text, prefix_len-le-length (λ c. not (eqb c m)) (drop at text))

-- a piece ends where `find` says
module _ (m : ℕ) (text : List ℕ) (at end : ℕ) (place : end ≡ at + position_or_len (λ c. eqb c m) (drop at text)) where
  pub inner_piece : end < length text → pieces m (drop at text) ≡ take (end - at) (drop at text) ∷ pieces m (drop (end + 1) text)
  inner_piece inside =
      let n = position_or_len (λ c. eqb c m) (drop at text) in
      let size : n ≡ end - at = omega arith in
      let past : at + (n + 1) ≡ end + 1 = omega arith in
      let rest = drop-drop (n + 1) at text ∙ ap (λ i. drop i text) past in
      slice_split_first (λ c. eqb c m) (drop at text) 0 (omega (arith, length-drop at text)) ∙ (λ i. take (size i) (drop at text) ∷ pieces m (rest i))

  pub last_piece : end ≡ length text → pieces m (drop at text) ≡ drop at text ∷ []
  last_piece outside =
      slice_split_none (λ c. eqb c m) (drop at text)
      (All-from_get_or (λ c. eqb c m ≡ false) (drop at text) 0 (λ k h. not-true _ (prefix_len_passes (λ c. not (eqb c m)) (drop at text) k 0 (omega (arith, length-drop at text)))))

  pub next_piece : at ≤ length text → end ≤ length text → left m text at ≡ take (end - at) (drop at text) ∷ left m text (end + 1)
  next_piece here within =
      left_inside m text at here
      ∙ ⊎_elim
      (λ inside. inner_piece inside ∙ ap (λ ps. take (end - at) (drop at text) ∷ ps) (sym (left_inside m text (end + 1) (omega arith))))
      (λ outside.
      let none : leb (end + 1) (length text) ≡ false = lt-leb (end + 1) (length text) (omega arith) in
      let all : take (end - at) (drop at text) ≡ drop at text = take_all (end - at) (drop at text) (omega (arith, length-drop at text)) in
      rw (none, all) (last_piece (omega arith)))
      (cases_lt end (length text))
