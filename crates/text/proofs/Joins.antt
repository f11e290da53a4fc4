-- The pieces of a text, joined again, are the text, and none has the mark in it.
use Rattle.std.proofs.Common.{◌≡◌, ℕ, ◌+◌, ◌<◌, ◌≤◌, eqb, leb, List, [], ◌∷◌, length, drop, ⊎_elim, arith}
use Rattle.std.specs.List.{AllByRecursion, onto_first}
use Rattle.std.proofs.lemmas.List.Splits.{slice_split-cons_yes, slice_split-cons_no, length-slice_split, join_with_byte-slice_split}
use Rattle.std.proofs.lemmas.List.Sums.{count_by-le-length}
use Rattle.std.proofs.lemmas.Bool.{cases_Bool, cond-true, eqb-false, le-leb}
use Rattle.text.specs.Pieces.{pieces, joined, Lacks, left}

-- there is always a piece
pub some_pieces : (mark : ℕ) (text : List ℕ) → 0 < length (pieces mark text)
some_pieces mark text = omega (arith, length-slice_split (λ c. eqb c mark) text)

-- a text has at most one piece more than bytes
pub few_pieces : (mark : ℕ) (text : List ℕ) → length (pieces mark text) ≤ length text + 1
few_pieces mark text = omega (arith, length-slice_split (λ c. eqb c mark) text, count_by-le-length (λ c. eqb c mark) text)

pub pieces_join : (mark : ℕ) (text : List ℕ) → joined mark (pieces mark text) ≡ text
pieces_join mark text = join_with_byte-slice_split mark text

lacks_onto_first : (mark c : ℕ) (ps : List (List ℕ)) → (c ≡ mark → ⊥) → AllByRecursion (Lacks mark) ps → AllByRecursion (Lacks mark) (onto_first c ps)
lacks_onto_first mark c [] ne all = ((ne, tt), tt)
lacks_onto_first mark c (p ∷ ps) ne (h, all) = ((ne, h), all)

pub pieces_lack : (mark : ℕ) (text : List ℕ) → AllByRecursion (Lacks mark) (pieces mark text)
pieces_lack mark [] = (tt, tt)
pieces_lack mark (c ∷ text) =
    ⊎_elim
    (λ t. rw (slice_split-cons_yes (λ x. eqb x mark) c text t) (tt, pieces_lack mark text))
    (λ f. rw (slice_split-cons_no (λ x. eqb x mark) c text f) (lacks_onto_first mark c (pieces mark text) (eqb-false c mark f) (pieces_lack mark text)))
    (cases_Bool (eqb c mark))

-- from a place within the text on there is a piece
pub left_inside : (mark : ℕ) (text : List ℕ) (at : ℕ) → at ≤ length text → left mark text at ≡ pieces mark (drop at text)
left_inside mark text at h = cond-true (leb at (length text)) (pieces mark (drop at text)) [] (le-leb at (length text) h)

pub some_left : (mark : ℕ) (text : List ℕ) (at : ℕ) → at ≤ length text → 0 < length (left mark text at)
some_left mark text at h = rw (left_inside mark text at h) (some_pieces mark (drop at text))
