-- A text cut at each place that holds a mark.
use Rattle.std.specs.Prelude.{ℕ, cond, List, [], length, drop, ◌==◌, ◌≢◌, nat_le, count_by}
use Rattle.std.specs.List.{AllByRecursion, slice_split, join_with_byte}

-- the pieces between the marks, of which there is at least one
abbrev pub pieces : ℕ → List ℕ → List (List ℕ)
pieces mark text = slice_split (λ c. c == mark) text

-- pieces with a mark between each and the next
abbrev pub joined : ℕ → List (List ℕ) → List ℕ
joined mark ps = join_with_byte mark ps

-- no place of a piece holds the mark
abbrev pub Lacks : ℕ → List ℕ → Type 0
Lacks mark piece = AllByRecursion (λ c. c ≢ mark) piece

-- the pieces from a place on, where one begins; past the end there is none
abbrev pub left : ℕ → List ℕ → ℕ → List (List ℕ)
left mark text at = cond (nat_le at (length text)) (pieces mark (drop at text)) []

abbrev pub newlines : List ℕ → ℕ
newlines text = count_by (λ c. c == 10) text
