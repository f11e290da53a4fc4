-- Registers and memory as lists of numbers.
use Rattle.std.specs.Prelude.{ℕ, ◌+◌, ◌-◌, ◌/◌, ◌%◌, ◌^◌, cond, List, [], ◌∷◌, ◌++◌, take, drop, ◌==◌, slice_index, slice_set}
use Rattle.std.specs.Int.Digits.{number_from_digits}

-- the low 32 bits
abbrev pub low : ℕ → ℕ
low n = n % 2 ^ 32

-- The words after v went to register r: a write to r0 has no effect.
abbrev pub written : List ℕ → ℕ → ℕ → List ℕ
written words r v = cond (r == 0) words (slice_set words r v)

-- The words once r63 has moved on to the next instruction.
abbrev pub moved_on : List ℕ → List ℕ
moved_on words = written words 63 (low (slice_index words 63 + 4))

-- The number that bytes are, the most significant first.
abbrev pub number_of : List ℕ → ℕ
number_of bytes = number_from_digits 256 bytes

-- The last bytes of the four that a word is.
abbrev pub last_bytes : ℕ → ℕ → List ℕ
last_bytes width v = drop (4 - width) ((v / 2 ^ 24 % 256) ∷ (v / 2 ^ 16 % 256) ∷ (v / 2 ^ 8 % 256) ∷ (v % 256) ∷ [])

-- Memory after `width` new bytes went to an address.
abbrev pub overwritten : ℕ → ℕ → List ℕ → List ℕ → List ℕ
overwritten at width new memory = take at memory ++ (new ++ drop (at + width) memory)
