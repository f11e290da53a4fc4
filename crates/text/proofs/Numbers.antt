-- One turn of a loop over digits, and what the tests say of a field.
use Rattle.std.proofs.Common.{◌≡◌, ℕ, ◌+◌, ◌-◌, ◌*◌, ◌<◌, ◌≤◌, true, ◌⊎◌, List, [], ◌∷◌, length, get_or, drop, Ok, Err, inl, inr, refl, arith}
use Rattle.std.specs.Str.{all_ascii_digits}
use Rattle.std.specs.Char.{is_ascii_digit}
use Rattle.std.specs.List.{list_all}
use Rattle.std.proofs.lemmas.List.{at_drop_more}
use Rattle.std.proofs.lemmas.Bool.Decides.{nat_tests}
use Rattle.text.specs.declared.fault.Cause.TheVariants.{Size}
use Rattle.text.specs.Numerals.{read_on, value, numeral, number_up_to}

pub split_value : (n : ℕ) (xs : List ℕ) (i : ℕ) → i < length xs → read_on n (drop i xs) ≡ read_on (n * 10 + (get_or xs i 0 - 48)) (drop (i + 1) xs)
split_value n xs i h = at_drop_more (read_on n) xs i 0 h

pub read_on_ge : (n : ℕ) (cs : List ℕ) → n ≤ read_on n cs
read_on_ge n [] = omega arith
read_on_ge n (c ∷ cs) = omega (arith, read_on_ge (n * 10 + (c - 48)) cs)

pub too_big : (limit : ℕ) (xs : List ℕ) → numeral xs ≡ true → limit < value xs → Err Size ≡ number_up_to limit xs
too_big limit xs h g = grind (arith, nat_tests)

pub small_enough : (limit : ℕ) (xs : List ℕ) → numeral xs ≡ true → value xs ≤ limit → Ok (value xs) ≡ number_up_to limit xs
small_enough limit xs h g = grind (arith, nat_tests)

list_all_digits : (xs : List ℕ) → list_all is_ascii_digit xs ≡ all_ascii_digits xs
list_all_digits [] = refl
list_all_digits (c ∷ cs) = rw (list_all_digits cs) refl

-- a field is a numeral if it has digits only, where it has one byte or begins with no 0
pub numeral_from_digits : (xs : List ℕ) → 0 < length xs → (length xs < 2) ⊎ (get_or xs 0 0 ≡ 48 → ⊥) → list_all is_ascii_digit xs ≡ numeral xs
numeral_from_digits xs some (inl h) = let digits = list_all_digits xs in grind (arith, nat_tests)
numeral_from_digits xs some (inr h) = let digits = list_all_digits xs in grind (arith, nat_tests)
