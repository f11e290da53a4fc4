-- Numbers in a text.
use Rattle.std.specs.Prelude.{◌≡◌, ℕ, zero, suc, ◌+◌, ◌-◌, ◌*◌, ◌/◌, ◌%◌, ◌<◌, ◌≤◌, Bool, true, false, cond, not, ◌&&◌, List, [], ◌∷◌, ◌++◌, length, Ok, Err, Result, ◌==◌, nat_le, nat_lt, slice_index}
use Rattle.std.specs.Str.{all_ascii_digits}
use Rattle.text.specs.declared.fault.Cause.{Cause}
use Rattle.text.specs.declared.fault.Cause.TheVariants.{Spelling, Digits, Size, Missing, Extra, End}

-- the number that digits spell after those that spelled n
abbrev pub read_on : ℕ → List ℕ → ℕ
read_on n [] = n
read_on n (c ∷ cs) = read_on (n * 10 + (c - 48)) cs

abbrev pub value : List ℕ → ℕ
value field = read_on 0 field

-- some digits, of which the first is 0 only if it is the last
abbrev pub numeral : List ℕ → Bool
numeral field = nat_lt 0 (length field) && (not (slice_index field 0 == 48 && nat_lt 1 (length field)) && all_ascii_digits field)

-- the number that a field spells: what is no numeral is told before what is too large
abbrev pub number_up_to : ℕ → List ℕ → Result ℕ Cause
number_up_to limit field = cond (numeral field) (cond (nat_le (value field) limit) (Ok (value field)) (Err Size)) (Err Digits)

-- the digits of a number, at most k of them
abbrev pub digits_by : ℕ → ℕ → List ℕ
digits_by zero n = []
digits_by (suc k) n = cond (nat_lt n 10) ((48 + n) ∷ []) (digits_by k (n / 10) ++ ((48 + n % 10) ∷ []))

-- how a number below 2 ^ 32 is spelled
unfoldable pub spelled : ℕ → List ℕ
spelled n = digits_by 10 n

-- a field spells a number that does not pass the limit
pub record Spelled (limit : ℕ) (field : List ℕ) (n : ℕ) : Type 0 where
  pub small : n ≤ limit
  pub digits : field ≡ spelled n

-- why a field spells no number up to the limit: DIGITS where it is no numeral, SIZE where its number is too large
abbrev pub WrongNumber : ℕ → List ℕ → Cause → Type 0
WrongNumber limit field Digits = numeral field ≡ false
WrongNumber limit field Size = (numeral field ≡ true) × (limit < value field)
WrongNumber limit field Spelling = ⊥
WrongNumber limit field Missing = ⊥
WrongNumber limit field Extra = ⊥
WrongNumber limit field End = ⊥
