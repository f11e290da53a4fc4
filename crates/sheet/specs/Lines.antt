-- The mark that a line tells, or its first wrong field, computed field by field.
use Rattle.std.specs.Prelude.{ℕ, suc, cond, List, [], ◌∷◌, length, Some, None, Ok, Err, Option, Result, ◌==◌, slice_index}
use Rattle.text.specs.declared.fault.Cause.{Cause}
use Rattle.text.specs.declared.fault.Cause.TheVariants.{Spelling, Size, Missing, Extra, End}
use Rattle.text.specs.declared.fault.FieldFault.{FieldFault}
use Rattle.text.specs.declared.fault.Fault.{Fault}
use Rattle.text.specs.Faults.{at_field, at_line, in_field, on_line}
use Rattle.text.specs.Numerals.{number_up_to}
use Rattle.text.specs.Pieces.{pieces}
use Rattle.processor.specs.declared.ending.Ending.{Ending}
use Rattle.processor.specs.Names.{ending_named}
use Rattle.u5.specs.Words.{register}
use Rattle.sheet.specs.declared.mark.Mark.{Mark}
use Rattle.sheet.specs.declared.mark.Mark.TheVariants.{Word, Byte, Stored, Ends}

abbrev pub and_then : {X Y E : Type 0} → Result X E → (X → Result Y E) → Result Y E
and_then (Ok x) next = next x
and_then (Err fault) next = Err fault

-- a number that points may be
abbrev pub at_least_one : ℕ → Result ℕ Cause
at_least_one n = cond (n == 0) (Err Size) (Ok n)

abbrev pub points_in : List ℕ → Result ℕ Cause
points_in field = and_then (number_up_to 1000 field) at_least_one

abbrev pub spelled_ending : Option Ending → Result Ending Cause
spelled_ending (Some e) = Ok e
spelled_ending None = Err Spelling

abbrev pub ending_in : List ℕ → Result Ending Cause
ending_in field = spelled_ending (ending_named field)

-- what was read in a field, and the fields after it
abbrev pub with_rest : {X : Type 0} → Result X FieldFault → List (List ℕ) → Result (X × List (List ℕ)) FieldFault
with_rest (Ok x) rest = Ok (x, rest)
with_rest (Err fault) rest = Err fault

-- the next field, which is the one with this number, by a reader of fields
abbrev pub next : {X : Type 0} → (List ℕ → Result X Cause) → ℕ → List (List ℕ) → Result (X × List (List ℕ)) FieldFault
next read i [] = Err (at_field i Missing)
next read i (f ∷ fs) = with_rest (in_field (read f) i) fs

-- the points, with which a line ends
abbrev pub ended : ℕ → ℕ → List (List ℕ) → Result ℕ FieldFault
ended i points [] = Ok points
ended i points (f ∷ fs) = Err (at_field i Extra)

abbrev pub last_points : ℕ → List (List ℕ) → Result ℕ FieldFault
last_points i fs = and_then (next points_in i fs) (λ x. ended (suc i) x.0 x.1)

-- what follows the letter: a register number, a word and points
abbrev pub word_mark : List (List ℕ) → Result Mark FieldFault
word_mark fs =
    and_then (next (number_up_to 63) 2 fs) (λ x.
    and_then (next (number_up_to 4294967295) 3 x.1) (λ y.
    and_then (last_points 4 y.1) (λ points. Ok (Word (register x.0) y.0 points))))

-- an address, a byte and points
abbrev pub byte_mark : List (List ℕ) → Result Mark FieldFault
byte_mark fs =
    and_then (next (number_up_to 1048575) 2 fs) (λ x.
    and_then (next (number_up_to 255) 3 x.1) (λ y.
    and_then (last_points 4 y.1) (λ points. Ok (Byte x.0 y.0 points))))

-- a sector, an offset, a byte and points
abbrev pub stored_mark : List (List ℕ) → Result Mark FieldFault
stored_mark fs =
    and_then (next (number_up_to 65535) 2 fs) (λ x.
    and_then (next (number_up_to 511) 3 x.1) (λ y.
    and_then (next (number_up_to 255) 4 y.1) (λ z.
    and_then (last_points 5 z.1) (λ points. Ok (Stored x.0 y.0 z.0 points)))))

-- an ending's name and points
abbrev pub ends_mark : List (List ℕ) → Result Mark FieldFault
ends_mark fs =
    and_then (next ending_in 2 fs) (λ x.
    and_then (last_points 3 x.1) (λ points. Ok (Ends x.0 points)))

-- the letter that a field is
abbrev pub letter_of : List ℕ → Result ℕ Cause
letter_of field = cond (length field == 1) (Ok (slice_index field 0)) (Err Spelling)

-- R, M, D and E
abbrev pub by_letter : ℕ → List (List ℕ) → Result Mark FieldFault
by_letter c fs =
    cond (c == 82) (word_mark fs)
    (cond (c == 77) (byte_mark fs)
    (cond (c == 68) (stored_mark fs)
    (cond (c == 69) (ends_mark fs)
    (Err (at_field 1 Spelling)))))

abbrev pub from_fields : List (List ℕ) → Result Mark FieldFault
from_fields fs = and_then (next letter_of 1 fs) (λ x. by_letter x.0 x.1)

-- the mark that a line tells
abbrev pub line_mark : List ℕ → Result Mark FieldFault
line_mark line = from_fields (pieces 9 line)

abbrev pub onward : Mark → Result (List Mark) Fault → Result (List Mark) Fault
onward m (Ok ms) = Ok (m ∷ ms)
onward m (Err fault) = Err fault

-- a line, and then the lines below it
abbrev pub with_line : Result Mark Fault → Result (List Mark) Fault → Result (List Mark) Fault
with_line (Ok m) rest = onward m rest
with_line (Err fault) rest = Err fault

-- the marks of the lines from the i-th on; what follows the last newline has to be empty
abbrev pub marks_from : ℕ → List (List ℕ) → Result (List Mark) Fault
marks_from i [] = Ok []
marks_from i (p ∷ []) = cond (length p == 0) (Ok []) (Err (at_line i (at_field 0 End)))
marks_from i (p ∷ q ∷ ps) = with_line (on_line (line_mark p) i) (marks_from (suc i) (q ∷ ps))

-- the marks of a sheet, or its first fault
unfoldable pub marks : List ℕ → Result (List Mark) Fault
marks sheet = marks_from 1 (pieces 10 sheet)
