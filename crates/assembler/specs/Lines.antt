-- The word that a line spells, or its first wrong field, computed field by field.
use Rattle.std.specs.Prelude.{◌≡◌, ℕ, suc, ◌+◌, ◌*◌, cond, ◌&&◌, ◌⊎◌, List, [], ◌∷◌, length, drop, Some, None, Ok, Err, Option, Result, ◌==◌, nat_lt, slice_index}
use Rattle.text.specs.declared.fault.Cause.{Cause}
use Rattle.text.specs.declared.fault.Cause.TheVariants.{Spelling, Missing, Extra}
use Rattle.text.specs.declared.fault.FieldFault.{FieldFault}
use Rattle.text.specs.Faults.{at_field, in_field}
use Rattle.text.specs.Numerals.{number_up_to}
use Rattle.text.specs.Pieces.{pieces}
use Rattle.u5.specs.declared.operation.Kind.{Kind}
use Rattle.u5.specs.declared.operation.Kind.TheVariants.{Register, Number}
use Rattle.u5.specs.declared.operation.Slot.{Slot}
use Rattle.u5.specs.Registers.{aliased}
use Rattle.assembler.specs.declared.keyword.Keyword.{Keyword}
use Rattle.assembler.specs.Keywords.{base, slots, keyword_of}

-- a number up to 63, or no register's name
abbrev pub numbered : Result ℕ Cause → Result ℕ Cause
numbered (Ok n) = Ok n
numbered (Err cause) = Err Spelling

abbrev pub unless_alias : Option ℕ → List ℕ → Result ℕ Cause
unless_alias (Some n) field = Ok n
unless_alias None field = cond (nat_lt 0 (length field) && slice_index field 0 == 114) (numbered (number_up_to 63 (drop 1 field))) (Err Spelling)

-- the register that a field names: by its alias, or by r and its number
abbrev pub register_of : List ℕ → Result ℕ Cause
register_of field = unless_alias (aliased field) field

abbrev pub read_as : Kind → List ℕ → Result ℕ Cause
read_as Register field = register_of field
read_as (Number limit) field = number_up_to limit field

-- an operand was read from the next field; a fault is the field's, or that there is none
abbrev pub OperandRead : List (List ℕ) → Kind → ℕ → Result ℕ FieldFault → List (List ℕ) → Type 0
OperandRead before kind i (Ok v) after = (f : List ℕ) × (before ≡ f ∷ after) × (read_as kind f ≡ Ok v)
OperandRead before kind i (Err fault) after =
    ((before ≡ []) × (fault ≡ at_field i Missing))
    ⊎ ((f : List ℕ) × (before ≡ f ∷ after) × ((c : Cause) × (read_as kind f ≡ Err c) × (fault ≡ at_field i c)))

abbrev pub and_then : {X Y : Type 0} → Result X FieldFault → (X → Result Y FieldFault) → Result Y FieldFault
and_then (Ok x) next = next x
and_then (Err fault) next = Err fault

-- the operands from the field i on, added to the word so far
abbrev pub operands : ℕ → ℕ → List Slot → List (List ℕ) → Result ℕ FieldFault
operands i w [] [] = Ok w
operands i w [] (f ∷ fs) = Err (at_field i Extra)
operands i w (s ∷ ss) [] = Err (at_field i Missing)
operands i w (s ∷ ss) (f ∷ fs) = and_then (in_field (read_as s.kind f) i) (λ v. operands (suc i) (w + v * s.weight) ss fs)

abbrev pub from_keyword : Result Keyword FieldFault → List (List ℕ) → Result ℕ FieldFault
from_keyword (Ok k) fs = operands 2 (base k) (slots k) fs
from_keyword (Err fault) fs = Err fault

abbrev pub from_fields : List (List ℕ) → Result ℕ FieldFault
from_fields [] = Err (at_field 1 Missing)
from_fields (f ∷ fs) = from_keyword (in_field (keyword_of f) 1) fs

abbrev pub line_word : List ℕ → Result ℕ FieldFault
line_word line = from_fields (pieces 9 line)
