-- What can be wrong with a text, and how a fault gains its place.
use Rattle.std.specs.Prelude.{ℕ, List, Ok, Err, codes, Result}
use Rattle.text.specs.declared.fault.Cause.{Cause}
use Rattle.text.specs.declared.fault.Cause.TheVariants.{Spelling, Digits, Size, Missing, Extra, End}
use Rattle.text.specs.declared.fault.FieldFault.{FieldFault}
use Rattle.text.specs.declared.fault.Fault.{Fault}

-- how each cause is told
abbrev pub cause_name : Cause → List ℕ
cause_name Spelling = codes "SPELLING"
cause_name Digits = codes "DIGITS"
cause_name Size = codes "SIZE"
cause_name Missing = codes "MISSING"
cause_name Extra = codes "EXTRA"
cause_name End = codes "END"

abbrev pub at_field : ℕ → Cause → FieldFault
at_field i cause = record { field = i; cause = cause }

abbrev pub at_line : ℕ → FieldFault → Fault
at_line i fault = record { line = i; field = fault.field; cause = fault.cause }

-- what was read in a field
abbrev pub in_field : {X : Type 0} → Result X Cause → ℕ → Result X FieldFault
in_field (Ok value) i = Ok value
in_field (Err cause) i = Err (at_field i cause)

-- what was read on a line
abbrev pub on_line : {X : Type 0} → Result X FieldFault → ℕ → Result X Fault
on_line (Ok value) i = Ok value
on_line (Err fault) i = Err (at_line i fault)
