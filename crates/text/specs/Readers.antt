-- What readers of lines and fields hand out.
use Rattle.std.specs.Prelude.{◌≡◌, ℕ, ◌<◌, List, [], ◌∷◌, length, Some, None, Ok, Err, Option, Result}
use Rattle.std.specs.Borrow.{Bor}
use Rattle.text.specs.declared.fault.Cause.TheVariants.{Missing, Extra, End}
use Rattle.text.specs.declared.fault.FieldFault.{FieldFault}
use Rattle.text.specs.Faults.{at_field}

-- the next field is handed out; where there is none, it is missing
abbrev pub Hands : List (List ℕ) → ℕ → Result (Bor (List ℕ)) FieldFault → List (List ℕ) → Type 0
Hands before number (Ok field) after = before ≡ field.now ∷ after
Hands before number (Err fault) after = (before ≡ []) × (after ≡ before) × (fault ≡ at_field number Missing)

-- no field is left; one that is would be too many
abbrev pub Ends : List (List ℕ) → ℕ → Result (Unit {0}) FieldFault → Type 0
Ends rest number (Ok _) = rest ≡ []
Ends rest number (Err fault) = (0 < length rest) × (fault ≡ at_field number Extra)

-- the next line is handed out; at the end nothing is left but an empty piece; a last line without its newline is END in field 0
abbrev pub Advances : List (List ℕ) → Result (Option (Bor (List ℕ))) FieldFault → List (List ℕ) → Type 0
Advances before (Ok (Some line)) after = before ≡ line.now ∷ after
Advances before (Ok None) after = (before ≡ [] ∷ []) × (after ≡ before)
Advances before (Err fault) after = ((last : List ℕ) × (0 < length last) × (before ≡ last ∷ [])) × (after ≡ before) × (fault ≡ at_field 0 End)
