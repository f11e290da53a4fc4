-- What is first wrong with a line, in the words of the grammar.
use Rattle.std.specs.Prelude.{◌≡◌, ℕ, ◌+◌, ◌⊎◌, List, [], ◌∷◌, ◌++◌, length, ◌≢◌}
use Rattle.text.specs.declared.fault.Cause.{Cause}
use Rattle.text.specs.declared.fault.Cause.TheVariants.{Spelling, Missing, Extra}
use Rattle.text.specs.Numerals.{WrongNumber}
use Rattle.text.specs.Pieces.{pieces}
use Rattle.u5.specs.declared.operation.Kind.{Kind}
use Rattle.u5.specs.declared.operation.Kind.TheVariants.{Register, Number}
use Rattle.u5.specs.declared.operation.Slot.{Slot}
use Rattle.assembler.specs.declared.keyword.Keyword.{Keyword}
use Rattle.assembler.specs.Keywords.{spelling, slots}
use Rattle.assembler.specs.Grammar.{Names, NamesEach}

-- a field is wrong as an operand: it names no register, or it spells no number that is small enough
abbrev pub Wrong : Kind → List ℕ → Cause → Type 0
Wrong Register field cause = (cause ≡ Spelling) × ((n : ℕ) → Names Register field n → ⊥)
Wrong (Number limit) field cause = WrongNumber limit field cause

-- what is wrong where the next operand is due: the field, or that there is none, or that there is one too many
abbrev pub WrongHere : List Slot → List (List ℕ) → Cause → Type 0
WrongHere [] [] cause = ⊥
WrongHere [] (f ∷ fs) cause = cause ≡ Extra
WrongHere (s ∷ ss) [] cause = cause ≡ Missing
WrongHere (s ∷ ss) (f ∷ fs) cause = Wrong s.kind f cause

-- the first wrong field among operands, which begin at the second field: those before it name their operands
pub record FirstWrong (due : List Slot) (fields : List (List ℕ)) (field : ℕ) (cause : Cause) : Type 0 where
  pub passed : List Slot
  pub due_here : List Slot
  pub good : List (List ℕ)
  pub here : List (List ℕ)
  pub values : List ℕ
  pub due_cut : due ≡ passed ++ due_here
  pub cut : fields ≡ good ++ here
  pub named : NamesEach passed good values
  pub place : field ≡ 2 + length good
  pub wrong : WrongHere due_here here cause

-- the first field spells no keyword, or it does and an operand is wrong
abbrev pub FaultyFields : List (List ℕ) → ℕ → Cause → Type 0
FaultyFields [] field cause = ⊥
FaultyFields (f ∷ fs) field cause =
    ((field ≡ 1) × (cause ≡ Spelling) × ((k : Keyword) → f ≢ spelling k))
    ⊎ ((k : Keyword) × (f ≡ spelling k) × FirstWrong (slots k) fs field cause)

-- the line's first wrong field, and its cause
abbrev pub FaultyLine : List ℕ → ℕ → Cause → Type 0
FaultyLine line field cause = FaultyFields (pieces 9 line) field cause
