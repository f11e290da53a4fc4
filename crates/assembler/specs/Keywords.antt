-- What a line begins with: an operation's spelling, or WORD, which gives a word as a number.
use Rattle.std.specs.Prelude.{ℕ, ◌-◌, ◌^◌, cond, List, [], ◌∷◌, Some, None, Ok, Err, codes, Option, Result}
use Rattle.std.specs.Str.{bytes_eq}
use Rattle.text.specs.declared.fault.Cause.{Cause}
use Rattle.text.specs.declared.fault.Cause.TheVariants.{Spelling}
use Rattle.u5.specs.declared.operation.Operation.{Operation}
use Rattle.u5.specs.declared.operation.Slot.{Slot}
use Rattle.u5.specs.Operations.{number_at, named}
use Rattle.u5.specs.Operations as operations
use Rattle.u5.specs.Words.{bare}
use Rattle.assembler.specs.declared.keyword.Keyword.{Keyword}
use Rattle.assembler.specs.declared.keyword.Keyword.TheVariants.{Of, Word}

abbrev pub spelling : Keyword → List ℕ
spelling (Of o) = operations.spelling o
spelling Word = codes "WORD"

-- the word with every operand 0
abbrev pub base : Keyword → ℕ
base (Of o) = bare o
base Word = 0

-- WORD has one operand, the word as a number
abbrev pub slots : Keyword → List Slot
slots (Of o) = operations.slots o
slots Word = number_at (2 ^ 32 - 1) 1 ∷ []

abbrev pub operation_of : Option Operation → Result Keyword Cause
operation_of (Some o) = Ok (Of o)
operation_of None = Err Spelling

-- the keyword that a field spells
abbrev pub keyword_of : List ℕ → Result Keyword Cause
keyword_of field = cond (bytes_eq field (codes "WORD")) (Ok Word) (operation_of (named field))
