-- The line of a word, computed from the word.
use Rattle.std.specs.Prelude.{ℕ, ◌+◌, ◌*◌, cond, List, [], ◌∷◌, ◌++◌, Some, None, Option, ◌==◌}
use Rattle.text.specs.Numerals.{spelled}
use Rattle.u5.specs.declared.instruction.Instruction.{Instruction}
use Rattle.u5.specs.declared.operation.Kind.{Kind}
use Rattle.u5.specs.declared.operation.Kind.TheVariants.{Register, Number}
use Rattle.u5.specs.declared.operation.Slot.{Slot}
use Rattle.u5.specs.Registers.{alias}
use Rattle.u5.specs.Slots.{part}
use Rattle.u5.specs.Words.{operation, encoded, decoded}
use Rattle.assembler.specs.declared.keyword.Keyword.{Keyword}
use Rattle.assembler.specs.declared.keyword.Keyword.TheVariants.{Of, Word}
use Rattle.assembler.specs.Keywords.{spelling, slots}

-- an operand as it is listed: a register by its alias, a number by its digits
abbrev pub operand_text : Kind → ℕ → List ℕ
operand_text Register n = alias n
operand_text (Number limit) n = spelled n

-- the operation whose exact encoding the word is, or else WORD
abbrev pub exactly : Option Instruction → ℕ → Keyword
exactly (Some i) w = cond (encoded i == w) (Of (operation i)) Word
exactly None w = Word

abbrev pub listed_as : ℕ → Keyword
listed_as w = exactly (decoded w) w

-- the operands that stand in a word, each after a tab
abbrev pub tail : List Slot → ℕ → List ℕ
tail [] w = []
tail (s ∷ ss) w = 9 ∷ (operand_text s.kind (part s w) ++ tail ss w)

abbrev pub line_as : Keyword → ℕ → List ℕ
line_as k w = spelling k ++ tail (slots k) w

abbrev pub listed : ℕ → List ℕ
listed w = line_as (listed_as w) w

-- the text of words, a line each
abbrev pub listing : List ℕ → List ℕ
listing [] = []
listing (w ∷ ws) = listed w ++ (10 ∷ listing ws)

-- the words that bytes hold, four bytes each, the most significant first
abbrev pub words_at : List ℕ → List ℕ
words_at [] = []
words_at (a ∷ []) = []
words_at (a ∷ b ∷ []) = []
words_at (a ∷ b ∷ c ∷ []) = []
words_at (a ∷ b ∷ c ∷ d ∷ rest) = (a * 16777216 + b * 65536 + c * 256 + d) ∷ words_at rest
