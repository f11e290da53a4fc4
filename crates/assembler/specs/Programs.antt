-- What a text says, as a grammar, and what is first wrong with it.
use Rattle.std.specs.Prelude.{◌≡◌, ℕ, ◌+◌, ◌<◌, List, [], ◌∷◌, ◌++◌, length}
use Rattle.text.specs.declared.fault.Cause.TheVariants.{End}
use Rattle.text.specs.declared.fault.Fault.{Fault}
use Rattle.text.specs.Pieces.{pieces}
use Rattle.assembler.specs.Grammar.{Spells}
use Rattle.assembler.specs.Faults.{FaultyLine}

-- as many lines as words, each spelling its own
abbrev pub SpellsEach : List (List ℕ) → List ℕ → Type 0
SpellsEach [] [] = Unit {0}
SpellsEach [] (w ∷ ws) = ⊥
SpellsEach (l ∷ ls) [] = ⊥
SpellsEach (l ∷ ls) (w ∷ ws) = Spells l w × SpellsEach ls ws

-- the text spells the words: a line each, ended by a newline, and nothing after the last
pub record SpellsText (text words : List ℕ) : Type 0 where
  pub lines : List (List ℕ)
  pub cut : pieces 10 text ≡ lines ++ ([] ∷ [])
  pub spelled : SpellsEach lines words

-- what is wrong with the line that comes next: that its newline is missing, which comes before its fields, or a field
abbrev pub WrongLine : List (List ℕ) → Fault → Type 0
WrongLine [] fault = ⊥
WrongLine (p ∷ []) fault = (0 < length p) × (fault.field ≡ 0) × (fault.cause ≡ End)
WrongLine (p ∷ q ∷ ps) fault = FaultyLine p fault.field fault.cause

-- the first wrong line: those before it spell words
pub record FirstFault (text : List ℕ) (fault : Fault) : Type 0 where
  pub good : List (List ℕ)
  pub here : List (List ℕ)
  pub words : List ℕ
  pub cut : pieces 10 text ≡ good ++ here
  pub spelled : SpellsEach good words
  pub place : fault.line ≡ 1 + length good
  pub wrong : WrongLine here fault
