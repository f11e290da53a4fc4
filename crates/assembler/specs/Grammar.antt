-- What a line says, as a grammar.
use Rattle.std.specs.Prelude.{◌≡◌, ℕ, ◌^◌, ◌<◌, ◌⊎◌, List, [], ◌∷◌, codes}
use Rattle.text.specs.Numerals.{spelled, Spelled}
use Rattle.text.specs.Pieces.{pieces}
use Rattle.u5.specs.declared.instruction.Instruction.{Instruction}
use Rattle.u5.specs.declared.operation.Kind.{Kind}
use Rattle.u5.specs.declared.operation.Kind.TheVariants.{Register, Number}
use Rattle.u5.specs.declared.operation.Slot.{Slot}
use Rattle.u5.specs.Operations.{spelling, slots}
use Rattle.u5.specs.Registers.{alias}
use Rattle.u5.specs.Words.{operation, values, encoded}

-- a register goes by r and its number, or by its alias; a number by its digits
abbrev pub Names : Kind → List ℕ → ℕ → Type 0
Names Register field n = (n < 64) × ((field ≡ 114 ∷ spelled n) ⊎ (field ≡ alias n))
Names (Number limit) field n = Spelled limit field n

-- as many fields as operands, each naming its own
abbrev pub NamesEach : List Slot → List (List ℕ) → List ℕ → Type 0
NamesEach [] [] [] = Unit {0}
NamesEach [] [] (v ∷ vs) = ⊥
NamesEach [] (f ∷ fs) vs = ⊥
NamesEach (s ∷ ss) [] vs = ⊥
NamesEach (s ∷ ss) (f ∷ fs) [] = ⊥
NamesEach (s ∷ ss) (f ∷ fs) (v ∷ vs) = Names s.kind f v × NamesEach ss fs vs

-- the line says the instruction: its operation's spelling, and then its operands, parted by tabs
pub record Says (line : List ℕ) (i : Instruction) : Type 0 where
  pub operands : List (List ℕ)
  pub cut : pieces 9 line ≡ spelling (operation i) ∷ operands
  pub named : NamesEach (slots (operation i)) operands (values i)

-- the line gives the word as a number
pub record Gives (line : List ℕ) (word : ℕ) : Type 0 where
  pub small : word < 2 ^ 32
  pub cut : pieces 9 line ≡ codes "WORD" ∷ (spelled word ∷ [])

-- the line spells the word: it says an instruction that is encoded so, or gives the word
abbrev pub Spells : List ℕ → ℕ → Type 0
Spells line word = ((i : Instruction) × Says line i × (encoded i ≡ word)) ⊎ Gives line word
