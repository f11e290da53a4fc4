-- What list answers, and what the buffer holds then.
use Rattle.std.specs.Prelude.{◌≡◌, ℕ, ◌*◌, ◌/◌, ◌%◌, ◌<◌, ◌≤◌, ◌⊎◌, List, [], ◌∷◌, ◌++◌, length, Ok, Err, codes, Result, ◌≢◌}
use Rattle.text.specs.Numerals.{spelled}
use Rattle.u5.specs.declared.instruction.Instruction.{Instruction}
use Rattle.u5.specs.declared.operation.Slot.{Slot}
use Rattle.u5.specs.Operations.{spelling, slots}
use Rattle.u5.specs.Words.{operation, values, encoded}
use Rattle.assembler.specs.declared.lister.ListRefusal.{ListRefusal}
use Rattle.assembler.specs.declared.lister.ListRefusal.TheVariants.{TooLong, Partial, Room}
use Rattle.assembler.specs.Grammar.{Spells}
use Rattle.assembler.specs.Listing.{operand_text, words_at}
use Rattle.assembler.specs.Writes.{Appended}

-- the number of each refusal
abbrev pub list_refusal_number : ListRefusal → ℕ
list_refusal_number TooLong = 7
list_refusal_number Partial = 10
list_refusal_number Room = 9

-- operands as they are listed, each after a tab
abbrev pub operand_texts : List Slot → List ℕ → List ℕ
operand_texts [] vs = []
operand_texts (s ∷ ss) [] = []
operand_texts (s ∷ ss) (v ∷ vs) = 9 ∷ (operand_text s.kind v ++ operand_texts ss vs)

abbrev pub instruction_line : Instruction → List ℕ
instruction_line i = spelling (operation i) ++ operand_texts (slots (operation i)) (values i)

abbrev pub word_line : ℕ → List ℕ
word_line w = codes "WORD" ++ (9 ∷ spelled w)

-- the line of a word: that of the instruction whose exact encoding the word is, and where it is none's, WORD and the word as a number
abbrev pub LineOf : ℕ → List ℕ → Type 0
LineOf w line =
    ((i : Instruction) × (encoded i ≡ w) × (line ≡ instruction_line i))
    ⊎ (((i : Instruction) → encoded i ≢ w) × (line ≡ word_line w))

-- the one line of a word: it spells the word
pub record OneLine (w : ℕ) : Type 0 where
  pub line : List ℕ
  pub of : LineOf w line
  pub only : (other : List ℕ) → LineOf w other → other ≡ line
  pub spells : Spells line w
  pub short : length line < 19

-- as many lines as words, each of its word, and with its newline at most 19 bytes long
abbrev pub LineOfEach : List ℕ → List (List ℕ) → Type 0
LineOfEach [] [] = Unit {0}
LineOfEach [] (l ∷ ls) = ⊥
LineOfEach (w ∷ ws) [] = ⊥
LineOfEach (w ∷ ws) (l ∷ ls) = LineOf w l × (length l < 19) × LineOfEach ws ls

-- lines, each ended by a newline
abbrev pub ended : List (List ℕ) → List ℕ
ended [] = []
ended (l ∷ ls) = l ++ (10 ∷ ended ls)

-- what can be listed: at most 13,312 bytes, four a word, and 19 output bytes for each word
pub record Listable (words : List ℕ) : Type 0 where
  pub short : length words ≤ 13312
  pub whole : length words % 4 ≡ 0

-- the buffer begins with the lines of the words, and the rest is as it was
pub record Listed (words out : List ℕ) (count : ℕ) (after : List ℕ) : Type 0 where
  pub listable : Listable words
  pub room : 19 * (length words / 4) ≤ length out
  pub lines : List (List ℕ)
  pub each : LineOfEach (words_at words) lines
  pub written : Appended out 0 (ended lines) after count

abbrev pub Lists : List ℕ → List ℕ → Result ℕ ListRefusal → List ℕ → Type 0
Lists words out (Ok count) after = Listed words out count after
Lists words out (Err TooLong) after = (13312 < length words) × (after ≡ out)
Lists words out (Err Partial) after = (length words ≤ 13312) × (length words % 4 ≢ 0) × (after ≡ out)
Lists words out (Err Room) after = Listable words × (length out < 19 * (length words / 4)) × (after ≡ out)
