-- What assemble answers, and what the buffer holds then.
use Rattle.std.specs.Prelude.{◌≡◌, ℕ, ◌*◌, ◌<◌, ◌≤◌, ◌⊎◌, List, length, Ok, Err, Result}
use Rattle.text.specs.Pieces.{newlines}
use Rattle.assembler.specs.declared.assembler.AssembleRefusal.{AssembleRefusal}
use Rattle.assembler.specs.declared.assembler.AssembleRefusal.TheVariants.{TooLong, Form, Room}
use Rattle.assembler.specs.Programs.{SpellsText, FirstFault}
use Rattle.assembler.specs.Texts.{bytes}
use Rattle.assembler.specs.Writes.{Appended}

-- the number of each refusal
abbrev pub assemble_refusal_number : AssembleRefusal → ℕ
assemble_refusal_number TooLong = 7
assemble_refusal_number (Form fault) = 8
assemble_refusal_number Room = 9

-- the largest text: 65,536 bytes and 3,328 newlines
pub record WithinLimits (text : List ℕ) : Type 0 where
  pub short : length text ≤ 65536
  pub few : newlines text ≤ 3328

-- the buffer begins with the words that the text spells, most significant byte first, and the rest is as it was
pub record Assembled (text out : List ℕ) (count : ℕ) (after : List ℕ) : Type 0 where
  pub limits : WithinLimits text
  pub words : List ℕ
  pub spells : SpellsText text words
  pub four_each : count ≡ 4 * length words
  pub written : Appended out 0 (bytes words) after count

-- the text spells words for which there is too little room
pub record Crowded (text out : List ℕ) : Type 0 where
  pub words : List ℕ
  pub spells : SpellsText text words
  pub too_many : length out < 4 * length words

abbrev pub Assembles : List ℕ → List ℕ → Result ℕ AssembleRefusal → List ℕ → Type 0
Assembles text out (Ok count) after = Assembled text out count after
Assembles text out (Err TooLong) after = ((65536 < length text) ⊎ (3328 < newlines text)) × (after ≡ out)
Assembles text out (Err (Form fault)) after = WithinLimits text × FirstFault text fault × (after ≡ out)
Assembles text out (Err Room) after = WithinLimits text × Crowded text out × (after ≡ out)
