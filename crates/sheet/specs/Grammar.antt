-- How a sheet is written, in the words of its reader.
use Rattle.std.specs.Prelude.{◌≡◌, ℕ, ◌≤◌, List, [], ◌∷◌, codes}
use Rattle.text.specs.Numerals.{spelled}
use Rattle.text.specs.Pieces.{pieces}
use Rattle.processor.specs.Names.{ending_name}
use Rattle.sheet.specs.declared.mark.Mark.{Mark}
use Rattle.sheet.specs.declared.mark.Mark.TheVariants.{Word, Byte, Stored, Ends}

-- points are 1 to 1,000
pub record Fair (points : ℕ) : Type 0 where
  pub some : 1 ≤ points
  pub few : points ≤ 1000

-- The fields of a line tell a mark: its letter, its numbers as they are spelled, and its points.
abbrev pub Tells : List (List ℕ) → Mark → Type 0
Tells fields (Word r word points) =
    (fields ≡ codes "R" ∷ spelled r.number ∷ spelled word ∷ spelled points ∷ []) × (word ≤ 4294967295) × Fair points
Tells fields (Byte address byte points) =
    (fields ≡ codes "M" ∷ spelled address ∷ spelled byte ∷ spelled points ∷ []) × (address ≤ 1048575) × (byte ≤ 255) × Fair points
Tells fields (Stored sector offset byte points) =
    (fields ≡ codes "D" ∷ spelled sector ∷ spelled offset ∷ spelled byte ∷ spelled points ∷ []) × (sector ≤ 65535) × (offset ≤ 511) × (byte ≤ 255) × Fair points
Tells fields (Ends e points) =
    (fields ≡ codes "E" ∷ ending_name e ∷ spelled points ∷ []) × Fair points

-- Lines tell marks, one each; after the last newline nothing follows.
pub data Tell : List (List ℕ) → List Mark → Type 0 where
  no_lines : Tell ([] ∷ []) []
  one_line : {line : List ℕ} {lines : List (List ℕ)} {m : Mark} {ms : List Mark} → Tells (pieces 9 line) m → Tell lines ms → Tell (line ∷ lines) (m ∷ ms)
