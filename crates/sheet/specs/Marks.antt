-- What a mark looks for, and what the marks of a sheet earn.
use Rattle.std.specs.Prelude.{◌≡◌, ℕ, zero, ◌+◌, ◌<◌, List, [], ◌∷◌, length, slice_index, slice_index_or}
use Rattle.processor.specs.declared.ending.Ending.{Ending}
use Rattle.processor.specs.Machine.{Processor}
use Rattle.processor.specs.Effects.{value}
use Rattle.sheet.specs.declared.mark.Mark.{Mark}
use Rattle.sheet.specs.declared.mark.Mark.TheVariants.{Word, Byte, Stored, Ends}

abbrev pub points_of : Mark → ℕ
points_of (Word r word points) = points
points_of (Byte address byte points) = points
points_of (Stored sector offset byte points) = points
points_of (Ends e points) = points

-- the byte is at this address, and at this offset of this sector
abbrev pub InMemory : List ℕ → ℕ → ℕ → Type 0
InMemory memory address byte = (address < length memory) × (slice_index memory address ≡ byte)

abbrev pub OnDisk : List (List ℕ) → ℕ → ℕ → ℕ → Type 0
OnDisk ss sector offset byte = (sector < length ss) × InMemory (slice_index_or ss sector []) offset byte

-- The value is there: at a place that does not exist there is none.
abbrev pub Holds : Processor → List (List ℕ) → Ending → Mark → Type 0
Holds p ss e (Word r word points) = value p r ≡ word
Holds p ss e (Byte address byte points) = InMemory p.memory address byte
Holds p ss e (Stored sector offset byte points) = OnDisk ss sector offset byte
Holds p ss e (Ends e' points) = e ≡ e'

-- A mark earns its points where its value is there, and none elsewhere.
pub data Earns (p : Processor) (ss : List (List ℕ)) (e : Ending) (m : Mark) : ℕ → Type 0 where
  all_points : Holds p ss e m → Earns p ss e m (points_of m)
  no_points : (Holds p ss e m → ⊥) → Earns p ss e m zero

-- What the marks of a sheet earn together.
pub data Earn (p : Processor) (ss : List (List ℕ)) (e : Ending) : List Mark → ℕ → Type 0 where
  no_marks : Earn p ss e [] zero
  one_mark : {m : Mark} {ms : List Mark} {n k : ℕ} → Earns p ss e m n → Earn p ss e ms k → Earn p ss e (m ∷ ms) (n + k)
