-- What a sheet gives.
use Rattle.std.specs.Prelude.{◌≡◌, ℕ, ◌<◌, ◌≤◌, List, length, Ok, Err, Result}
use Rattle.text.specs.declared.fault.Fault.{Fault}
use Rattle.processor.specs.declared.ending.Ending.{Ending}
use Rattle.processor.specs.Machine.{Processor}
use Rattle.sheet.specs.declared.mark.Mark.{Mark}
use Rattle.sheet.specs.declared.refusal.SheetRefusal.{SheetRefusal}
use Rattle.sheet.specs.declared.refusal.SheetRefusal.TheVariants.{TooLong, Form}
use Rattle.text.specs.Pieces.{pieces}
use Rattle.sheet.specs.Marks.{Earn}
use Rattle.sheet.specs.Grammar.{Tell}
use Rattle.sheet.specs.Lines.{marks}

-- what marks that were read give together; a fault is handed on
abbrev pub Score : Processor → List (List ℕ) → Ending → Result (List Mark) Fault → Result ℕ Fault → Type 0
Score p ss e read (Ok points) = (ms : List Mark) × (read ≡ Ok ms) × Earn p ss e ms points
Score p ss e read (Err fault) = read ≡ Err fault

-- The points that a sheet gives to registers and memory, sectors and an ending: its lines tell marks, and these earn them. Or why it gives none.
abbrev pub Gives : Processor → List (List ℕ) → Ending → List ℕ → Result ℕ SheetRefusal → Type 0
Gives p ss e sheet (Ok points) = (length sheet ≤ 65536) × ((ms : List Mark) × Tell (pieces 10 sheet) ms × Earn p ss e ms points)
Gives p ss e sheet (Err TooLong) = 65536 < length sheet
Gives p ss e sheet (Err (Form fault)) = (length sheet ≤ 65536) × (marks sheet ≡ Err fault)
