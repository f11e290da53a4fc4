-- A part of a buffer that was lent to a read.
use Rattle.std.proofs.Common.{◌≡◌, ℕ, List, ◌++◌, take, drop, Ok, Err, Result, ap, ap₂, ◌∙◌}
use Rattle.std.proofs.lemmas.List.{drop-drop, take-append-drop}
use Rattle.disk.specs.declared.NoSuchSector.{NoSuchSector}
use Rattle.disk.specs.Disks.{Reads}
use Rattle.disk_tests.specs.Using.{ReadsAt}

pub lent_read : (ss : List (List ℕ)) (sector at : ℕ) (buffer front rest block left : List ℕ) (r : Result (Unit {0}) NoSuchSector)
    → front ≡ take at buffer → rest ≡ drop at buffer → block ≡ take 512 rest
    → Reads ss sector block r left → ReadsAt ss sector at buffer r (front ++ (left ++ drop 512 rest))
lent_read ss sector at buffer front rest block left (Ok _) f e b (lt, read) =
    (lt, ap₂ ◌++◌ f (ap₂ ◌++◌ read (ap (drop 512) e ∙ drop-drop 512 at buffer)))
lent_read ss sector at buffer front rest block left (Err _) f e b (past, same) =
    (past, ap₂ ◌++◌ f (ap (λ l. l ++ drop 512 rest) (same ∙ b) ∙ take-append-drop 512 rest ∙ e) ∙ take-append-drop at buffer)
