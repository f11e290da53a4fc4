-- The words that a text spells, or its first fault, computed line by line.
use Rattle.std.specs.Prelude.{ℕ, suc, ◌/◌, ◌%◌, ◌^◌, cond, List, [], ◌∷◌, length, Ok, Err, Result, ◌==◌}
use Rattle.text.specs.declared.fault.Cause.TheVariants.{End}
use Rattle.text.specs.declared.fault.Fault.{Fault}
use Rattle.text.specs.Faults.{at_field, at_line, on_line}
use Rattle.assembler.specs.Lines.{line_word}

abbrev pub onward : ℕ → Result (List ℕ) Fault → Result (List ℕ) Fault
onward w (Ok ws) = Ok (w ∷ ws)
onward w (Err fault) = Err fault

-- a line, and then the lines below it
abbrev pub with_line : Result ℕ Fault → Result (List ℕ) Fault → Result (List ℕ) Fault
with_line (Ok w) rest = onward w rest
with_line (Err fault) rest = Err fault

-- the words of the lines from the i-th on; what follows the last newline has to be empty
abbrev pub words_from : ℕ → List (List ℕ) → Result (List ℕ) Fault
words_from i [] = Ok []
words_from i (p ∷ []) = cond (length p == 0) (Ok []) (Err (at_line i (at_field 0 End)))
words_from i (p ∷ q ∷ ps) = with_line (on_line (line_word p) i) (words_from (suc i) (q ∷ ps))

abbrev pub counted : Result (List ℕ) Fault → Result ℕ Fault
counted (Ok ws) = Ok (length ws)
counted (Err fault) = Err fault

abbrev pub words_of : Result (List ℕ) Fault → List ℕ
words_of (Ok ws) = ws
words_of (Err fault) = []

-- four bytes a word, the most significant first
abbrev pub bytes : List ℕ → List ℕ
bytes [] = []
bytes (w ∷ ws) = w / 2 ^ 24 % 256 ∷ w / 2 ^ 16 % 256 ∷ w / 2 ^ 8 % 256 ∷ w % 256 ∷ bytes ws
