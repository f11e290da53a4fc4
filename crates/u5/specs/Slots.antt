-- Numbers at the places of operands in a word.
use Rattle.std.specs.Prelude.{ℕ, ◌+◌, ◌*◌, ◌/◌, ◌%◌, ◌≤◌, List, [], ◌∷◌}
use Rattle.u5.specs.declared.operation.Slot.{Slot}
use Rattle.u5.specs.Operations.{largest}

-- as many numbers as operands, each small enough
abbrev pub InRange : List Slot → List ℕ → Type 0
InRange [] [] = Unit {0}
InRange [] (v ∷ vs) = ⊥
InRange (s ∷ ss) [] = ⊥
InRange (s ∷ ss) (v ∷ vs) = (v ≤ largest s.kind) × InRange ss vs

-- a word with numbers added at the places of its operands
abbrev pub placed : ℕ → List Slot → List ℕ → ℕ
placed w [] vs = w
placed w (s ∷ ss) [] = w
placed w (s ∷ ss) (v ∷ vs) = placed (w + v * s.weight) ss vs

-- what stands in a word at an operand's place
abbrev pub part : Slot → ℕ → ℕ
part s w = (w / s.weight) % (largest s.kind + 1)

abbrev pub parts : List Slot → ℕ → List ℕ
parts [] w = []
parts (s ∷ ss) w = part s w ∷ parts ss w
