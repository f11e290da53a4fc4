-- Tables of things that go by names.
use Rattle.std.specs.Prelude.{ℕ, List, Option}
use Rattle.std.specs.List.{find}
use Rattle.std.specs.Str.{bytes_eq}

-- the first in a table that goes by a name
abbrev pub called : {X : Type 0} → (X → List ℕ) → List ℕ → List X → Option X
called name field = find (λ x. bytes_eq field (name x))
