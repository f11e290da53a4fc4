-- The operations: how each is spelled, its opcode, and where its operands stand in a word.
use Rattle.std.specs.Prelude.{ℕ, ◌^◌, List, [], ◌∷◌, codes, Option, ◌==◌}
use Rattle.std.specs.List.{find}
use Rattle.u5.specs.declared.operation.Operation.{Operation}
use Rattle.u5.specs.declared.operation.Operation.TheVariants.{LoadB, LoadH, LoadW, StoreB, StoreH, StoreW, Add, Mul, Div, Nor, MovI, CMov, In, Out, Read, Write, Halt}
use Rattle.u5.specs.declared.operation.Kind.{Kind}
use Rattle.u5.specs.declared.operation.Kind.TheVariants.{Register, Number}
use Rattle.u5.specs.declared.operation.Slot.{Slot}
use Rattle.u5.specs.Tables.{called}

-- the largest number of a kind
abbrev pub largest : Kind → ℕ
largest Register = 63
largest (Number limit) = limit

-- a register, in the six bits from the one with this weight on
abbrev pub register_at : ℕ → Slot
register_at weight = record { kind = Register; weight = weight }

-- a number up to a limit, from the bit with this weight on
abbrev pub number_at : ℕ → ℕ → Slot
number_at limit weight = record { kind = Number limit; weight = weight }

-- A B C
abbrev pub three : List Slot
three = register_at (2 ^ 21) ∷ register_at (2 ^ 15) ∷ register_at (2 ^ 9) ∷ []

-- A B
abbrev pub two : List Slot
two = register_at (2 ^ 21) ∷ register_at (2 ^ 15) ∷ []

-- A
abbrev pub one : List Slot
one = register_at (2 ^ 21) ∷ []

-- R I S
abbrev pub moved : List Slot
moved = register_at (2 ^ 21) ∷ number_at 65535 (2 ^ 5) ∷ number_at 31 1 ∷ []

-- an operation's opcode, its spelling and its operands
pub record Row : Type 0 where
  pub code : ℕ
  pub name : List ℕ
  pub operands : List Slot

abbrev pub is : ℕ → List ℕ → List Slot → Row
is c n s = record { code = c; name = n; operands = s }

abbrev pub row : Operation → Row
row LoadB = is 0 (codes "LOADB") three
row LoadH = is 1 (codes "LOADH") three
row LoadW = is 2 (codes "LOADW") three
row StoreB = is 4 (codes "STOREB") three
row StoreH = is 5 (codes "STOREH") three
row StoreW = is 6 (codes "STOREW") three
row Add = is 8 (codes "ADD") three
row Mul = is 9 (codes "MUL") three
row Div = is 10 (codes "DIV") three
row Nor = is 11 (codes "NOR") three
row MovI = is 16 (codes "MOVI") moved
row CMov = is 18 (codes "CMOV") three
row In = is 24 (codes "IN") one
row Out = is 25 (codes "OUT") one
row Read = is 26 (codes "READ") two
row Write = is 27 (codes "WRITE") two
row Halt = is 31 (codes "HALT") []

abbrev pub opcode : Operation → ℕ
opcode o = (row o).code

abbrev pub spelling : Operation → List ℕ
spelling o = (row o).name

abbrev pub slots : Operation → List Slot
slots o = (row o).operands

-- the weight of the lowest bit that a last operand uses: the bits below it are unused
abbrev pub lowest : ℕ → List Slot → ℕ
lowest w [] = w
lowest w (s ∷ ss) = lowest s.weight ss

-- what lies in a word below the last operand is unused: with no operand, all below the opcode
abbrev pub unused : Operation → ℕ
unused o = lowest (2 ^ 27) (slots o)

unfoldable pub every : List Operation
every = LoadB ∷ LoadH ∷ LoadW ∷ StoreB ∷ StoreH ∷ StoreW ∷ Add ∷ Mul ∷ Div ∷ Nor ∷ MovI ∷ CMov ∷ In ∷ Out ∷ Read ∷ Write ∷ Halt ∷ []

-- the operation that is spelled so
abbrev pub named : List ℕ → Option Operation
named field = called spelling field every

-- the operation with this opcode
abbrev pub coded : ℕ → Option Operation
coded n = find (λ o. n == opcode o) (LoadB ∷ LoadH ∷ LoadW ∷ StoreB ∷ StoreH ∷ StoreW ∷ Add ∷ Mul ∷ Div ∷ Nor ∷ MovI ∷ CMov ∷ In ∷ Out ∷ Read ∷ Write ∷ Halt ∷ [])
