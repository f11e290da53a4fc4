-- The words that encode the instructions. From its top bit down an R word has five bits of opcode, six of A, six of B, six of C and nine unused;
-- an I word has the five bits 10000, six bits of R, sixteen of I and five of S.
use Rattle.std.specs.Prelude.{ℕ, ◌+◌, ◌*◌, ◌/◌, ◌%◌, ◌^◌, List, [], ◌∷◌, Option, ◌≢◌}
use Rattle.std.specs.Option.{option_map}
use Rattle.std.proofs.Common.{arith}
use Rattle.u5.specs.declared.operand.Register.{Register}
use Rattle.u5.specs.declared.operand.Immediate.{Immediate}
use Rattle.u5.specs.declared.operand.Shift.{Shift}
use Rattle.u5.specs.declared.operation.Operation.{Operation}
use Rattle.u5.specs.declared.operation.Operation.TheVariants as o
use Rattle.u5.specs.declared.instruction.Instruction.{Instruction}
use Rattle.u5.specs.declared.instruction.Instruction.TheVariants.{LoadB, LoadH, LoadW, StoreB, StoreH, StoreW, Add, Mul, Div, Nor, MovI, CMov, In, Out, Read, Write, Halt}
use Rattle.u5.specs.Operations.{opcode, coded}

abbrev pub operation : Instruction → Operation
operation (LoadB a b c) = o.LoadB
operation (LoadH a b c) = o.LoadH
operation (LoadW a b c) = o.LoadW
operation (StoreB a b c) = o.StoreB
operation (StoreH a b c) = o.StoreH
operation (StoreW a b c) = o.StoreW
operation (Add a b c) = o.Add
operation (Mul a b c) = o.Mul
operation (Div a b c) = o.Div
operation (Nor a b c) = o.Nor
operation (MovI r i s) = o.MovI
operation (CMov a b c) = o.CMov
operation (In a) = o.In
operation (Out a) = o.Out
operation (Read a b) = o.Read
operation (Write a b) = o.Write
operation Halt = o.Halt

-- the numbers of an instruction's operands, in order
abbrev pub values : Instruction → List ℕ
values (LoadB a b c) = a.number ∷ b.number ∷ c.number ∷ []
values (LoadH a b c) = a.number ∷ b.number ∷ c.number ∷ []
values (LoadW a b c) = a.number ∷ b.number ∷ c.number ∷ []
values (StoreB a b c) = a.number ∷ b.number ∷ c.number ∷ []
values (StoreH a b c) = a.number ∷ b.number ∷ c.number ∷ []
values (StoreW a b c) = a.number ∷ b.number ∷ c.number ∷ []
values (Add a b c) = a.number ∷ b.number ∷ c.number ∷ []
values (Mul a b c) = a.number ∷ b.number ∷ c.number ∷ []
values (Div a b c) = a.number ∷ b.number ∷ c.number ∷ []
values (Nor a b c) = a.number ∷ b.number ∷ c.number ∷ []
values (MovI r i s) = r.number ∷ i.value ∷ s.places ∷ []
values (CMov a b c) = a.number ∷ b.number ∷ c.number ∷ []
values (In a) = a.number ∷ []
values (Out a) = a.number ∷ []
values (Read a b) = a.number ∷ b.number ∷ []
values (Write a b) = a.number ∷ b.number ∷ []
values Halt = []

-- the word of an operation with no operand, with A, with A B, with A B C
abbrev pub bare : Operation → ℕ
bare op = opcode op * 2 ^ 27

abbrev pub one : Operation → Register → ℕ
one op a = opcode op * 2 ^ 27 + a.number * 2 ^ 21

abbrev pub two : Operation → Register → Register → ℕ
two op a b = opcode op * 2 ^ 27 + a.number * 2 ^ 21 + b.number * 2 ^ 15

abbrev pub three : Operation → Register → Register → Register → ℕ
three op a b c = opcode op * 2 ^ 27 + a.number * 2 ^ 21 + b.number * 2 ^ 15 + c.number * 2 ^ 9

-- the word of MOVI, with R I S
abbrev pub moved : Register → Immediate → Shift → ℕ
moved r i s = opcode o.MovI * 2 ^ 27 + r.number * 2 ^ 21 + i.value * 2 ^ 5 + s.places

-- the word of an instruction
abbrev pub encoded : Instruction → ℕ
encoded (LoadB a b c) = three o.LoadB a b c
encoded (LoadH a b c) = three o.LoadH a b c
encoded (LoadW a b c) = three o.LoadW a b c
encoded (StoreB a b c) = three o.StoreB a b c
encoded (StoreH a b c) = three o.StoreH a b c
encoded (StoreW a b c) = three o.StoreW a b c
encoded (Add a b c) = three o.Add a b c
encoded (Mul a b c) = three o.Mul a b c
encoded (Div a b c) = three o.Div a b c
encoded (Nor a b c) = three o.Nor a b c
encoded (MovI r i s) = moved r i s
encoded (CMov a b c) = three o.CMov a b c
encoded (In a) = one o.In a
encoded (Out a) = one o.Out a
encoded (Read a b) = two o.Read a b
encoded (Write a b) = two o.Write a b
encoded Halt = bare o.Halt

-- the last six, sixteen and five bits of a number
abbrev pub register : ℕ → Register
register n = record { number = n % 64; below = omega arith }

abbrev pub immediate : ℕ → Immediate
immediate n = record { value = n % 65536; below = omega arith }

abbrev pub shift : ℕ → Shift
shift n = record { places = n % 32; below = omega arith }

-- A, B and C of a word; R stands where A does
abbrev pub field_a : ℕ → Register
field_a w = register (w / 2 ^ 21)

abbrev pub field_b : ℕ → Register
field_b w = register (w / 2 ^ 15)

abbrev pub field_c : ℕ → Register
field_c w = register (w / 2 ^ 9)

-- an operation with the operands that stand in a word
abbrev pub instruction : Operation → ℕ → Instruction
instruction o.LoadB w = LoadB (field_a w) (field_b w) (field_c w)
instruction o.LoadH w = LoadH (field_a w) (field_b w) (field_c w)
instruction o.LoadW w = LoadW (field_a w) (field_b w) (field_c w)
instruction o.StoreB w = StoreB (field_a w) (field_b w) (field_c w)
instruction o.StoreH w = StoreH (field_a w) (field_b w) (field_c w)
instruction o.StoreW w = StoreW (field_a w) (field_b w) (field_c w)
instruction o.Add w = Add (field_a w) (field_b w) (field_c w)
instruction o.Mul w = Mul (field_a w) (field_b w) (field_c w)
instruction o.Div w = Div (field_a w) (field_b w) (field_c w)
instruction o.Nor w = Nor (field_a w) (field_b w) (field_c w)
instruction o.MovI w = MovI (field_a w) (immediate (w / 2 ^ 5)) (shift w)
instruction o.CMov w = CMov (field_a w) (field_b w) (field_c w)
instruction o.In w = In (field_a w)
instruction o.Out w = Out (field_a w)
instruction o.Read w = Read (field_a w) (field_b w)
instruction o.Write w = Write (field_a w) (field_b w)
instruction o.Halt w = Halt

-- the instruction that a word encodes: the opcode says the operation, and bits that it does not use are ignored
unfoldable pub decoded : ℕ → Option Instruction
decoded w = option_map (λ op. instruction op w) (coded (w / 2 ^ 27))

-- no operation has this opcode
abbrev pub Unknown : ℕ → Type 0
Unknown code = (op : Operation) → opcode op ≢ code
