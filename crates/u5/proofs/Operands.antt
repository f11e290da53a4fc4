-- Instructions by their operation and the numbers of their operands.
use Rattle.std.proofs.Common.{◌≡◌, ℕ, ◌+◌, ◌*◌, ◌/◌, ◌%◌, ◌^◌, ◌<◌, ◌≤◌, List, [], ◌∷◌, refl, arith}
use Rattle.u5.specs.declared.operand.Register.{Register}
use Rattle.u5.specs.declared.operand.Immediate.{Immediate}
use Rattle.u5.specs.declared.operand.Shift.{Shift}
use Rattle.u5.specs.declared.operation.Operation.{Operation}
use Rattle.u5.specs.declared.operation.Operation.TheVariants as o
use Rattle.u5.specs.declared.instruction.Instruction.{Instruction}
use Rattle.u5.specs.declared.instruction.Instruction.TheVariants.{LoadB, LoadH, LoadW, StoreB, StoreH, StoreW, Add, Mul, Div, Nor, MovI, CMov, In, Out, Read, Write, Halt}
use Rattle.u5.specs.Operations.{slots, three, two, one, moved}
use Rattle.u5.specs.Slots.{InRange, placed, parts}
use Rattle.u5.specs.Words.{operation, values, encoded, bare}

-- the word of an instruction is its operands placed after its opcode
pub encoded_placed : (i : Instruction) → encoded i ≡ placed (bare (operation i)) (slots (operation i)) (values i)
encoded_placed (LoadB a b c) = refl
encoded_placed (LoadH a b c) = refl
encoded_placed (LoadW a b c) = refl
encoded_placed (StoreB a b c) = refl
encoded_placed (StoreH a b c) = refl
encoded_placed (StoreW a b c) = refl
encoded_placed (Add a b c) = refl
encoded_placed (Mul a b c) = refl
encoded_placed (Div a b c) = refl
encoded_placed (Nor a b c) = refl
encoded_placed (MovI r i s) = omega arith
encoded_placed (CMov a b c) = refl
encoded_placed (In a) = refl
encoded_placed (Out a) = refl
encoded_placed (Read a b) = refl
encoded_placed (Write a b) = refl
encoded_placed Halt = refl

-- what stands in an instruction's word is its operands
module _ (n : ℕ) where
  three_parts : (a b c : Register) → parts three (placed (n * 2 ^ 27) three (a.number ∷ b.number ∷ c.number ∷ [])) ≡ a.number ∷ b.number ∷ c.number ∷ []
  three_parts a b c =
      let w = n * 2 ^ 27 + a.number * 2 ^ 21 + b.number * 2 ^ 15 + c.number * 2 ^ 9 in
      let pa : w / 2 ^ 21 % 64 ≡ a.number = omega arith in
      let pb : w / 2 ^ 15 % 64 ≡ b.number = omega arith in
      let pc : w / 2 ^ 9 % 64 ≡ c.number = omega arith in
      λ i. pa i ∷ pb i ∷ pc i ∷ []

  two_parts : (a b : Register) → parts two (placed (n * 2 ^ 27) two (a.number ∷ b.number ∷ [])) ≡ a.number ∷ b.number ∷ []
  two_parts a b =
      let w = n * 2 ^ 27 + a.number * 2 ^ 21 + b.number * 2 ^ 15 in
      let pa : w / 2 ^ 21 % 64 ≡ a.number = omega arith in
      let pb : w / 2 ^ 15 % 64 ≡ b.number = omega arith in
      λ i. pa i ∷ pb i ∷ []

  one_parts : (a : Register) → parts one (placed (n * 2 ^ 27) one (a.number ∷ [])) ≡ a.number ∷ []
  one_parts a =
      let w = n * 2 ^ 27 + a.number * 2 ^ 21 in
      let pa : w / 2 ^ 21 % 64 ≡ a.number = omega arith in
      λ i. pa i ∷ []

moved_parts : (r : Register) (i : Immediate) (s : Shift) → parts moved (encoded (MovI r i s)) ≡ values (MovI r i s)
moved_parts r i s =
    let w = encoded (MovI r i s) in
    let pr : w / 2 ^ 21 % 64 ≡ r.number = omega arith in
    let pi : w / 2 ^ 5 % 65536 ≡ i.value = omega arith in
    let ps : w / 1 % 32 ≡ s.places = omega arith in
    λ k. pr k ∷ pi k ∷ ps k ∷ []

pub parts_encoded : (i : Instruction) → parts (slots (operation i)) (encoded i) ≡ values i
parts_encoded (LoadB a b c) = three_parts 0 a b c
parts_encoded (LoadH a b c) = three_parts 1 a b c
parts_encoded (LoadW a b c) = three_parts 2 a b c
parts_encoded (StoreB a b c) = three_parts 4 a b c
parts_encoded (StoreH a b c) = three_parts 5 a b c
parts_encoded (StoreW a b c) = three_parts 6 a b c
parts_encoded (Add a b c) = three_parts 8 a b c
parts_encoded (Mul a b c) = three_parts 9 a b c
parts_encoded (Div a b c) = three_parts 10 a b c
parts_encoded (Nor a b c) = three_parts 11 a b c
parts_encoded (MovI r i s) = moved_parts r i s
parts_encoded (CMov a b c) = three_parts 18 a b c
parts_encoded (In a) = one_parts 24 a
parts_encoded (Out a) = one_parts 25 a
parts_encoded (Read a b) = two_parts 26 a b
parts_encoded (Write a b) = two_parts 27 a b
parts_encoded Halt = refl

-- an operation and numbers in range are an instruction's
abbrev pub Made : Operation → List ℕ → Type 0
Made op vs = (i : Instruction) × (operation i ≡ op) × (values i ≡ vs)

abbrev reg : (n : ℕ) → n ≤ 63 → Register
reg n h = record { number = n; below = omega arith }

module _ (op : Operation) where
  three_made : (make : Register → Register → Register → Instruction) → ((a b c : Register) → operation (make a b c) ≡ op) → ((a b c : Register) → values (make a b c) ≡ a.number ∷ b.number ∷ c.number ∷ []) → (vs : List ℕ) → InRange three vs → Made op vs
  three_made make is has [] h = absurd h
  three_made make is has (a ∷ []) h = absurd h.1
  three_made make is has (a ∷ b ∷ []) h = absurd h.1.1
  three_made make is has (a ∷ b ∷ c ∷ []) h = (make (reg a h.0) (reg b h.1.0) (reg c h.1.1.0), is _ _ _, has _ _ _)
  three_made make is has (a ∷ b ∷ c ∷ d ∷ vs) h = absurd h.1.1.1

  two_made : (make : Register → Register → Instruction) → ((a b : Register) → operation (make a b) ≡ op) → ((a b : Register) → values (make a b) ≡ a.number ∷ b.number ∷ []) → (vs : List ℕ) → InRange two vs → Made op vs
  two_made make is has [] h = absurd h
  two_made make is has (a ∷ []) h = absurd h.1
  two_made make is has (a ∷ b ∷ []) h = (make (reg a h.0) (reg b h.1.0), is _ _, has _ _)
  two_made make is has (a ∷ b ∷ c ∷ vs) h = absurd h.1.1

  one_made : (make : Register → Instruction) → ((a : Register) → operation (make a) ≡ op) → ((a : Register) → values (make a) ≡ a.number ∷ []) → (vs : List ℕ) → InRange one vs → Made op vs
  one_made make is has [] h = absurd h
  one_made make is has (a ∷ []) h = (make (reg a h.0), is _, has _)
  one_made make is has (a ∷ b ∷ vs) h = absurd h.1

moved_made : (vs : List ℕ) → InRange moved vs → Made o.MovI vs
moved_made [] h = absurd h
moved_made (a ∷ []) h = absurd h.1
moved_made (a ∷ b ∷ []) h = absurd h.1.1
moved_made (a ∷ b ∷ c ∷ []) h =
    let small : b < 65536 = omega (arith, h.1.0) in
    let few : c < 32 = omega (arith, h.1.1.0) in
    (MovI (reg a h.0) (record { value = b; below = small }) (record { places = c; below = few }), refl, refl)
moved_made (a ∷ b ∷ c ∷ d ∷ vs) h = absurd h.1.1.1

bare_made : (vs : List ℕ) → InRange [] vs → Made o.Halt vs
bare_made [] h = (Halt, refl, refl)
bare_made (v ∷ vs) h = absurd h

pub made : (op : Operation) (vs : List ℕ) → InRange (slots op) vs → Made op vs
made o.LoadB vs h = three_made o.LoadB LoadB (λ a b c. refl) (λ a b c. refl) vs h
made o.LoadH vs h = three_made o.LoadH LoadH (λ a b c. refl) (λ a b c. refl) vs h
made o.LoadW vs h = three_made o.LoadW LoadW (λ a b c. refl) (λ a b c. refl) vs h
made o.StoreB vs h = three_made o.StoreB StoreB (λ a b c. refl) (λ a b c. refl) vs h
made o.StoreH vs h = three_made o.StoreH StoreH (λ a b c. refl) (λ a b c. refl) vs h
made o.StoreW vs h = three_made o.StoreW StoreW (λ a b c. refl) (λ a b c. refl) vs h
made o.Add vs h = three_made o.Add Add (λ a b c. refl) (λ a b c. refl) vs h
made o.Mul vs h = three_made o.Mul Mul (λ a b c. refl) (λ a b c. refl) vs h
made o.Div vs h = three_made o.Div Div (λ a b c. refl) (λ a b c. refl) vs h
made o.Nor vs h = three_made o.Nor Nor (λ a b c. refl) (λ a b c. refl) vs h
made o.MovI vs h = moved_made vs h
made o.CMov vs h = three_made o.CMov CMov (λ a b c. refl) (λ a b c. refl) vs h
made o.In vs h = one_made o.In In (λ a. refl) (λ a. refl) vs h
made o.Out vs h = one_made o.Out Out (λ a. refl) (λ a. refl) vs h
made o.Read vs h = two_made o.Read Read (λ a b. refl) (λ a b. refl) vs h
made o.Write vs h = two_made o.Write Write (λ a b. refl) (λ a b. refl) vs h
made o.Halt vs h = bare_made vs h

-- the operands of an instruction are in range
pub in_range : (i : Instruction) → InRange (slots (operation i)) (values i)
in_range (LoadB a b c) = (omega arith, (omega arith, (omega arith, tt)))
in_range (LoadH a b c) = (omega arith, (omega arith, (omega arith, tt)))
in_range (LoadW a b c) = (omega arith, (omega arith, (omega arith, tt)))
in_range (StoreB a b c) = (omega arith, (omega arith, (omega arith, tt)))
in_range (StoreH a b c) = (omega arith, (omega arith, (omega arith, tt)))
in_range (StoreW a b c) = (omega arith, (omega arith, (omega arith, tt)))
in_range (Add a b c) = (omega arith, (omega arith, (omega arith, tt)))
in_range (Mul a b c) = (omega arith, (omega arith, (omega arith, tt)))
in_range (Div a b c) = (omega arith, (omega arith, (omega arith, tt)))
in_range (Nor a b c) = (omega arith, (omega arith, (omega arith, tt)))
in_range (MovI r i s) = (omega arith, (omega arith, (omega arith, tt)))
in_range (CMov a b c) = (omega arith, (omega arith, (omega arith, tt)))
in_range (In a) = (omega arith, tt)
in_range (Out a) = (omega arith, tt)
in_range (Read a b) = (omega arith, (omega arith, tt))
in_range (Write a b) = (omega arith, (omega arith, tt))
in_range Halt = tt
