-- An encoded instruction decodes to itself, and a decoded word is its instruction's but for the unused bits.
use Rattle.std.proofs.Common.{◌≡◌, ℕ, ◌+◌, ◌*◌, ◌/◌, ◌%◌, ◌^◌, ◌<◌, eqb, ltb, Some, None, Option, MatchOption, sym, refl, ap, ◌∙◌, subst, arith}
use mathlib.Core.HLevel.{is_prop→PathP}
use native.Mathlib.Bridge.{le_prop}
use Rattle.std.proofs.lemmas.Bool.{eqb-true, ltb-true}
use Rattle.std.proofs.lemmas.Option.{none-some}
use Rattle.std.specs.Option.{option_map}
use Rattle.u5.specs.declared.operand.Register.{Register}
use Rattle.u5.specs.declared.operand.Immediate.{Immediate}
use Rattle.u5.specs.declared.operand.Shift.{Shift}
use Rattle.u5.specs.declared.operation.Operation.{Operation}
use Rattle.u5.specs.declared.operation.Operation.TheVariants as o
use Rattle.u5.specs.declared.instruction.Instruction.{Instruction}
use Rattle.u5.specs.declared.instruction.Instruction.TheVariants.{LoadB, LoadH, LoadW, StoreB, StoreH, StoreW, Add, Mul, Div, Nor, MovI, CMov, In, Out, Read, Write, Halt}
use Rattle.u5.specs.Operations.{opcode, coded, every, unused}
use Rattle.u5.specs.Words.{operation, encoded, three, two, one, moved, register, immediate, shift, field_a, field_b, field_c, instruction, decoded, Unknown}
use Rattle.u5.proofs.Tables.{found_passes, each_operation}

-- operands are known by their numbers

pub same_register : (r : Register) (n : ℕ) → r.number ≡ n % 64 → r ≡ register n
same_register r n e = λ i. record { number = e i; below = is_prop→PathP (λ j. e j < 64) (λ j. le_prop) r.below (register n).below i }

pub same_immediate : (v : Immediate) (n : ℕ) → v.value ≡ n % 65536 → v ≡ immediate n
same_immediate v n e = λ i. record { value = e i; below = is_prop→PathP (λ j. e j < 65536) (λ j. le_prop) v.below (immediate n).below i }

pub same_shift : (s : Shift) (n : ℕ) → s.places ≡ n % 32 → s ≡ shift n
same_shift s n e = λ i. record { places = e i; below = is_prop→PathP (λ j. e j < 32) (λ j. le_prop) s.below (shift n).below i }

-- opcodes

pub coded_opcode : (op : Operation) → coded (opcode op) ≡ Some op
coded_opcode o.LoadB = refl
coded_opcode o.LoadH = refl
coded_opcode o.LoadW = refl
coded_opcode o.StoreB = refl
coded_opcode o.StoreH = refl
coded_opcode o.StoreW = refl
coded_opcode o.Add = refl
coded_opcode o.Mul = refl
coded_opcode o.Div = refl
coded_opcode o.Nor = refl
coded_opcode o.MovI = refl
coded_opcode o.CMov = refl
coded_opcode o.In = refl
coded_opcode o.Out = refl
coded_opcode o.Read = refl
coded_opcode o.Write = refl
coded_opcode o.Halt = refl

pub coded_is : (n : ℕ) (op : Operation) → coded n ≡ Some op → opcode op ≡ n
unfolding every
coded_is n op e = sym (eqb-true n (opcode op) (found_passes (λ o. eqb n (opcode o)) every op e))

pub none_coded : (n : ℕ) → coded n ≡ None → Unknown n
none_coded n e op is = none-some op (sym e ∙ ap coded (sym is) ∙ coded_opcode op)

-- decoding, from the opcode on

pub from_opcode : (op : Operation) (w : ℕ) → w / 2 ^ 27 ≡ opcode op → decoded w ≡ Some (instruction op w)
unfolding decoded
from_opcode op w e = ap (option_map (λ o. instruction o w)) (ap coded e ∙ coded_opcode op)

-- an operation with its operands in a word, whatever stands below them
module _ (op : Operation) (w extra : ℕ) where
  three_read : (make : Register → Register → Register → Instruction) → ((n : ℕ) → instruction op n ≡ make (field_a n) (field_b n) (field_c n)) → (a b c : Register) → extra < 2 ^ 9 → w ≡ three op a b c + extra → decoded w ≡ Some (make a b c)
  three_read make is a b c few e =
      let pa = same_register a (w / 2 ^ 21) (omega arith) in
      let pb = same_register b (w / 2 ^ 15) (omega arith) in
      let pc = same_register c (w / 2 ^ 9) (omega arith) in
      from_opcode op w (omega arith) ∙ ap Some (is w ∙ sym (λ i. make (pa i) (pb i) (pc i)))

  two_read : (make : Register → Register → Instruction) → ((n : ℕ) → instruction op n ≡ make (field_a n) (field_b n)) → (a b : Register) → extra < 2 ^ 15 → w ≡ two op a b + extra → decoded w ≡ Some (make a b)
  two_read make is a b few e =
      let pa = same_register a (w / 2 ^ 21) (omega arith) in
      let pb = same_register b (w / 2 ^ 15) (omega arith) in
      from_opcode op w (omega arith) ∙ ap Some (is w ∙ sym (λ i. make (pa i) (pb i)))

  one_read : (make : Register → Instruction) → ((n : ℕ) → instruction op n ≡ make (field_a n)) → (a : Register) → extra < 2 ^ 21 → w ≡ one op a + extra → decoded w ≡ Some (make a)
  one_read make is a few e =
      let pa = same_register a (w / 2 ^ 21) (omega arith) in
      from_opcode op w (omega arith) ∙ ap Some (is w ∙ sym (ap make pa))

-- an encoded instruction decodes to itself, whatever stands in the unused bits
pub reads_as : (i : Instruction) (w extra : ℕ) → extra < unused (operation i) → w ≡ encoded i + extra → decoded w ≡ Some i
reads_as (LoadB a b c) w x few e = three_read o.LoadB w x LoadB (λ n. refl) a b c few e
reads_as (LoadH a b c) w x few e = three_read o.LoadH w x LoadH (λ n. refl) a b c few e
reads_as (LoadW a b c) w x few e = three_read o.LoadW w x LoadW (λ n. refl) a b c few e
reads_as (StoreB a b c) w x few e = three_read o.StoreB w x StoreB (λ n. refl) a b c few e
reads_as (StoreH a b c) w x few e = three_read o.StoreH w x StoreH (λ n. refl) a b c few e
reads_as (StoreW a b c) w x few e = three_read o.StoreW w x StoreW (λ n. refl) a b c few e
reads_as (Add a b c) w x few e = three_read o.Add w x Add (λ n. refl) a b c few e
reads_as (Mul a b c) w x few e = three_read o.Mul w x Mul (λ n. refl) a b c few e
reads_as (Div a b c) w x few e = three_read o.Div w x Div (λ n. refl) a b c few e
reads_as (Nor a b c) w x few e = three_read o.Nor w x Nor (λ n. refl) a b c few e
reads_as (MovI r i s) w x few e =
    let pr = same_register r (w / 2 ^ 21) (omega arith) in
    let pi = same_immediate i (w / 2 ^ 5) (omega arith) in
    let ps = same_shift s w (omega arith) in
    from_opcode o.MovI w (omega arith) ∙ ap Some (sym (λ k. MovI (pr k) (pi k) (ps k)))
reads_as (CMov a b c) w x few e = three_read o.CMov w x CMov (λ n. refl) a b c few e
reads_as (In a) w x few e = one_read o.In w x In (λ n. refl) a few e
reads_as (Out a) w x few e = one_read o.Out w x Out (λ n. refl) a few e
reads_as (Read a b) w x few e = two_read o.Read w x Read (λ n. refl) a b few e
reads_as (Write a b) w x few e = two_read o.Write w x Write (λ n. refl) a b few e
reads_as Halt w x few e = from_opcode o.Halt w (omega arith)

some_unused : (op : Operation) → 0 < unused op
unfolding every
some_unused op = ltb-true 0 (unused op) (each_operation (λ x. ltb 0 (unused x)) refl refl op)

pub decodes : (i : Instruction) → decoded (encoded i) ≡ Some i
decodes i = reads_as i (encoded i) 0 (some_unused (operation i)) (omega arith)

-- a word, cut at its fields

cut_a : (w : ℕ) → w ≡ (w / 2 ^ 27) * 2 ^ 27 + (w / 2 ^ 21 % 64) * 2 ^ 21 + w % 2 ^ 21
cut_a w = let step : w / 2 ^ 21 ≡ (w / 2 ^ 27) * 64 + w / 2 ^ 21 % 64 = omega arith in omega arith

cut_b : (w : ℕ) → w % 2 ^ 21 ≡ (w / 2 ^ 15 % 64) * 2 ^ 15 + w % 2 ^ 15
cut_b w = let step : w / 2 ^ 15 ≡ (w / 2 ^ 21) * 64 + w / 2 ^ 15 % 64 = omega arith in omega arith

cut_c : (w : ℕ) → w % 2 ^ 15 ≡ (w / 2 ^ 9 % 64) * 2 ^ 9 + w % 2 ^ 9
cut_c w = let step : w / 2 ^ 9 ≡ (w / 2 ^ 15) * 64 + w / 2 ^ 9 % 64 = omega arith in omega arith

cut_i : (w : ℕ) → w % 2 ^ 21 ≡ (w / 2 ^ 5 % 65536) * 2 ^ 5 + w % 2 ^ 5
cut_i w = let step : w / 2 ^ 5 ≡ (w / 2 ^ 21) * 65536 + w / 2 ^ 5 % 65536 = omega arith in omega arith

pub operation_kept : (op : Operation) (w : ℕ) → operation (instruction op w) ≡ op
operation_kept o.LoadB w = refl
operation_kept o.LoadH w = refl
operation_kept o.LoadW w = refl
operation_kept o.StoreB w = refl
operation_kept o.StoreH w = refl
operation_kept o.StoreW w = refl
operation_kept o.Add w = refl
operation_kept o.Mul w = refl
operation_kept o.Div w = refl
operation_kept o.Nor w = refl
operation_kept o.MovI w = refl
operation_kept o.CMov w = refl
operation_kept o.In w = refl
operation_kept o.Out w = refl
operation_kept o.Read w = refl
operation_kept o.Write w = refl
operation_kept o.Halt w = refl

-- the operands as they stand in a word make that word again, but for the unused bits
module _ (op : Operation) (w : ℕ) (e : opcode op ≡ w / 2 ^ 27) where
  three_restores : w ≡ three op (field_a w) (field_b w) (field_c w) + w % 2 ^ 9
  three_restores = omega (arith, cut_a w, cut_b w, cut_c w)

  two_restores : w ≡ two op (field_a w) (field_b w) + w % 2 ^ 15
  two_restores = omega (arith, cut_a w, cut_b w)

  one_restores : w ≡ one op (field_a w) + w % 2 ^ 21
  one_restores = omega (arith, cut_a w)

moved_restores : (w : ℕ) → 16 ≡ w / 2 ^ 27 → w ≡ moved (field_a w) (immediate (w / 2 ^ 5)) (shift w) + w % 1
moved_restores w e = omega (arith, cut_a w, cut_i w)

pub restores : (op : Operation) (w : ℕ) → opcode op ≡ w / 2 ^ 27 → w ≡ encoded (instruction op w) + w % unused (operation (instruction op w))
restores o.LoadB w e = three_restores o.LoadB w e
restores o.LoadH w e = three_restores o.LoadH w e
restores o.LoadW w e = three_restores o.LoadW w e
restores o.StoreB w e = three_restores o.StoreB w e
restores o.StoreH w e = three_restores o.StoreH w e
restores o.StoreW w e = three_restores o.StoreW w e
restores o.Add w e = three_restores o.Add w e
restores o.Mul w e = three_restores o.Mul w e
restores o.Div w e = three_restores o.Div w e
restores o.Nor w e = three_restores o.Nor w e
restores o.MovI w e = moved_restores w e
restores o.CMov w e = three_restores o.CMov w e
restores o.In w e = one_restores o.In w e
restores o.Out w e = one_restores o.Out w e
restores o.Read w e = two_restores o.Read w e
restores o.Write w e = two_restores o.Write w e
restores o.Halt w e = omega arith

cases_of : (w : ℕ) (o : Option Operation) → coded (w / 2 ^ 27) ≡ o → MatchOption (option_map (λ op. instruction op w) o) (Unknown (w / 2 ^ 27)) (λ i. w ≡ encoded i + w % unused (operation i))
cases_of w (Some op) e = restores op w (coded_is _ op e)
cases_of w None e = none_coded _ e

-- a word is the encoding of the instruction that it decodes to but for the unused bits, or its opcode is no operation's
pub decoded_cases : (w : ℕ) (r : Option Instruction) → r ≡ decoded w → MatchOption r (Unknown (w / 2 ^ 27)) (λ i. w ≡ encoded i + w % unused (operation i))
unfolding decoded
decoded_cases w r e = subst (λ o. MatchOption o (Unknown (w / 2 ^ 27)) (λ i. w ≡ encoded i + w % unused (operation i))) (sym e) (cases_of w (coded (w / 2 ^ 27)) refl)
