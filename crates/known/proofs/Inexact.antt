-- A word with an unused bit set is no instruction's exact encoding.
use Rattle.std.proofs.Common.{◌≡◌, arith}
use Rattle.u5.specs.Words.{encoded}
use Rattle.u5.specs.declared.instruction.Instruction.{Instruction}
use Rattle.u5.specs.declared.instruction.Instruction.TheVariants.{LoadB, LoadH, LoadW, StoreB, StoreH, StoreW, Add, Mul, Div, Nor, MovI, CMov, In, Out, Read, Write, Halt}

-- The word of every operation but MOVI is a multiple of 512, and that of MOVI is larger than this.
pub none_exact : (i : Instruction) → encoded i ≡ 0x40218801 → ⊥
none_exact (LoadB a b c) e = omega arith
none_exact (LoadH a b c) e = omega arith
none_exact (LoadW a b c) e = omega arith
none_exact (StoreB a b c) e = omega arith
none_exact (StoreH a b c) e = omega arith
none_exact (StoreW a b c) e = omega arith
none_exact (Add a b c) e = omega arith
none_exact (Mul a b c) e = omega arith
none_exact (Div a b c) e = omega arith
none_exact (Nor a b c) e = omega arith
none_exact (MovI r i s) e = omega arith
none_exact (CMov a b c) e = omega arith
none_exact (In a) e = omega arith
none_exact (Out a) e = omega arith
none_exact (Read a b) e = omega arith
none_exact (Write a b) e = omega arith
none_exact Halt e = omega arith
