-- The names that registers go by.
use Rattle.std.specs.Prelude.{ℕ, List, [], ◌∷◌, codes, Option, slice_index_or}
use Rattle.std.specs.List.{range_with_len}
use Rattle.u5.specs.Tables.{called}

-- in the order of the registers: zero, values, arguments, saved, temporary, x y z, kernel, assembler, return address, frame, global and stack pointer, program counter
abbrev pub aliases : List (List ℕ)
aliases = codes "zz" ∷ codes "v0" ∷ codes "v1" ∷ codes "a0" ∷ codes "a1" ∷ codes "a2" ∷ codes "a3" ∷ codes "a4" ∷ codes "a5" ∷ codes "a6" ∷ codes "s0" ∷ codes "s1" ∷ codes "s2" ∷ codes "s3" ∷ codes "s4" ∷ codes "s5" ∷ codes "s6" ∷ codes "s7" ∷ codes "s8" ∷ codes "s9" ∷ codes "s10" ∷ codes "s11" ∷ codes "s12" ∷ codes "s13" ∷ codes "s14" ∷ codes "s15" ∷ codes "s16" ∷ codes "s17" ∷ codes "s18" ∷ codes "s19" ∷ codes "t0" ∷ codes "t1" ∷ codes "t2" ∷ codes "t3" ∷ codes "t4" ∷ codes "t5" ∷ codes "t6" ∷ codes "t7" ∷ codes "t8" ∷ codes "t9" ∷ codes "t10" ∷ codes "t11" ∷ codes "t12" ∷ codes "t13" ∷ codes "t14" ∷ codes "t15" ∷ codes "t16" ∷ codes "t17" ∷ codes "t18" ∷ codes "t19" ∷ codes "t20" ∷ codes "t21" ∷ codes "x" ∷ codes "y" ∷ codes "z" ∷ codes "k0" ∷ codes "k1" ∷ codes "at0" ∷ codes "at1" ∷ codes "ra" ∷ codes "fp" ∷ codes "gp" ∷ codes "sp" ∷ codes "pc" ∷ []

-- the alias of the register with this number
abbrev pub alias : ℕ → List ℕ
alias n = slice_index_or aliases n []

-- the numbers of the registers
unfoldable pub numbers : List ℕ
numbers = range_with_len 0 64

-- the register with this alias
abbrev pub aliased : List ℕ → Option ℕ
aliased field = called alias field numbers
