-- What each instruction does, in the manual's order.
use Rattle.std.specs.Prelude.{ℕ, ◌+◌, ◌-◌, ◌*◌, ◌/◌, ◌%◌, ◌^◌, Bool, cond, not, ◌||◌, List, [], length, Some, None, Option, ◌==◌, bit_or, nat_le, nat_lt, slice_index, slice_index_or}
use Rattle.std.specs.List.{between}
use Rattle.u5.specs.Words.{register, decoded}
use Rattle.u5.specs.declared.operand.Register.{Register}
use Rattle.u5.specs.declared.instruction.Instruction.{Instruction}
use Rattle.u5.specs.declared.instruction.Instruction.TheVariants.{LoadB, LoadH, LoadW, StoreB, StoreH, StoreW, Add, Mul, Div, Nor, MovI, CMov, In, Out, Read, Write, Halt}
use Rattle.processor.specs.declared.ending.Ending.{Ending}
use Rattle.processor.specs.declared.ending.Ending.TheVariants.{Fetch, Code, Zero, Align, Range, Sector}
use Rattle.processor.specs.Words.{low, written, number_of, last_bytes, overwritten}
use Rattle.processor.specs.Machine.{Processor, Action, ends, goes, takes, prints, writes, halts}

-- the value of a register
abbrev pub value : Processor → Register → ℕ
value p r = slice_index p.registers r.number

-- a register gets a value
abbrev pub gets : Register → ℕ → Processor → Processor
gets r v p = record { registers = written p.registers r.number v; memory = p.memory }

-- bytes go to an address
abbrev pub stored : ℕ → ℕ → List ℕ → Processor → Processor
stored at width new p = record { registers = p.registers; memory = overwritten at width new p.memory }

-- the bytes at an address
abbrev pub bytes_at : ℕ → ℕ → Processor → List ℕ
bytes_at at width p = between at (at + width) p.memory

-- r63, the address of the next instruction
abbrev pub counter : Register
counter = register 63

-- the processor goes on to the instruction after the one that it executes
abbrev pub moved : Processor → Processor
moved p = gets counter (low (value p counter + 4)) p

-- an address that an access of this width must not have
abbrev pub unaligned : ℕ → ℕ → Bool
unaligned at width = not (at % width == 0)

-- a byte of the access is past the end of memory; the bytes of one access do not wrap
abbrev pub outside : ℕ → ℕ → Processor → Bool
outside at width p = nat_lt (length p.memory) (at + width)

-- a sector that the disk does not have
abbrev pub missing : ℕ → List (List ℕ) → Bool
missing sector sectors = nat_le (length sectors) sector

-- an ending where the test holds, else what comes after it
abbrev pub unless : Bool → Ending → Action → Action
unless bad e act = cond bad (ends e) act

-- the bytes at an address, zero extended, go to a register: no alignment is asked
abbrev pub load : ℕ → Register → ℕ → Processor → Action
load width a at p = unless (outside at width p) Range (goes (gets a (number_of (bytes_at at width p)) p))

-- an access that has to be aligned: ALIGN comes before RANGE
abbrev pub placed : ℕ → ℕ → Processor → Action → Action
placed at width p act = unless (unaligned at width) Align (unless (outside at width p) Range act)

-- the low bytes of a register go to an address
abbrev pub store : ℕ → Register → ℕ → Processor → Action
store width a at p = placed at width p (goes (stored at width (last_bytes width (value p a)) p))

-- a sector goes to an address
abbrev pub read : ℕ → ℕ → Processor → List (List ℕ) → Action
read at sector p ss = placed at 512 p (unless (missing sector ss) Sector (goes (stored at 512 (slice_index_or ss sector []) p)))

-- the bytes at an address go to a sector
abbrev pub write : ℕ → ℕ → Processor → List (List ℕ) → Action
write at sector p ss = placed at 512 p (unless (missing sector ss) Sector (writes sector (bytes_at at 512 p) p))

-- The effect of an instruction on the processor p, whose r63 has moved on already, at a disk with the sectors ss.
abbrev pub effect : Instruction → Processor → List (List ℕ) → Action
effect (LoadB a b c) p ss = load 1 a (low (value p b + value p c)) p
effect (LoadH a b c) p ss = load 2 a (low (value p b + value p c)) p
effect (LoadW a b c) p ss = load 4 a (low (value p b + value p c)) p
effect (StoreB a b c) p ss = store 1 a (low (value p b + value p c)) p
effect (StoreH a b c) p ss = store 2 a (low (value p b + value p c)) p
effect (StoreW a b c) p ss = store 4 a (low (value p b + value p c)) p
effect (Add a b c) p ss = goes (gets a (low (value p b + value p c)) p)
effect (Mul a b c) p ss = goes (gets a (low (value p b * value p c)) p)
effect (Div a b c) p ss = unless (value p c == 0) Zero (goes (gets a (value p b / value p c) p))
effect (Nor a b c) p ss = goes (gets a (2 ^ 32 - 1 - bit_or (value p b) (value p c)) p)
effect (MovI r i s) p ss = goes (gets r (low (i.value * 2 ^ s.places)) p)
effect (CMov a b c) p ss = goes (cond (value p c == 0) p (gets a (value p b) p))
effect (In a) p ss = takes (λ byte. gets a byte p)
effect (Out a) p ss = prints (value p a % 256) p
effect (Read a b) p ss = read (value p a) (value p b) p ss
effect (Write a b) p ss = write (value p a) (value p b) p ss
effect Halt p ss = halts p

-- a word that was fetched: one that no operation has ends the processor, else r63 moves on and the instruction executes
abbrev pub obeyed : Option Instruction → Processor → List (List ℕ) → Action
obeyed None p ss = ends Code
obeyed (Some instruction) p ss = effect instruction (moved p) ss

-- the word at r63
abbrev pub fetched : Processor → ℕ
fetched p = number_of (bytes_at (value p counter) 4 p)

-- r63 is no multiple of 4, or the word there is not all in memory
abbrev pub unfetchable : Processor → Bool
unfetchable p = unaligned (value p counter) 4 || outside (value p counter) 4 p

-- What the next instruction asks of the processor p at a disk with the sectors ss.
unfoldable pub action : Processor → List (List ℕ) → Action
action p ss = unless (unfetchable p) Fetch (obeyed (decoded (fetched p)) p ss)
