-- The table of known values, in the words of the crates that they are about.
use Rattle.std.specs.Prelude.{◌≡◌, ℕ, ◌-◌, false, List, [], ◌∷◌, ◌++◌, replicate, Ok, codes, slice_set}
use Rattle.u5.specs.Words.{register}
use Rattle.u5.specs.declared.instruction.Instruction.{Instruction}
use Rattle.u5.specs.declared.instruction.Instruction.TheVariants.{Add}
use Rattle.assembler.specs.Grammar.{Spells}
use Rattle.assembler.specs.Lists.{LineOf}
use Rattle.processor.specs.declared.ending.Ending.{Ending}
use Rattle.processor.specs.declared.ending.Ending.TheVariants.{Align, Range}
use Rattle.processor.specs.declared.ending.Want.TheVariants.{Input}
use Rattle.processor.specs.Words.{last_bytes}
use Rattle.processor.specs.Machine.{Processor, ends, goes}
use Rattle.processor.specs.Effects.{effect, moved, fetched, unfetchable, gets, stored, action}
use Rattle.disk.specs.Disks.{Disk}
use Rattle.console.specs.Consoles.{Kind}
use Rattle.station.specs.declared.answer.Answer.{Answer}
use Rattle.station.specs.declared.answer.Stop.TheVariants.{Wants}
use Rattle.station.specs.declared.unit.Phase.TheVariants.{Running}
use Rattle.station.specs.Worlds.{World, Runs}

-- fields, parted by tabs
abbrev pub tabbed : List (List ℕ) → List ℕ
tabbed [] = []
tabbed (f ∷ []) = f
tabbed (f ∷ g ∷ fs) = f ++ (9 ∷ tabbed (g ∷ fs))

-- wherever the word stands and whatever the registers, memory and disk hold, it is executed as this instruction
abbrev pub ExecutesAs : ℕ → Instruction → Type 0
ExecutesAs word i = (p : Processor) (ss : List (List ℕ)) → unfetchable p ≡ false → fetched p ≡ word → action p ss ≡ effect i (moved p) ss

-- v0, a0 and a1 are r1, r3 and r4
abbrev pub add_v0_a0_a1 : Instruction
add_v0_a0_a1 = Add (register 1) (register 3) (register 4)

-- a processor at address 0 of a memory of 512 bytes, which begins with a word and ends with the bytes 1 2 3 4, with a value in r2 and 0 in the other registers
abbrev pub at_word : ℕ → ℕ → Processor
at_word word value = record { registers = slice_set (replicate 64 0) 2 value; memory = last_bytes 4 word ++ (replicate 504 0 ++ (1 ∷ 2 ∷ 3 ∷ 4 ∷ [])) }

-- LOADW v0 v1 zz: the four bytes at an address go to r1
abbrev pub load_word : ℕ → Processor
load_word address = at_word 0x10210000 address

-- STOREH v1 v1 zz: the low two bytes of r2, which has the address, go there
abbrev pub store_half : ℕ → Processor
store_half address = at_word 0x28410000 address

-- IN v0
abbrev pub take_byte : Processor
take_byte = at_word 0xC0200000 0

-- the next instruction is done, and leaves this processor, whatever the disk
abbrev pub Leaves : Processor → Processor → Type 0
Leaves p q = (ss : List (List ℕ)) → action p ss ≡ goes q

-- the next instruction cannot be done, whatever the disk
abbrev pub Gives : Processor → Ending → Type 0
Gives p e = (ss : List (List ℕ)) → action p ss ≡ ends e

-- a station that runs at IN, on any disk and any console on which nothing waits
abbrev pub at_take : Disk → ℕ → List ℕ → ℕ → World
at_take d slots printed paper = record {
  machine = record { processor = take_byte; disk = d; console = record { waiting = []; slots = slots; printed = printed; paper = paper } };
  phase = Running 512;
}

abbrev pub none_for_input : Answer
none_for_input = record { count = 0; stop = Wants Input }

pub record KnownCases : Type 0 where
  -- ADD v0 a0 a1, and the same word with an unused bit set
  pub exact_line : LineOf 0x40218800 (tabbed (codes "ADD" ∷ codes "v0" ∷ codes "a0" ∷ codes "a1" ∷ []))
  pub inexact_line : LineOf 0x40218801 (tabbed (codes "WORD" ∷ codes "1075939329" ∷ []))
  pub exact_executes : ExecutesAs 0x40218800 add_v0_a0_a1
  pub inexact_executes : ExecutesAs 0x40218801 add_v0_a0_a1
  pub jump_spells : Spells (tabbed (codes "MOVI" ∷ codes "pc" ∷ codes "4" ∷ codes "0" ∷ [])) 0x87E00080
  -- with M = 512: r1 gets the last four bytes of memory
  pub load_at_m_4 : Leaves (load_word (512 - 4)) (gets (register 1) 0x01020304 (moved (load_word (512 - 4))))
  pub load_at_m_3 : Gives (load_word (512 - 3)) Range
  -- the bytes at 6 and 7 are 0 and 6 then
  pub store_at_6 : Leaves (store_half 6) (stored 6 2 (0 ∷ 6 ∷ []) (moved (store_half 6)))
  pub store_at_7 : Gives (store_half 7) Align
  -- five steps are granted, none is executed, and all is as it was
  pub nothing_waits : (kind : Kind) (d : Disk) (slots : ℕ) (printed : List ℕ) (paper : ℕ)
      → Runs kind (at_take d slots printed paper) 5 (Ok none_for_input) (at_take d slots printed paper)
