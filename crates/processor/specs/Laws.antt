-- What holds of every action, in the subject's own words.
use Rattle.std.specs.Prelude.{◌≡◌, ℕ, ◌+◌, ◌<◌, false, List, [], length, get_or, slice_index, slice_index_or}
use Rattle.u5.specs.Operations.{unused}
use Rattle.u5.specs.Words.{operation, encoded}
use Rattle.u5.specs.declared.instruction.Instruction.{Instruction}
use Rattle.processor.specs.Machine.{Processor, Action, ends, goes, takes, prints, writes, halts}
use Rattle.processor.specs.Effects.{moved, effect, fetched, unfetchable, action}

-- what holds of every processor that an action leaves, whatever byte it takes
abbrev pub Leaves : (Processor → Type 0) → Action → Type 0
Leaves P (ends e) = Unit {0}
Leaves P (goes p) = P p
Leaves P (takes f) = (byte : ℕ) → P (f byte)
Leaves P (prints byte p) = P p
Leaves P (writes sector block p) = P p
Leaves P (halts p) = P p

-- the processor q has 0 in r0, and as many registers and as much memory as p
pub record Sound (p q : Processor) : Type 0 where
  pub zero_register : get_or q.registers 0 0 ≡ 0
  pub registers_number : length q.registers ≡ length p.registers
  pub memory_length : length q.memory ≡ length p.memory

-- every sector has 512 bytes
abbrev pub WholeSectors : List (List ℕ) → Type 0
WholeSectors ss = (s : ℕ) → s < length ss → length (slice_index_or ss s []) ≡ 512

-- No action leaves a register file whose r0 is not 0, and memory keeps its length.
abbrev pub StaysSound : Type 0
StaysSound = (p : Processor) (ss : List (List ℕ)) → slice_index p.registers 0 ≡ 0 → WholeSectors ss → Leaves (Sound p) (action p ss)

-- Whatever stands in the bits that no operand uses, a word acts as the instruction that it encodes.
abbrev pub UnusedBitsIgnored : Type 0
UnusedBitsIgnored =
    (p : Processor) (ss : List (List ℕ)) (i : Instruction) (extra : ℕ) → unfetchable p ≡ false → extra < unused (operation i) → fetched p ≡ encoded i + extra
    → action p ss ≡ effect i (moved p) ss
