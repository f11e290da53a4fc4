-- The processor, and what its next instruction asks.
use Rattle.std.specs.Prelude.{ℕ, List}
use Rattle.processor.specs.declared.ending.Ending.{Ending}

-- the words of the 64 registers, and the bytes of memory
pub record Processor : Type 0 where
  pub registers : List ℕ
  pub memory : List ℕ

-- What the next instruction asks. A processor that stands in an action is the one after the instruction, r63 moved on.
pub data Action : Type 0 where
  -- the instruction cannot be done: the processor ends, and nothing is executed
  ends : Ending → Action
  -- nothing from the outside
  goes : Processor → Action
  -- a byte of the console, on which the processor after it depends
  takes : (ℕ → Processor) → Action
  -- paper for a byte
  prints : ℕ → Processor → Action
  -- a block to be written to a sector
  writes : ℕ → List ℕ → Processor → Action
  -- to halt: this is executed, and the processor has ended after it
  halts : Processor → Action
