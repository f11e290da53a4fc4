-- What the code decides of an instruction, and what came of a step, against the action.
use Rattle.std.specs.Prelude.{◌≡◌, ℕ, ◌+◌, ◌≤◌, cond, List, [], length, Ok, Err, Result, IfOk, nat_lt, slice_index_or}
use Rattle.u5.specs.declared.operand.Register.{Register}
use Rattle.processor.specs.declared.ending.Ending.{Ending}
use Rattle.processor.specs.declared.ending.Ending.TheVariants.{Align, Range, Sector}
use Rattle.processor.specs.declared.registers.Registers.{Registers}
use Rattle.processor.specs.declared.decide.Sight.{Sight}
use Rattle.processor.specs.declared.request.Request.{Request}
use Rattle.processor.specs.declared.request.Request.TheVariants.{Passes, Sets, Stores, Takes, Prints, Reads, Writes, Halts}
use Rattle.processor.specs.declared.outcome.Outcome.{Outcome}
use Rattle.processor.specs.declared.outcome.Outcome.TheVariants as outcome
use Rattle.processor.specs.Widths.{size}
use Rattle.processor.specs.Words.{last_bytes}
use Rattle.processor.specs.Machine.{Processor, Action, ends, goes, takes, prints, writes, halts}
use Rattle.processor.specs.Effects.{value, gets, moved, stored, bytes_at, unaligned, missing, unless, action}

-- the processor that registers and memory are
abbrev pub processor : Registers → List ℕ → Processor
processor registers memory = record { registers = registers; memory = memory }

-- the processor that an instruction reads, whose r63 has moved on
abbrev pub seen : Sight → Processor
seen s = moved (processor s.registers.now s.memory.now)

-- x where an access that has to be aligned can be made in a memory of this size, else why it cannot
abbrev pub if_placed : {X : Type 0} → ℕ → ℕ → ℕ → X → Result X Ending
if_placed at width size x = cond (unaligned at width) (Err Align) (cond (nat_lt size (at + width)) (Err Range) (Ok x))

-- the address and the sector that two registers name
abbrev pub transfer : Processor → Register → Register → Result (ℕ × ℕ) Ending
transfer p a b = if_placed (value p a) 512 (length p.memory) (value p a, value p b)

-- the action that a request stands for, of a processor whose r63 has moved on
abbrev pub asked : Request → Processor → List (List ℕ) → Action
asked Passes p ss = goes p
asked (Sets r v) p ss = goes (gets r v p)
asked (Stores at width v) p ss = goes (stored at (size width) (last_bytes (size width) v) p)
asked (Takes a) p ss = takes (λ byte. gets a byte p)
asked (Prints byte) p ss = prints byte p
asked (Reads at sector) p ss = unless (missing sector ss) Sector (goes (stored at 512 (slice_index_or ss sector []) p))
asked (Writes at sector) p ss = unless (missing sector ss) Sector (writes sector (bytes_at at 512 p) p)
asked Halts p ss = halts p

-- the action of a request, or of an ending in its place
abbrev pub answered : Result Request Ending → Processor → List (List ℕ) → Action
answered (Ok request) p ss = asked request p ss
answered (Err e) p ss = ends e

-- what a request names lies in memory
abbrev pub Fits : Request → List ℕ → Type 0
Fits Passes memory = Unit {0}
Fits (Sets r v) memory = Unit {0}
Fits (Stores at width v) memory = at + size width ≤ length memory
Fits (Takes a) memory = Unit {0}
Fits (Prints byte) memory = Unit {0}
Fits (Reads at sector) memory = at + 512 ≤ length memory
Fits (Writes at sector) memory = at + 512 ≤ length memory
Fits Halts memory = Unit {0}

-- What an instruction asks of the processor p, whose r63 has moved on, is what was decided.
pub record Asks (act : Processor → List (List ℕ) → Action) (p : Processor) (decided : Result Request Ending) : Type 0 where
  pub as_asked : (ss : List (List ℕ)) → act p ss ≡ answered decided p ss
  pub in_memory : IfOk decided (λ request. Fits request p.memory)

-- What was decided of the processor p is what its next instruction asks.
pub record Decides (p : Processor) (decided : Result Request Ending) : Type 0 where
  pub as_asked : (ss : List (List ℕ)) → action p ss ≡ answered decided (moved p) ss
  pub in_memory : IfOk decided (λ request. Fits request p.memory)

-- what is asked of a device by a processor whose r63 has not moved on yet: a byte for a register, paper for a byte, a sector for memory, 512 bytes of memory for a sector
abbrev pub taking : Register → Processor → Action
taking a p = takes (λ byte. gets a byte (moved p))

abbrev pub printing : ℕ → Processor → Action
printing byte p = prints byte (moved p)

abbrev pub reading : ℕ → ℕ → Processor → List (List ℕ) → Action
reading at sector p ss = unless (missing sector ss) Sector (goes (stored at 512 (slice_index_or ss sector []) (moved p)))

abbrev pub writing : ℕ → ℕ → Processor → List (List ℕ) → Action
writing at sector p ss = unless (missing sector ss) Sector (writes sector (bytes_at at 512 p) (moved p))

-- What came of a step of the processor p by itself, which left q: it is done, or nothing has changed and its action is known.
abbrev pub Comes : Processor → Result Outcome Ending → Processor → Type 0
Comes p (Ok outcome.Done) q = (ss : List (List ℕ)) → action p ss ≡ goes q
Comes p (Ok outcome.Halted) q = (ss : List (List ℕ)) → action p ss ≡ halts q
Comes p (Ok (outcome.Takes a)) q = ((ss : List (List ℕ)) → action p ss ≡ taking a p) × (q ≡ p)
Comes p (Ok (outcome.Prints byte)) q = ((ss : List (List ℕ)) → action p ss ≡ printing byte p) × (q ≡ p)
Comes p (Ok (outcome.Reads at sector)) q = ((ss : List (List ℕ)) → action p ss ≡ reading at sector p ss) × (q ≡ p) × (at + 512 ≤ length p.memory)
Comes p (Ok (outcome.Writes at sector)) q = ((ss : List (List ℕ)) → action p ss ≡ writing at sector p ss) × (q ≡ p) × (at + 512 ≤ length p.memory)
Comes p (Err e) q = ((ss : List (List ℕ)) → action p ss ≡ ends e) × (q ≡ p)
