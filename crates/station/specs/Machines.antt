-- What a processor does at its disk and its console.
use Rattle.std.specs.Prelude.{◌≡◌, ℕ, zero, suc, ◌<◌, List, [], Ok, Err, Result}
use Rattle.processor.specs.declared.ending.Ending.{Ending}
use Rattle.processor.specs.declared.ending.Ending.TheVariants.{Halt, Sector}
use Rattle.processor.specs.declared.ending.Want.{Want}
use Rattle.processor.specs.declared.ending.Want.TheVariants.{Input, Paper, Keep}
use Rattle.processor.specs.Machine.{Processor, Action, ends, goes, takes, prints, writes, halts}
use Rattle.processor.specs.Effects.{action}
use Rattle.disk.specs.Disks.{Disk, Written, Unkept}
use Rattle.console.specs.Consoles.{Kind, Console, Taken, Put}
use Rattle.disk.specs.declared.WriteRefusal.{WriteRefusal}
use Rattle.disk.specs.declared.WriteRefusal.TheVariants.{NoSuchSector, NoKeep}
use Rattle.station.specs.declared.attempt.Executed.{Executed}
use Rattle.station.specs.declared.attempt.Executed.TheVariants.{Going, Halted}
use Rattle.station.specs.declared.attempt.Obstacle.{Obstacle}
use Rattle.station.specs.declared.attempt.Obstacle.TheVariants.{Lacking, Impossible}
use Rattle.station.specs.declared.answer.Stop.{Stop}
use Rattle.station.specs.declared.answer.Stop.TheVariants.{Spent, Wants, Ended}

-- a processor with its disk and its console
pub record Machine : Type 0 where
  pub processor : Processor
  pub disk : Disk
  pub console : Console

-- what the next instruction asks
abbrev pub next : Machine → Action
next m = action m.processor m.disk.sectors

-- One executed step after which the processor goes on: what the instruction asks, the disk and the console do.
pub data Step (kind : Kind) (act : Action) (m m' : Machine) : Type 0 where
  went : {p : Processor} → act ≡ goes p
      → m'.processor ≡ p → m'.disk ≡ m.disk → m'.console ≡ m.console → Step kind act m m'
  took : {p : ℕ → Processor} {byte : ℕ} → act ≡ takes p → Taken kind m.console byte m'.console
      → m'.processor ≡ p byte → m'.disk ≡ m.disk → Step kind act m m'
  printed : {byte : ℕ} {p : Processor} → act ≡ prints byte p → Put m.console byte m'.console
      → m'.processor ≡ p → m'.disk ≡ m.disk → Step kind act m m'
  wrote : {sector : ℕ} {block : List ℕ} {p : Processor} → act ≡ writes sector block p → Written m.disk sector block m'.disk
      → m'.processor ≡ p → m'.console ≡ m.console → Step kind act m m'

-- The executed step that halts.
pub record Halts (act : Action) (m m' : Machine) : Type 0 where
  pub asks : act ≡ halts m'.processor
  pub disk_same : m'.disk ≡ m.disk
  pub console_same : m'.console ≡ m.console

-- The instruction cannot be done for want of something.
pub data Lacks (act : Action) (m : Machine) : Want → Type 0 where
  no_input : {p : ℕ → Processor} → act ≡ takes p → m.console.waiting ≡ [] → Lacks act m Input
  no_paper : {byte : ℕ} {p : Processor} → act ≡ prints byte p → m.console.paper ≡ zero → Lacks act m Paper
  no_keep : {sector : ℕ} {block : List ℕ} {p : Processor} → act ≡ writes sector block p → Unkept m.disk sector → Lacks act m Keep

-- What comes of an attempt to do what an instruction asks: where it is not done, nothing has changed.
abbrev pub Tries : Kind → Action → Machine → Result Executed Obstacle → Machine → Type 0
Tries kind act m (Ok Going) m' = Step kind act m m'
Tries kind act m (Ok Halted) m' = Halts act m m'
Tries kind act m (Err (Lacking want)) m' = Lacks act m want × (m' ≡ m)
Tries kind act m (Err (Impossible e)) m' = (act ≡ ends e) × (m' ≡ m)

-- what a refused write keeps an instruction from
abbrev pub obstacle : WriteRefusal → Obstacle
obstacle NoSuchSector = Impossible Sector
obstacle NoKeep = Lacking Keep

-- how a run stops there
abbrev pub stop_at : Obstacle → Stop
stop_at (Lacking want) = Wants want
stop_at (Impossible e) = Ended e

-- A number of steps, one after another.
pub data Steps (kind : Kind) (m : Machine) : ℕ → Machine → Type 0 where
  no_step : Steps kind m zero m
  one_step : {m₁ m₂ : Machine} {n : ℕ} → Steps kind m n m₁ → Step kind (next m₁) m₁ m₂ → Steps kind m (suc n) m₂

-- What a machine that has not ended does with so many granted steps: how many it executes, why it stops, and what it leaves.
pub data Goes (kind : Kind) (m : Machine) (granted : ℕ) : ℕ → Stop → Machine → Type 0 where
  -- all are executed, and none ended it
  all_spent : {m' : Machine} → Steps kind m granted m' → Goes kind m granted granted Spent m'
  -- the next instruction wants what is not there
  in_want : {n : ℕ} {want : Want} {m' : Machine} → n < granted → Steps kind m n m' → Lacks (next m') m' want → Goes kind m granted n (Wants want) m'
  -- the next instruction cannot be done
  at_end : {n : ℕ} {e : Ending} {m' : Machine} → n < granted → Steps kind m n m' → next m' ≡ ends e → Goes kind m granted n (Ended e) m'
  -- the last executed instruction halts
  at_halt : {n : ℕ} {m₁ m' : Machine} → n < granted → Steps kind m n m₁ → Halts (next m₁) m₁ m' → Goes kind m granted (suc n) (Ended Halt) m'
