-- A history with every kind of call, refused ones among them: IN v0, OUT v0, HALT, on a console that has nothing waiting at first.
use Rattle.std.specs.Prelude.{ℕ, true, List, [], ◌∷◌, ◌++◌, replicate, codes}
use Rattle.u5.specs.Words.{register}
use Rattle.processor.specs.declared.ending.Ending.TheVariants.{Halt}
use Rattle.processor.specs.Words.{last_bytes}
use Rattle.processor.specs.Machine.{Processor}
use Rattle.processor.specs.Effects.{gets, moved}
use Rattle.disk.specs.Disks.{Disk}
use Rattle.console.specs.Consoles.{Kind, Console}
use Rattle.station.specs.declared.unit.Phase.{Phase}
use Rattle.station.specs.declared.unit.Phase.TheVariants.{Unstarted, Running, Ended}
use Rattle.station.specs.Worlds.{World}
use Rattle.station.specs.Histories.{Totals, History}

-- a console that gives slots and paper back
abbrev pub kind : Kind
kind = record { slot_back = 1; paper_back = 1 }

abbrev pub sector : List ℕ
sector = last_bytes 4 0xC0200000 ++ (last_bytes 4 0xC8200000 ++ (last_bytes 4 0xF8000000 ++ replicate 500 0))

abbrev pub disk : Disk
disk = record { sectors = sector ∷ []; kept = λ _. true; keeps = 0 }

abbrev pub console : List ℕ → ℕ → List ℕ → ℕ → Console
console waiting slots out paper = record { waiting = waiting; slots = slots; printed = out; paper = paper }

abbrev pub at : Processor → Console → Phase → World
at p k phase = record { machine = record { processor = p; disk = disk; console = k }; phase = phase }

abbrev pub begun : Processor
begun = record { registers = replicate 64 0; memory = sector }

-- after IN has taken a 7
abbrev pub taken : Processor
taken = gets (register 1) 7 (moved begun)

-- what the start finds, and the station once started, fed, ended and collected
abbrev pub found : World
found = at (record { registers = []; memory = replicate 512 1 }) (console [] 2 [] 4) Unstarted

abbrev pub after_start : World
after_start = at begun (console [] 2 [] 4) (Running 512)

abbrev pub after_feed : World
after_feed = at begun (console (7 ∷ []) 1 [] 4) (Running 512)

abbrev pub after_halt : World
after_halt = at (moved (moved taken)) (console [] 2 (7 ∷ []) 3) (Ended 512 Halt)

abbrev pub after_collection : World
after_collection = at (moved (moved taken)) (console [] 2 [] 4) (Ended 512 Halt)

-- three marks, of which two earn their points: v0 is 7, byte 600 is nowhere, and the station halted
abbrev pub sheet : List ℕ
sheet = codes "R\t1\t7\t5\nM\t600\t0\t9\nE\tHALT\t3\n"

abbrev pub totals : Totals
totals = record { executed = 3; fed = 7 ∷ []; collected = 7 ∷ []; endings = Halt ∷ Halt ∷ [] }

-- there is such a history
abbrev pub Example : Type 0
Example = History kind found after_collection totals
