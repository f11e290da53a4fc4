-- A station with what is lent to it, as a world.
use Rattle.std.specs.Prelude.{ℕ, List, Result}
use Rattle.disk.specs.declared.Readable as readable
use Rattle.disk.specs.declared.Writable as writable
use Rattle.disk.specs.Disks.{Disk, disk as meaning}
use Rattle.console.specs.declared.Console as console
use Rattle.console.specs.Consoles.{Console, Kind}
use Rattle.processor.specs.declared.registers.Registers.{Registers}
use Rattle.processor.specs.Machine.{Processor, Action}
use Rattle.processor.specs.Requests.{processor}
use Rattle.station.specs.declared.attempt.Executed.{Executed}
use Rattle.station.specs.declared.attempt.Obstacle.{Obstacle}
use Rattle.station.specs.declared.unit.Station.{Station}
use Rattle.station.specs.Machines.{Machine, next, Tries}
use Rattle.station.specs.Worlds.{World}

-- the machine of registers, memory, and what the devices mean
abbrev pub machine : Registers → List ℕ → Disk → Console → Machine
machine registers memory d k = record { processor = processor registers memory; disk = d; console = k }

-- the world of a station, a memory, and what the devices mean
abbrev pub world : Station → List ℕ → Disk → Console → World
world s memory d k = record { machine = machine s.registers memory d k; phase = s.phase }

-- what a writable disk means
abbrev pub disk_of : {D : Type 0} → readable.Ghosts D → writable.Ghosts D → D → Disk
disk_of r w d = meaning r.sectors w.kept w.keeps d

-- What comes of an action that asks only the console, whatever the disk.
module _ {C : Type 0} (c : console.Ghosts C) where
  abbrev pub AsksConsole : (Processor → Action) → Registers → List ℕ → C → Result Executed Obstacle → Registers → C → Type 0
  AsksConsole act registers memory k trial registers' k' =
      (d : Disk) → Tries c.kind (act (processor registers memory)) (machine registers memory d (c.meaning k)) trial (machine registers' memory d (c.meaning k'))

-- What comes of an action that asks only the disk, whatever the console.
module _ {D : Type 0} (r : readable.Ghosts D) (w : writable.Ghosts D) where
  abbrev pub AsksDisk : (Processor → List (List ℕ) → Action) → Registers → List ℕ → D → Result Executed Obstacle → Registers → List ℕ → D → Type 0
  AsksDisk act registers memory d trial registers' memory' d' =
      (kind : Kind) (k : Console) → Tries kind (act (processor registers memory) (r.sectors d)) (machine registers memory (disk_of r w d) k) trial (machine registers' memory' (disk_of r w d') k)

-- What comes of an attempt to execute the next instruction, and of so many granted steps.
module _ {D C : Type 0} (r : readable.Ghosts D) (w : writable.Ghosts D) (c : console.Ghosts C) where
  abbrev pub seen : Registers → List ℕ → D → C → Machine
  seen registers memory d k = machine registers memory (disk_of r w d) (c.meaning k)

  abbrev pub Attempts : Registers → List ℕ → D → C → Result Executed Obstacle → Registers → List ℕ → D → C → Type 0
  Attempts registers memory d k trial registers' memory' d' k' =
      Tries c.kind (next (seen registers memory d k)) (seen registers memory d k) trial (seen registers' memory' d' k')
