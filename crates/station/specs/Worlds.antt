-- What the calls of a station answer and do.
use Rattle.std.specs.Prelude.{◌≡◌, ℕ, zero, ◌%◌, ◌<◌, ◌≤◌, ◌≢◌, List, [], ◌++◌, length, take, drop, replicate, Some, None, Ok, Err, Option, Result, slice_index_or}
use Rattle.processor.specs.declared.ending.Ending.{Ending}
use Rattle.processor.specs.Machine.{Processor}
use Rattle.console.specs.Consoles.{Kind, Console}
use Rattle.console.specs.Queues as queue
use Rattle.station.specs.declared.answer.Answer.{Answer}
use Rattle.station.specs.declared.answer.Stop.{Stop}
use Rattle.station.specs.declared.answer.Stop.TheVariants as stop
use Rattle.station.specs.declared.answer.RunRefusal.{RunRefusal}
use Rattle.station.specs.declared.answer.RunRefusal.TheVariants.{NotStarted, OtherMemory}
use Rattle.station.specs.declared.answer.StartRefusal.{StartRefusal}
use Rattle.station.specs.declared.answer.StartRefusal.TheVariants.{Length, Uncollected, NoSector}
use Rattle.station.specs.declared.answer.TallyRefusal.{TallyRefusal}
use Rattle.station.specs.declared.answer.TallyRefusal.TheVariants as tally
use Rattle.sheet.specs.declared.refusal.SheetRefusal.{SheetRefusal}
use Rattle.sheet.specs.declared.refusal.SheetRefusal.TheVariants as sheet
use Rattle.sheet.specs.Sheets.{Gives}
use Rattle.station.specs.declared.unit.Phase.{Phase}
use Rattle.station.specs.declared.unit.Phase.TheVariants.{Unstarted, Running, Ended}
use Rattle.station.specs.Machines.{Machine, Goes}

-- All that a station's calls touch: registers, memory, disk and console, and how far the station is.
pub record World : Type 0 where
  pub machine : Machine
  pub phase : Phase

abbrev pub processor_of : World → Processor
processor_of w = w.machine.processor

abbrev pub memory_of : World → List ℕ
memory_of w = w.machine.processor.memory

abbrev pub sectors_of : World → List (List ℕ)
sectors_of w = w.machine.disk.sectors

abbrev pub console_of : World → Console
console_of w = w.machine.console

-- the length of the memory that a station was started with
abbrev pub started_with : Phase → Option ℕ
started_with Unstarted = None
started_with (Running n) = Some n
started_with (Ended n e) = Some n

-- how a station has ended, if it has
abbrev pub ending_of : Phase → Option Ending
ending_of Unstarted = None
ending_of (Running n) = None
ending_of (Ended n e) = Some e

-- the lengths that a memory may have
pub record Allowed (n : ℕ) : Type 0 where
  pub whole_sectors : n % 512 ≡ zero
  pub one_at_least : 512 ≤ n
  pub at_most : n ≤ 1048576

-- An accepted start: all registers are 0, sector 0 stands at address 0, and the rest of memory is as it was.
pub record Begun (w w' : World) : Type 0 where
  pub allowed : Allowed (length (memory_of w))
  pub all_collected : (console_of w).printed ≡ []
  pub has_sector : zero < length (sectors_of w)
  pub registers_zero : (processor_of w').registers ≡ replicate 64 0
  pub loaded : memory_of w' ≡ slice_index_or (sectors_of w) 0 [] ++ drop 512 (memory_of w)
  pub disk_same : w'.machine.disk ≡ w.machine.disk
  pub console_same : console_of w' ≡ console_of w
  pub now_running : w'.phase ≡ Running (length (memory_of w))

abbrev pub Starts : World → Result (Unit {0}) StartRefusal → World → Type 0
Starts w (Ok _) w' = Begun w w'
Starts w (Err Length) w' = (Allowed (length (memory_of w)) → ⊥) × (w' ≡ w)
Starts w (Err Uncollected) w' = Allowed (length (memory_of w)) × ((console_of w).printed ≢ []) × (w' ≡ w)
Starts w (Err NoSector) w' = Allowed (length (memory_of w)) × ((console_of w).printed ≡ []) × (length (sectors_of w) ≡ zero) × (w' ≡ w)

-- the phase in which a run from a running station leaves it
abbrev pub phase_after : ℕ → Stop → Phase
phase_after n stop.Spent = Running n
phase_after n (stop.Wants want) = Running n
phase_after n (stop.Ended e) = Ended n e

-- An accepted run: a running station goes on, an ended one answers 0 and its ending.
pub data Ran (kind : Kind) (w : World) (granted : ℕ) (answer : Answer) (w' : World) : Type 0 where
  goes_on : w.phase ≡ Running (length (memory_of w)) → Goes kind w.machine granted answer.count answer.stop w'.machine
      → w'.phase ≡ phase_after (length (memory_of w)) answer.stop → Ran kind w granted answer w'
  has_ended : {e : Ending} → w.phase ≡ Ended (length (memory_of w)) e → answer.count ≡ zero → answer.stop ≡ stop.Ended e → w' ≡ w → Ran kind w granted answer w'

-- the station was started, with a memory of another length than this
abbrev pub OtherLength : Phase → ℕ → Type 0
OtherLength phase size = (n : ℕ) × (started_with phase ≡ Some n) × (n ≢ size)

abbrev pub Runs : Kind → World → ℕ → Result Answer RunRefusal → World → Type 0
Runs kind w granted (Ok answer) w' = Ran kind w granted answer w'
Runs kind w granted (Err NotStarted) w' = (w.phase ≡ Unstarted) × (w' ≡ w)
Runs kind w granted (Err OtherMemory) w' = OtherLength w.phase (length (memory_of w)) × (w' ≡ w)

-- all but the console is as it was
pub record Aside (w w' : World) : Type 0 where
  pub processor_same : processor_of w' ≡ processor_of w
  pub disk_same : w'.machine.disk ≡ w.machine.disk
  pub phase_same : w'.phase ≡ w.phase

-- Bytes are offered to the console until they or the slots run out, and so many went.
pub record Feeds (w : World) (bytes : List ℕ) (went : ℕ) (w' : World) : Type 0 where
  pub offered : queue.Feeds (console_of w) bytes went (console_of w')
  pub aside : Aside w w'

-- Bytes are pulled into the front of a buffer until they or the room run out, and so many came; the rest of the buffer is as it was.
pub record Collects (kind : Kind) (w : World) (buffer : List ℕ) (came : ℕ) (w' : World) (buffer' : List ℕ) : Type 0 where
  pub pulled : queue.Collects kind (console_of w) (length buffer) (take came buffer') (console_of w')
  pub fits_buffer : came ≤ length buffer
  pub rest_same : drop came buffer' ≡ drop came buffer
  pub aside : Aside w w'

-- a sheet that gives no points is a tally's refusal
abbrev pub untold : SheetRefusal → TallyRefusal
untold sheet.TooLong = tally.TooLong
untold (sheet.Form fault) = tally.Form fault

-- What a tally by a sheet answers, of registers and memory, a phase and sectors: it changes nothing.
abbrev pub Tallies : Processor → Phase → List (List ℕ) → List ℕ → Result ℕ TallyRefusal → Type 0
Tallies p phase ss text (Ok points) = (e : Ending) × (phase ≡ Ended (length p.memory) e) × Gives p ss e text (Ok points)
Tallies p phase ss text (Err tally.NotStarted) = phase ≡ Unstarted
Tallies p phase ss text (Err tally.OtherMemory) = OtherLength phase (length p.memory)
Tallies p phase ss text (Err tally.NotEnded) = phase ≡ Running (length p.memory)
Tallies p phase ss text (Err tally.TooLong) = (e : Ending) × (phase ≡ Ended (length p.memory) e) × Gives p ss e text (Err sheet.TooLong)
Tallies p phase ss text (Err (tally.Form fault)) = (e : Ending) × (phase ≡ Ended (length p.memory) e) × Gives p ss e text (Err (sheet.Form fault))
