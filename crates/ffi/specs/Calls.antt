-- What each call does, and what it replies.
use Rattle.std.specs.Prelude.{◌≡◌, ℕ, ◌+◌, ◌*◌, ◌<◌, ◌≤◌, ◌≢◌, ◌⊎◌, List, [], ◌∷◌, length, take, Ok, Err, Result, slice_index, slice_index_or}
use Rattle.std.specs.List.{between}
use Rattle.assembler.specs.Texts.{bytes}
use Rattle.console.specs.Consoles.{Console, Kind}
use Rattle.disk.specs.Disks.{Disk}
use Rattle.processor.specs.Machine.{Processor}
use Rattle.station.specs.declared.answer.Answer.{Answer}
use Rattle.station.specs.declared.answer.RunRefusal.{RunRefusal}
use Rattle.station.specs.declared.answer.StartRefusal.{StartRefusal}
use Rattle.station.specs.declared.answer.TallyRefusal.{TallyRefusal}
use Rattle.station.specs.declared.unit.Phase.{Phase}
use Rattle.station.specs.declared.unit.Station.{Station}
use Rattle.station.specs.Worlds.{World, Starts, Runs, Feeds, Collects, Tallies}
use Rattle.ffi.specs.declared.asked.Asked.{Asked}
use Rattle.ffi.specs.declared.asked.NoSuchKind.{NoSuchKind}
use Rattle.ffi.specs.declared.asked.Asked.TheVariants as asked
use Rattle.ffi.specs.declared.call.Call.{Call}
use Rattle.ffi.specs.declared.call.Reply.{Reply}
use Rattle.ffi.specs.Kinds.{KindAsks}
use Rattle.ffi.specs.Parts.{ElsewhereSame}
use Rattle.ffi.specs.Replies.{counted_reply, refused_reply, start_reply, run_reply, tally_reply}

-- All that calls touch: a station, the memory that is lent to it, what its devices mean, and the output.
pub record Bench : Type 0 where
  pub registers : List ℕ
  pub phase : Phase
  pub memory : List ℕ
  pub disk : Disk
  pub console : Console
  pub output : List ℕ

-- the bench of a station and of what is lent to it
abbrev pub bench : Station → List ℕ → Disk → Console → List ℕ → Bench
bench s memory d k output = record { registers = s.registers; phase = s.phase; memory = memory; disk = d; console = k; output = output }

-- the processor whose memory is the first bytes of a bench's, so many as a call names
abbrev pub processor_named : ℕ → Bench → Processor
processor_named size b = record { registers = b.registers; memory = take size b.memory }

-- the station's world with that memory
abbrev pub named : ℕ → Bench → World
named size b = record { machine = record { processor = processor_named size b; disk = b.disk; console = b.console }; phase = b.phase }

-- the same bench with another output
abbrev pub with_output : List ℕ → Bench → Bench
with_output output b = record { registers = b.registers; phase = b.phase; memory = b.memory; disk = b.disk; console = b.console; output = output }

-- the part of bytes that a call names
abbrev pub part_of : Call → List ℕ → List ℕ
part_of call xs = between call.from call.to xs

-- A call starts the station on the memory that it names.
pub record Started (call : Call) (b : Bench) (reply : Reply) (b' : Bench) : Type 0 where
  pub result : Result (Unit {0}) StartRefusal
  pub starts : Starts (named call.memory b) result (named call.memory b')
  pub replied : reply ≡ start_reply result
  pub past_same : ElsewhereSame 0 call.memory b.memory b'.memory
  pub output_same : b'.output ≡ b.output

-- A call runs the station on the memory that it names, for so many steps as its number says.
pub record Ran (kind : Kind) (call : Call) (b : Bench) (reply : Reply) (b' : Bench) : Type 0 where
  pub result : Result Answer RunRefusal
  pub runs : Runs kind (named call.memory b) call.number result (named call.memory b')
  pub replied : reply ≡ run_reply result
  pub past_same : ElsewhereSame 0 call.memory b.memory b'.memory
  pub output_same : b'.output ≡ b.output

-- A call feeds the part of the data that it names to the console.
pub record Fed (call : Call) (given : List ℕ) (b : Bench) (reply : Reply) (b' : Bench) : Type 0 where
  pub went : ℕ
  pub feeds : Feeds (named call.memory b) (part_of call given) went (named call.memory b')
  pub replied : reply ≡ counted_reply went
  pub memory_same : b'.memory ≡ b.memory
  pub output_same : b'.output ≡ b.output

-- A call collects from the console into the part of the output that it names.
pub record Collected (kind : Kind) (call : Call) (b : Bench) (reply : Reply) (b' : Bench) : Type 0 where
  pub came : ℕ
  pub collects : Collects kind (named call.memory b) (part_of call b.output) came (named call.memory b') (part_of call b'.output)
  pub replied : reply ≡ counted_reply came
  pub memory_same : b'.memory ≡ b.memory
  pub elsewhere_same : ElsewhereSame call.from call.to b.output b'.output

-- A call tallies the station by the part of the data that it names.
pub record Tallied (call : Call) (given : List ℕ) (b : Bench) (reply : Reply) (b' : Bench) : Type 0 where
  pub result : Result ℕ TallyRefusal
  pub tallies : Tallies (processor_named call.memory b) b.phase b.disk.sectors (part_of call given) result
  pub replied : reply ≡ tally_reply result
  pub all_same : b' ≡ b

-- Register k stands in the four bytes from 4 k on, the most significant first.
abbrev pub HoldsRegisters : List ℕ → List ℕ → Type 0
HoldsRegisters registers xs = (k : ℕ) → k < 64 → between (4 * k) (4 * k + 4) xs ≡ bytes (slice_index registers k ∷ [])

-- Registers go to a part of 256 bytes; one of another length is as it was.
abbrev pub Shows : List ℕ → List ℕ → ℕ → List ℕ → Type 0
Shows registers before count after =
    ((length before ≡ 256) × (count ≡ 256) × HoldsRegisters registers after)
    ⊎ ((length before ≢ 256) × (count ≡ 0) × (after ≡ before))

-- Only the output has changed, and in it only the part that a call names.
pub record OutputOnly (call : Call) (b b' : Bench) : Type 0 where
  pub all_else_same : b' ≡ with_output b'.output b
  pub elsewhere_same : ElsewhereSame call.from call.to b.output b'.output

-- A call shows the registers in the part of the output that it names.
pub record Shown (call : Call) (b : Bench) (reply : Reply) (b' : Bench) : Type 0 where
  pub count : ℕ
  pub shows : Shows b.registers (part_of call b.output) count (part_of call b'.output)
  pub replied : reply ≡ counted_reply count
  pub output_only : OutputOnly call b b'

-- A sector goes to a part of 512 bytes. Where there is no such sector, or the part has another length, it is as it was.
abbrev pub ReadsOut : List (List ℕ) → ℕ → List ℕ → ℕ → List ℕ → Type 0
ReadsOut sectors sector before count after =
    ((length before ≡ 512) × (sector < length sectors) × (count ≡ 512) × (after ≡ slice_index_or sectors sector []))
    ⊎ (((length before ≢ 512) ⊎ (length sectors ≤ sector)) × (count ≡ 0) × (after ≡ before))

-- A call reads the sector of its number into the part of the output that it names.
pub record ReadOut (call : Call) (b : Bench) (reply : Reply) (b' : Bench) : Type 0 where
  pub count : ℕ
  pub reads : ReadsOut b.disk.sectors call.number (part_of call b.output) count (part_of call b'.output)
  pub replied : reply ≡ counted_reply count
  pub output_only : OutputOnly call b b'

-- What a call does that asks for this: one of no kind is refused, and nothing changes.
abbrev pub Does : Result Asked NoSuchKind → Kind → Call → List ℕ → Bench → Reply → Bench → Type 0
Does (Ok asked.Start) kind call given b reply b' = Started call b reply b'
Does (Ok asked.Run) kind call given b reply b' = Ran kind call b reply b'
Does (Ok asked.Feed) kind call given b reply b' = Fed call given b reply b'
Does (Ok asked.Collect) kind call given b reply b' = Collected kind call b reply b'
Does (Ok asked.Tally) kind call given b reply b' = Tallied call given b reply b'
Does (Ok asked.Registers) kind call given b reply b' = Shown call b reply b'
Does (Ok asked.Sector) kind call given b reply b' = ReadOut call b reply b'
Does (Err _) kind call given b reply b' = (reply ≡ refused_reply 255) × (b' ≡ b)

-- What a call answers and does on a bench, with the data that is given to all calls.
pub record Answers (kind : Kind) (call : Call) (given : List ℕ) (b : Bench) (reply : Reply) (b' : Bench) : Type 0 where
  pub wish : Result Asked NoSuchKind
  pub wished : KindAsks call.kind wish
  pub done : Does wish kind call given b reply b'
