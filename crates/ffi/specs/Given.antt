-- What a caller gives to a new station, and what it finds afterwards.
use Rattle.std.specs.Prelude.{◌≡◌, ℕ, Bool, true, false, ◌⊎◌, List}
use Rattle.console.specs.Consoles.{Console, Kind}
use Rattle.console.specs.Kinds.{typed_kind, scripted_kind, starting_typed, starting_scripted}
use Rattle.disk.specs.Cuts.{cut, imaged}
use Rattle.disk.specs.Disks.{Disk}
use Rattle.overlay.specs.Layers.{starting}
use Rattle.ffi.specs.declared.call.Call.{Call}
use Rattle.ffi.specs.declared.call.Reply.{Reply}
use Rattle.ffi.specs.Calls.{Bench}
use Rattle.ffi.specs.Serves.{new_bench, Served}

-- the disk that bytes are, with an overlay over them or without
abbrev pub disk_given : Bool → List ℕ → Disk
disk_given true bytes = starting (cut bytes)
disk_given false bytes = imaged bytes

-- the console that is given: a script over a text and so many bytes of paper, or a keyboard
abbrev pub console_given : Bool → List ℕ → ℕ → Console
console_given true text room = starting_scripted text room
console_given false text room = starting_typed

-- its kind
abbrev pub kind_given : Bool → Kind
kind_given true = scripted_kind
kind_given false = typed_kind

-- The buffers of a caller that calls change: memory, output, paper and replies.
pub record Buffers : Type 0 where
  pub memory : List ℕ
  pub output : List ℕ
  pub paper : List ℕ
  pub replies : List Reply

abbrev pub buffers : List ℕ → List ℕ → List ℕ → List Reply → Buffers
buffers memory output paper replies = record { memory = memory; output = output; paper = paper; replies = replies }

-- The calls were made: memory and output are what they left. A keyboard leaves the paper as it was; what a script leaves on it is not promised.
pub record Finished (scripted : Bool) (given : List ℕ) (d : Disk) (k : Console) (calls : List Call) (before : Buffers) (count : ℕ) (after : Buffers) : Type 0 where
  pub left : Bench
  pub served : Served (kind_given scripted) given (new_bench before.memory d k before.output) calls before.replies count after.replies left
  pub memory_is : left.memory ≡ after.memory
  pub output_is : left.output ≡ after.output
  pub paper_same : scripted ≡ false → after.paper ≡ before.paper

-- The calls were made; or memory was wanting, and none was made, and nothing has changed. An overlay and a script want none.
abbrev pub ComesTo : Bool → Bool → List ℕ → Disk → Console → List Call → Buffers → ℕ → Buffers → Type 0
ComesTo frugal scripted given d k calls before count after =
    Finished scripted given d k calls before count after
    ⊎ ((frugal ≡ false) × (count ≡ 0) × (after ≡ before))
