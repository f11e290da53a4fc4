-- Calls that are made one after another from a new station on.
use Rattle.std.specs.Prelude.{◌≡◌, ℕ, min, List, [], ◌∷◌, ◌++◌, length, take, drop, replicate}
use Rattle.console.specs.Consoles.{Console, Kind}
use Rattle.disk.specs.Disks.{Disk}
use Rattle.station.specs.declared.unit.Phase.TheVariants.{Unstarted}
use Rattle.ffi.specs.declared.call.Call.{Call}
use Rattle.ffi.specs.declared.call.Reply.{Reply}
use Rattle.ffi.specs.Calls.{Bench, Answers}

-- the bench of a new station
abbrev pub new_bench : List ℕ → Disk → Console → List ℕ → Bench
new_bench memory d k output = record { registers = replicate 64 0; phase = Unstarted; memory = memory; disk = d; console = k; output = output }

-- Calls made one after another, each with its reply.
pub data Serves (kind : Kind) (given : List ℕ) (b : Bench) : List Call → List Reply → Bench → Type 0 where
  none_made : Serves kind given b [] [] b
  one_made : {calls : List Call} {replies : List Reply} {b₁ b₂ : Bench} {call : Call} {reply : Reply} → Serves kind given b calls replies b₁
      → Answers kind call given b₁ reply b₂ → Serves kind given b (calls ++ (call ∷ [])) (replies ++ (reply ∷ [])) b₂

-- The calls are made for whose replies there is room, and so many were: the other replies are as they were.
pub record Served (kind : Kind) (given : List ℕ) (b : Bench) (calls : List Call) (before : List Reply) (count : ℕ) (after : List Reply) (b' : Bench) : Type 0 where
  pub as_many : count ≡ min (length calls) (length before)
  pub made : Serves kind given b (take count calls) (take count after) b'
  pub rest_same : drop count after ≡ drop count before
