-- The reply of each answer.
use Rattle.std.specs.Prelude.{ℕ, Ok, Err, Result}
use Rattle.assembler.specs.declared.assembler.AssembleRefusal.{AssembleRefusal}
use Rattle.assembler.specs.declared.assembler.AssembleRefusal.TheVariants as assemble
use Rattle.assembler.specs.declared.lister.ListRefusal.{ListRefusal}
use Rattle.assembler.specs.Assembly.{assemble_refusal_number}
use Rattle.assembler.specs.Lists.{list_refusal_number}
use Rattle.station.specs.declared.answer.Answer.{Answer}
use Rattle.station.specs.declared.answer.RunRefusal.{RunRefusal}
use Rattle.station.specs.declared.answer.StartRefusal.{StartRefusal}
use Rattle.station.specs.declared.answer.TallyRefusal.{TallyRefusal}
use Rattle.station.specs.declared.answer.TallyRefusal.TheVariants as tally
use Rattle.station.specs.Numbers.{start_number, run_number, tally_number}
use Rattle.text.specs.declared.fault.Fault.{Fault}
use Rattle.ffi.specs.declared.call.Reply.{Reply}
use Rattle.ffi.specs.Numbers.{cause_number, stop_number}

-- an accepted call with this count
abbrev pub counted_reply : ℕ → Reply
counted_reply count = record { refusal = 0; count = count; reason = 0; line = 0; field = 0 }

-- a refused call
abbrev pub refused_reply : ℕ → Reply
refused_reply number = record { refusal = number; count = 0; reason = 0; line = 0; field = 0 }

-- a call that is refused for a fault of its text
abbrev pub misformed_reply : ℕ → Fault → Reply
misformed_reply number fault = record { refusal = number; count = 0; reason = cause_number fault.cause; line = fault.line; field = fault.field }

-- an assembly's reply counts the bytes written
abbrev pub assemble_reply : Result ℕ AssembleRefusal → Reply
assemble_reply (Ok count) = counted_reply count
assemble_reply (Err (assemble.TooLong)) = refused_reply (assemble_refusal_number assemble.TooLong)
assemble_reply (Err (assemble.Form fault)) = misformed_reply (assemble_refusal_number (assemble.Form fault)) fault
assemble_reply (Err (assemble.Room)) = refused_reply (assemble_refusal_number assemble.Room)

-- a listing's reply counts the bytes written
abbrev pub list_reply : Result ℕ ListRefusal → Reply
list_reply (Ok count) = counted_reply count
list_reply (Err refusal) = refused_reply (list_refusal_number refusal)

-- an accepted start has nothing to count
abbrev pub start_reply : Result (Unit {0}) StartRefusal → Reply
start_reply (Ok _) = counted_reply 0
start_reply (Err refusal) = refused_reply (start_number refusal)

-- a run's reply has the executed steps and the stop
abbrev pub run_reply : Result Answer RunRefusal → Reply
run_reply (Ok answer) = record { refusal = 0; count = answer.count; reason = stop_number answer.stop; line = 0; field = 0 }
run_reply (Err refusal) = refused_reply (run_number refusal)

-- a tally's reply counts the points
abbrev pub tally_reply : Result ℕ TallyRefusal → Reply
tally_reply (Ok points) = counted_reply points
tally_reply (Err tally.NotStarted) = refused_reply (tally_number tally.NotStarted)
tally_reply (Err tally.OtherMemory) = refused_reply (tally_number tally.OtherMemory)
tally_reply (Err tally.NotEnded) = refused_reply (tally_number tally.NotEnded)
tally_reply (Err tally.TooLong) = refused_reply (tally_number tally.TooLong)
tally_reply (Err (tally.Form fault)) = misformed_reply (tally_number (tally.Form fault)) fault
