-- What the two kinds of console mean by what they hold.
use Rattle.std.specs.Prelude.{ℕ, ◌-◌, List, [], length}
use Rattle.std.specs.List.{between}
use Rattle.console.specs.Consoles.{Kind, Console}

-- A byte that leaves a keyboard gives its slot or its paper place back.
abbrev pub typed_kind : Kind
typed_kind = record { slot_back = 1; paper_back = 1 }

-- A keyboard has 256 slots and 4,096 paper places, less those in use.
abbrev pub typed : List ℕ → List ℕ → Console
typed waiting printed = record { waiting = waiting; slots = 256 - length waiting; printed = printed; paper = 4096 - length printed }

-- A keyboard at its start.
abbrev pub starting_typed : Console
starting_typed = record { waiting = []; slots = 256; printed = []; paper = 4096 }

-- A script never gives a slot or a paper place back.
abbrev pub scripted_kind : Kind
scripted_kind = record { slot_back = 0; paper_back = 0 }

-- A script has what was not taken of its text waiting, no slots, and as paper what is behind the printed bytes in its buffer.
abbrev pub scripted : List ℕ → List ℕ → ℕ → ℕ → Console
scripted waiting paper pulled printed = record {
  waiting = waiting;
  slots = 0;
  printed = between pulled printed paper;
  paper = length paper - printed;
}

-- A script at its start, over a text and a buffer of so many bytes.
abbrev pub starting_scripted : List ℕ → ℕ → Console
starting_scripted text room = record { waiting = text; slots = 0; printed = []; paper = room }
