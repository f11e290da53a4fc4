use Rattle.std.proofs.Common.{◌≡◌, ◌≤◌, length, take, drop}
use Rattle.station.specs.Views.{disk_of}
use Rattle.ffi.specs.Calls.{bench}
use Rattle.ffi.specs.Serves.{new_bench, Serves}
use Rattle.ffi.proofs.serve.serve.Given as goal

abbrev pub invariant-loop-k : goal.invariant-loop-k
invariant-loop-k g l =
    Serves g.C.Console.kind l.data (new_bench l.initial.memory (disk_of g.D.Readable g.D.Writable l.initial.disk) (g.C.Console.meaning l.initial.console) l.initial.out)
    (take l.k l.calls) (take l.k l.replies)
    (bench l.station l.memory (disk_of g.D.Readable g.D.Writable l.disk) (g.C.Console.meaning l.console) l.out)
    × (drop l.k l.replies ≡ drop l.k l.initial.replies)
    × (l.k ≤ length l.calls)
