use Rattle.std.proofs.Common.{take}
use Rattle.console.specs.Queues.{AllOffered}
use Rattle.station.proofs.unit.Station.feed.Given as goal

abbrev pub invariant-loop-went : goal.invariant-loop-went
invariant-loop-went g l = AllOffered (g.C.Console.meaning l.initial.console) (take l.went l.bytes) (g.C.Console.meaning l.console)
