use Rattle.std.proofs.Common.{◌≡◌, take, drop}
use Rattle.console.specs.Queues.{AllPulled}
use Rattle.station.proofs.unit.Station.collect.Given as goal

abbrev pub invariant-loop-came : goal.invariant-loop-came
invariant-loop-came g l =
    AllPulled g.C.Console.kind (g.C.Console.meaning l.initial.console) (take l.came l.buffer) (g.C.Console.meaning l.console)
    × (drop l.came l.buffer ≡ drop l.came l.initial.buffer)
