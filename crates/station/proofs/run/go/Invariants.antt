use Rattle.station.specs.Views.{seen}
use Rattle.station.specs.Machines.{Steps}
use Rattle.station.proofs.run.go.Given as goal

abbrev pub invariant-loop-count : goal.invariant-loop-count
invariant-loop-count g l =
    Steps g.C.Console.kind (seen g.D.Readable g.D.Writable g.C.Console l.initial.registers l.initial.memory l.initial.disk l.initial.console) l.count
    (seen g.D.Readable g.D.Writable g.C.Console l.registers l.memory l.disk l.console)
