-- As many bytes were pulled as there were turns.
use Rattle.console_tests.specs.Draining.{Drained}
use Rattle.console_tests.proofs.drain.Given as goal

abbrev pub invariant-loop-i : goal.invariant-loop-i
invariant-loop-i g l = Drained g.C.Console.kind (g.C.Console.meaning l.initial.console) l._i (g.C.Console.meaning l.console)
