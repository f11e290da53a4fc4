use Rattle.std.proofs.Common.{◌≡◌, drop}
use Rattle.u5.specs.Tables.{called}
use Rattle.u5.specs.Operations.{spelling, every, named}
use Rattle.u5.proofs.operation.Operation.named.Given as goal

abbrev pub invariant-loop-op : goal.invariant-loop-op
invariant-loop-op l = called spelling l.field (drop l.op-index every) ≡ named l.field
