use Rattle.std.proofs.Common.{arith}
use Rattle.station.specs.Machines.{no_step}
use Rattle.station.proofs.Running.{more, spent, halting, hindered}
use Rattle.station.proofs.run.go.Goals as goal

pub loop-count-init : goal.loop-count-init
loop-count-init g c = no_step

pub loop-count-preserved : goal.loop-count-preserved
loop-count-preserved g c = more c.loop-count.invariant _ (rw c.in-Ok-Going.field-0-is at c.in-Ok-Going.ensures)

pub returns-in-Ok-Halted : goal.returns-in-Ok-Halted
returns-in-Ok-Halted g c = halting c.loop-count.invariant _ (omega arith) (rw c.in-Ok-Halted.field-0-is at c.in-Ok-Halted.ensures)

pub returns-in-Err : goal.returns-in-Err
returns-in-Err g c = rw c.from.ensures (hindered c.loop-count.invariant c.in-Err.obstacle _ (omega arith) c.in-Err.ensures)

pub returns : goal.returns
returns g c = spent c.loop-count.invariant _ (omega arith)
