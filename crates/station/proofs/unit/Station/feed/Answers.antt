use Rattle.std.proofs.Common.{arith}
use Rattle.console.specs.Queues.{none_offered}
use Rattle.station.proofs.Bytes.{offered_more}
use Rattle.station.proofs.unit.Station.feed.Goals as goal

pub loop-went-init : goal.loop-went-init
loop-went-init g c = none_offered

pub loop-went-preserved : goal.loop-went-preserved
loop-went-preserved g c = offered_more _ _ _ c.args.bytes.now c.loop-went.went (omega arith) c.loop-went.invariant c.in-Ok.ensures
