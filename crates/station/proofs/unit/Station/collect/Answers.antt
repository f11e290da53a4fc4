use Rattle.std.proofs.Common.{refl, arith}
use Rattle.console.specs.Queues.{none_pulled}
use Rattle.station.proofs.Bytes.{pulled_more, rest_more}
use Rattle.station.proofs.unit.Station.collect.Goals as goal

pub loop-came-init : goal.loop-came-init
loop-came-init g c = (none_pulled, refl)

pub loop-came-preserved : goal.loop-came-preserved
loop-came-preserved g c =
    let v = c.loop-came.invariant in (
      pulled_more _ _ _ _ c.loop-came.buffer c.loop-came.came c.in-Some.byte (omega arith) v.0 c.in-Some.ensures,
      rest_more c.loop-came.buffer c.args.buffer.now c.loop-came.came c.in-Some.byte v.1,
    )
