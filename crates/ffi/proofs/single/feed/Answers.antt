use Rattle.std.proofs.Common.{take, refl, subst}
use Rattle.station.specs.Views.{world}
use Rattle.station.specs.Worlds.{Feeds}
use Rattle.ffi.proofs.single.feed.Goals as goal

pub returns : goal.returns
returns g c memory d output =
    let mean = g.C.Console.meaning in
    let named = take c.args.call.memory memory in
    record {
      went = c.feed.result;
      feeds = subst (λ l. Feeds (world c.args.station.now named d (mean c.args.console.now)) l c.feed.result (world c.args.station.now named d (mean c.feed.new.console))) c.part.ensures (c.feed.ensures named d);
      replied = c.counted.ensures;
      memory_same = refl {a = memory};
      output_same = refl {a = output};
    }
