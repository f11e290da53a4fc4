use Rattle.std.proofs.Common.{◌≡◌, ◌-◌, length, take, refl, arith}
use Rattle.std.proofs.lemmas.List.Edits.{length-between}
use Rattle.station.specs.Views.{world}
use Rattle.station.specs.Worlds.{Collects}
use Rattle.ffi.proofs.Parting.{on_part, elsewhere}
use Rattle.ffi.proofs.single.collect.Goals as goal

pub returns : goal.returns
returns g c memory d =
    let mean = g.C.Console.meaning in
    let named = take c.args.call.memory memory in
    let out = c.args.out.now in
    let begin = c.part-part.result.start in
    let end = c.part-part.result.end in
    let left = c.collect.new.buffer in
    let size : length left ≡ end - begin = omega (arith, length-between out begin end (omega arith)) in
    record {
      came = c.collect.result;
      collects = on_part out left c.args.call.from c.args.call.to begin end c.part-part.ensures.ends c.part-part.ensures.begins size
          (λ l l'. Collects g.C.Console.kind (world c.args.station.now named d (mean c.args.console.now)) l c.collect.result (world c.args.station.now named d (mean c.collect.new.console)) l')
          (c.collect.ensures named d);
      replied = c.counted.ensures;
      memory_same = refl {a = memory};
      elsewhere_same = elsewhere out left c.args.call.from c.args.call.to begin end c.part-part.ensures.ends c.part-part.ensures.begins size;
    }
