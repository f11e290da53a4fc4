use Rattle.std.proofs.Common.{◌≡◌, ◌-◌, length, refl, arith}
use Rattle.std.proofs.lemmas.List.Edits.{length-between}
use Rattle.ffi.specs.Calls.{Shows}
use Rattle.ffi.proofs.Parting.{on_part, elsewhere}
use Rattle.ffi.proofs.single.registers.Goals as goal

pub returns : goal.returns
returns c memory d k =
    let out = c.args.out.now in
    let begin = c.part-part.result.start in
    let end = c.part-part.result.end in
    let left = c.show.new.out in
    let size : length left ≡ end - begin = omega (arith, length-between out begin end (omega arith)) in
    record {
      count = c.show.result;
      shows = on_part out left c.args.call.from c.args.call.to begin end c.part-part.ensures.ends c.part-part.ensures.begins size
          (λ l l'. Shows c.args.station.now.registers l c.show.result l')
          c.show.ensures;
      replied = c.counted.ensures;
      output_only = record {
        all_else_same = refl;
        elsewhere_same = elsewhere out left c.args.call.from c.args.call.to begin end c.part-part.ensures.ends c.part-part.ensures.begins size;
      };
    }
