use Rattle.std.proofs.Common.{◌≡◌, ◌-◌, length, sym, refl, subst, arith}
use Rattle.std.proofs.lemmas.List.Edits.{length-between}
use Rattle.std.specs.List.{between}
use Rattle.ffi.specs.Calls.{ReadsOut}
use Rattle.ffi.proofs.Parting.{on_part, elsewhere}
use Rattle.ffi.proofs.single.sector.Goals as goal

pub returns : goal.returns
returns g c s memory d k same =
    let out = c.args.out.now in
    let begin = c.part-part.result.start in
    let end = c.part-part.result.end in
    let left = c.read_out.new.out in
    let size : length left ≡ end - begin = omega (arith, length-between out begin end (omega arith)) in
    record {
      count = c.read_out.result;
      reads = on_part out left c.args.call.from c.args.call.to begin end c.part-part.ensures.ends c.part-part.ensures.begins size
          (λ l l'. ReadsOut d.sectors c.args.call.number l c.read_out.result l')
          (subst (λ ss. ReadsOut ss c.args.call.number (between begin end out) c.read_out.result left) (sym same) c.read_out.ensures);
      replied = c.counted.ensures;
      output_only = record {
        all_else_same = refl;
        elsewhere_same = elsewhere out left c.args.call.from c.args.call.to begin end c.part-part.ensures.ends c.part-part.ensures.begins size;
      };
    }
