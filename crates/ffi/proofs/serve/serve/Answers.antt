use Rattle.std.proofs.Common.{◌<◌, length, sym, refl, arith}
use Rattle.std.proofs.lemmas.Bool.{ltb-true}
use Rattle.ffi.proofs.Making.{begun, made_more, equal_call, rest_more}
use Rattle.ffi.proofs.serve.serve.Goals as goal

pub loop-k-init : goal.loop-k-init
loop-k-init g c = (begun _ _ c.new-station.result _ _ _ _ c.new-station.ensures.registers c.new-station.ensures.phase, refl, omega arith)

pub loop-k-preserved : goal.loop-k-preserved
loop-k-preserved g c =
    let v = c.loop-k.invariant in
    let found = c.in-Some.ensures.lookup in
    let within : c.loop-k.k < length c.args.calls.now = ltb-true _ _ (sym found.0) in (
      made_more _ c.args.calls.now c.loop-k.replies c.loop-k.k c.in-Some.call.now c.answer.result within (omega arith) v.0 (equal_call _ _ found.1 c.answer.ensures),
      rest_more c.args.replies.now c.loop-k.replies c.loop-k.k c.answer.result v.1,
      omega (arith, within),
    )
