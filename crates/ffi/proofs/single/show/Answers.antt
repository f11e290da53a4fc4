use Rattle.std.proofs.Common.{◌≡◌, ◌+◌, ◌-◌, ◌*◌, ◌≤◌, [], ◌∷◌, length, ap, ◌∙◌, arith, below_more}
use Rattle.std.proofs.lemmas.Slice.{between-put_mid}
use Rattle.assembler.specs.Texts.{bytes}
use Rattle.ffi.proofs.Parting.{part_before}
use Rattle.ffi.proofs.single.show.Goals as goal

pub loop-number-preserved : goal.loop-number-preserved
loop-number-preserved c =
    let out = c.loop-number.out in
    let at = 4 * c.loop-number.number in
    let four = c.copy_from_slice.new.self in
    let within : at ≤ length out = omega arith in
    let spelled : four ≡ bytes (c.register.result ∷ []) = c.copy_from_slice.ensures.after ∙ c.to_be_bytes-bytes.ensures in
    below_more _ _
    (λ k h. part_before out four (4 * k) (4 * k + 4) at (at + 4 - at) (omega arith) within ∙ c.loop-number.invariant k h)
    (between-put_mid at (at + 4 - at) out four (at + 4) within (ap length spelled ∙ omega arith) ∙ spelled ∙ ap (λ n. bytes (n ∷ [])) c.register.ensures.value)
