use Rattle.std.proofs.Common.{length, sym, refl, ap, ◌∙◌, inl}
use Rattle.console.specs.Kinds.{scripted_kind, typed_kind}
use Rattle.ffi.specs.Given.{console_given, kind_given}
use Rattle.ffi.proofs.Making.{finished, clash}
use Rattle.ffi.proofs.exports.on_disk.Goals as goal

pub returns-then-given : goal.returns-then-given
returns-then-given g c =
    let yes = c.if-given.true in
    let text = c.args.text.now in
    let room = length c.args.paper.now in
    inl (finished c.args.given.scripted scripted_kind _ text room _ _ (sym (ap kind_given yes)) (c.new-console.ensures.starts ∙ sym (ap (λ b. console_given b text room) yes)) (clash c.args.given.scripted yes) c.serve.ensures)

pub returns : goal.returns
returns g c =
    let no = c.if-given.false in
    let text = c.args.text.now in
    let room = length c.args.paper.now in
    inl (finished c.args.given.scripted typed_kind _ text room _ _ (sym (ap kind_given no)) (c.in-Ok.ensures ∙ sym (ap (λ b. console_given b text room) no)) (λ _. refl) c.serve-2.ensures)
