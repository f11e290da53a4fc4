use Rattle.std.proofs.Common.{sym, ◌∙◌}
use Rattle.std.proofs.lemmas.Slice.Eq.{slice_eq-Decides}
use Rattle.std.proofs.lemmas.Bool.Decides.{not_from_Decides, Decides-eqb}
use Rattle.u5.specs.declared.operation.Operation.TheVariants.{LoadB}
use Rattle.u5.specs.Operations.{spelling, every}
use Rattle.u5.proofs.Tables.{called_found, called_passed, called_none, named_cases}
use Rattle.u5.proofs.operation.Operation.named.Goals as goal

pub returns-then-eq : goal.returns-then-eq
unfolding every
returns-then-eq c =
    let field = c.args.field.now in
    let same = slice_eq-Decides Decides-eqb field c.spelling.result.now c.eq.result c.eq.ensures in
    let is = sym (called_found spelling field every c.loop-op.op-index LoadB c.loop-op-test.true (same.0 c.if-eq.true ∙ c.spelling.ensures)) ∙ c.loop-op.invariant in
    record { reads = is; cases = named_cases field _ is }

pub loop-op-preserved : goal.loop-op-preserved
unfolding every
loop-op-preserved c =
    let field = c.args.field.now in
    let same = slice_eq-Decides Decides-eqb field c.spelling.result.now c.eq.result c.eq.ensures in
    sym (called_passed spelling field every c.loop-op.op-index LoadB c.loop-op-test.true (λ e. not_from_Decides c.eq.result same c.if-eq.false (e ∙ sym c.spelling.ensures))) ∙ c.loop-op.invariant

pub returns : goal.returns
unfolding every
returns c =
    let field = c.args.field.now in
    let is = sym (called_none spelling field every c.loop-op.op-index LoadB c.loop-op-test.false) ∙ c.loop-op.invariant in
    record { reads = is; cases = named_cases field _ is }
