use Rattle.std.proofs.Common.{◌≡◌, ◌≤◌, ◌∷◌, length, Ok, sym, ap, ◌∙◌, arith}
use Rattle.std.proofs.lemmas.Result.{err_from_is_err_and}
use Rattle.text.proofs.Joins.{few_pieces}
use Rattle.text.proofs.Placing.{on_line_ok, fault_on_line, handed_on_line}
use Rattle.sheet.specs.Lines.{line_mark}
use Rattle.sheet.proofs.Readback.{few_points}
use Rattle.sheet.proofs.Scoring.{carries_first, carries_more, carries_all, bad_line, unended, unended_line, at_the_end}
use Rattle.sheet.proofs.remains.Remains.earn.Given.{Over}
use Rattle.sheet.proofs.remains.Remains.earn.Goals as goal
use Rattle.sheet.proofs.remains.Remains.earn.Goals.{In-Some, After-worth-total}

pub loop-line-init : goal.loop-line-init
loop-line-init g c =
    let all = c.new-lines.ensures.value in
    (carries_first _ _ _ _ _ all, omega (arith, ap length all, few_pieces 10 c.args.sheet.now, c.requires), omega arith)

-- the line that was handed out
cut : (g : Over) (c : In-Some g) → c.loop-line.lines ≡ c.in-Some.line.now ∷ c.line.new.self
cut g c = handed_on_line _ _ _ _ _ _ c.line.ensures.advances (sym c.on_line.ensures ∙ c.in_ok-line.was) c.in-Some.is

-- the mark that it tells
told : (g : Over) (c : After-worth-total g) → line_mark c.in-Some.line.now ≡ Ok c.in_ok-mark.mark
told g c = sym c.read_line.ensures ∙ on_line_ok _ _ _ (sym c.on_line-in-Some.ensures ∙ c.in_ok-mark.was)

few : (g : Over) (c : After-worth-total g) → c.worth-total.result ≤ 1000
few g c = omega (arith, c.worth-total.ensures.bound, few_points c.in-Some.line.now c.in_ok-mark.mark (told g c))

pub returns-in_err-line : goal.returns-in_err-line
returns-in_err-line g c =
    let p = err_from_is_err_and c.from_residual.result c.from_residual.ensures.1 in
    let u = unended_line _ _ _ _ _ c.line.ensures.advances (sym c.on_line.ensures ∙ c.in_err-line.was) in
    rw (p.1, p.2, u.3) (unended _ _ _ c.loop-line.invariant.0 u.0 u.1 u.2)

pub returns-in_err-mark : goal.returns-in_err-mark
returns-in_err-mark g c =
    let at = (goal.at.returns-in_err-mark g c).In-Some in
    let p = err_from_is_err_and c.from_residual-in_err-mark.result c.from_residual-in_err-mark.ensures.1 in
    let f = fault_on_line _ _ _ (sym c.on_line-in-Some.ensures ∙ c.in_err-mark.was) in
    rw (p.1, p.2, ← f.2) (bad_line _ _ _ c.loop-line.invariant.0 c.in-Some.line.now _ f.0 (cut g at) c.line.ensures.more (sym c.read_line.ensures ∙ f.1))

pub overflow_add-total : goal.overflow_add-total
overflow_add-total g c = omega (arith, c.loop-line.invariant.1, c.loop-line.invariant.2, few g c)

pub loop-line-preserved : goal.loop-line-preserved
loop-line-preserved g c =
    let at = goal.at.loop-line-preserved g c in
    let handed = cut g at.In-Some in (
      carries_more _ _ _ c.loop-line.invariant.0 c.in-Some.line.now _ c.in_ok-mark.mark _ handed c.line.ensures.more (told g at.After-worth-total) c.worth-total.ensures.earns,
      omega (arith, c.loop-line.invariant.1, ap length handed),
      omega (arith, c.loop-line.invariant.2, few g at.After-worth-total),
    )

pub returns : goal.returns
returns g c = carries_all _ _ _ c.loop-line.invariant.0 (at_the_end _ _ _ _ _ c.line.ensures.advances (sym c.on_line.ensures ∙ c.in_ok-line.was) c.in_default.is)
