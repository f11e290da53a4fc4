use Rattle.std.proofs.Common.{◌≡◌, ◌∷◌, length, Err, sym, ap, ◌∙◌, arith}
use Rattle.std.proofs.lemmas.Result.{err_from_is_err_and}
use Rattle.text.proofs.Joins.{few_pieces}
use Rattle.text.proofs.Placing.{fault_on_line, handed_on_line}
use Rattle.assembler.specs.Texts.{words_from, counted}
use Rattle.assembler.proofs.Counting.{none_counted, one_line, bad_line, read_on_line}
use Rattle.assembler.proofs.assembler.count_words.Goals as goal
use Rattle.assembler.proofs.assembler.count_words.Goals.{In-Some}

pub loop-line-init : goal.loop-line-init
loop-line-init c =
    let all = c.new-lines.ensures.value in
    (none_counted _ ∙ ap (λ ps. counted (words_from 1 ps)) all, omega (arith, ap length all, few_pieces 10 c.args.text.now, c.requires))

-- the line that was handed out
handed : (c : In-Some) → c.loop-line.lines ≡ c.in-Some.line.now ∷ c.line.new.self
handed c = handed_on_line _ _ _ _ _ _ c.line.ensures.advances (sym c.on_line.ensures ∙ c.in_ok-line.was) c.in-Some.is

pub returns-in_err-on_line : goal.returns-in_err-on_line
returns-in_err-on_line c =
    let p = err_from_is_err_and c.from_residual-in_err-on_line.result c.from_residual-in_err-on_line.ensures.1 in
    let f = fault_on_line _ _ _ (sym c.on_line-in-Some.ensures ∙ c.in_err-on_line.was) in
    p.1 ∙ ap Err (p.2 ∙ sym f.2)
    ∙ bad_line _ _ _ _ c.line.ensures.more (handed (goal.at.returns-in_err-on_line c).In-Some) f.0 (sym f.1 ∙ c.read_line.ensures)
    ∙ c.loop-line.invariant.0

pub loop-line-preserved : goal.loop-line-preserved
loop-line-preserved c =
    let cut = handed (goal.at.loop-line-preserved c).In-Some in
    let read = read_on_line _ _ _ c.in-Some.line.now c.read_line.ensures (sym c.on_line-in-Some.ensures ∙ c.in_ok-on_line.was) in
    (one_line _ _ _ _ c.line.ensures.more cut _ read ∙ c.loop-line.invariant.0, omega (arith, c.loop-line.invariant.1, ap length cut))
