use Rattle.std.proofs.Common.{Ok, refl, ap, arith}
use Rattle.std.proofs.lemmas.Result.{err_from_is_err_and}
use Rattle.assembler.proofs.Assembling.{as_many, four_each, crowded, assembled, fault_spells_none}
use Rattle.assembler.proofs.Programming.{fault_told}
use Rattle.assembler.proofs.Saying.{spells_one}
use Rattle.assembler.proofs.assembler.assemble.Goals as goal

pub returns-in_err-words-clause-assembles : goal.returns-in_err-words-clause-assembles
returns-in_err-words-clause-assembles c =
    let text = c.args.text.now in
    let p = err_from_is_err_and c.from_residual.result c.from_residual.ensures.1 in
    rw (p.1, p.2) (record { short = c.if-text-gt65536.false; few = omega arith }, fault_told text c.in_err-words.field-0.0 c.in_err-words.ensures, refl)

pub returns-in_err-words-clause-accepts : goal.returns-in_err-words-clause-accepts
returns-in_err-words-clause-accepts c ws limits s room = absurd (fault_spells_none c.args.text.now ws c.in_err-words.field-0.0 c.in_err-words.ensures s)

pub returns-then-out-words-clause-assembles : goal.returns-then-out-words-clause-assembles
returns-then-out-words-clause-assembles c = (record { short = c.if-text-gt65536.false; few = omega arith }, crowded c.args.text.now c.in_ok-words.words c.in_ok-words.ensures c.args.out.now c.if-out-words.true, refl)

pub returns-then-out-words-clause-accepts : goal.returns-then-out-words-clause-accepts
returns-then-out-words-clause-accepts c ws limits s room = absurd (omega (arith, as_many c.args.text.now c.in_ok-words.words c.in_ok-words.ensures ws s, c.if-out-words.true))

pub write_words-requires-clause-room : goal.write_words-requires-clause-room
write_words-requires-clause-room c = omega (arith, four_each c.args.text.now c.in_ok-words.words c.in_ok-words.ensures)

pub returns-clause-assembles : goal.returns-clause-assembles
returns-clause-assembles c = assembled c.args.text.now c.in_ok-words.words c.in_ok-words.ensures c.args.out.now c.write_words.new.out c.write_words.result (record { short = c.if-text-gt65536.false; few = omega arith }) c.write_words.ensures

pub returns-clause-accepts : goal.returns-clause-accepts
returns-clause-accepts c ws limits s room =
    let text = c.args.text.now in
    let counted = c.in_ok-words.ensures in
    ap Ok (omega (arith, as_many text c.in_ok-words.words counted ws s, four_each text c.in_ok-words.words counted, c.write_words.ensures.till))

pub returns-then-text-gt65536-clause-one : goal.returns-then-text-gt65536-clause-one
returns-then-text-gt65536-clause-one c = spells_one

pub returns-in_err-words-clause-one : goal.returns-in_err-words-clause-one
returns-in_err-words-clause-one c = spells_one

pub returns-then-out-words-clause-one : goal.returns-then-out-words-clause-one
returns-then-out-words-clause-one c = spells_one

pub returns-clause-one : goal.returns-clause-one
returns-clause-one c = spells_one
