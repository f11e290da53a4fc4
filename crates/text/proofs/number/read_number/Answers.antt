use Rattle.std.proofs.Common.{◌≡◌, ◌+◌, ◌-◌, ◌*◌, get_or, drop, Ok, sym, ap, ◌∙◌, arith}
use Rattle.std.proofs.lemmas.List.{at_drop_all}
use Rattle.text.specs.Numerals.{read_on, value}
use Rattle.text.proofs.Numbers.{split_value, read_on_ge, too_big, small_enough}
use Rattle.text.proofs.Spelling.{number_cases}
use Rattle.text.proofs.number.read_number.Goals as goal

pub returns-then-value-from : goal.returns-then-value-from
returns-then-value-from c =
    let step = split_value c.loop-c.value c.args.field.now c.loop-c.c-index c.loop-c-test.true in
    let least = read_on_ge (c.loop-c.value * 10 + (get_or c.args.field.now c.loop-c.c-index 0 - 48)) (drop (c.loop-c.c-index + 1) c.args.field.now) in
    let reads = too_big c.args.limit c.args.field.now (sym c.if-not-is_numeral.ensures) (omega (arith, step, c.loop-c.invariant.0, least)) in
    record { reads = reads; bound = tt; cases = number_cases c.args.limit c.args.field.now _ (omega arith) reads }

pub returns : goal.returns
returns c =
    let done : c.loop-c.value ≡ value c.args.field.now = sym (at_drop_all (read_on c.loop-c.value) c.args.field.now c.loop-c.c-index (omega arith)) ∙ c.loop-c.invariant.0 in
    let reads = ap Ok done ∙ small_enough c.args.limit c.args.field.now (sym c.if-not-is_numeral.ensures) (omega arith) in
    record { reads = reads; bound = omega arith; cases = number_cases c.args.limit c.args.field.now _ (omega arith) reads }
