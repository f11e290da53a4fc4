use Rattle.std.proofs.Common.{rules, tests, arith, ◌∙◌}
use Rattle.std.specs.Char.{is_ascii_digit}
use Rattle.std.proofs.lemmas.Iterator.{YieldsList-from_slice}
use Rattle.std.proofs.lemmas.Iterator.Search.{all_from_yields_List}
use Rattle.text.proofs.Numbers.{numeral_from_digits}
use Rattle.text.proofs.number.is_numeral.Goals as goal
use Rattle.text.proofs.number.is_numeral.Goals.{in_default-via-then-field-lt2, in_default-via-else-field-lt2+in_default-1}

pub returns-in_default : goal.returns-in_default
returns-in_default c =
    let digits = all_from_yields_List is_ascii_digit _ _ c.all.result c.all.ensures.ran (YieldsList-from_slice c.args.field.now cc) (λ x b q k. search (rules, tests)) in
    digits ∙ numeral_from_digits c.args.field.now (grind arith) (grind arith)
