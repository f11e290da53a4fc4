use Rattle.std.proofs.Common.{refl}
use Rattle.sheet.proofs.Telling.{word_told}
use Rattle.sheet.proofs.line.word_mark.Goals as goal

pub returns : goal.returns
returns c = word_told c.args.fields.now _ _ _ _ _ _ refl c.in_ok-number.ensures.reads c.in_ok-word.ensures.reads c.in_ok-points.ensures
