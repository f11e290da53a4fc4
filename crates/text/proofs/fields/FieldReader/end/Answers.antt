use Rattle.std.proofs.Common.{refl, arith}
use Rattle.text.proofs.Joins.{some_left}
use Rattle.text.proofs.fields.FieldReader.end.Goals as goal

pub returns-then-self : goal.returns-then-self
returns-then-self c = rw (← c.self.view_is) (some_left 9 c.self.inside.line.now c.self.inside.at (omega arith), refl)
