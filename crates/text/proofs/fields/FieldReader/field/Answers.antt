use Rattle.std.proofs.Common.{sym, ◌∙◌}
use Rattle.text.proofs.Cuts.{next_piece}
use Rattle.text.proofs.fields.FieldReader.field.Goals as goal

pub returns : goal.returns
returns c = sym c.self.view_is ∙ next_piece 9 _ _ _ c.find-end.ensures.place c.if-self.false c.find-end.ensures.within
