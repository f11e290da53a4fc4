use Rattle.std.proofs.Common.{◌+◌, drop, sym, refl, ◌∙◌, arith, length-drop}
use Rattle.text.proofs.Cuts.{inner_piece, last_piece}
use Rattle.text.proofs.Joins.{some_pieces}
use Rattle.text.proofs.lines.LineReader.line.Goals as goal

pub returns-then-end-self : goal.returns-then-end-self
returns-then-end-self c =
    let text = c.self.inside.text.now in
    let at = c.self.inside.at in
    rw (← c.self.view_is) (record {
      advances = ((drop at text, omega (arith, length-drop at text), last_piece 10 text at _ c.find-end.ensures.place (omega arith)), refl, refl);
      more = some_pieces 10 (drop at text);
    })

pub returns : goal.returns
returns c = record {
  advances = sym c.self.view_is ∙ inner_piece 10 _ _ _ c.find-end.ensures.place (omega (arith, c.find-end.ensures.within));
  more = some_pieces 10 (drop (c.find-end.result + 1) c.self.inside.text.now);
}
