use Rattle.std.proofs.Common.{[], ◌∷◌, ◌++◌, length, ap, ◌∙◌, subst, arith}
use Rattle.assembler.specs.Keywords.{slots}
use Rattle.assembler.specs.Listing.{tail, line_as}
use Rattle.assembler.specs.Writes.{Writes}
use Rattle.assembler.proofs.Tails.{line_short}
use Rattle.assembler.proofs.Writing.{writes_then}
use Rattle.assembler.proofs.listing.write_line.Goals as goal

pub write_operands-requires : goal.write_operands-requires
write_operands-requires c =
    let spelled = c.piece.ensures.written in
    omega (arith, c.requires, spelled.till, spelled.size, ap length c.spelling.ensures, line_short c.listed_as-keyword.result c.args.word)

pub piece-requires-2 : goal.piece-requires-2
piece-requires-2 c =
    let spelled = c.piece.ensures.written in
    let operands = c.write_operands.ensures.written in
    omega (arith, c.requires, spelled.till, spelled.size, operands.till, operands.size, ap length c.spelling.ensures, line_short c.listed_as-keyword.result c.args.word)

pub returns : goal.returns
returns c =
    let spelled = ap (λ l. l ++ tail (slots c.listed_as-keyword.result) c.args.word) c.spelling.ensures in
    let line = spelled ∙ ap (λ o. line_as o c.args.word) c.listed_as-keyword.ensures in
    subst (λ l. Writes c.args.writer.now (l ++ (10 ∷ [])) c.piece-2.new.self) line
    (writes_then (writes_then c.piece.ensures c.write_operands.ensures) c.piece-2.ensures)
