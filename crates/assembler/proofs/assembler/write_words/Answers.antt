use Rattle.std.proofs.Common.{◌≡◌, ◌∷◌, length, sym, ap, ◌∙◌, subst, arith}
use Rattle.text.specs.Readers.{Advances}
use Rattle.text.proofs.Placing.{handed}
use Rattle.assembler.specs.Writes.{Writes}
use Rattle.assembler.proofs.Counting.{word_room, word_more, no_line_faulty}
use Rattle.assembler.proofs.assembler.write_words.Goals as goal
use Rattle.assembler.proofs.assembler.write_words.Goals.{In-Some}

-- the line that was handed out
cut : (c : In-Some) → c.loop-line.lines ≡ c.in-Some.line.now ∷ c.line.new.self
cut c = handed _ _ _ _ (subst (λ r. Advances c.loop-line.lines r c.line.new.self) c.unwrap.ensures c.line.ensures.advances) c.in-Some.is

pub unwrap-word-requires : goal.unwrap-word-requires
unwrap-word-requires c =
    let at = (goal.at.unwrap-word-requires c).In-Some in
    no_line_faulty c.loop-line.invariant _ _ c.line.ensures.more (cut at) c.read_line.result c.read_line.ensures

pub piece-requires : goal.piece-requires
piece-requires c =
    let at = (goal.at.piece-requires c).In-Some in
    let word = sym c.unwrap-word.ensures ∙ c.read_line.ensures in
    omega (arith, ap length c.to_be_bytes.ensures, word_room c.loop-line.invariant _ _ c.line.ensures.more (cut at) c.unwrap-word.result word (omega (arith, c.requires.room, c.new-writer.ensures.front, ap length c.new-writer.ensures.same)))

pub loop-line-preserved : goal.loop-line-preserved
loop-line-preserved c =
    let at = (goal.at.loop-line-preserved c).In-Some in
    let word = sym c.unwrap-word.ensures ∙ c.read_line.ensures in
    let put = subst (λ b. Writes c.loop-line.writer b c.piece.new.self) c.to_be_bytes.ensures c.piece.ensures in
    word_more c.loop-line.invariant _ _ c.line.ensures.more (cut at) c.unwrap-word.result c.piece.new.self word put
