use Rattle.std.proofs.Common.{◌≡◌, ◌+◌, ◌∷◌, ◌++◌, [], get_or, drop, sym, refl, ap, ◌∙◌, subst, append-nil, arith, rules}
use Rattle.std.specs.Int.{from_be_bytes, w32}
use Rattle.std.proofs.lemmas.List.{drop_more, drop_all}
use Rattle.assembler.specs.Listing.{listed, listing, words_at}
use Rattle.assembler.specs.Writes.{Writes}
use Rattle.assembler.proofs.Writing.{writes_then, lent_back}
use Rattle.assembler.proofs.Rows.{words_in, words_chunked, listed_short, lines_more}
use Rattle.assembler.proofs.lister.write_lines.Goals as goal

pub loop-word-preserved : goal.loop-word-preserved
loop-word-preserved c =
    let w = c.loop-word.invariant.0 in
    let chunks = c.as_chunks.result.0.now in
    let k = c.loop-word.word-index in
    let word = from_be_bytes w32 (get_or chunks k []) in
    let here : drop k chunks ≡ get_or chunks k [] ∷ drop (k + 1) chunks = drop_more chunks k [] c.loop-word-test.true in
    let put = subst (λ n. Writes c.loop-word.writer (listed n ++ (10 ∷ [])) c.write_line.new.writer) c.from_be_bytes.ensures c.write_line.ensures in (
      (w.0 ++ (listed word ++ (10 ∷ [])), writes_then w.1 put, lines_more w.0 word (words_in (drop (k + 1) chunks)) (listing (words_in chunks)) (ap (λ l. w.0 ++ listing (words_in l)) (sym here) ∙ w.2)),
      omega (arith, c.loop-word.invariant.1, put.written.till, listed_short word),
    )

pub returns : goal.returns
returns c =
    let w = c.loop-word.invariant.0 in
    let chunks = c.as_chunks.result.0.now in
    let none = ap (λ l. listing (words_in l)) (drop_all c.loop-word.word-index chunks (omega arith)) in
    let words = ap words_in c.as_chunks.ensures.front ∙ words_chunked _ c.args.words.now refl in
    let whole : w.0 ≡ listing (words_at c.args.words.now) = sym (append-nil w.0) ∙ ap (λ l. w.0 ++ l) (sym none) ∙ w.2 ∙ ap listing words in
    lent_back c.new-writer.ensures.same c.new-writer.ensures.front (subst (λ l. Writes c.new-writer.result l c.loop-word.writer) whole w.1) (search rules) c.end.ensures
