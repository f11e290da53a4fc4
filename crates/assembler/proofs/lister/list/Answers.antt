use Rattle.std.proofs.Common.{ℕ, ◌<◌, get_or, arith}
use Rattle.assembler.proofs.Listings.{listing_fits, lists_all, spells_all, within_all, one_line}
use Rattle.assembler.proofs.lister.list.Goals as goal

pub returns : goal.returns
returns c =
    let words = c.args.words.now in
    let out = c.args.out.now in
    let after = c.write_lines.new.out in
    let end = c.write_lines.result in
    let bytes : (i : ℕ) → get_or words i 0 < 256 = λ i. omega (arith, c.type_inv.words i) in
    record {
      lists = lists_all words out after end bytes c.write_lines.ensures (omega arith) (omega arith) (omega arith);
      bound = omega (arith, c.write_lines.ensures.till, c.write_lines.ensures.size, listing_fits words out (omega arith));
      reads_back = spells_all words out after end bytes c.write_lines.ensures;
      assembles = within_all words out after end bytes c.write_lines.ensures (omega arith);
      every = one_line;
    }
