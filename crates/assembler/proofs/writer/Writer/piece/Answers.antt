use Rattle.std.proofs.Common.{◌≡◌, ◌+◌, ◌-◌, ◌≤◌, ◌++◌, length, take, sym, refl, ap, ◌∙◌, arith, rules}
use Rattle.std.proofs.lemmas.Slice.{take-put_mid, drop-put_mid, overwrites}
use Rattle.assembler.proofs.writer.Writer.piece.Goals as goal

pub returns : goal.returns
returns c =
    let piece = c.args.piece.now in
    let out = c.args.self.now.out.now in
    let at = c.args.self.now.end in
    let copied = c.copy_from_slice.new.self in
    let is : copied ≡ piece = c.copy_from_slice.ensures.after in
    let within : at ≤ length out = omega (arith, c.requires) in
    record {
      written = record {
        size = search (rules, overwrites);
        till = refl;
        front = take-put_mid at (at + length piece - at) out copied (at + length piece) (ap (λ l. at + length l) (sym is)) within ∙ ap (λ l. take at out ++ l) is;
        rest = drop-put_mid at (at + length piece - at) out copied (at + length piece) (omega arith) within (ap length is ∙ omega arith);
      };
      lender = refl;
    }
