-- The store into one entry keeps the table's rules.
use Rattle.std.proofs.Common.{arith, rules}
use Rattle.std.proofs.lemmas.Grind.{common_steps}
use Rattle.overlay.proofs.Rules.{rewritten_apart, rewritten_sized}
use Rattle.overlay.proofs.kept.Table.rewrite.Goals as goal

pub invariant_of-self : goal.invariant_of-self
invariant_of-self c =
    let t = c.args.self.now in record {
      apart = rewritten_apart t.entries.items _ c.args.i c.args.block (grind (arith, common_steps)) t.apart;
      sized = rewritten_sized t.entries.items _ c.args.i c.args.block (grind (arith, common_steps)) (search rules) t.sized;
    }
