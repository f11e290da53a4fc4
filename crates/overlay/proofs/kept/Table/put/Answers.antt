-- A rewrite and an added entry are what `upsert` does, and keep the table's rules.
use Rattle.std.proofs.Common.{refl, rules}
use Rattle.overlay.proofs.Rules.{added_apart, added_sized}
use Rattle.overlay.proofs.Lookups.{keeps_found, keeps_added, keeps_full}
use Rattle.overlay.proofs.kept.Table.put.Goals as goal

pub returns-in-Some : goal.returns-in-Some
returns-in-Some c = keeps_found _ _ c.args.sector c.args.block c.in-Some.i c.in-Some.ensures.cases c.rewrite.ensures

pub returns-then-is_full : goal.returns-then-is_full
returns-then-is_full c = keeps_full _ _ c.args.sector c.args.block _ c.in_default.ensures.cases (search rules) refl

pub invariant_of-self : goal.invariant_of-self
invariant_of-self c =
    let t = c.args.self.now in record {
      apart = added_apart t.entries.items _ c.args.sector c.args.block c.push.ensures.items c.in_default.ensures.cases t.apart;
      sized = added_sized t.entries.items _ c.args.sector c.args.block c.push.ensures.items (search rules) t.sized;
    }

pub returns : goal.returns
returns c = keeps_added _ _ c.args.sector c.args.block c.in_default.ensures.cases (search rules) c.push.ensures.items
