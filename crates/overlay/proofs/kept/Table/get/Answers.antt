-- The place that was found is the only one that has the sector.
use Rattle.overlay.proofs.Lookups.{has_at_only_place, lacks_absent}
use Rattle.overlay.proofs.kept.Table.get.Goals as goal

pub returns-in_err-i : goal.returns-in_err-i
returns-in_err-i c = rw c.from_residual.ensures (lacks_absent _ _ c.in_err-i.ensures.cases)

pub returns : goal.returns
returns c = rw c.as_slice.ensures.value (has_at_only_place _ c.args.sector c.in_ok-i.i _ c.in_ok-i.ensures.cases c.in_ok-i.ensures.only)
