use Rattle.sheet.proofs.Earning.{earned, unearned}
use Rattle.sheet.proofs.remains.Remains.worth.Goals as goal

pub returns-then-holds-clause-earns : goal.returns-then-holds-clause-earns
returns-then-holds-clause-earns g c = earned _ _ _ _ _ c.holds.ensures _ c.if-holds.true c.points.ensures

pub returns-else-holds-clause-earns : goal.returns-else-holds-clause-earns
returns-else-holds-clause-earns g c = unearned _ _ _ _ _ c.holds.ensures c.if-holds.false
