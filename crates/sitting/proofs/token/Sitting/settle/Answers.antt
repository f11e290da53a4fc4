use Rattle.sitting.proofs.Counting.{counts}
use Rattle.sitting.proofs.token.Sitting.settle.Goals as goal

pub returns-clause-counts : goal.returns-clause-counts
returns-clause-counts c = rw (← c.self.view_is) (counts _)
