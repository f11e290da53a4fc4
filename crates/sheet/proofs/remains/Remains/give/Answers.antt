use Rattle.sheet.proofs.Sameness.{gives_same}
use Rattle.sheet.proofs.remains.Remains.give.Goals as goal

pub returns-clause-accepts : goal.returns-clause-accepts
returns-clause-accepts g c ms points short tells earns = gives_same _ _ _ c.args.sheet.now _ _ c.read.ensures (short, (ms, tells, earns))
