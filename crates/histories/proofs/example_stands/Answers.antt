use Rattle.histories.proofs.Example.{example}
use Rattle.histories.proofs.example_stands.Goals as goal

pub returns : goal.returns
returns c = example
