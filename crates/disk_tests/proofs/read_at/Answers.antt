-- The lent block is the first of what lies behind the place.
use Rattle.std.proofs.Common.{rules}
use Rattle.disk_tests.proofs.Lending.{lent_read}
use Rattle.disk_tests.proofs.read_at.Goals as goal

pub returns : goal.returns
returns g c = let cut = c.split_at_mut-rest.ensures in lent_read _ c.args.sector c.args.at c.args.buffer.now _ _ c.in-Some.block.now c.read.new.block c.read.result cut.front cut.back (search rules) c.read.ensures
