-- The block was copied over the bytes of the sector.
use Rattle.std.proofs.Common.{arith, rules}
use Rattle.disk.proofs.Rewriting.{copied_over}
use Rattle.disk.proofs.sectors.write_sector.Goals as goal

pub returns : goal.returns
returns c = (omega arith, copied_over c.args.bytes.now c.args.sector _ c.args.block.now c.copy_from_slice.new.self (omega arith) (omega arith) c.copy_from_slice.ensures.after (search rules))
