-- The chunks that are not past the 65,536th are the sectors.
use Rattle.std.proofs.Common.{ap, take, ◌∙◌, arith}
use Rattle.disk.proofs.Chunks.{first_chunks_cut}
use Rattle.disk.proofs.sectors.sectors_of.Goals as goal

pub returns-clause-sectors : goal.returns-clause-sectors
returns-clause-sectors c = ap (take _) c.as_chunks.ensures.front ∙ first_chunks_cut c.args.bytes.now _ (omega arith)
