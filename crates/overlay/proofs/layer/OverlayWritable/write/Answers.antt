-- What the table answers is what the disk answers.
use Rattle.std.proofs.Common.{arith, rules}
use Rattle.overlay.specs.WholeLayers.{laid_length}
use Rattle.overlay.proofs.Covers.{put_written}
use Rattle.overlay.proofs.layer.OverlayWritable.write.Goals as goal

pub returns-clause-writes : goal.returns-clause-writes
returns-clause-writes g c =
    put_written c.args.self.now.table.entries.items (g.D.Readable.sectors c.args.self.now.below) c.args.sector c.args.block c.put.result c.map_err.result _ (omega (arith, c.count.ensures, laid_length)) (search rules) c.put.ensures
