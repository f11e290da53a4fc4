-- What is left in the bytes says what is left of the disk.
use Rattle.disk.proofs.Rewriting.{image_written}
use Rattle.disk.proofs.image.ImageWritable.write.Goals as goal

pub returns-clause-writes : goal.returns-clause-writes
returns-clause-writes c = image_written c.args.self.now.bytes.now c.args.sector c.args.block c.write_sector.result c.write_sector.new.bytes c.write_sector.ensures
