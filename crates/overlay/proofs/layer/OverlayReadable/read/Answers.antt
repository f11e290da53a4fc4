-- A sector is read from its entry, or else below.
use Rattle.std.proofs.Common.{arith}
use Rattle.overlay.specs.WholeLayers.{laid_length}
use Rattle.overlay.proofs.Covers.{read_kept, read_below}
use Rattle.overlay.proofs.layer.OverlayReadable.read.Goals as goal

pub returns-in-Some : goal.returns-in-Some
returns-in-Some g c = read_kept _ _ c.args.sector c.args.block.now _ (omega (arith, c.count.ensures, laid_length)) c.in-Some.ensures

pub returns-in-None : goal.returns-in-None
returns-in-None g c = read_below _ _ c.args.sector c.args.block.now c.read.result _ c.in-None.ensures c.read.ensures
