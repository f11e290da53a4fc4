-- There are as many sectors as below.
use Rattle.std.proofs.Common.{sym, ◌∙◌}
use Rattle.overlay.specs.WholeLayers.{laid_length}
use Rattle.overlay.proofs.layer.OverlayReadable.count.Goals as goal

pub returns : goal.returns
returns g c = c.count.ensures ∙ sym (laid_length _ _)
