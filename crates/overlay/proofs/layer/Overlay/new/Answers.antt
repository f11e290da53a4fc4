-- With an empty table the disk is the one below, with 32 keeps.
use Rattle.std.proofs.Common.{ap, ◌∙◌}
use Rattle.overlay.specs.Layers.{overlaid}
use Rattle.overlay.proofs.Covers.{overlaid_none}
use Rattle.overlay.proofs.layer.Overlay.new.Goals as goal

pub returns-clause-starts : goal.returns-clause-starts
returns-clause-starts g c =
    let ss = g.D.Readable.sectors c.args.below in
    ap (λ es. overlaid es ss) c.new.ensures ∙ overlaid_none ss
