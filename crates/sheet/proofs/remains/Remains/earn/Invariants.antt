use Rattle.std.proofs.Common.{◌+◌, ◌*◌, ◌≤◌, length}
use Rattle.text.specs.Pieces.{pieces}
use Rattle.processor.specs.Requests.{processor}
use Rattle.sheet.proofs.Scoring.{Carries}
use Rattle.sheet.proofs.remains.Remains.earn.Given as goal

abbrev pub invariant-loop-line : goal.invariant-loop-line
invariant-loop-line g l =
    Carries (processor l.self.registers.now l.self.memory.now) (g.D.Readable.sectors l.self.disk.now) l.self.ending l.total l.count l.lines (pieces 10 l.sheet)
    × (l.count + length l.lines ≤ 65537)
    × (l.total ≤ 1000 * l.count)

abbrev pub decreases-loop-line : goal.decreases-loop-line
decreases-loop-line g l = length l.lines
