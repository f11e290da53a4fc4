use Rattle.std.proofs.Common.{refl}
use Rattle.station.specs.Views.{disk_of}
use Rattle.station.specs.Histories.{started, fed_bytes, collected_bytes, tallied}
use Rattle.histories.proofs.Recording.{run_recorded}
use Rattle.histories.proofs.sit.Goals as goal

pub returns : goal.returns
returns g c =
    let begun = started (c.in_ok-start.ensures (disk_of g.D.Readable g.D.Writable c.args.disk.now) refl) in
    let first = run_recorded _ c.args.steps c.run-first.result begun c.run-first.ensures.runs in
    let fed = fed_bytes first (c.feed-went.ensures c.run-first.new.memory (disk_of g.D.Readable g.D.Writable c.run-first.new.disk)) in
    let second = run_recorded _ c.args.steps c.run-second.result fed c.run-second.ensures.runs in
    let came = collected_bytes second (c.collect-came.ensures c.run-second.new.memory (disk_of g.D.Readable g.D.Writable c.run-second.new.disk)) in
    tallied c.args.sheet.now c.tally-points.result came c.tally-points.ensures.tallies
