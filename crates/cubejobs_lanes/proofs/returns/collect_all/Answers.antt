-- One place after another takes what came back to it.
use Rattle.std.proofs.Common.{arith, ◌∙◌, sym}
use Rattle.cubejobs_lanes.proofs.ReturnLemmas.{come_more, none_yet}
use Rattle.cubejobs_lanes.proofs.returns.collect_all.Goals as goal

pub loop-place-init : goal.loop-place-init
loop-place-init g c = none_yet g.X.Fits.fits c.args.from.now.items c.args.places.now.items

pub loop-place-preserved : goal.loop-place-preserved
loop-place-preserved g c =
    let inv = c.loop-place.invariant in
    come_more g.X.Fits.fits c.args.from.now.items c.loop-place.place c.args.places.now.items c.loop-place.places.items c.collect_at.new.places.items
    (search (arith, inv.count)) (search (arith, inv.count)) inv c.collect_at.ensures
