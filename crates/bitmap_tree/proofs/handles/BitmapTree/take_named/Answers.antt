use Rattle.std.proofs.Common.{◌/◌, arith}
use Rattle.bitmap_tree.specs.Handles.{dim_of}
use Rattle.bitmap_tree.proofs.FreeLemmas.{block_in_use}
use Rattle.bitmap_tree.proofs.SweepLemmas.{used_kept}
use Rattle.bitmap_tree.proofs.handles.BitmapTree.take_named.Goals as goal

pub returns-in-Err-clause-alone : goal.returns-in-Err-clause-alone
returns-in-Err-clause-alone c = λ words alone.
    let fits = c.requires.block.fits in
    block_in_use (dim_of c.args.self.now) c.args.block c.take_path-2.new.seat.me.0.trail c.in-Err.why words c.requires.block c.in-Err.ensures.disturbed c.in-Err.ensures.set
    (λ s w low from below. used_kept (dim_of c.args.self.now) (c.args.block.dim / 6) s w c.sweep.new.seat.me c.take_path-2.new.seat.me (omega (arith, fits)) low c.in-Err.ensures.kept (c.sweep.ensures.used s w low from below))
    alone
