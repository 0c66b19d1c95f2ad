use Rattle.std.proofs.Common.{◌/◌, arith}
use Rattle.bitmap_tree.specs.Handles.{dim_of}
use Rattle.bitmap_tree.proofs.FreeLemmas.{no_block}
use Rattle.bitmap_tree.proofs.SweepLemmas.{swept_all, used_kept}
use Rattle.bitmap_tree.proofs.handles.BitmapTree.search_each_word.Goals as goal

pub returns-in-Err-clause-alone : goal.returns-in-Err-clause-alone
returns-in-Err-clause-alone c = λ words alone.
    let fits = c.requires.fits in
    no_block (dim_of c.args.self.now) c.args.k c.take_scanned.new.seat.me.0.trail c.in-Err.why words fits c.in-Err.ensures.disturbed c.in-Err.ensures.full
    (λ s w low there. let all = swept_all (dim_of c.args.self.now) s w there in used_kept (dim_of c.args.self.now) (c.args.k / 6) s w c.sweep.new.seat.me c.take_scanned.new.seat.me (omega (arith, fits)) low c.in-Err.ensures.kept (c.sweep.ensures.used s w low all.0 all.1))
    alone
