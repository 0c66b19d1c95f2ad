use Rattle.std.proofs.Common.{subst}
use Rattle.bitmap_tree.specs.Handles.{dim_of}
use Rattle.bitmap_tree.specs.Layout.{run_of, HasRun}
use Rattle.bitmap_tree.proofs.CloseLemmas.{merged_run}
use Rattle.bitmap_tree.proofs.handles.BitmapTree.gather_block.Goals as goal

pub returns-clause-runs : goal.returns-clause-runs
returns-clause-runs c = λ q. merged_run c.args.seat.now.me c.args.block.seat.me c.merge.new.seat.me (run_of (dim_of c.args.self.now) c.args.block.region) q
    (subst (λ n. HasRun (run_of n c.args.block.region) c.args.block.seat.me) c.requires.held.1 c.args.block.claimed) c.merge.ensures.merged
