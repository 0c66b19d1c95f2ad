use Rattle.bitmap_tree.proofs.CloseLemmas.{merged_none}
use Rattle.bitmap_tree.proofs.handles.BitmapTree.gather_one.Goals as goal

pub returns-clause-nothing : goal.returns-clause-nothing
returns-clause-nothing c = λ p. merged_none _ c.args.permit.seat.me _ p (c.requires.nothing p) c.args.permit.blank c.merge.ensures.merged
