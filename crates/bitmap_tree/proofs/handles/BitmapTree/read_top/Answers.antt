use Rattle.std.proofs.Common.{rules}
use Rattle.bitmap_tree.specs.InnerRule.{first_view}
use Rattle.bitmap_tree.proofs.StepLemmas.{enters_step}
use Rattle.bitmap_tree.proofs.handles.BitmapTree.read_top.Goals as goal

pub load_new_seat-found-requires : goal.load_new_seat-found-requires
load_new_seat-found-requires c = (search rules, enters_step _ _ _ (first_view c.args.self.now.bits.table.shared.key))
