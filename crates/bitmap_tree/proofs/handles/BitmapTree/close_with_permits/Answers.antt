use Rattle.std.proofs.Common.{◌∙◌}
use Rattle.bitmap_tree.proofs.CloseLemmas.{nothing_held}
use Rattle.bitmap_tree.proofs.handles.BitmapTree.close_with_permits.Goals as goal

pub returns-clause-fresh : goal.returns-clause-fresh
returns-clause-fresh c =
    let last = c.close_by.ensures in
    last.2.2 (nothing_held c.args.self.size last.0 last.1.1.0 c.gather_all-seat.result.me.0 last.1.0 last.1.1.1 c.requires.some (c.gather_all-seat.ensures.permits ∙ c.requires.all) c.gather_all-seat.ensures.nothing)

pub returns-clause-count : goal.returns-clause-count
returns-clause-count c = c.close_by.ensures.2.1.count
