use Rattle.std.proofs.Common.{arith}
use Rattle.ghost_history.specs.Sums.{total}
use Rattle.ghost_history.proofs.SumLemmas.{term_le}
use Rattle.bitmap_tree.specs.InnerRule.{times_in}
use Rattle.bitmap_tree.proofs.handles.BitmapTree.close.Goals as goal

pub returns : goal.returns
returns c =
    let last = c.close_by.ensures in
    ((λ q. total (times_in q) last.0.views), last.2, λ q. omega (arith, term_le (times_in q) last.0.views last.1.1.0 c.gather_blocks-seat.result.me.0 last.1.1.1, c.gather_blocks-seat.ensures.runs q))
