use Rattle.std.proofs.Common.{ℕ, subst}
use Rattle.ghost_history.specs.Sums.{total}
use Rattle.bitmap_tree.specs.Ends.{IsLeft}
use Rattle.bitmap_tree.specs.InnerRule.{times_in}
use Rattle.bitmap_tree.specs.declared.view.Size.{Size}
use Rattle.bitmap_tree.specs.InnerEnds.{HasView}
use Rattle.bitmap_tree.proofs.handles.BitmapTree.close_by.Goals as goal

pub returns : goal.returns
returns c =
    let last = c.end-words.ensures in
    let held : ℕ → ℕ = λ q. total (times_in q) last.0.views in (
      last.0,
      subst (λ (k : Size). HasView k c.args.seat.me.0 last.0) c.args.self.keyed last.1,
      c.shut_all.ensures held (subst (λ (k : Size). IsLeft k.dim held c.end-words.result.items) c.args.self.keyed last.2),
    )
