use Rattle.std.proofs.Common.{◌≡◌, ◌+◌, ◌∙◌, [], ◌∷◌, ap, arith, get_or, length, length-append, subst}
use Rattle.std.proofs.lemmas.List.{get_or_append_left}
use Rattle.ghost_history.proofs.SumLemmas.{total-push}
use Rattle.bitmap_tree.specs.declared.handles.HeldBlock.{HeldBlock}
use Rattle.bitmap_tree.specs.Ends.{times_held}
use Rattle.bitmap_tree.specs.Handles.{dim_of, held_region, IsHeldOf}
use Rattle.bitmap_tree.specs.Layout.{run_of}
use Rattle.bitmap_tree.specs.Rule.{has}
use Rattle.bitmap_tree.proofs.handles.BitmapTree.gather_blocks.Goals as goal

pub loop-block-preserved : goal.loop-block-preserved
loop-block-preserved c =
    let n = dim_of c.args.self.now in
    record {
      table = c.gather_block.ensures.table;
      all = λ p.
          let split : times_held n p c.loop-block.held.items ≡ times_held n p c.pop.new.self.items + has p (run_of n c.in-Some.block.region) =
          ap (times_held n p) c.in-Some.ensures.items ∙ total-push (λ (held : HeldBlock). has p (run_of n (held_region held))) c.pop.new.self.items c.in-Some.block in
          omega (arith, split, c.gather_block.ensures.runs p, c.loop-block.invariant.all p);
      of_machine = λ k d low.
          let items = c.in-Some.ensures.items in
          let same : get_or c.loop-block.held.items k d ≡ get_or c.pop.new.self.items k d = ap (λ l. get_or l k d) items ∙ get_or_append_left c.pop.new.self.items (c.in-Some.block ∷ []) d k low in
          let more : length c.loop-block.held.items ≡ length c.pop.new.self.items + 1 = ap length items ∙ length-append c.pop.new.self.items (c.in-Some.block ∷ []) in
          subst (IsHeldOf c.args.self.now) same (c.loop-block.invariant.of_machine k d (omega (arith, low, more)));
    }
