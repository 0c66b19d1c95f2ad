use Rattle.std.proofs.Common.{sym, ◌∙◌, subst, set, None, arith}
use Rattle.tree_steps.specs.declared.view.Size.{Size}
use Rattle.cube_tree.specs.Slots.{Represents}
use Rattle.cube_tree.specs.Solo.{solo_dim}
use Rattle.cube_tree.proofs.FitLemmas.{held_there, released_state}
use Rattle.cube_tree.proofs.solo.Solo.release.Goals as goal

pub invariant_of-self : goal.invariant_of-self
invariant_of-self c =
    let size = c.args.self.now.state.slot_count in let there = held_there (solo_dim c.args.self.now) c.args.self.now.nodes.items c.args.station c.requires in record {
      table = c.give_back.ensures.table ∙ c.args.self.now.table ∙ sym c.give_back.ensures.same.0;
      state = subst (λ (size : Size). Represents size.dim size.stations (set c.args.self.now.nodes.items c.args.station None) c.give_back.new.seat.me) (sym c.give_back.ensures.same.1)
          (released_state c.args.self.now.state c.args.station (omega (arith, there, size)) c.give_back.ensures.moved);
      told = c.give_back.ensures.told;
    }
