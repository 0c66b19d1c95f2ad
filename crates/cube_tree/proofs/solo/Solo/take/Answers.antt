use Rattle.std.proofs.Common.{refl, sym, ◌∙◌, subst, set, Some, arith}
use Rattle.cube_shape.specs.Region.{block}
use Rattle.cube_shape.specs.Machine.{Gives}
use Rattle.cube_shape.proofs.MachineLemmas.{IsFirstFit-fits}
use Rattle.tree_steps.specs.declared.view.Size.{Size}
use Rattle.cube_tree.specs.Slots.{Represents, holdings}
use Rattle.cube_tree.specs.Solo.{solo_dim, held_by}
use Rattle.cube_tree.proofs.FitLemmas.{not_some, none_slot, ok_or_err, refused_state, nothing_fits, taken_state, taken_fit, taken_gives}
use Rattle.cube_tree.proofs.solo.Solo.take.Goals as goal

pub invariant_of-self : goal.invariant_of-self
invariant_of-self c =
    let found = rw c.deref.ensures.value at c.in-Some.ensures.found in record {
      table = c.take_first.ensures.table ∙ c.args.self.now.table ∙ sym c.take_first.ensures.same.0;
      state = subst (λ (size : Size). Represents size.dim size.stations c.args.self.now.nodes.items c.take_first.new.seat.me) (sym c.take_first.ensures.same.1)
          (refused_state c.args.self.now.state c.in-Some.station found.idle c.in_default-take_first.ensures.moved);
      told = c.take_first.ensures.told;
    }

pub returns-in_default-take_first-clause-no_subcube : goal.returns-in_default-take_first-clause-no_subcube
returns-in_default-take_first-clause-no_subcube c =
    let found = rw c.deref.ensures.value at c.in-Some.ensures.found in let size = c.args.self.now.state.slot_count in let there = found.there in (
      λ _. (
        λ hold. not_some _ (none_slot (solo_dim c.args.self.now) _ found.idle) (hold c.in-Some.station (omega (arith, there, size))),
        nothing_fits c.args.self.now.state c.in-Some.station c.requires c.in_default-take_first.ensures.none,
      ),
      λ _. refl,
    )

pub invariant_of-self-2 : goal.invariant_of-self-2
invariant_of-self-2 c =
    let found = rw c.deref.ensures.value at c.in-Some.ensures.found in let size = c.args.self.now.state.slot_count in let there = found.there in record {
      table = c.take_first.ensures.table ∙ c.args.self.now.table ∙ sym c.take_first.ensures.same.0;
      state = subst (λ (size : Size). Represents size.dim size.stations (set c.args.self.now.nodes.items c.in-Some.station (Some c.in-Some-take_first.node)) c.take_first.new.seat.me) (sym c.take_first.ensures.same.1)
          (taken_state c.args.self.now.state c.in-Some.station (omega (arith, there, size)) found.idle c.requires c.in-Some-take_first.node c.in-Some-take_first.ensures.moved c.in-Some-take_first.ensures.first);
      told = c.take_first.ensures.told;
    }

pub returns-clause-given : goal.returns-clause-given
returns-clause-given c =
    let found = rw c.deref.ensures.value at c.in-Some.ensures.found in let size = c.args.self.now.state.slot_count in let there = found.there in
    let moved = c.in-Some-take_first.ensures.moved in let first = c.in-Some-take_first.ensures.first in (
      first.m,
      taken_fit c.args.self.now.state c.in-Some.station (omega (arith, there, size)) found.idle c.requires c.in-Some-take_first.node moved first,
      subst (λ (size : Size). Gives (solo_dim c.args.self.now) c.in-Some.station c.args.k (held_by c.args.self.now) (holdings size.dim (set c.args.self.now.nodes.items c.in-Some.station (Some c.in-Some-take_first.node))) (block c.args.k first.m))
          (sym c.take_first.ensures.same.1)
          (taken_gives c.args.self.now.state c.in-Some.station (omega (arith, there, size)) found.idle c.requires c.in-Some-take_first.node moved first),
    )

pub returns-clause-no_subcube : goal.returns-clause-no_subcube
returns-clause-no_subcube c =
    let found = rw c.deref.ensures.value at c.in-Some.ensures.found in let size = c.args.self.now.state.slot_count in let there = found.there in
    let moved = c.in-Some-take_first.ensures.moved in let first = c.in-Some-take_first.ensures.first in (
      λ e. absurd (ok_or_err e),
      λ (_, none). absurd (IsFirstFit-fits (solo_dim c.args.self.now) c.args.k first.m (held_by c.args.self.now) (taken_fit c.args.self.now.state c.in-Some.station (omega (arith, there, size)) found.idle c.requires c.in-Some-take_first.node moved first) none),
    )
