use Rattle.std.proofs.Common.{◌∷◌, ◌∙◌, ap, subst}
use Rattle.tree_steps.specs.Steps.{Known, KeepsLoad}
use Rattle.cube_tree.proofs.EndLemmas.{whole_roll, bits_of, everyone_there}
use Rattle.cube_tree.proofs.handles.Cube.close_all.Goals as goal

pub finish-requires-clause-retired : goal.finish-requires-clause-retired
finish-requires-clause-retired c =
    let load = subst (λ (m : Known). KeepsLoad m c.load_roll.result c.load_roll.new.seat.me) c.recount.ensures.same c.load_roll.ensures.loads in
    whole_roll load (bits_of _ c.load_roll.result c.retire_each.new.seat.me _ load c.retire_each.ensures.gone
    (everyone_there _ c.args.stations.items c.retire_each.new.seat.me c.requires.below c.requires.all c.retire_each.ensures.there c.recount.ensures.once))

pub returns-clause-roll : goal.returns-clause-roll
returns-clause-roll c =
    let load = subst (λ (m : Known). KeepsLoad m c.load_roll.result c.load_roll.new.seat.me) c.recount.ensures.same c.load_roll.ensures.loads in record {
      roll = c.load_roll.result;
      loads = c.finish.ensures.loads ∙ ap (λ (m : Known). m.0.loads) load.kept ∙ ap (λ l. c.load_roll.result ∷ l) c.retire_each.ensures.loads;
      whole = bits_of _ c.load_roll.result c.retire_each.new.seat.me _ load c.retire_each.ensures.gone
          (everyone_there _ c.args.stations.items c.retire_each.new.seat.me c.requires.below c.requires.all c.retire_each.ensures.there c.recount.ensures.once);
      word = c.finish.ensures.roll c.load_roll.result _ (ap (λ (m : Known). m.0.loads) load.kept);
    }
