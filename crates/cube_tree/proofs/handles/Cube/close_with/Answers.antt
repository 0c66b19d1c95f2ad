use Rattle.std.proofs.Common.{◌∷◌, ◌∙◌, ap, subst, sym, ◌<◌}
use Rattle.tree_steps.specs.Steps.{Known}
use Rattle.cube_tree.proofs.EndLemmas.{whole_roll, bits_of}
use Rattle.cube_tree.proofs.handles.Cube.close_with.Goals as goal

pub finish-requires-clause-retired : goal.finish-requires-clause-retired
finish-requires-clause-retired c = whole_roll c.load_roll.ensures.loads
    (bits_of _ c.load_roll.result c.retire_each.new.seat.me _ c.load_roll.ensures.loads c.retire_each.ensures.gone (λ s below. subst (λ n. 0 < n) (sym (c.retire_each.ensures.there s)) (c.requires.all s below)))

pub returns-clause-roll : goal.returns-clause-roll
returns-clause-roll c = record {
  roll = c.load_roll.result;
  loads = c.finish.ensures.loads ∙ ap (λ (m : Known). m.0.loads) c.load_roll.ensures.loads.kept ∙ ap (λ l. c.load_roll.result ∷ l) c.retire_each.ensures.loads;
  whole = bits_of _ c.load_roll.result c.retire_each.new.seat.me _ c.load_roll.ensures.loads c.retire_each.ensures.gone (λ s below. subst (λ n. 0 < n) (sym (c.retire_each.ensures.there s)) (c.requires.all s below));
  word = c.finish.ensures.roll c.load_roll.result _ (ap (λ (m : Known). m.0.loads) c.load_roll.ensures.loads.kept);
}
