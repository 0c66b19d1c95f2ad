use Rattle.std.proofs.Common.{◌∙◌, ap, subst}
use Rattle.tree_steps.specs.declared.view.Size.{Size}
use Rattle.tree_steps.specs.Steps.{Known}
use Rattle.cube_tree.specs.Ends.{IsMissing}
use Rattle.cube_tree.proofs.EndLemmas.{none_missing, whole_roll}
use Rattle.cube_tree.proofs.handles.Cube.close.Goals as goal

pub finish-requires-clause-retired : goal.finish-requires-clause-retired
finish-requires-clause-retired c = whole_roll c.load_roll-roll.ensures.loads
    (none_missing _ c.load_roll-roll.result _ (subst (λ (k : Size). IsMissing k.stations c.load_roll-roll.result c.missing_in-missing.result) c.size.ensures c.missing_in-missing.ensures) c.if-missing-eq0.true)

pub returns-then-missing-eq0-clause-roll : goal.returns-then-missing-eq0-clause-roll
returns-then-missing-eq0-clause-roll c =
    let loaded = ap (λ (m : Known). m.0.loads) c.load_roll-roll.ensures.loads.kept in record {
      roll = c.load_roll-roll.result;
      loads = c.finish.ensures.loads ∙ loaded;
      whole = none_missing _ c.load_roll-roll.result _ (subst (λ (k : Size). IsMissing k.stations c.load_roll-roll.result c.missing_in-missing.result) c.size.ensures c.missing_in-missing.ensures) c.if-missing-eq0.true;
      word = c.finish.ensures.roll c.load_roll-roll.result _ loaded;
    }
