use Rattle.std.proofs.Common.{◌∙◌, ap}
use Rattle.tree_steps.specs.Steps.{Known}
use Rattle.cube_tree.proofs.ends.finish.Goals as goal

pub returns-clause-roll : goal.returns-clause-roll
returns-clause-roll c = λ roll earlier loaded. c.close.ensures.roll roll earlier (ap (λ (m : Known). m.0.loads) c.copy_loads-loads.ensures.kept ∙ loaded)
