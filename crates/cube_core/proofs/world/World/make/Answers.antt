-- Each call makes of the world what the act makes of it.
use Rattle.std.proofs.Common.{sym, ◌∙◌, ap}
use Rattle.cube_core.specs.declared.act.Act.TheVariants.{Take, Release, Step, Retire}
use Rattle.cube_core.specs.Schedule.{apply}
use Rattle.cube_core.specs.World.{without_trails}
use Rattle.cube_core.proofs.WorldLemmas.{made_by, without_trails_of}
use Rattle.cube_core.proofs.world.World.make.Goals as goal

pub returns-in-Take-clause-world : goal.returns-in-Take-clause-world
returns-in-Take-clause-world c =
    (made_by (Take c.in-Take.station c.in-Take.node) c.args.self.now c.begin_take.new.self c.begin_take.result (without_trails_of c.self.inside.dim c.self.inside.words.items c.self.inside.phases.items c.args.self.now c.self.view_is) c.begin_take.ensures.refused c.begin_take.ensures.unchanged c.begin_take.ensures.world)
    ∙ ap (λ act. without_trails (apply act c.args.self.now)) (sym c.in-Take.is)

pub returns-in-Release-clause-world : goal.returns-in-Release-clause-world
returns-in-Release-clause-world c =
    (made_by (Release c.in-Release.station) c.args.self.now c.begin_release.new.self c.begin_release.result (without_trails_of c.self.inside.dim c.self.inside.words.items c.self.inside.phases.items c.args.self.now c.self.view_is) c.begin_release.ensures.refused c.begin_release.ensures.unchanged c.begin_release.ensures.world)
    ∙ ap (λ act. without_trails (apply act c.args.self.now)) (sym c.in-Release.is)

pub returns-in-Step-clause-world : goal.returns-in-Step-clause-world
returns-in-Step-clause-world c =
    (made_by (Step c.in-Step.station) c.args.self.now c.step.new.self c.step.result (without_trails_of c.self.inside.dim c.self.inside.words.items c.self.inside.phases.items c.args.self.now c.self.view_is) c.step.ensures.refused c.step.ensures.unchanged c.step.ensures.world)
    ∙ ap (λ act. without_trails (apply act c.args.self.now)) (sym c.in-Step.is)

pub returns-in-Retire-clause-world : goal.returns-in-Retire-clause-world
returns-in-Retire-clause-world c =
    (made_by (Retire c.in-Retire.station) c.args.self.now c.retire.new.self c.retire.result (without_trails_of c.self.inside.dim c.self.inside.words.items c.self.inside.phases.items c.args.self.now c.self.view_is) c.retire.ensures.refused c.retire.ensures.unchanged c.retire.ensures.world)
    ∙ ap (λ act. without_trails (apply act c.args.self.now)) (sym c.in-Retire.is)
