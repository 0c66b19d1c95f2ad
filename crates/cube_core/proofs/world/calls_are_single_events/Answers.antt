use Rattle.std.proofs.Common.{ap, ◌∙◌, subst}
use Rattle.cube_core.specs.declared.act.Act.TheVariants.{Step}
use Rattle.std.proofs.Common.{[], ◌∷◌}
use Rattle.cube_core.specs.Event.{transition}
use Rattle.cube_core.specs.Phase.{step_refusal}
use Rattle.cube_core.specs.Schedule.{AreOneEvent}
use Rattle.cube_core.proofs.OneEventLemmas.{step_is_event, take_is_event, release_is_event, retire_is_event}
use Rattle.cube_core.proofs.world.calls_are_single_events.Goals as goal

pub returns-clause-step : goal.returns-clause-step
returns-clause-step c = λ n s p r is moves. subst (λ q. AreOneEvent n (Step s ∷ []) s r (transition s q)) is (step_is_event n s r (ap step_refusal is ∙ moves))

pub returns-clause-take : goal.returns-clause-take
returns-clause-take c = take_is_event

pub returns-clause-release : goal.returns-clause-release
returns-clause-release c = release_is_event

pub returns-clause-retire : goal.returns-clause-retire
returns-clause-retire c = retire_is_event
