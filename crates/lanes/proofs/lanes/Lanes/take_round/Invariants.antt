use Rattle.std.proofs.Common.{◌≡◌, ◌-◌}
use Rattle.lanes.specs.Phases.{ready_phase}
use Rattle.lanes.proofs.RoundLemmas.{IsAt}
use Rattle.lanes.proofs.lanes.Lanes.take_round.Given as goal

abbrev pub invariant-loop-turn : goal.invariant-loop-turn
invariant-loop-turn l = (l.sleeper.id ≡ l.self) × IsAt l.self.plan.sizes.lanes l.fn.from l.lane l.turn l.all_ended l.initial.sleeper.known l.sleeper.known × (l.sleeper.phase ≡ ready_phase l.fn.searches) × (l.sleeper.deeds ≡ l.initial.sleeper.deeds)

abbrev pub decreases-loop-turn : goal.decreases-loop-turn
decreases-loop-turn l = l.self.plan.sizes.lanes - l.turn
