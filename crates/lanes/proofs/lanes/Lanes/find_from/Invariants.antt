use Rattle.std.proofs.Common.{◌≡◌, false, ◌-◌, ◌*◌, ◌≤◌}
use Rattle.lanes.specs.Phases.{phase_of}
use Rattle.lanes.specs.Deeds.{given_in, has_call}
use Rattle.lanes.specs.Sleep.{FindsNone, find_steps}
use Rattle.lanes.proofs.lanes.Lanes.find_from.Given as goal

abbrev pub invariant-loop-turn : goal.invariant-loop-turn
invariant-loop-turn l = (l.sleeper.id ≡ l.self) × (l.sleeper.phase ≡ phase_of l.self.plan l.at) × FindsNone l.self.plan.sizes.lanes (l.turn * find_steps) l.initial.sleeper.known l.sleeper.known × (l.turn ≤ l.tries) × (given_in l.sleeper.deeds ≡ given_in l.initial.sleeper.deeds) × (has_call l.initial.sleeper.deeds ≡ false → has_call l.sleeper.deeds ≡ false)

abbrev pub decreases-loop-turn : goal.decreases-loop-turn
decreases-loop-turn l = l.tries - l.turn
