use Rattle.std.proofs.Common.{◌≡◌, ◌-◌}
use Rattle.wake_pool.specs.Schedule.{looking}
use Rattle.lanes.specs.Inner.Find.{LooksTo}
use Rattle.lanes.proofs.lanes.Lanes.no_more.Given as goal

abbrev pub invariant-loop-lane : goal.invariant-loop-lane
invariant-loop-lane l = (l.sleeper.id ≡ l.self) × (l.sleeper.phase ≡ looking l.self.plan.sizes.lanes l.lane) × LooksTo l.self.plan.sizes.lanes l.lane l.initial.sleeper.known l.sleeper.known × (l.sleeper.deeds ≡ l.initial.sleeper.deeds)

abbrev pub decreases-loop-lane : goal.decreases-loop-lane
decreases-loop-lane l = l.self.plan.sizes.lanes - l.lane
