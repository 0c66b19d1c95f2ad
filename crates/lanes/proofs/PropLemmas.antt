-- Facts of a worker that have at most one proof, so that a struct can keep them.
use Rattle.std.proofs.Props.{props}
use Rattle.lanes.specs.declared.finder.At.{At}
use Rattle.lanes.specs.declared.finder.At.TheVariants.{Idle, Waking, Searching, HasWork, Returning, Reading, Parked}
use Rattle.lanes.specs.Phases.{IsFree}

-- a worker is free or not, in one way
pub free_prop : (at : At) → IsProp (IsFree at)
free_prop Idle = Prim.hlevel props
free_prop (Waking word) = Prim.hlevel props
free_prop Searching = Prim.hlevel props
free_prop HasWork = Prim.hlevel props
free_prop Returning = Prim.hlevel props
free_prop Reading = Prim.hlevel props
free_prop Parked = Prim.hlevel props

pub ruleset free_props = (props, free_prop)
