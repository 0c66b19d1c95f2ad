-- How many events a station makes at most in a walk.
use Rattle.std.proofs.Common.{ℕ, ◌+◌, ◌*◌, ◌≤◌, List, [], ◌∷◌, length, ap, arith, length-append}
use Rattle.cube_core.specs.declared.phase.Phase.TheVariants.{Looking, Leaving}
use Rattle.cube_core.specs.Event.{transition}
use Rattle.cube_core.specs.Count.{depth, events_due}
use Rattle.cube_core.proofs.RunningLemmas.{IsPlaced, paid}
use Rattle.cube_shape.specs.Node.{IsInCube}
use Rattle.tree_steps.specs.declared.view.Entry.{Entry}
use Rattle.tree_steps.specs.Steps.{entry_in, steps_entry, Makes}

-- what a station has made and still has to make is no more than before, whatever it finds
record IsWithin (n : ℕ) (old new : Entry) : Type 0 where
  placed : IsPlaced n new.phase
  count : length new.trail + events_due n new.phase ≤ length old.trail + events_due n old.phase

steps_within : (n : ℕ) (found : List ℕ) (e : Entry)
    → IsPlaced n e.phase
    → IsWithin n e (steps_entry found e)
steps_within n [] e at = record { placed = at; count = omega arith }
steps_within n (x ∷ found) e at =
    let earlier = steps_within n found e at in
    let between : Entry = steps_entry found e in
    let one = paid n between.station x between.phase earlier.placed in
    let grown = length-append ((transition between.station between.phase).events x) between.trail in
    let before = earlier.count in let falls = one.falls in
    record { placed = one.placed; count = omega (arith, grown, before, falls) }

-- a take of a node that is j levels below the root: at most 3 + 7 j events
pub take_bound : (n node : ℕ) (old new : Entry)
    → IsInCube n node
    → Makes (entry_in (Looking node) old) new
    → length new.trail ≤ length old.trail + (3 + 7 * depth n node)
take_bound n node old new in_cube makes =
    let all = steps_within n makes.found (entry_in (Looking node) old) in_cube in
    let same = ap (λ (e : Entry). length e.trail) makes.entry in
    let count = all.count in omega (arith, same, count)

-- a release: at most 1 + 5 j
pub release_bound : (n node : ℕ) (old new : Entry)
    → IsInCube n node
    → Makes (entry_in (Leaving node) old) new
    → length new.trail ≤ length old.trail + (1 + 5 * depth n node)
release_bound n node old new in_cube makes =
    let all = steps_within n makes.found (entry_in (Leaving node) old) in_cube in
    let same = ap (λ (e : Entry). length e.trail) makes.entry in
    let count = all.count in omega (arith, same, count)
