-- How a machine begins and ends.
use Rattle.std.specs.Prelude.{◌≡◌, ◌≤◌, ◌+◌, ℕ, List, length}
use Rattle.cube_shape.specs.declared.region.Region.{Region}
use Rattle.cube_shape.specs.Region.{IsAligned}
use Rattle.bitmap_tree.specs.Bounds.{exact_steps, release_steps}
use Rattle.bitmap_tree.specs.Layout.{run_of}
use Rattle.bitmap_tree.specs.Trail.{AreRightSteps, WasClaimed, WasReleased}
use Rattle.bitmap_tree.specs.declared.view.Note.{Note}
use Rattle.cubejobs_regions.specs.declared.machine.Machine.{Machine}
use Rattle.cubejobs_regions.specs.Machine.{dim_of_machine, number_of, IsSameMachine, IsSole}
use Rattle.cubejobs_regions.specs.Takes.{FoundNoRoom}

-- A machine of this dimension and this number, with one handle.
pub record IsNew (n number : ℕ) (machine : Machine) : Type 0 where
  pub dim : dim_of_machine machine ≡ n
  pub number_is : number_of machine ≡ number
  pub sole : IsSole machine

-- A take of the whole machine was refused, and found this.
pub record FoundHeld (n : ℕ) (trail : List Note) : Type 0 where
  pub contended : ℕ
  pub found : FoundNoRoom n n contended trail

-- A take of the whole machine claimed it, so no bit of it was set. Then a release cleared it.
pub record FoundFree (n : ℕ) (trail : List Note) : Type 0 where
  pub block : Region
  pub claims : List Note
  pub aligned : IsAligned n block
  pub whole : block.dim ≡ n
  pub claimed : WasClaimed (run_of n block) claims
  pub released : WasReleased (run_of n block) claims trail
  pub steps : AreRightSteps n trail
  pub few : length trail ≤ exact_steps n + release_steps

-- The machine of a handle is as before, and has one handle.
pub record IsKept (before after : Machine) : Type 0 where
  pub same : IsSameMachine before after
  pub start : after.start ≡ before.start
  pub sole : IsSole after
