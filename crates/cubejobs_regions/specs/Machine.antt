-- A machine, as its handles see it.
use Rattle.std.specs.Prelude.{◌≡◌, ℕ, Option, Some, None}
use Rattle.bitmap_tree.specs.declared.handles.BitmapTree.{BitmapTree}
use Rattle.bitmap_tree.specs.Handles.{dim_of}
use Rattle.cubejobs_regions.specs.declared.machine.Machine.{Machine}
use Rattle.cubejobs_regions.specs.Ownership.{common_of, IsSoleOwner}

-- The bitmaps of a machine.
abbrev pub tree_of : Machine → BitmapTree
tree_of machine = (common_of machine.owner).tree

-- The number of a machine.
abbrev pub number_of : Machine → ℕ
number_of machine = (common_of machine.owner).number

-- The dimension of a machine.
abbrev pub dim_of_machine : Machine → ℕ
dim_of_machine machine = dim_of (tree_of machine)

-- No other handle of the machine is open, nor was one since this one was opened or last refused to
-- be freed.
abbrev pub IsSole : Machine → Type 0
IsSole machine = IsSoleOwner machine.owner

-- The handle is that of an open machine, which has this property.
abbrev pub OnMachine : (Machine → Type 0) → Option Machine → Type 0
OnMachine P (Some machine) = P machine
OnMachine P None = ⊥

-- Two handles are of one machine.
pub record IsSameMachine (a b : Machine) : Type 0 where
  pub tree : tree_of b ≡ tree_of a
  pub number : number_of b ≡ number_of a
