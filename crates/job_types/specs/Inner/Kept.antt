-- What is kept of the places after the rounds, and that it is enough.
use Rattle.std.specs.Prelude.{◌≡◌, ℕ, ◌<◌, ◌≤◌, ◌^◌, Bool, true, false, List, length, Option, slice_get, if◌then◌else◌}
use Rattle.cube_shape.specs.declared.limits.TheConstants.{MAX_DIM}
use Rattle.job_types.specs.declared.kind.Kind.{Kind}
use Rattle.job_types.specs.declared.kind.Kind.TheVariants.{Broadcast, Reduce, AllReduce, Scan, ExScan}
use Rattle.job_types.specs.Collective.{held_at}
use Rattle.job_types.specs.Job.{has_bad_root}
use Rattle.job_types.specs.Inner.Collective.{visible_at}

-- Whether each place of an item may hold a number of its own at the end.
abbrev pub is_scan : Kind → Bool
is_scan (Broadcast root) = false
is_scan (Reduce op root) = false
is_scan (AllReduce op) = false
is_scan (Scan op) = true
is_scan (ExScan op) = true

-- A place that holds the result of all items, if the collective is no scan.
abbrev pub shown_place : Kind → ℕ
shown_place (Broadcast root) = 0
shown_place (Reduce op root) = root
shown_place (AllReduce op) = 0
shown_place (Scan op) = 0
shown_place (ExScan op) = 0

-- The number that is kept for a place: its own if the collective is a scan, and else the only one.
abbrev pub shown_at : Kind → List ℕ → ℕ → Option ℕ
shown_at kind kept place = slice_get kept (if is_scan kind then place else 0)

-- There is room for the result of the collective on `count` items: a number for each if it is a
-- scan, else one number.
abbrev pub HasRoomFor : Kind → ℕ → List ℕ → Type 0
HasRoomFor kind count kept = length kept ≡ (if is_scan kind then count else 1)

-- At the place of each item, the kept numbers show the collective's result on the items.
abbrev pub IsShown : Kind → List ℕ → List ℕ → Type 0
IsShown kind items kept =
    (place : ℕ) → place < length items → visible_at kind place (shown_at kind kept place)
    ≡ held_at kind items place

-- The collective can run on `2^k` places that hold these items, and there is room for its result.
pub record CanRun (kind : Kind) (k : ℕ) (items kept : List ℕ) : Type 0 where
  pub dim : k ≤ MAX_DIM
  pub fits : length items ≤ 2 ^ k
  pub some : 0 < length items
  pub rooted : has_bad_root kind (length items) ≡ false
  pub room : HasRoomFor kind (length items) kept
