-- How the places that the rounds work on show a collective's result.
use Rattle.std.specs.Prelude.{◌≡◌, ℕ, ◌<◌, ◌≤◌, ◌^◌, false, List, length, Option, None, slice_get, ◌==◌, if◌then◌else◌}
use Rattle.collectives.specs.Places.{padded}
use Rattle.job_types.specs.declared.kind.Op.{Op}
use Rattle.job_types.specs.declared.kind.Op.TheVariants.{Add}
use Rattle.job_types.specs.declared.kind.Kind.{Kind}
use Rattle.job_types.specs.declared.kind.Kind.TheVariants.{Broadcast, Reduce, AllReduce, Scan, ExScan}
use Rattle.job_types.specs.Collective.{held_at, unit_of}
use Rattle.job_types.specs.Job.{has_bad_root}

-- What a reply shows of the number at a place. Of a reduction it shows only that of the root.
abbrev pub visible_at : Kind → ℕ → Option ℕ → Option ℕ
visible_at (Broadcast root) place value = value
visible_at (Reduce op root) place value = if place == root then value else None
visible_at (AllReduce op) place value = value
visible_at (Scan op) place value = value
visible_at (ExScan op) place value = value

-- At the place of each item, these numbers show the collective's result on the items.
abbrev pub IsResult : Kind → List ℕ → List ℕ → Type 0
IsResult kind items numbers =
    (place : ℕ) → place < length items → visible_at kind place (slice_get numbers place)
    ≡ held_at kind items place

-- The operation that joins the items. A broadcast joins none, so any operation will do.
abbrev pub operation_of : Kind → Op
operation_of (Broadcast root) = Add
operation_of (Reduce op root) = op
operation_of (AllReduce op) = op
operation_of (Scan op) = op
operation_of (ExScan op) = op

-- The number at each of the `2^k` places before the rounds of a job: its items, and then the unit
-- of the operation.
abbrev pub places_for : Kind → ℕ → List ℕ → List ℕ
places_for kind k items = padded (unit_of (operation_of kind)) k items

-- These numbers are those before the rounds of a job with these items, one of which is at the root.
pub record ArePlacesFor (kind : Kind) (k : ℕ) (items numbers : List ℕ) : Type 0 where
  pub padded : numbers ≡ places_for kind k items
  pub fits : length items ≤ 2 ^ k
  pub rooted : has_bad_root kind (length items) ≡ false

-- After the rounds of a collective, its `2^k` places show its result on the items that they held
-- before.
abbrev pub MakesResult : Kind → ℕ → List ℕ → List ℕ → Type 0
MakesResult kind k old new =
    (items : List ℕ) → ArePlacesFor kind k items old → IsResult kind items new
