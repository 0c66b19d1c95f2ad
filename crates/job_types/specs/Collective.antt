-- The collectives as plain folds over a list of items: what each place holds at the end. The first
-- item is at place 0. Places past the last item hold nothing.
use Rattle.std.specs.Prelude.{ℕ, ◌+◌, ◌%◌, ◌^◌, List, length, min, max, bit_and, bit_or, bit_xor, Option, Some, None, nat_lt, slice_get, ◌==◌, if◌then◌else◌}
use Rattle.collectives.specs.declared.shape.Shape.{Shape}
use Rattle.collectives.specs.declared.shape.Shape.TheVariants as Shapes
use Rattle.collectives.specs.Places.{total, prefix_total}
use Rattle.job_types.specs.declared.kind.Op.{Op}
use Rattle.job_types.specs.declared.kind.Op.TheVariants.{Add, Min, Max, Xor, And, Or}
use Rattle.job_types.specs.declared.kind.Kind.{Kind}
use Rattle.job_types.specs.declared.kind.Kind.TheVariants.{Broadcast, Reduce, AllReduce, Scan, ExScan}

-- Two joined items. This is the sum modulo `2^64`, the smaller, the larger, the bits in which they
-- differ, those of both, or those of either.
abbrev pub join : Op → ℕ → ℕ → ℕ
join Add a b = (a + b) % 2 ^ 64
join Min a b = min a b
join Max a b = max a b
join Xor a b = bit_xor a b
join And a b = bit_and a b
join Or a b = bit_or a b

-- The unit of an operation. Joined with an item below `2^64`, it gives that item.
abbrev pub unit_of : Op → ℕ
unit_of Add = 0
unit_of Min = 18446744073709551615
unit_of Max = 0
unit_of Xor = 0
unit_of And = 18446744073709551615
unit_of Or = 0

-- The total: all items, joined from the left, beginning with the unit.
abbrev pub total_of : Op → List ℕ → ℕ
total_of op items = total (join op) (unit_of op) items

-- The total of the first `count` items.
abbrev pub prefix_of : Op → List ℕ → ℕ → ℕ
prefix_of op items count = prefix_total (join op) (unit_of op) items count

-- What the place of an item holds at the end. A broadcast gives the root's item, an all-reduce the
-- total. A reduction gives the total at the root, and nothing elsewhere. A scan joins the items up
-- to and including that of the place, an exclusive scan those before it.
abbrev pub held_at : Kind → List ℕ → ℕ → Option ℕ
held_at (Broadcast root) items place = slice_get items root
held_at (Reduce op root) items place = if place == root then Some (total_of op items) else None
held_at (AllReduce op) items place = Some (total_of op items)
held_at (Scan op) items place = Some (prefix_of op items (place + 1))
held_at (ExScan op) items place = Some (prefix_of op items place)

-- What any place holds at the end: that of an item as `held_at` says, and nothing at places past
-- the items.
abbrev pub result_at : Kind → List ℕ → ℕ → Option ℕ
result_at kind items place = if nat_lt place (length items) then held_at kind items place else None

-- Which messages the collective sends.
abbrev pub shape_of : Kind → Shape
shape_of (Broadcast root) = Shapes.Broadcast
shape_of (Reduce op root) = Shapes.Reduce
shape_of (AllReduce op) = Shapes.AllReduce
shape_of (Scan op) = Shapes.Scan
shape_of (ExScan op) = Shapes.Scan
