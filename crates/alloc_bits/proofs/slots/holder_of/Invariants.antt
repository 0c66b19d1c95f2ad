-- No station so far has a region with the processor.
use Rattle.std.proofs.Common.{◌≡◌, ℕ, ◌<◌, Some}
use Rattle.cube_shape.specs.declared.region.Region.{Region}
use Rattle.cube_shape.specs.Region.{Covers}
use Rattle.alloc_bits.specs.Inner.{slot_of}
use Rattle.alloc_bits.proofs.slots.holder_of.Given as goal

abbrev pub invariant-loop-station : goal.invariant-loop-station
invariant-loop-station l = (s : ℕ) (a : Region) → s < l.station → slot_of l.slots s ≡ Some a → Covers a l.processor → ⊥
