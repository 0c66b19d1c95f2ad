-- The base is that of a region, and no region before it is clear.
use Rattle.std.proofs.Common.{◌≡◌, ℕ, ◌*◌, ◌%◌, ◌^◌, ◌<◌}
use Rattle.cube_shape.specs.Region.{block}
use Rattle.alloc_bits.specs.Bits.{IsClear}
use Rattle.alloc_bits.proofs.bits.first_clear.Given as goal

abbrev pub invariant-loop-base : goal.invariant-loop-base
invariant-loop-base l = record {
  begins : l.base % 2 ^ l.k ≡ 0;
  before : (i : ℕ) → i * 2 ^ l.k < l.base → IsClear l.bits (block l.k i) → ⊥;
}
