-- The bits of the levels so far are set.
use Rattle.std.proofs.Common.{◌≡◌, ℕ, ◌*◌, ◌/◌, ◌%◌, ◌^◌, ◌<◌, slice_index}
use Rattle.std.specs.Int.{bit_at}
use Rattle.bitmap_occupancy.proofs.processors.is_held.Given as goal

abbrev pub invariant-loop-level : goal.invariant-loop-level
invariant-loop-level l = (level : ℕ) → level < l.level
    → bit_at (slice_index l.path level) (l.processor / 2 ^ (6 * level) % 64) ≡ 1
