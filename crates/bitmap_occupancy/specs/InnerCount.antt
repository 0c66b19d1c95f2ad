-- What a counter has counted.
use Rattle.std.specs.Prelude.{◌≡◌, ℕ, ◌<◌, ◌≤◌, List, slice_index}
use Rattle.alloc_bits.specs.Count.{IsCount}
use Rattle.bitmap_occupancy.specs.Occupancy.{IsHeldAt}
use Rattle.bitmap_occupancy.specs.InnerRuns.{AreCounted, IsRun}
use Rattle.bitmap_occupancy.specs.declared.counter.Counter.{Counter}

-- The counts do not exceed the number of processors that were counted.
pub record IsRunning (n past : ℕ) (counter : Counter) : Type 0 where
  pub from : counter.from ≤ past
  pub held : counter.held ≤ past
  pub free : (k : ℕ) → slice_index counter.free k ≤ past
  pub none_above : (k : ℕ) → n < k → slice_index counter.free k ≡ 0

-- The processors below `past` of a machine with these words are counted.
pub record IsCountedTo (n : ℕ) (words : List ℕ) (past : ℕ) (counter : Counter) : Type 0 where
  pub run : IsRun n words past counter.from
  pub held : IsCount (IsHeldAt n words) past counter.held
  pub free : AreCounted n words past counter.free
