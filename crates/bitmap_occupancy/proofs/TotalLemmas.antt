-- The counts of one processor more, and those of all.
use Rattle.std.proofs.Common.{◌≡◌, ℕ, ◌+◌, ◌-◌, ◌/◌, ◌^◌, ◌<◌, ◌≤◌, ◌⊎◌, inl, inr, List, Option, slice_index, arith, ap, sym, subst, ◌∙◌}
use Rattle.std.proofs.lemmas.Bool.{cases_lt}
use Rattle.std.proofs.lemmas.Nat.{pow_pos, shl-shr}
use Rattle.bitmap_tree.proofs.LayoutLemmas.{split_at}
use Rattle.cube_shape.specs.Region.{block}
use Rattle.alloc_bits.specs.Count.{IsCount}
use Rattle.bitmap_occupancy.proofs.RunLemmas.{ends_same}
use Rattle.bitmap_occupancy.specs.InnerCount.{IsCountedTo, IsRunning}
use Rattle.bitmap_occupancy.specs.InnerRuns.{AreCounted, IsRun}
use Rattle.bitmap_occupancy.specs.Occupancy.{IsFreeAt, IsHeldAt}
use Rattle.bitmap_occupancy.specs.Summary.{IsLargestIn, IsOccupancy}
use Rattle.bitmap_occupancy.specs.declared.counter.Counter.{Counter}

-- a run goes on over a processor that is not held
pub run_more : (n : ℕ) (words : List ℕ) (p from : ℕ) → IsRun n words p from → (IsHeldAt n words p → ⊥) → IsRun n words (p + 1) from
run_more n words p from run none = record {
  clear = λ q le lt held. clear q le lt held (cases_lt q p);
  before = run.before;
}
  where
    clear : (q : ℕ) → from ≤ q → q < p + 1 → IsHeldAt n words q → (q < p) ⊎ (p ≤ q) → ⊥
    clear q le lt held (inl less) = run.clear q le less held
    clear q le lt held (inr most) = let same : q ≡ p = omega (arith, lt, most) in none (subst (IsHeldAt n words) same held)

-- a new run begins after one that is held
pub run_anew : (n : ℕ) (words : List ℕ) (p : ℕ) → IsHeldAt n words p → IsRun n words (p + 1) (p + 1)
run_anew n words p held = record {
  clear = λ q le lt _. absurd (omega (arith, le, lt));
  before = λ some. let same : p ≡ p + 1 - 1 = omega arith in subst (IsHeldAt n words) same held;
}

-- no free block ends with a processor that is held
pub ends_held : (n : ℕ) (words : List ℕ) (p : ℕ) (free : List ℕ) → IsHeldAt n words p → AreCounted n words p free → AreCounted n words (p + 1) free
ends_held n words p free held before k le = ends_same n words (p + 1) p k (slice_index free k) (run_anew n words p held) (omega arith) (inr (omega (arith, pow_pos k))) (before k le)

pub counted_all : (n : ℕ) (words : List ℕ) (counter : Counter) (largest : Option ℕ) → IsRunning n (2 ^ n) counter
    → IsCountedTo n words (2 ^ n) counter → IsLargestIn counter.free largest
    → IsOccupancy n words (record { free = counter.free; held = counter.held; largest = largest })
counted_all n words counter largest running counted most = record {
  free = λ k le. subst (λ b. IsCount (λ m. IsFreeAt n words (block k m)) b (slice_index counter.free k)) (blocks k le) (counted.free k le);
  none_above = running.none_above;
  held = counted.held;
  largest = most;
}
  where
    blocks : (k : ℕ) → k ≤ n → 2 ^ n / 2 ^ k ≡ 2 ^ (n - k)
    blocks k le = ap (λ x. x / 2 ^ k) (sym (split_at n k le)) ∙ shl-shr (2 ^ (n - k)) k
