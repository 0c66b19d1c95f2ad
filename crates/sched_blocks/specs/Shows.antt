-- When the blocks are those of a state of the scheduler.
use Rattle.std.specs.Prelude.{◌≡◌, ℕ, ◌+◌, ◌^◌, Bool, Some}
use Rattle.cube_shape.specs.declared.region.Region.{Region}
use Rattle.fit_tree.specs.Fit.{fit_words, held_in}
use Rattle.sched_law.specs.State.{Sched}
use Rattle.sched_blocks.specs.Use.{IsInUse, Tracks}
use Rattle.sched_blocks.specs.Layout.{Layout}

-- The blocks show the state, which is safe. They have its dimension, hold exactly its blocks in
-- use, and those out of service apart. Both trees are right for it.
pub record Shows (w : Sched) (b : Layout) : Type 0 where
  pub dim : w.dim ≡ b.dim
  pub holds : (r : Region) → IsInUse w r → held_in b.used r.base ≡ Some r
  pub only : (s : ℕ) (r : Region) → held_in b.used s ≡ Some r → (r.base ≡ s) × IsInUse w r
  pub out : (s : ℕ) → held_in b.out s ≡ w.occupied s
  pub trees : (own : ℕ → ℕ) × (used : ℕ → Bool) × Tracks w own used b.ends b.busy

-- How many words of 8 bytes the blocks of a machine take: two trees, the ends, and the counts.
abbrev pub block_words : ℕ → ℕ
block_words n = fit_words n + (fit_words n + (2 ^ (n + 1) + 2 ^ n))
