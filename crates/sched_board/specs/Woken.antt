-- The workers that got a job in a turn.
use Rattle.std.specs.Prelude.{◌≡◌, ◌≢◌, ℕ, ◌<◌, ◌⊎◌}
use Rattle.sched_board.specs.declared.woken.Woken.{Woken}

-- The worker is one of those that got a job.
abbrev pub Has : Woken → ℕ → Type 0
Has woken u =
    ((0 < woken.count) × (u ≡ woken.first)) ⊎ (((1 < woken.count) × (u ≡ woken.second))
    ⊎ (((2 < woken.count) × (u ≡ woken.third)) ⊎ ((3 < woken.count) × (u ≡ woken.fourth))))

-- No worker is named twice.
pub record AreApart (woken : Woken) : Type 0 where
  pub second : 1 < woken.count → woken.second ≢ woken.first
  pub third : 2 < woken.count → (woken.third ≢ woken.first) × (woken.third ≢ woken.second)
  pub fourth : 3 < woken.count
      → (woken.fourth ≢ woken.first) × (woken.fourth ≢ woken.second) × (woken.fourth ≢ woken.third)
