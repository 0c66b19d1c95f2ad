-- The least dimension, by binary digits.
use Rattle.std.proofs.Common.{ℕ, suc, ◌+◌, ◌-◌, ◌*◌, ◌<◌, ◌≤◌, ◌^◌, arith}
use Rattle.std.proofs.Math.Pow.{pow_mono}

pub digits_enough : (p k : ℕ) → 0 < p → p - 1 < 2 ^ k → p ≤ 2 ^ k
digits_enough p k some fits = omega (arith, some, fits)

pub digits_least : (p k j : ℕ) → 0 < p → 2 ^ k ≤ 2 * (p - 1) + 1 → p ≤ 2 ^ j → k ≤ j
digits_least p k j some full enough =
    let next : suc j ≤ k → 2 ^ suc j ≤ 2 ^ k = λ h. pow_mono h in grind arith
