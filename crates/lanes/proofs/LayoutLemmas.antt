-- The words of two lanes are apart, and each word says which lane has it.
use Rattle.std.proofs.Common.{◌≡◌, ◌≢◌, ℕ, suc, ◌+◌, ◌-◌, ◌*◌, ◌/◌, ◌<◌, ◌≤◌, mul-le-mul_right, suc-mul, ap, ◌∙◌, arith}
use Rattle.std.proofs.lemmas.Nat.{mod_below, div-mul-add}
use mathlib.Core.Logic.{dite}
use native.Mathlib.Decide.{dec_lt}
use Rattle.lanes.specs.declared.sizes.Plan.{Plan}
use Rattle.lanes.specs.Layout.{lane_words, lane_start, all_words, lane_of, cell_of}

pub further : (l n w : ℕ) → l < n → l * w + w ≤ n * w
further l n w low = let a : suc l * w ≤ n * w = mul-le-mul_right w low in omega (arith, suc-mul l w)

inside : (b w l n o : ℕ) → l < n → o < w → (b + l * w) + o < b + n * w
inside b w l n o low within = omega (arith, further l n w low)

apart : (b w l m o p : ℕ) → l ≢ m → o < w → p < w → (b + m * w) + p ≢ (b + l * w) + o
apart b w l m o p other within_o within_p e =
    dite (dec_lt l m) (λ less. omega (arith, further l m w less)) (λ more. omega (arith, further m l w (omega arith)))

which : (b w l o : ℕ) → o < w → (((b + l * w) + o) - b) / w ≡ l
which b w l o within = let e : ((b + l * w) + o) - b ≡ l * w + o = omega arith in ap (λ (n : ℕ). n / w) e ∙ div-mul-add l w o within

module _ (plan : Plan) where
  pub lane-inside : (l o : ℕ)
      → l < plan.sizes.lanes
      → o < lane_words plan.sizes.capacity
      → lane_start plan l + o < all_words plan
  lane-inside l o low within = inside plan.base (lane_words plan.sizes.capacity) l plan.sizes.lanes o low within

  pub lanes-apart : (l m o p : ℕ)
      → l ≢ m
      → o < lane_words plan.sizes.capacity
      → p < lane_words plan.sizes.capacity
      → lane_start plan m + p ≢ lane_start plan l + o
  lanes-apart l m o p other within_o within_p = apart plan.base (lane_words plan.sizes.capacity) l m o p other within_o within_p

  pub lane_of-start : (l o : ℕ)
      → o < lane_words plan.sizes.capacity
      → lane_of plan (lane_start plan l + o) ≡ l
  lane_of-start l o within = which plan.base (lane_words plan.sizes.capacity) l o within

-- both cells of a job are among the words of its lane
pub cell-inside : (capacity i : ℕ) → 0 < capacity → cell_of capacity i + 1 < lane_words capacity
cell-inside capacity i some_room = omega (arith, mod_below i capacity some_room)
