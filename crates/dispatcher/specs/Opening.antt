-- Which sizes of a dispatcher are refused.
use Rattle.std.specs.Prelude.{ℕ, Bool, not, ◌&&◌, Option, Some, None, nat_lt, if◌then◌else◌}
use Rattle.cube_shape.specs.declared.limits.TheConstants.{MAX_CAPACITY, MAX_DIM, MAX_LANES, MAX_DISPATCHERS}
use Rattle.dispatcher.specs.declared.opening.ShopRefused.{ShopRefused}
use Rattle.dispatcher.specs.declared.opening.ShopRefused.TheVariants.{BadDimension, BadLanes, BadDispatchers, BadCapacity}

-- The count is neither 0 nor above the limit.
abbrev pub is_within : ℕ → ℕ → Bool
is_within limit count = nat_lt 0 count && not (nat_lt limit count)

-- The first size that is not within its limits, if there is one. The order is dimension, lanes,
-- workers, capacity.
abbrev pub refusal_of : ℕ → ℕ → ℕ → ℕ → Option ShopRefused
refusal_of n lanes dispatchers capacity =
    if nat_lt MAX_DIM n then Some BadDimension
    else if not (is_within MAX_LANES lanes) then Some BadLanes
    else if not (is_within MAX_DISPATCHERS dispatchers) then Some BadDispatchers
    else if not (is_within MAX_CAPACITY capacity) then Some BadCapacity
    else None
