-- The values of the crate's monoids. These are `Affine` and, for each `impl Operator`, the numbers
-- that it joins. That `impl` states the unit and the join of two numbers.
use Rattle.std.specs.Prelude.{ℕ, ◌+◌, ◌*◌, ◌%◌, ◌^◌, ◌<◌}
use Rattle.collectives.specs.declared.operations.Affine.{Affine}

-- A number below `2^64`: the values of the monoid of an operator.
abbrev pub IsU64 : ℕ → Type 0
IsU64 n = n < 2 ^ 64

-- The affine map `n ↦ a * n + b`.
abbrev pub affine : ℕ → ℕ → Affine
affine a b = record { a = a; b = b }

-- The affine map `x` followed by the map `y`, modulo `2^32`: `n ↦ y.a * (x.a * n + x.b) + y.b`.
abbrev pub affine_join : Affine → Affine → Affine
affine_join x y = affine ((y.a * x.a) % 2 ^ 32) ((y.a * x.b + y.b) % 2 ^ 32)

-- An affine map whose factor and summand are below `2^32`: the values of the monoid `Affine`.
abbrev pub IsAffineValue : Affine → Type 0
IsAffineValue x = (x.a < 2 ^ 32) × (x.b < 2 ^ 32)
