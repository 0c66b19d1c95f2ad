-- The least and the greatest of some numbers, as a monoid.
use Rattle.std.specs.Prelude.{ℕ, ◌^◌, ◌<◌, min, max}
use Rattle.uses.specs.declared.extent.Extent.{Extent}

-- An extent by its least and its greatest number.
abbrev pub extent : ℕ → ℕ → Extent
extent least greatest = record { least = least; greatest = greatest }

-- The extent of no numbers: the unit of the monoid.
abbrev pub extent_unit : Extent
extent_unit = extent 18446744073709551615 0

-- The extent of the numbers of two extents.
abbrev pub extent_join : Extent → Extent → Extent
extent_join x y = extent (min x.least y.least) (max x.greatest y.greatest)

-- Both numbers are below `2^64`.
abbrev pub IsExtentValue : Extent → Type 0
IsExtentValue x = (x.least < 2 ^ 64) × (x.greatest < 2 ^ 64)
