-- The proof of the laws of `Extent`.
use Rattle.std.specs.Prelude.{◌≡◌}
use Rattle.std.proofs.Common.{arith}
use Rattle.collectives.specs.Laws.{MonoidLaws}
use Rattle.uses.specs.declared.extent.Extent.{Extent}
use Rattle.uses.specs.Extent.{extent_unit, extent_join, IsExtentValue}

-- Two extents are the same if their least and their greatest numbers are.
same_extent : (x y : Extent) → x.least ≡ y.least → x.greatest ≡ y.greatest → x ≡ y
same_extent x y least greatest i = record { least = least i; greatest = greatest i }

-- `Extent` is a monoid.
pub extent_laws : MonoidLaws IsExtentValue extent_unit extent_join
extent_laws = record {
  unit_value = (omega arith, omega arith);
  join_value = λ x y x_value y_value. (omega arith, omega arith);
  left_unit = λ x x_value. same_extent (extent_join extent_unit x) x (omega arith) (omega arith);
  right_unit = λ x x_value. same_extent (extent_join x extent_unit) x (omega arith) (omega arith);
  assoc = λ x y z x_value y_value z_value.
      same_extent (extent_join (extent_join x y) z) (extent_join x (extent_join y z)) (omega arith) (omega arith);
}
