-- What a monoid is, over the members of a type that are its values.
use Rattle.std.specs.Prelude.{◌≡◌}

-- The laws of a monoid, over values only.
pub record MonoidLaws {M : Type 0} (IsValue : M → Type 0) (unit : M)
    (join : M → M → M) : Type 0 where
  -- The unit is a value, and so are two joined values.
  pub unit_value : IsValue unit
  pub join_value : (x y : M) → IsValue x → IsValue y → IsValue (join x y)
  -- The unit changes nothing on either side.
  pub left_unit : (x : M) → IsValue x → join unit x ≡ x
  pub right_unit : (x : M) → IsValue x → join x unit ≡ x
  -- Joining is associative.
  pub assoc : (x y z : M)
      → IsValue x
      → IsValue y
      → IsValue z
      → join (join x y) z ≡ join x (join y z)
