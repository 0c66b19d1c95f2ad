-- What a vector ends as once its values are lent.
use Rattle.std.specs.Prelude.{List}
use Rattle.std.specs.Borrow.{Lends, Fml, RattleType, MutBor, Array}
use Rattle.fixed_vec.specs.Fixed.{Fixed, with_items}
use Rattle.fixed_vec.specs.contracts.fixed.FixedVec.{the_row}

module _ (T : RattleType) (v : MutBor (Fixed T.Denot)) where
  -- The values are the last ones that the reference shows.
  abbrev pub lends_slice : MutBor (List T.Denot) → Fml
  lends_slice r = Lends (the_row T) (Array T 0) v r (with_items v.now)
