-- What the place of a vector ends as once its values are lent.
use Rattle.std.specs.Prelude.{List}
use Rattle.std.specs.Borrow.{Lends, Fml, RattleType, MutBor, Array}
use Rattle.fixed_vec.specs.Inner.Home.{home_with_items}
use Rattle.fixed_vec.specs.contracts.home.Home.{the_row}

module _ (T : RattleType) (h : MutBor (the_row T).Denot) where
  -- The values are the last ones that the reference shows.
  abbrev pub home_lends_slice : MutBor (List T.Denot) → Fml
  home_lends_slice r = Lends (the_row T) (Array T 0) h r (home_with_items h.now)
