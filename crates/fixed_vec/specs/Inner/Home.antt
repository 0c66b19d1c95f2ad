-- The values of a vector, wherever they lie.
use Rattle.std.specs.Prelude.{List}
use Rattle.std.specs.Vec as vec
use Rattle.fixed_vec.specs.declared.home.Home.{Home}
use Rattle.fixed_vec.specs.declared.home.Home.TheVariants.{Heap, Words}

module _ {T : Type 0} where
  -- The values.
  abbrev pub items_at : Home T → List T
  items_at (Heap v) = v.items
  items_at (Words v) = v.items

  -- The same place with other values.
  abbrev pub home_with_items : Home T → List T → Home T
  home_with_items (Heap v) xs = Heap (vec.with_items v xs)
  home_with_items (Words v) xs = Words (vec.with_items v xs)
