-- Marks are under no rule, and a step on them says nothing.
use Rattle.std.specs.Prelude.{ℕ}
use Rattle.atomic_table.specs.Table.{State, Step, Me}
use Rattle.bitmap_tree.specs.declared.view.Run.{Run}

abbrev pub holds_always : ℕ → State Run ℕ → Type 0
holds_always _ _ = Unit {0}

abbrev pub first_mark : ℕ → ℕ
first_mark k = k

abbrev pub tells_nothing : Step Run → Me Run ℕ → ℕ → Me Run ℕ → Type 0
tells_nothing _ _ _ _ = Unit {0}
