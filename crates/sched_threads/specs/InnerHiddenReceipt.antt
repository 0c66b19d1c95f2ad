-- What a hidden receipt owns.
use Rattle.std.specs.Prelude.{ℕ, List}
use base.Fml.{Fml}
use base.Stored.{Coded, coded_list}
use Rattle.atomic_table.specs.Seated.{TableId, badge_owns}
use Rattle.sched_threads.specs.contracts.view.View.{the_row}

-- How the views of a hidden receipt are encoded.
abbrev pub views_coded : Coded (List the_row.Denot)
views_coded = coded_list the_row.coded

-- It owns what a seat with this view does, or nothing where it has no view.
abbrev pub hidden_owns : TableId → ℕ → List the_row.Denot → Fml
hidden_owns z id views = badge_owns the_row.coded.code z id views
