-- A cell as plain data.
use Rattle.atomic_table.specs.Seated.{TableId}
use Rattle.locked_peers.specs.declared.rule.CellRule.{Ghosts}
use Rattle.locked_peers.specs.declared.cell.LockedCell.{LockedCell}

-- The table of a cell.
abbrev pub table_of : {S V K R : Type 0} {g : Ghosts R S V K} → LockedCell S V K R g → TableId
table_of cell = cell.table.shared.table_id

-- The key that the cell got when it was made.
abbrev pub key_of : {S V K R : Type 0} {g : Ghosts R S V K} → LockedCell S V K R g → K
key_of cell = cell.table.shared.key
