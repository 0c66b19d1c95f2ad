-- The table that threads share, as plain data.
use Rattle.atomic_table.specs.Seated.{TableId}
use Rattle.sched_board.specs.declared.sizes.ThreadSizes.{ThreadSizes}
use Rattle.sched_threads.specs.declared.table.TurnTable.{TurnTable}

-- The table that threads share.
abbrev pub table_of : TurnTable → TableId
table_of turns = turns.table.shared.table_id

-- The sizes that it was made for.
abbrev pub sizes_of : TurnTable → ThreadSizes
sizes_of turns = turns.table.shared.key
