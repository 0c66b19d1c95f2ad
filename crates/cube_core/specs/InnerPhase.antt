-- Single columns of the table of standings. No public contract cites these.
use Rattle.std.specs.Prelude.{ℕ}
use Rattle.cube_shape.specs.declared.node.Side.{Side}
use Rattle.cube_core.specs.declared.phase.Seen.{Seen}
use Rattle.cube_core.specs.declared.phase.Phase.{Phase}
use Rattle.cube_core.specs.Phase.{standing}

-- The node that the station's take named, until it holds that node or gives up.
abbrev pub asked : Phase → ℕ
asked phase = (standing phase).asked

-- The deepest ancestor of the owned node that the station has not passed.
abbrev pub stop : Phase → ℕ
stop phase = (standing phase).stop

-- The number from which on it has passed or swept the ancestors of its node.
abbrev pub swept_from : Phase → ℕ
swept_from phase = (standing phase).swept_from

-- The node that the station is to clear.
abbrev pub to_clear : Phase → ℕ
to_clear phase = (standing phase).to_clear

-- The node where the station is marked.
abbrev pub marked_at : Phase → ℕ
marked_at phase = (standing phase).marked_at

-- What the station has seen of each child of the node where it is marked.
abbrev pub saw : Phase → Side → Seen
saw phase = (standing phase).saw
