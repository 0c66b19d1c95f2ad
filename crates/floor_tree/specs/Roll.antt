-- What the tree says of a machine to which all stations came back.
use Rattle.std.specs.Prelude.{ℕ, slice_index}
use Rattle.cube_tree.specs.declared.handles.FreeMachine.{FreeMachine}
use Rattle.cube_tree.specs.Ends.{IsWhole, machine_words}

-- Word 0 of the machine, the roll, has the bit of each station below the count.
abbrev pub IsRollWhole : ℕ → FreeMachine → Type 0
IsRollWhole count machine = IsWhole count (slice_index (machine_words machine) 0)
