-- What a contract sees of a handle.
use Rattle.std.specs.Prelude.{Option}
use Rattle.cubejobs_lanes.specs.declared.handle.Handle.{Handle}
use Rattle.cubejobs_lanes.specs.declared.state.State.{State}

-- The content of a handle, if it is open.
abbrev pub content_of : Handle → Option State
content_of handle = handle.ptr.content
