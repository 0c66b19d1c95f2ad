-- What the pointer that C keeps owns, and how its content is encoded.
use Rattle.std.specs.Prelude.{Option}
use base.Fml.{Fml}
use base.Stored.{Coded}
use denote.RawPtr.{Ptr}
use Rattle.std.specs.Global.{Global}
use Rattle.hidden_box.specs.Hidden as hidden
use Rattle.cubejobs_sched.specs.contracts.state.State.{the_row}

abbrev pub opaque_owns : Global → Ptr → Option the_row.Denot → Fml
opaque_owns = hidden.hidden_owns the_row

abbrev pub content_coded : Coded (Option the_row.Denot)
content_coded = hidden.content_coded the_row
