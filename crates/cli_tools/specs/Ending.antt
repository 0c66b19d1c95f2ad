-- The exit status of a call.
use Rattle.std.specs.Prelude.{ℕ}
use Rattle.cli_tools.specs.declared.ending.ToolEnding.{ToolEnding}
use Rattle.cli_tools.specs.declared.ending.ToolEnding.TheVariants.{Done, Refused, Rejected, Failed, FileFailed}

-- The exit status of a call that ends so.
abbrev pub exit_status : ToolEnding → ℕ
exit_status Done = 0
exit_status Refused = 1
exit_status Rejected = 2
exit_status (Failed fault) = 3
exit_status (FileFailed fault) = 3
