-- What holds at the end of the table.
use Rattle.std.specs.Prelude.{◌≡◌, List}
use Rattle.sched_law.specs.Team.{Deed, IsHistory, team_of}
use Rattle.sched_board.specs.declared.board.JobBoard.{JobBoard}
use Rattle.sched_threads.specs.Desk.{DeskData}
use Rattle.sched_threads.specs.declared.clocked.ClockedDesk.{ClockedDesk}
use Rattle.sched_board.specs.declared.sizes.ThreadSizes.{ThreadSizes}
use Rattle.sched_board.specs.JobBoard.{IsFresh, ShowsTeam}
use Rattle.sched_threads.specs.declared.view.Turn.{Turn}
use Rattle.sched_threads.specs.Rule.{AreTurns, last_desk}

-- A legal history leads to a team that the board shows.
abbrev pub Leads : ThreadSizes → JobBoard → Type 0
Leads sizes x =
    (history : List Deed) × IsHistory sizes.dim sizes.patience sizes.workers history
    × ShowsTeam (team_of sizes.dim sizes.patience history) x

-- Some sequence of turns led from a new desk to this one.
pub record IsEnd (sizes : ThreadSizes) (x : DeskData) : Type 0 where
  pub first : ClockedDesk
  pub fresh : IsFresh sizes first.desk.board
  pub early : first.clock ≡ 0
  pub turns : List Turn
  pub legal : AreTurns first turns
  pub left : x ≡ (last_desk first turns).desk
