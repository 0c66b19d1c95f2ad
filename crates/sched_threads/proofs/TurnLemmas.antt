-- Each sequence of turns is a history of deeds.
use Rattle.std.proofs.Common.{◌≡◌, ℕ, Option, Some, None, IfSome, List, [], ◌∷◌, ◌++◌, sym, refl, ap, ◌∙◌, subst}
use Rattle.sched_board.specs.Pool.{workers_of}
use Rattle.sched_law.specs.Team.{Deed, IsHistory, May, Team, after, team_of}
use Rattle.sched_board.specs.declared.board.JobBoard.{JobBoard}
use Rattle.sched_board.proofs.FollowLemmas.{at_follows}
use Rattle.sched_threads.specs.Desk.{DeskData}
use Rattle.sched_threads.specs.declared.clocked.ClockedDesk.{ClockedDesk}
use Rattle.sched_board.specs.declared.sizes.ThreadSizes.{ThreadSizes}
use Rattle.sched_board.specs.JobBoard.{FollowsAt, IsFresh, MayAll, ShowsTeam, after_all}
use Rattle.sched_threads.specs.declared.view.Turn.{Turn}
use Rattle.sched_threads.specs.Ends.{IsEnd, Leads}
use Rattle.sched_threads.specs.Rule.{AreTurns, last_desk}

after_deeds : (dim patience : ℕ) (deeds history : List Deed)
    → team_of dim patience (deeds ++ history) ≡ after_all (team_of dim patience history) deeds
after_deeds dim patience [] history = refl
after_deeds dim patience (d ∷ deeds) history = ap (λ (t : Team). after t d) (after_deeds dim patience deeds history)

legal_deeds : (dim patience workers : ℕ) (deeds history : List Deed)
    → IsHistory dim patience workers history
    → MayAll workers (team_of dim patience history) deeds
    → IsHistory dim patience workers (deeds ++ history)
legal_deeds dim patience workers [] history legal may = legal
legal_deeds dim patience workers (d ∷ deeds) history legal may = (
  subst (λ (t : Team). May workers t d) (sym (after_deeds dim patience deeds history)) may.0,
  legal_deeds dim patience workers deeds history legal may.1,
)

leads_on : (sizes : ThreadSizes) (time : ℕ) (x y : JobBoard) (own : List Deed)
    → workers_of x.pool ≡ sizes.workers
    → FollowsAt time x own y
    → Leads sizes x
    → Leads sizes y
leads_on sizes time x y own count follows led =
    let history = led.0 in
    let next = at_follows time x y own follows (team_of sizes.dim sizes.patience history) led.2 in
    let deeds : List Deed = next.0 ++ own in (
      deeds ++ history,
      legal_deeds sizes.dim sizes.patience sizes.workers deeds history led.1 (subst (λ (n : ℕ). MayAll n (team_of sizes.dim sizes.patience history) deeds) count next.2),
      subst (λ (t : Team). ShowsTeam t y) (sym (after_deeds sizes.dim sizes.patience deeds history)) next.3,
    )

-- A turn keeps the number of workers.
pub count_last : (sizes : ThreadSizes) (first : ClockedDesk)
    → IsFresh sizes first.desk.board
    → (turns : List Turn)
    → AreTurns first turns
    → workers_of (last_desk first turns).desk.board.pool ≡ sizes.workers
count_last sizes first fresh [] legal = fresh.workers
count_last sizes first fresh (t ∷ turns) legal =
    let may = legal.0 in
    may.2.1 ∙ (ap (λ (x : ClockedDesk). workers_of x.desk.board.pool) may.1 ∙ count_last sizes first fresh turns legal.1)

pub leads_last : (sizes : ThreadSizes) (first : ClockedDesk)
    → IsFresh sizes first.desk.board
    → (turns : List Turn)
    → AreTurns first turns
    → Leads sizes (last_desk first turns).desk.board
leads_last sizes first fresh [] legal = ([], tt, fresh.shows)
leads_last sizes first fresh (t ∷ turns) legal =
    let may = legal.0 in
    let count : workers_of t.from.desk.board.pool ≡ sizes.workers = ap (λ (x : ClockedDesk). workers_of x.desk.board.pool) may.1 ∙ count_last sizes first fresh turns legal.1 in
    leads_on sizes t.to.clock t.from.desk.board t.to.desk.board may.2.0.0 count may.2.0.1 (subst (λ (x : ClockedDesk). Leads sizes x.desk.board) (sym may.1) (leads_last sizes first fresh turns legal.1))

pub end_leads : (sizes : ThreadSizes) (x : DeskData) → IsEnd sizes x → Leads sizes x.board
end_leads sizes x is = subst (λ (d : DeskData). Leads sizes d.board) (sym is.left) (leads_last sizes is.first is.fresh is.turns is.legal)

pub some_leads : (sizes : ThreadSizes) (end : Option DeskData)
    → IfSome end (IsEnd sizes)
    → IfSome end (λ x. Leads sizes x.board)
some_leads sizes (Some x) is = end_leads sizes x is
some_leads sizes None is = is
