-- Deeds in a row, and boards that follow one another.
use Rattle.std.proofs.Common.{◌≡◌, ℕ, List, [], ◌∷◌, ◌++◌, refl, sym, ◌∙◌, ap, subst, append_assoc}
use Rattle.std.proofs.lemmas.List.{append-nil}
use Rattle.sched_board.specs.Pool.{workers_of}
use Rattle.sched_law.specs.Team.{Deed, May, Team, after}
use Rattle.sched_board.specs.declared.board.JobBoard.{JobBoard}
use Rattle.sched_law.specs.Team.Deed.{submits, cancels, occupies, vacates, asks, leaves, ends, starts, settles, closes}
use Rattle.sched_board.specs.declared.board.BoardPhase.TheVariants.{Stopped}
use Rattle.sched_board.specs.JobBoard.{AreDecisions, AreDecisionsAt, DecidesAt, Follows, FollowsAt, IsDecision, IsDecisionAt, KeepsPhase, Leads, MayAll, ShowsTeam, after_all}

-- ---- deeds in a row

pub after_append : (t : Team) (newer older : List Deed) → after_all t (newer ++ older) ≡ after_all (after_all t older) newer
after_append t [] older = refl
after_append t (d ∷ newer) older = ap (λ (s : Team). after s d) (after_append t newer older)

pub may_append : (workers : ℕ) (t : Team) (newer older : List Deed) → MayAll workers t older → MayAll workers (after_all t older) newer
    → MayAll workers t (newer ++ older)
may_append workers t [] older first next = first
may_append workers t (d ∷ newer) older first next =
    (subst (λ (s : Team). May workers s d) (sym (after_append t newer older)) next.0, may_append workers t newer older first next.1)

-- ---- boards

-- nothing happened
pub leads_none : (x : JobBoard) → Leads x [] x
leads_none x t k = (tt, k)

-- one deed
pub leads_one : (x y : JobBoard) (d : Deed) → ((t : Team) → ShowsTeam t x → May (workers_of x.pool) t d × ShowsTeam (after t d) y)
    → Leads x (d ∷ []) y
leads_one x y d leads t k = let next = leads t k in ((next.0, tt), next.1)

-- deeds, and then other deeds
pub leads_then : (x y z : JobBoard) (own next : List Deed) → workers_of y.pool ≡ workers_of x.pool → Leads x own y → Leads y next z
    → Leads x (next ++ own) z
leads_then x y z own next count first then t k =
    let a = first t k in
    let b = then (after_all t own) a.1 in (
      may_append (workers_of x.pool) t next own a.0 (subst (λ n. MayAll n (after_all t own) next) count b.0),
      subst (λ (s : Team). ShowsTeam s z) (sym (after_append t next own)) b.1,
    )

-- where no job may start, only these deeds
pub leads_stopped : (x y z : JobBoard) (own : List Deed) → KeepsPhase x y → Leads x own y → (y.phase ≡ Stopped → z ≡ y) → x.phase ≡ Stopped → Leads x own z
leads_stopped x y z own same leads still stopped = subst (Leads x own) (sym (still (same ∙ stopped))) leads

-- ---- decisions at one time

at_append : (time : ℕ) (newer older : List Deed) → AreDecisionsAt time older → AreDecisionsAt time newer → AreDecisionsAt time (newer ++ older)
at_append time [] older first next = first
at_append time (d ∷ newer) older first next = (next.0, at_append time newer older first next.1)

decision_at : (time : ℕ) (d : Deed) → IsDecisionAt time d → IsDecision d
decision_at time (starts now u j v) is = tt
decision_at time (settles now v) is = tt
decision_at time (submits _) is = absurd is
decision_at time (cancels _) is = absurd is
decision_at time (occupies _) is = absurd is
decision_at time (vacates _) is = absurd is
decision_at time (asks _) is = absurd is
decision_at time (leaves _) is = absurd is
decision_at time (ends _) is = absurd is
decision_at time closes is = absurd is

decisions_at : (time : ℕ) (ds : List Deed) → AreDecisionsAt time ds → AreDecisions ds
decisions_at time [] are = tt
decisions_at time (d ∷ ds) are = (decision_at time d are.0, decisions_at time ds are.1)

pub decides_then : (time : ℕ) (x y z : JobBoard) → workers_of y.pool ≡ workers_of x.pool → DecidesAt time x y → DecidesAt time y z → DecidesAt time x z
decides_then time x y z count first next t k =
    let a = first t k in
    let b = next (after_all t a.0) a.3 in (
      b.0 ++ a.0,
      at_append time b.0 a.0 a.1 b.1,
      may_append (workers_of x.pool) t b.0 a.0 a.2 (subst (λ n. MayAll n (after_all t a.0) b.0) count b.2),
      subst (λ (s : Team). ShowsTeam s z) (sym (after_append t b.0 a.0)) b.3,
    )

-- no other deeds
pub decides_at : (now : ℕ) (x y : JobBoard) → DecidesAt now x y → FollowsAt now x [] y
decides_at now x y decides t k =
    let a = decides t k in
    let all : a.0 ≡ a.0 ++ [] = sym (append-nil a.0) in (
      a.0,
      a.1,
      subst (λ (ds : List Deed). MayAll (workers_of x.pool) t ds) all a.2,
      subst (λ (ds : List Deed). ShowsTeam (after_all t ds) y) all a.3,
    )

-- deeds, and then other deeds with the decisions
pub at_then : (now : ℕ) (x y z : JobBoard) (own next : List Deed) → workers_of y.pool ≡ workers_of x.pool → Leads x own y
    → FollowsAt now y next z → FollowsAt now x (next ++ own) z
at_then now x y z own next count first then t k =
    let a = first t k in
    let b = then (after_all t own) a.1 in
    let newer : List Deed = b.0 ++ next in
    let all : newer ++ own ≡ b.0 ++ (next ++ own) = append_assoc b.0 next own in
    let may = may_append (workers_of x.pool) t newer own a.0 (subst (λ n. MayAll n (after_all t own) newer) count b.2) in
    let shows = subst (λ (s : Team). ShowsTeam s z) (sym (after_append t newer own)) b.3 in (
      b.0,
      b.1,
      subst (λ (ds : List Deed). MayAll (workers_of x.pool) t ds) all may,
      subst (λ (ds : List Deed). ShowsTeam (after_all t ds) z) all shows,
    )

-- decisions at any time
pub at_follows : (now : ℕ) (x y : JobBoard) (own : List Deed) → FollowsAt now x own y → Follows x own y
at_follows now x y own follows t k = let a = follows t k in (a.0, decisions_at now a.0 a.1, a.2, a.3)
