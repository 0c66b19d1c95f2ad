-- What calls on a board answer, and the deeds of each answer.
use Rattle.std.proofs.Common.{◌≡◌, ℕ, Bool, Option, Some, None, Result, Ok, Err, IfOk, IfErr, IfSome, IfNone, IsTrue, IsFalse, List, [], ◌∷◌, sym, ap, subst}
use Rattle.sched_law.specs.Team.{Deed}
use Rattle.sched_law.specs.Team.Deed.{cancels, closes, occupies, submits, vacates}
use Rattle.sched_core.specs.declared.request.JobRequest.{JobRequest}
use Rattle.sched_core.specs.declared.scheduler.Core.{Core}
use Rattle.sched_core.specs.Shows.{ShowsCore, job_arrival}
use Rattle.sched_board.specs.declared.board.JobBoard.{JobBoard}
use Rattle.sched_board.specs.declared.board.BoardPhase.TheVariants.{Stopped}
use Rattle.sched_board.specs.declared.calls.BlockError.{BlockError}
use Rattle.sched_board.specs.declared.calls.CancelError.{CancelError}
use Rattle.sched_board.specs.declared.calls.Effect.{Effect}
use Rattle.sched_board.specs.declared.calls.RestJob.{RestJob}
use Rattle.sched_board.specs.declared.calls.SubmitError.{SubmitError}
use Rattle.sched_board.specs.declared.woken.TheConstants.{MOST_WOKEN}
use Rattle.sched_board.specs.JobBoard.{FollowsAt, IsAtRest, IsClosed, IsUnchanged, Leads, NamesWoken, phase_after}
use Rattle.sched_board.specs.Served.{HasNoneWaiting, IsNotPutBack, IsNotTakenOut, IsOver, IsTakenBack, block_at}
use Rattle.sched_board.proofs.FollowLemmas.{leads_none}
use Rattle.sched_board.proofs.ShowLemmas.{shows_same}
use Rattle.sched_threads.specs.Rule.{HasDeeds}
use Rattle.sched_threads.specs.Turns.{HasEffect, IsCancelAnswer, IsCloseAnswer, IsPutBackAnswer, IsRestAnswer, IsSettled, IsSubmitAnswer, IsTakeOutAnswer}

-- ---- answers by cases

pub close_answer : (now : ℕ) (do_start : Bool) (answer : Option Effect) (x y : JobBoard)
    → IfSome answer (λ effect. FollowsAt now x (closes ∷ []) y)
    → IfSome answer (λ effect. IsFalse do_start → Leads x (closes ∷ []) y)
    → IfSome answer (λ effect. y.phase ≡ phase_after do_start)
    → IfSome answer (λ effect. HasEffect effect x y)
    → IfSome answer (λ effect. IsClosed x → ⊥)
    → IfNone answer (IsClosed x)
    → IfNone answer (IsUnchanged x y)
    → IsCloseAnswer now do_start answer x y
close_answer now do_start (Some effect) x y follows stopped phase effects opened why same = (opened, follows, stopped, phase, effects)
close_answer now do_start None x y follows stopped phase effects opened why same = (why, same)

-- The effect of a call, field by field.
pub effect_of : (answer : Option Effect) (x y : JobBoard)
    → IfSome answer (λ effect. NamesWoken x y effect.woken)
    → IfSome answer (λ effect. IsTrue effect.more → effect.woken.count ≡ MOST_WOKEN)
    → IfSome answer (λ effect. IsFalse effect.more → IsAtRest y)
    → IfSome answer (λ effect. IsTrue effect.over → IsOver y × IsAtRest y)
    → IfSome answer (λ effect. IsFalse effect.more → IsOver y → IsTrue effect.over)
    → IfSome answer (λ effect. HasEffect effect x y)
effect_of (Some effect) x y woken more rest over told = record { woken = woken; more = more; rest = rest; over = over; told = told }
effect_of None x y woken more rest over told = tt

pub rest_answer : (from : ℕ) (answer : Option RestJob) (x y : JobBoard)
    → IfSome answer (λ rest. IsTakenBack from rest x y)
    → IfSome answer (λ rest. IsClosed x)
    → IfNone answer (IsClosed x → HasNoneWaiting x.pool.core from)
    → IfNone answer (IsUnchanged x y)
    → IsRestAnswer from answer x y
rest_answer from (Some rest) x y taken closed none same = (closed, taken)
rest_answer from None x y taken closed none same = (none, same)

-- ---- answers of calls on blocks

pub take_out_answer : (now base dim : ℕ) (answer : Result Effect BlockError) (x y : JobBoard)
    → IfOk answer (λ effect. FollowsAt now x (occupies (block_at base dim) ∷ []) y)
    → IfOk answer (λ effect. x.phase ≡ Stopped → Leads x (occupies (block_at base dim) ∷ []) y)
    → IfOk answer (λ effect. HasEffect effect x y)
    → IfErr answer (λ why. IsNotTakenOut (block_at base dim) x why)
    → IfErr answer (λ why. IsUnchanged x y)
    → IsTakeOutAnswer now base dim answer x y
take_out_answer now base dim (Ok effect) x y follows stopped effects why same = ((follows, stopped), effects)
take_out_answer now base dim (Err it) x y follows stopped effects why same = (why, same)

pub put_back_answer : (now base dim : ℕ) (answer : Result Effect BlockError) (x y : JobBoard)
    → IfOk answer (λ effect. FollowsAt now x (vacates (block_at base dim) ∷ []) y)
    → IfOk answer (λ effect. x.phase ≡ Stopped → Leads x (vacates (block_at base dim) ∷ []) y)
    → IfOk answer (λ effect. HasEffect effect x y)
    → IfErr answer (λ why. IsNotPutBack (block_at base dim) x why)
    → IfErr answer (λ why. IsUnchanged x y)
    → IsPutBackAnswer now base dim answer x y
put_back_answer now base dim (Ok effect) x y follows stopped effects why same = ((follows, stopped), effects)
put_back_answer now base dim (Err it) x y follows stopped effects why same = (why, same)

-- The effect of such a call, field by field.
pub block_effect : (answer : Result Effect BlockError) (x y : JobBoard)
    → IfOk answer (λ effect. NamesWoken x y effect.woken)
    → IfOk answer (λ effect. IsTrue effect.more → effect.woken.count ≡ MOST_WOKEN)
    → IfOk answer (λ effect. IsFalse effect.more → IsAtRest y)
    → IfOk answer (λ effect. IsTrue effect.over → IsOver y × IsAtRest y)
    → IfOk answer (λ effect. IsFalse effect.more → IsOver y → IsTrue effect.over)
    → IfOk answer (λ effect. HasEffect effect x y)
block_effect (Ok effect) x y woken more rest over told = record { woken = woken; more = more; rest = rest; over = over; told = told }
block_effect (Err why) x y woken more rest over told = tt

-- ---- the deeds of each answer

-- just these deeds
at_leads : (time : ℕ) (x y : JobBoard) (own : List Deed) → Leads x own y → FollowsAt time x own y
at_leads time x y own leads t k = let next = leads t k in ([], tt, next.0, next.1)

at_unchanged : (time : ℕ) (x y : JobBoard) → IsUnchanged x y → FollowsAt time x [] y
at_unchanged time x y same t k = (
  [],
  tt,
  tt,
  shows_same t t.sched x y k (subst (ShowsCore t.sched) (sym same.0) k.core) same.1 same.2 (λ u slot busy. ap (λ (core : Core). job_arrival core slot) same.0),
)

pub deeds_unchanged : (time : ℕ) (x y : JobBoard) → IsUnchanged x y → HasDeeds time x y
deeds_unchanged time x y same = ([], at_unchanged time x y same)

pub deeds_none : (time : ℕ) (x y : JobBoard) → y ≡ x → HasDeeds time x y
deeds_none time x y same = ([], subst (λ (z : JobBoard). FollowsAt time x [] z) (sym same) (at_leads time x x [] (leads_none x)))

pub deeds_submit : (now : ℕ) (request : JobRequest) (answer : Result (ℕ × Effect) SubmitError) (x y : JobBoard)
    → IsSubmitAnswer now request answer x y
    → HasDeeds now x y
deeds_submit now request (Ok it) x y is = (submits is.0.job ∷ [], is.0.follows)
deeds_submit now request (Err why) x y is = deeds_unchanged now x y is.1

pub deeds_cancel : (now : ℕ) (ticket : ℕ) (answer : Result (ℕ × Effect) CancelError) (x y : JobBoard)
    → IsCancelAnswer now ticket answer x y
    → HasDeeds now x y
deeds_cancel now ticket (Ok it) x y is = (cancels (job_arrival x.pool.core is.0.slot) ∷ [], is.0.follows)
deeds_cancel now ticket (Err why) x y is = deeds_unchanged now x y is.1

pub deeds_take_out : (now : ℕ) (base dim : ℕ) (answer : Result Effect BlockError) (x y : JobBoard)
    → IsTakeOutAnswer now base dim answer x y
    → HasDeeds now x y
deeds_take_out now base dim (Ok effect) x y is = (occupies (block_at base dim) ∷ [], is.0.0)
deeds_take_out now base dim (Err why) x y is = deeds_unchanged now x y is.1

pub deeds_put_back : (now : ℕ) (base dim : ℕ) (answer : Result Effect BlockError) (x y : JobBoard)
    → IsPutBackAnswer now base dim answer x y
    → HasDeeds now x y
deeds_put_back now base dim (Ok effect) x y is = (vacates (block_at base dim) ∷ [], is.0.0)
deeds_put_back now base dim (Err why) x y is = deeds_unchanged now x y is.1

pub deeds_close : (now : ℕ) (do_start : Bool) (answer : Option Effect) (x y : JobBoard)
    → IsCloseAnswer now do_start answer x y
    → HasDeeds now x y
deeds_close now do_start (Some effect) x y is = (closes ∷ [], is.1)
deeds_close now do_start None x y is = deeds_unchanged now x y is.1

pub deeds_rest : (time : ℕ) (from : ℕ) (answer : Option RestJob) (x y : JobBoard)
    → IsRestAnswer from answer x y
    → HasDeeds time x y
deeds_rest time from (Some rest) x y is =
    let own : List Deed = cancels (job_arrival x.pool.core rest.slot) ∷ [] in
    (own, at_leads time x y own is.1.leads)
deeds_rest time from None x y is = deeds_unchanged time x y is.1

pub deeds_settle : (now : ℕ) (effect : Effect) (x y : JobBoard) → IsSettled now effect x y → HasDeeds now x y
deeds_settle now effect x y is = ([], is.0)
