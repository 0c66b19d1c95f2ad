use Rattle.std.proofs.Common.{rules, ℕ, ◌≡◌, ◌<◌, Some, length, sym, ap, ◌∙◌, arith}
use Rattle.dispatcher.proofs.WorkLemmas.{served_same, below_limit, ended_not_enough, ended_not_no_memory, ended_not_idle, full_not_ended, full_not_idle, some_is}
use Rattle.dispatcher.proofs.dispatching.Shift.work.Goals as goal

pub loop-preserved : goal.loop-preserved
loop-preserved g c =
    let inv = c.loop.invariant in
    let next = c.serve_next-next.ensures in
    let replies = c.make_room.new.replies.items in
    let reserved = c.make_room.ensures.items in
    let few : (most : ℕ) → c.args.limit ≡ Some most → length replies < most =
    below_limit c.args.limit (length replies) (λ most is. omega (arith, ap length reserved, inv.3 most is)) (c.make_room.ensures.fewer (search rules)) in (
      next.pass,
      next.station,
      next.served (served_same _ _ _ c.loop.shift.replies.items replies reserved inv.2),
      λ most is. omega (arith, next.one_more, few most is),
      λ zero. absurd (omega (arith, few 0 zero)),
    )

-- ---- it takes no further job

pub invariant_of-result : goal.invariant_of-result
invariant_of-result g c =
    let served = served_same _ _ _ c.loop.shift.replies.items c.make_room.new.replies.items c.make_room.ensures.items c.loop.invariant.2 in
    record {
      answers = served.answers;
      regions = served.regions;
      no_room = λ stop. c.in-Some-make_room.ensures.no_room (ap Some stop);
      not_run = λ stop. absurd (full_not_idle c.in-Some-make_room.stop c.in-Some-make_room.ensures.stop stop);
    }

pub returns-in-Some-make_room-clause-of_shop : goal.returns-in-Some-make_room-clause-of_shop
returns-in-Some-make_room-clause-of_shop g c =
    let inv = c.loop.invariant in
    let served = served_same _ _ _ c.loop.shift.replies.items c.make_room.new.replies.items c.make_room.ensures.items inv.2 in
    record { pass = inv.0; station = inv.1; right = served.right }

pub returns-in-Some-make_room-clause-ended : goal.returns-in-Some-make_room-clause-ended
returns-in-Some-make_room-clause-ended g c = λ stop. absurd (full_not_ended c.in-Some-make_room.stop c.in-Some-make_room.ensures.stop stop)

pub returns-in-Some-make_room-clause-has_run : goal.returns-in-Some-make_room-clause-has_run
returns-in-Some-make_room-clause-has_run g c = full_not_idle c.in-Some-make_room.stop c.in-Some-make_room.ensures.stop

pub returns-in-Some-make_room-clause-fewer : goal.returns-in-Some-make_room-clause-fewer
returns-in-Some-make_room-clause-fewer g c = λ most is other.
    let reserved = ap length c.make_room.ensures.items in
    below_limit c.args.limit (length c.make_room.new.replies.items) (λ m at. omega (arith, reserved, c.loop.invariant.3 m at))
    (c.in-Some-make_room.ensures.fewer (λ same. other (some_is c.in-Some-make_room.stop same))) most is

-- ---- the queue has ended

pub returns-in-Some-stop-clause-of_shop : goal.returns-in-Some-stop-clause-of_shop
returns-in-Some-stop-clause-of_shop g c =
    let next = c.serve_next-next.ensures in
    let served = next.served (served_same _ _ _ c.loop.shift.replies.items c.make_room.new.replies.items c.make_room.ensures.items c.loop.invariant.2) in
    record { pass = next.pass; station = next.station; right = served.right }

pub returns-in-Some-stop-clause-has_run : goal.returns-in-Some-stop-clause-has_run
returns-in-Some-stop-clause-has_run g c = λ idle.
    let ended = (rw c.in-Some-stop.is at c.serve_next-next.ensures.stop) in
    ended_not_idle (sym ended ∙ idle)

pub returns-in-Some-stop-clause-enough : goal.returns-in-Some-stop-clause-enough
returns-in-Some-stop-clause-enough g c = λ enough.
    let ended = (rw c.in-Some-stop.is at c.serve_next-next.ensures.stop) in
    absurd (ended_not_enough (sym ended ∙ enough))

pub invariant_of-result-in-Some-stop : goal.invariant_of-result-in-Some-stop
invariant_of-result-in-Some-stop g c =
    let next = c.serve_next-next.ensures in
    let ended = (rw c.in-Some-stop.is at next.stop) in
    let served = next.served (served_same _ _ _ c.loop.shift.replies.items c.make_room.new.replies.items c.make_room.ensures.items c.loop.invariant.2) in
    record {
      answers = served.answers;
      regions = served.regions;
      no_room = λ full. absurd (ended_not_no_memory (sym ended ∙ full));
      not_run = λ idle. absurd (ended_not_idle (sym ended ∙ idle));
    }
