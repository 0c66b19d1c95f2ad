use Rattle.std.proofs.Common.{ℕ, ◌+◌, ◌∷◌, ◌++◌, [], Option, Some, get_or, set, sym, refl, ap, subst, ◌∙◌, arith}
use Rattle.job_types.specs.declared.reply.JobId.{JobId}
use Rattle.job_queue.specs.declared.job_line.Sizes.{Sizes}
use Rattle.job_queue.specs.declared.record.QueuedJob.{QueuedJob}
use Rattle.job_queue.specs.Record.{entry, job_id, queued}
use Rattle.locked_peers.specs.InnerLine.Step.{Sat, lane_in, last_of, after_entry, Accepts}
use Rattle.locked_peers.proofs.LineStepLemmas.{last-push}
use Rattle.locked_peers.proofs.LineHandleLemmas.{lane_took, lane_out, lane_may_push}
use Rattle.locked_peers.proofs.line_locked.LockedLineJobLine.submit.Goals as goal

pub closed_at-requires-clause-held : goal.closed_at-requires-clause-held
closed_at-requires-clause-held g c = let t = c.enter.ensures.took in (t.0, ap (λ (m : Sat). m.1) t.1)

pub refuse-requires-clause-ready : goal.refuse-requires-clause-ready
refuse-requires-clause-ready g c =
    let t = c.enter.ensures.took in
    let x = t.0 in
    let lane = c.args.lane.now in
    let r = lane_in lane.seat.me.0.lanes in (
      r,
      x,
      x,
      lane_out c.closed_at.new.seat.me lane.seat.me.0.about r x x (c.closed_at.ensures.same ∙ lane_took lane.seat.me c.enter.new.seat.me lane.number lane.entries lane.known t),
      (c.in-Some.ensures.value x (ap (λ (m : Sat). m.1) t.1)).0,
      record { jobs = refl; accepted_by = refl; entries = refl; mark = (refl, refl) },
    )

pub push-requires-clause-held : goal.push-requires-clause-held
push-requires-clause-held g c =
    let t = c.enter.ensures.took in
    let lane = c.args.lane.now in
    let may = lane_may_push lane.seat.me lane.number lane.entries t.0 lane.known t.2 c.if-lane-ge-MAX_ENTRIES.false in
    (t.0, ap (λ (m : Sat). m.1) (c.closed_at.ensures.same ∙ t.1), may.0, may.1, may.2)

pub accept-requires-clause-ready : goal.accept-requires-clause-ready
accept-requires-clause-ready g c =
    let t = c.enter.ensures.took in
    let x = t.0 in
    let lane = c.args.lane.now in
    let m = lane.seat.me in
    let r = lane_in m.0.lanes in
    let taken = c.closed_at.ensures.same ∙ lane_took m c.enter.new.seat.me lane.number lane.entries lane.known t in
    let p = c.in-Ok.ensures.pushed x (ap (λ (m : Sat). m.1) taken) in
    let y = p.0 in
    let s = p.2 in
    let is = p.1 ∙ ap (λ (m : Sat). (m.0, (0, y) ∷ [])) taken in
    let job = queued c.in-Ok.receipt.id c.args.job in
    let as_lane = sym lane.known.numbered in
    let accepts : Accepts m.0.about r x job y = record {
      open_line = c.in_default.ensures.value x (ap (λ (m : Sat). m.1) t.1);
      unspent = omega (arith, lane.known.counted, c.if-lane-ge-MAX_ENTRIES.false);
      room = s.2;
      id = s.1 ∙ ap (λ (n : ℕ). job_id n (get_or x.accepted.items n 0)) as_lane;
      made_for = (c.requires.machine ∙ ap (λ (z : Sizes). z.machine) (sym c.requires.lane.1), c.requires.made_for_lane ∙ (lane.known.numbered ∙ sym (ap (λ (i : JobId). i.lane) s.1)));
      jobs = s.3;
      accepted_by = s.4 ∙ ap (λ (n : ℕ). set x.accepted.items n (get_or x.accepted.items n 0 + 1)) as_lane;
      entries = s.5;
      mark = s.6;
    } in (
      r,
      x,
      y,
      job,
      lane_out c.push.new.seat.me m.0.about r x y is,
      subst (λ (z : Sizes). Accepts z r x job y) (sym (ap (λ (m : Sat). m.0.about) is)) accepts,
    )

pub fill-requires-clause-ready : goal.fill-requires-clause-ready
fill-requires-clause-ready g c =
    let t = c.enter.ensures.took in
    let x = t.0 in
    let lane = c.args.lane.now in
    let m = lane.seat.me in
    let r = lane_in m.0.lanes in
    let taken = c.closed_at.ensures.same ∙ lane_took m c.enter.new.seat.me lane.number lane.entries lane.known t in
    let p = c.in-Err.ensures.pushed x (ap (λ (m : Sat). m.1) taken) in
    let y = p.0 in
    let s = p.2 in (
      r,
      x,
      y,
      lane_out c.push.new.seat.me m.0.about r x y (p.1 ∙ ap (λ (m : Sat). (m.0, (0, y) ∷ [])) taken),
      record {
        open_line = c.in_default.ensures.value x (ap (λ (m : Sat). m.1) t.1);
        unspent = omega (arith, lane.known.counted, c.if-lane-ge-MAX_ENTRIES.false);
        full = s.1;
        jobs = s.2;
        accepted_by = s.3;
        entries = s.4;
        mark = s.5;
      },
    )

pub returns-in-Ok-clause-accepted : goal.returns-in-Ok-clause-accepted
returns-in-Ok-clause-accepted g c =
    let t = c.enter.ensures.took in
    let x = t.0 in
    let lane = c.args.lane.now in
    let m = lane.seat.me in
    let r = lane_in m.0.lanes in
    let taken = c.closed_at.ensures.same ∙ lane_took m c.enter.new.seat.me lane.number lane.entries lane.known t in
    let p = c.in-Ok.ensures.pushed x (ap (λ (m : Sat). m.1) taken) in
    let y = p.0 in
    let s = p.2 in
    let is = p.1 ∙ ap (λ (m : Sat). (m.0, (0, y) ∷ [])) taken in
    let job = queued c.in-Ok.receipt.id c.args.job in
    let with_entry = λ (n : ℕ) (o : Option QueuedJob). record r { entries = r.entries ++ entry n o ∷ [] } in
    ap (λ (m : Sat). lane_in m.0.lanes) (c.accept.ensures.gained ∙ ap after_entry is)
    ∙ (ap (with_entry x.entries) (ap last_of s.3 ∙ last-push x.jobs.items job) ∙ ap (λ (n : ℕ). with_entry n (Some job)) (sym s.0))
