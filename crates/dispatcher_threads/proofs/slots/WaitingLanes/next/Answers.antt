use Rattle.std.proofs.Common.{◌++◌, length, sym, ap, subst, ◌∙◌, arith}
use Rattle.std.specs.List.{All}
use Rattle.std.proofs.lemmas.List.Elements.{All-same}
use Rattle.job_queue.specs.declared.record.LaneRecord.{LaneRecord}
use Rattle.job_queue.specs.Record.{accepted_jobs}
use Rattle.job_queue.specs.Line.{IsFor}
use Rattle.dispatcher_threads.proofs.SlotLemmas.{all_front, longer, fresh_pop, last_named, rest_named}
use Rattle.dispatcher_threads.proofs.slots.WaitingLanes.next.Goals as goal

pub new-requires-clause-made_for : goal.new-requires-clause-made_for
new-requires-clause-made_for g c =
    let line = g.L.JobLine in
    let machine = g.J.Naming.shop.line.sizes.machine in
    let inv = c.self.invariant in
    let jobs = c.self.inside.jobs.items in
    let rest = c.pop-2.new.self.items in
    let list = c.in-Some.list in
    let one_less = longer rest jobs list c.in-Some.ensures.items in
    let own = (fresh_pop line.lane_record c.self.inside.lanes.items c.pop.new.self.items c.in_ok-lane.lane (length jobs) (length rest) inv.1 c.in_ok-lane.ensures.items (omega (arith, one_less))).1 in
    let named = last_named (λ js. js.items) g.J.Naming.jobs jobs rest list c.in-Some.ensures.items inv.2 in
    subst (λ (r : LaneRecord). All (IsFor machine r.number) list.items) (sym own)
    (All-same (IsFor machine (length rest)) list.items _ named (inv.3 (length rest) (omega (arith, one_less))))

pub new-requires-clause-jobs : goal.new-requires-clause-jobs
new-requires-clause-jobs g c =
    let line = g.L.JobLine in
    let inv = c.self.invariant in
    let jobs = c.self.inside.jobs.items in
    let rest = c.pop-2.new.self.items in
    let list = c.in-Some.list in
    let one_less = longer rest jobs list c.in-Some.ensures.items in
    let own = (fresh_pop line.lane_record c.self.inside.lanes.items c.pop.new.self.items c.in_ok-lane.lane (length jobs) (length rest) inv.1 c.in_ok-lane.ensures.items (omega (arith, one_less))).1 in
    ap (λ (r : LaneRecord). accepted_jobs r ++ list.items) own
    ∙ (last_named (λ js. js.items) g.J.Naming.jobs jobs rest list c.in-Some.ensures.items inv.2 ∙ sym (ap (λ (r : LaneRecord). g.J.Naming.jobs r.number) own))

pub new-requires-clause-no_entries : goal.new-requires-clause-no_entries
new-requires-clause-no_entries g c =
    let line = g.L.JobLine in
    let inv = c.self.invariant in
    let jobs = c.self.inside.jobs.items in
    let rest = c.pop-2.new.self.items in
    let one_less = longer rest jobs c.in-Some.list c.in-Some.ensures.items in
    let own = (fresh_pop line.lane_record c.self.inside.lanes.items c.pop.new.self.items c.in_ok-lane.lane (length jobs) (length rest) inv.1 c.in_ok-lane.ensures.items (omega (arith, one_less))).1 in
    ap (λ (r : LaneRecord). r.entries) own

pub invariant_of-self-2 : goal.invariant_of-self-2
invariant_of-self-2 g c =
    let line = g.L.JobLine in
    let inv = c.self.invariant in
    let lanes = c.self.inside.lanes.items in
    let left = c.pop.new.self.items in
    let jobs = c.self.inside.jobs.items in
    let rest = c.pop-2.new.self.items in
    let list = c.in-Some.list in
    let one_less = longer rest jobs list c.in-Some.ensures.items in (
      all_front (line.is_lane g.J.Naming.shop.line) lanes left c.in_ok-lane.lane c.in_ok-lane.ensures.items inv.0,
      (fresh_pop line.lane_record lanes left c.in_ok-lane.lane (length jobs) (length rest) inv.1 c.in_ok-lane.ensures.items (omega (arith, one_less))).0,
      rest_named (λ js. js.items) g.J.Naming.jobs jobs rest list c.in-Some.ensures.items inv.2,
      λ k below. inv.3 k (omega (arith, below, one_less)),
      omega (arith, inv.4, c.in_ok-lane.ensures.capacity),
    )
