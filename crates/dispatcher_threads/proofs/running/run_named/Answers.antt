use Rattle.std.proofs.Common.{◌≡◌, List, map, length, sym, ap, subst, ◌∙◌, arith}
use Rattle.std.specs.List.{All}
use Rattle.std.proofs.lemmas.List.{length-map}
use Rattle.job_types.specs.Job.{JobData}
use Rattle.job_queue.specs.Line.{IsFor}
use Rattle.dispatcher.specs.Shop.{ShopId}
use Rattle.dispatcher.specs.Members.{IsWorkerOf}
use Rattle.dispatcher.proofs.WorkLemmas.{at_line}
use Rattle.dispatcher_threads.proofs.RunLemmas.{lanes_count}
use Rattle.dispatcher_threads.proofs.running.run_named.Goals as goal

pub slots_for_workers-worker_slots-requires-clause-workers : goal.slots_for_workers-worker_slots-requires-clause-workers
slots_for_workers-worker_slots-requires-clause-workers g c = subst (λ (s : ShopId). All (IsWorkerOf s) c.args.ready.opened.workers.items) c.requires.shop c.requires.workers

pub slots_for_lanes-lane_slots-requires-clause-lanes : goal.slots_for_lanes-lane_slots-requires-clause-lanes
slots_for_lanes-lane_slots-requires-clause-lanes g c = at_line (λ i. All (g.L.JobLine.is_lane i) c.args.ready.opened.lanes.items) _ _ c.requires.shop c.requires.lanes

pub slots_for_lanes-lane_slots-requires-clause-all_lanes : goal.slots_for_lanes-lane_slots-requires-clause-all_lanes
slots_for_lanes-lane_slots-requires-clause-all_lanes g c =
    let ready = c.args.ready in
    let given = sym (length-map ready.opened.lanes.items g.L.JobLine.lane_record) ∙ (ap length ready.fresh_lanes ∙ lanes_count (length ready.jobs.items)) in
    at_line (λ i. i.sizes.lanes ≡ length ready.opened.lanes.items) _ _ c.requires.shop (ready.all_lanes ∙ sym given)

pub slots_for_lanes-lane_slots-requires-clause-jobs : goal.slots_for_lanes-lane_slots-requires-clause-jobs
slots_for_lanes-lane_slots-requires-clause-jobs g c = λ k below. c.requires.jobs k

pub slots_for_lanes-lane_slots-requires-clause-made_for : goal.slots_for_lanes-lane_slots-requires-clause-made_for
slots_for_lanes-lane_slots-requires-clause-made_for g c = λ k below.
    at_line (λ i. All (IsFor i.sizes.machine k) (g.J.Naming.jobs k)) _ _ c.requires.shop
    (subst (λ (js : List JobData). All (IsFor c.args.ready.opened.shop.line.sizes.machine k) js) (c.requires.jobs k) (c.args.ready.made_for k below))

pub slots_for_lanes-lane_slots-requires-clause-room : goal.slots_for_lanes-lane_slots-requires-clause-room
slots_for_lanes-lane_slots-requires-clause-room g c =
    let ready = c.args.ready in
    let given = sym (length-map ready.opened.lanes.items g.L.JobLine.lane_record) ∙ (ap length ready.fresh_lanes ∙ lanes_count (length ready.jobs.items)) in
    omega (arith, given, ready.all_lanes, ready.fed.1)

pub run_end-requires-clause-all_lanes : goal.run_end-requires-clause-all_lanes
run_end-requires-clause-all_lanes g c =
    let ready = c.args.ready in
    let given = sym (length-map ready.opened.lanes.items g.L.JobLine.lane_record) ∙ (ap length ready.fresh_lanes ∙ lanes_count (length ready.jobs.items)) in
    at_line (λ i. length c.lanes_from_slots.new.fed.items ≡ i.sizes.lanes) _ _ c.requires.shop
    (omega (arith, c.lanes_from_slots.ensures.count, c.into_slots-worker_slots.ensures.lanes, c.slots_for_lanes-lane_slots.ensures.count, given, ready.all_lanes))

pub run_end-requires-clause-lane_room : goal.run_end-requires-clause-lane_room
run_end-requires-clause-lane_room g c =
    let ready = c.args.ready in
    let given = sym (length-map ready.opened.lanes.items g.L.JobLine.lane_record) ∙ (ap length ready.fresh_lanes ∙ lanes_count (length ready.jobs.items)) in
    let room = c.slots_for_lanes-lane_slots.ensures.lane_room in
    let own = ap (λ (s : ShopId). s.line.sizes.lanes) c.requires.shop in
    (room.0, omega (arith, given, ready.all_lanes, own, room.1))

pub returns-clause-run : goal.returns-clause-run
returns-clause-run g c =
    let jobs = c.args.ready.jobs.items in
    c.run_end.ensures.run (map (λ js. js.items) jobs)
    (at_line (λ i. length (map (λ js. js.items) jobs) ≡ i.sizes.lanes) _ _ c.requires.shop (length-map jobs (λ js. js.items) ∙ sym c.args.ready.all_lanes))
    c.requires.jobs
