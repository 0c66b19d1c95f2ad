use Rattle.std.proofs.Common.{◌≡◌, ℕ, [], Some, map, length, slice_index_or, sym, ap, subst, ◌∙◌, refl, arith}
use Rattle.std.specs.List.{All}
use Rattle.std.proofs.lemmas.List.{length-map}
use Rattle.job_queue.specs.Record.{fresh_lanes}
use Rattle.job_queue.specs.Line.{IsFor}
use Rattle.dispatcher.specs.Opening.{refusal_of}
use Rattle.dispatcher.specs.Shop.{HasSizes}
use Rattle.dispatcher.specs.Members.{worker_record}
use Rattle.dispatcher.proofs.OpenLemmas.{passes_count}
use Rattle.dispatcher_threads.proofs.ready.make_ready.Goals as goal

pub invariant_of-result : goal.invariant_of-result
invariant_of-result g c =
    let sizes = c.in-Ok-open.ensures.sizes in
    let room = c.in-Ok.ensures in
    let workers = c.in-Ok-open.opened.workers.items in
    let lanes : c.len-lanes.result ≡ length c.args.jobs.items = omega (arith, c.len-lanes.ensures, c.args.jobs.ok.0) in
    record {
      machine = sizes.machine ∙ sym sizes.dim;
      all_lanes = sizes.lanes_are ∙ lanes;
      made_for = λ k below. subst (λ (m : ℕ). All (IsFor m k) (slice_index_or (map (λ js. js.items) c.args.jobs.items) k [])) (sym sizes.machine) (c.requires.made_for k below);
      fresh_lanes = c.in-Ok-open.ensures.fresh_lanes ∙ ap fresh_lanes lanes;
      all_workers = sym (length-map workers worker_record) ∙ (ap length c.in-Ok-open.ensures.fresh_passes ∙ (passes_count c.args.sizes.dispatchers ∙ sym sizes.workers));
      ends = (room.ends.0, omega (arith, sizes.workers, room.ends.1));
      fed = (room.fed.0, omega (arith, sizes.lanes_are, lanes, room.fed.1, c.len.ensures));
      lane_ends = (room.lanes.0, omega (arith, sizes.lanes_are, lanes, room.lanes.1, c.len.ensures));
      stops = (room.stops.0, omega (arith, sizes.workers, room.stops.1));
    }

pub returns-in-Ok-open-clause-sizes : goal.returns-in-Ok-open-clause-sizes
returns-in-Ok-open-clause-sizes g c =
    let lanes : c.len-lanes.result ≡ length c.args.jobs.items = omega (arith, c.len-lanes.ensures, c.args.jobs.ok.0) in
    subst (λ (m : ℕ). HasSizes c.args.sizes.dim m c.args.sizes.dispatchers c.args.sizes.capacity c.in-Ok-open.opened.shop) lanes c.in-Ok-open.ensures.sizes

pub returns-in-Some-clause-refused : goal.returns-in-Some-clause-refused
returns-in-Some-clause-refused g c = λ other.
    let lanes : c.len-lanes.result ≡ length c.args.jobs.items = omega (arith, c.len-lanes.ensures, c.args.jobs.ok.0) in
    subst (λ (m : ℕ). refusal_of c.args.sizes.dim m c.args.sizes.dispatchers c.args.sizes.capacity ≡ Some c.in-Some.refused) lanes (sym c.refusal.ensures ∙ c.in-Some.is)

pub returns-in-Some-clause-gives_back : goal.returns-in-Some-clause-gives_back
returns-in-Some-clause-gives_back g c = refl
