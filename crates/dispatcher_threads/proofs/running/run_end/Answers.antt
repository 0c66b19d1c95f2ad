use Rattle.std.proofs.Common.{◌≡◌, [], List, map, length, get_or, refl, sym, ap, subst, ◌∙◌, arith}
use Rattle.std.specs.List.{All, AllZip}
use Rattle.std.proofs.lemmas.List.{length-map}
use Rattle.std.proofs.lemmas.List.Elements.{All-map, All-same, All-weaker}
use Rattle.ghost_history.specs.Sums.{times}
use Rattle.job_types.specs.Reply.{ReplyData}
use Rattle.job_queue.specs.declared.record.LaneRecord.{LaneRecord}
use Rattle.dispatcher.specs.declared.stop.Stop.{Stop}
use Rattle.dispatcher.specs.declared.stop.Stop.TheVariants.{NotRun}
use Rattle.dispatcher.specs.Shop.{ShopId}
use Rattle.dispatcher.specs.Members.{IsEndOf, replies_of, stop_of}
use Rattle.dispatcher.specs.Finished.{FinishedRun, outcome}
use Rattle.dispatcher.proofs.WorkLemmas.{at_line, at_floor}
use Rattle.dispatcher.proofs.OpenLemmas.{map_twice}
use Rattle.dispatcher_threads.specs.declared.running.LaneEnd.{LaneEnd}
use Rattle.dispatcher_threads.specs.InnerEnd.{HasEnded}
use Rattle.dispatcher_threads.proofs.EndLemmas.{named_end}
use Rattle.dispatcher_threads.proofs.RunLemmas.{all_stopped, parts_are, run_of}
use Rattle.dispatcher_threads.proofs.running.run_end.Goals as goal

pub finish-finished-requires-clause-lanes : goal.finish-finished-requires-clause-lanes
finish-finished-requires-clause-lanes g c =
    let P = g.L.JobLine.is_lane g.J.Naming.shop.line in
    let lanes = c.part-lanes.result.0.items in
    at_line (λ i. All (g.L.JobLine.is_lane i) lanes) _ _ (sym c.requires.shop)
    (All-same P lanes _ c.part-lanes.ensures.lanes (All-map P (λ f. f.0) c.args.members.fed.items c.requires.lanes))

pub finish-finished-requires-clause-all_lanes : goal.finish-finished-requires-clause-all_lanes
finish-finished-requires-clause-all_lanes g c =
    at_line (λ i. length c.part-lanes.result.0.items ≡ i.sizes.lanes) _ _ (sym c.requires.shop)
    (ap length c.part-lanes.ensures.lanes ∙ (length-map c.args.members.fed.items (λ f. f.0) ∙ c.requires.all_lanes))

pub finish-finished-requires-clause-workers : goal.finish-finished-requires-clause-workers
finish-finished-requires-clause-workers g c = subst (λ (s : ShopId). All (IsEndOf s) c.args.members.ends.items) (sym c.requires.shop) c.requires.workers

pub returns-clause-run : goal.returns-clause-run
returns-clause-run g c = λ jobs size named.
    let line = g.L.JobLine in
    let fed = c.args.members.fed.items in
    let ends = c.args.members.ends.items in
    let lanes = c.part-lanes.result.0.items in
    let grants = map g.F.Floor.grants c.finish-finished.ensures.finished.0 in
    let note = line.note_number c.args.members.note.line in
    let o = outcome g.F.Floor.machine_words c.finish-finished.result in
    let records : map line.lane_record lanes ≡ map (λ f. line.lane_record f.0) fed = ap (map line.lane_record) c.part-lanes.ensures.lanes ∙ map_twice (λ f. f.0) line.lane_record fed in
    let finished = subst (λ (rs : List LaneRecord). FinishedRun g.J.Naming.shop.floor.dim rs grants note o) records
    (at_floor (λ i. FinishedRun i.dim (map line.lane_record lanes) grants note o) _ _ c.requires.shop c.finish-finished.ensures.finished.3) in
    let of_shop = at_line (λ i. i.sizes.lanes ≡ length jobs) _ _ (sym c.requires.shop) (sym size) in
    run_of (λ f. line.lane_record f.0) (λ f. f.1) g.F.Floor.machine_words g.J.Naming.shop.floor.dim jobs fed grants note _ finished c.part-lanes.ensures.ends c.number-close_number.ensures
    (All-weaker (λ f. HasEnded g.J.Naming.jobs (line.lane_record f.0) f.1) (λ f. HasEnded (λ k. get_or jobs k []) (line.lane_record f.0) f.1)
    (λ f is. named_end g.J.Naming.jobs (λ k. get_or jobs k []) (line.lane_record f.0) f.1 named is) fed c.requires.lane_ends)
    (λ k below. ap (times k) (ap (map (λ (l : LaneRecord). l.number)) (sym records) ∙ map_twice line.lane_record (λ (l : LaneRecord). l.number) lanes) ∙ c.finish-finished.ensures.lane_numbers k (omega (arith, below, of_shop)))
    (c.requires.all_lanes ∙ sym size)
    (c.finish-finished.ensures.lane_count ∙ of_shop)
    (subst (λ (rs : List (List ReplyData)). AllZip (λ s r. s ≡ NotRun → r ≡ []) c.stops_of-stops.result.items rs) (sym c.finish-finished.ensures.by_worker)
    (subst (λ (ss : List Stop). AllZip (λ s r. s ≡ NotRun → r ≡ []) ss (map replies_of ends)) (sym (rw c.deref.ensures.value at c.stops_of-stops.ensures)) (all_stopped stop_of replies_of (λ e. e.not_run) ends)))

pub returns-clause-ran_in : goal.returns-clause-ran_in
returns-clause-ran_in g c =
    let line = g.L.JobLine in
    let shop = g.J.Naming.shop in
    let fed = c.args.members.fed.items in
    let lanes = c.part-lanes.result.0.items in
    let lane_ends = c.part-lanes.result.1.items in
    let stations = c.finish-finished.ensures.finished.0 in
    let P = line.is_lane shop.line in
    let told = c.part-lanes.ensures in
    record {
      shop = shop;
      sizes = record { dim = refl; machine = c.requires.machine; lanes_are = refl; workers = refl; holds = refl };
      lanes = lanes;
      own_lanes = All-same P lanes _ told.lanes (All-map P (λ f. f.0) fed c.requires.lanes);
      numbers = parts_are (λ f. HasEnded g.J.Naming.jobs (line.lane_record f.0) f.1) (λ f. f.0) (λ l. (line.lane_record l).number) (λ f. f.1) (λ (l : LaneEnd). l.lane) (λ f is. is.number) fed lanes lane_ends told.lanes told.ends c.requires.lane_ends;
      entries = parts_are (λ f. HasEnded g.J.Naming.jobs (line.lane_record f.0) f.1) (λ f. f.0) (λ l. length (line.lane_record l).entries) (λ f. f.1) (λ (l : LaneEnd). l.entries) (λ f is. is.entries) fed lanes lane_ends told.lanes told.ends c.requires.lane_ends;
      workers = c.args.members.ends.items;
      own_workers = c.requires.workers;
      replies = c.finish-finished.ensures.by_worker;
      stops = (rw c.deref.ensures.value at c.stops_of-stops.ensures);
      note = c.args.members.note.line;
      own_note = c.requires.note.shows;
      close_number = c.number-close_number.ensures;
      stations = stations;
      own_stations = at_floor (λ i. All (g.F.Floor.is_station i) stations) _ _ c.requires.shop c.finish-finished.ensures.finished.1;
      finished = at_floor (λ i. FinishedRun i.dim (map line.lane_record lanes) (map g.F.Floor.grants stations) (line.note_number c.args.members.note.line) (outcome g.F.Floor.machine_words c.finish-finished.result)) _ _ c.requires.shop c.finish-finished.ensures.finished.3;
    }

pub returns-clause-workers : goal.returns-clause-workers
returns-clause-workers g c =
    let ends = c.args.members.ends.items in
    omega (arith, sym (length-map c.finish-finished.result.by_worker.items (λ v. v.items)), ap length c.finish-finished.ensures.by_worker, length-map ends replies_of, c.requires.all_workers)
