use Rattle.std.proofs.Common.{◌≡◌, ◌<◌, ℕ, map, length, get_or, sym, ap, subst, ◌∙◌, arith}
use Rattle.std.specs.List.{All, AllByRecursion}
use Rattle.std.proofs.lemmas.List.Elements.{All-map, All-same, All-weaker}
use Rattle.std.proofs.lemmas.List.{length-map}
use Rattle.floors.specs.Floor.{IsWhollyFree}
use Rattle.ghost_history.specs.Sums.{times}
use Rattle.job_queue.specs.declared.record.LaneRecord.{LaneRecord}
use Rattle.job_queue.specs.Record.{accepted}
use Rattle.job_queue.specs.Line.{IsMadeFor}
use Rattle.dispatcher.specs.Reply.{answered, region_of, IsRight}
use Rattle.dispatcher.specs.Members.{IsEndOf}
use Rattle.dispatcher.specs.Shop.{ShopId, RoomSize}
use Rattle.dispatcher.specs.Finished.{with_last}
use Rattle.dispatcher.proofs.WorkLemmas.{at_line, at_floor}
use Rattle.dispatcher.proofs.OpenLemmas.{map_twice}
use Rattle.dispatcher.proofs.FinishLemmas.{each_of, taken_answered, replies_right, finished}
use Rattle.dispatcher.proofs.GrantLemmas.{all_granted}
use Rattle.dispatcher.proofs.shop.Shop.finish.Goals as goal

pub into_rest-jobs-requires-clause-all_lanes : goal.into_rest-jobs-requires-clause-all_lanes
into_rest-jobs-requires-clause-all_lanes g c = at_line (λ i. length c.args.lanes.items ≡ i.sizes.lanes) _ _ (sym c.self.view_is) c.requires.all_lanes

pub into_rest-jobs-requires-clause-all_passes : goal.into_rest-jobs-requires-clause-all_passes
into_rest-jobs-requires-clause-all_passes g c =
    ap length c.gather-passes.ensures.passes
    ∙ (length-map c.args.ends.items (λ e. e.pass)
    ∙ at_line (λ i. length c.args.ends.items ≡ i.sizes.passes) _ _ (sym c.self.view_is) c.requires.all_workers)

pub into_rest-jobs-requires-clause-note : goal.into_rest-jobs-requires-clause-note
into_rest-jobs-requires-clause-note g c = at_line (λ i. g.L.JobLine.is_note i c.args.note.line) _ _ (sym c.self.view_is) c.requires.note.shows

pub answer_rest-stations-requires-clause-some : goal.answer_rest-stations-requires-clause-some
answer_rest-stations-requires-clause-some g c =
    let count = ap length c.gather-passes.ensures.stations ∙ length-map c.args.ends.items (λ e. e.station) in
    omega (arith, count, c.requires.all_workers, ap (λ (s : ShopId). s.line.sizes.passes) c.self.view_is, c.self.invariant.stations, c.self.invariant.some)

pub answer_rest-stations-requires-clause-empty : goal.answer_rest-stations-requires-clause-empty
answer_rest-stations-requires-clause-empty g c = c.gather-passes.ensures.rest.0

pub answer_rest-stations-requires-clause-room : goal.answer_rest-stations-requires-clause-room
answer_rest-stations-requires-clause-room g c =
    omega (
      arith,
      c.into_rest-jobs.ensures.fits,
      c.gather-passes.ensures.rest.1,
      ap (λ (r : RoomSize). r.jobs) c.requires.note.space,
      ap (λ (s : ShopId). s.line.sizes.capacity) c.self.view_is,
    )

pub close-requires-clause-of_floor : goal.close-requires-clause-of_floor
close-requires-clause-of_floor g c = c.answer_rest-stations.ensures.stations

pub close-requires-clause-all : goal.close-requires-clause-all
close-requires-clause-all g c =
    c.answer_rest-stations.ensures.count
    ∙ (ap length c.gather-passes.ensures.stations
    ∙ (length-map c.args.ends.items (λ e. e.station)
    ∙ (c.requires.all_workers ∙ (sym (ap (λ (s : ShopId). s.line.sizes.passes) c.self.view_is) ∙ c.self.invariant.stations))))

pub returns-clause-lane_count : goal.returns-clause-lane_count
returns-clause-lane_count g c = at_line (λ i. length c.into_rest-jobs.result.accepted.items ≡ i.sizes.lanes) _ _ c.self.view_is c.into_rest-jobs.ensures.lane_count

pub returns-clause-dim : goal.returns-clause-dim
returns-clause-dim g c = at_floor (λ i. g.F.Floor.machine_dim c.close.result ≡ i.dim) _ _ c.self.view_is c.close.ensures.dim

pub returns-clause-closed : goal.returns-clause-closed
returns-clause-closed g c =
    at_line (λ i. g.F.Floor.is_closed i.sizes.passes c.close.result) _ _ c.self.view_is
    (subst (λ (count : ℕ). g.F.Floor.is_closed count c.close.result) (sym c.self.invariant.stations) c.close.ensures.closed)

pub into_rest-jobs-requires-clause-lanes : goal.into_rest-jobs-requires-clause-lanes
into_rest-jobs-requires-clause-lanes g c =
    at_line (λ i. All (g.L.JobLine.is_lane i) c.args.lanes.items) _ _ (sym c.self.view_is) c.requires.lanes

pub into_rest-jobs-requires-clause-passes : goal.into_rest-jobs-requires-clause-passes
into_rest-jobs-requires-clause-passes g c =
    let passes = c.gather-passes.result.passes.items in
    let ends = c.args.ends.items in
    let P = g.L.JobLine.is_pass c.args.self.line in
    at_line (λ i. All (g.L.JobLine.is_pass i) passes) _ _ (sym c.self.view_is)
    (All-same P passes _ c.gather-passes.ensures.passes (All-map P (λ e. e.pass) ends (All-weaker (IsEndOf c.args.self) (λ e. P e.pass) (λ e is. is.pass) ends c.requires.workers)))

pub answer_rest-stations-requires-clause-stations : goal.answer_rest-stations-requires-clause-stations
answer_rest-stations-requires-clause-stations g c =
    let stations = c.gather-passes.result.stations.items in
    let ends = c.args.ends.items in
    let P = g.F.Floor.is_station c.args.self.floor in
    at_floor (λ i. All (g.F.Floor.is_station i) stations) _ _ (sym c.self.view_is)
    (All-same P stations _ c.gather-passes.ensures.stations (All-map P (λ e. e.station) ends (All-weaker (IsEndOf c.args.self) (λ e. P e.station) (λ e is. is.station) ends c.requires.workers)))

pub answer_rest-stations-requires-clause-made_for : goal.answer_rest-stations-requires-clause-made_for
answer_rest-stations-requires-clause-made_for g c =
    subst (λ (n : ℕ). All (IsMadeFor n) c.into_rest-jobs.result.jobs.items) c.self.invariant.machine c.into_rest-jobs.ensures.machine

pub returns-clause-finished : goal.returns-clause-finished
returns-clause-finished g c =
    let line = g.L.JobLine in
    let floor = g.F.Floor in
    let lanes = c.args.lanes.items in
    let ends = c.args.ends.items in
    let dim = c.args.self.floor.dim in
    let passes = c.gather-passes.result.passes.items in
    let stations = c.answer_rest-stations.result.0.items in
    let rest = c.answer_rest-stations.result.1.items in
    let counts = c.into_rest-jobs.result.accepted.items in
    let Right = All-weaker (IsEndOf c.args.self) (λ e. All (IsRight dim) e.replies.items) (λ e is. is.right) ends c.requires.workers in (
      stations,
      at_floor (λ i. All (floor.is_station i) stations) _ _ c.self.view_is c.answer_rest-stations.ensures.stations,
      c.answer_rest-stations.ensures.count
          ∙ (ap length c.gather-passes.ensures.stations
          ∙ (length-map ends (λ e. e.station)
          ∙ (c.requires.all_workers
          ∙ at_line (λ i. i.sizes.passes ≡ c.args.self.floor.stations) _ _ c.self.view_is (at_floor (λ i. (line.id c.self.inside.line).sizes.passes ≡ i.stations) _ _ c.self.view_is c.self.invariant.stations)))),
      finished dim (line.id c.self.inside.line).sizes.lanes (map line.lane_record lanes) (map line.pass_record passes) c.into_rest-jobs.result.jobs.items (map floor.grants stations) (line.note_number c.args.note.line) _
          c.into_rest-jobs.ensures.run
          (ap (λ ps. map (λ p. p.taken) (map line.pass_record ps)) c.gather-passes.ensures.passes
          ∙ (taken_answered (λ e. e.pass) line.pass_record (λ e. e.replies) (λ v. v.items) (λ e. e.answers) ends
          ∙ ap (λ vs. map (map answered) (map (λ v. v.items) vs)) (sym c.gather-passes.ensures.replies)))
          c.answer_rest-stations.ensures.answers
          (subst (λ vs. AllByRecursion (AllByRecursion (IsRight dim)) (map (λ v. v.items) vs)) (sym c.gather-passes.ensures.replies) (replies_right (λ e. e.pass) line.pass_record (λ e. e.replies) (λ v. v.items) dim ends Right))
          (each_of (IsRight dim) rest (at_floor (λ i. All (IsRight i.dim) rest) _ _ c.self.view_is c.answer_rest-stations.ensures.right))
          c.into_rest-jobs.ensures.lane_count
          (λ k below. ap (times k) (map_twice line.lane_record (λ (l : LaneRecord). l.number) lanes) ∙ c.into_rest-jobs.ensures.numbers k below)
          (each_of (λ (l : LaneRecord). get_or counts l.number 0 ≡ length (accepted l.entries)) (map line.lane_record lanes) (All-map (λ (l : LaneRecord). get_or counts l.number 0 ≡ length (accepted l.entries)) line.lane_record lanes c.into_rest-jobs.ensures.accepted))
          (c.answer_rest-stations.ensures.granted
          ∙ ap (λ gs. with_last gs (map region_of rest)) (ap (map floor.grants) c.gather-passes.ensures.stations
          ∙ (all_granted floor.grants region_of (λ e. e.station) (λ e. e.replies) (λ v. v.items) (λ e. e.regions) ends
          ∙ ap (λ vs. map (map region_of) (map (λ v. v.items) vs)) (sym c.gather-passes.ensures.replies))))
          (at_floor (λ i. IsWhollyFree i.dim (floor.machine_words c.close.result)) _ _ c.self.view_is c.close.ensures.free),
    )

pub returns-clause-by_worker : goal.returns-clause-by_worker
returns-clause-by_worker g c = ap (map (λ v. v.items)) c.gather-passes.ensures.replies ∙ map_twice (λ e. e.replies) (λ v. v.items) c.args.ends.items

pub returns-clause-lane_numbers : goal.returns-clause-lane_numbers
returns-clause-lane_numbers g c =
    at_line (λ i. (k : ℕ) → k < i.sizes.lanes → times k (map (λ l. (g.L.JobLine.lane_record l).number) c.args.lanes.items) ≡ 1) _ _ c.self.view_is c.into_rest-jobs.ensures.numbers
