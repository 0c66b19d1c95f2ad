use Rattle.std.proofs.Common.{◌≡◌, ℕ, ◌∷◌, ◌++◌, [], List, Some, None, map, length, get_or, sym, refl, ap, subst, ◌∙◌}
use Rattle.std.proofs.lemmas.List.{length-map}
use Rattle.std.specs.List.{AllByRecursion}
use Rattle.std.proofs.lemmas.List.Elements.{All-from_recursion}
use Rattle.ghost_history.specs.Sums.{is_at}
use Rattle.ghost_history.proofs.SumLemmas.{total-map}
use Rattle.job_queue.specs.declared.job_line.Sizes.{Sizes}
use Rattle.job_queue.specs.declared.record.LaneRecord.{LaneRecord}
use Rattle.locked_peers.specs.declared.store.Store.{Store}
use Rattle.locked_peers.specs.declared.line_handle.LockedLane.{LockedLane}
use Rattle.locked_peers.specs.declared.line_handle.LockedPass.{LockedPass}
use Rattle.job_queue.specs.Record.{accepted}
use Rattle.job_queue.specs.Line.{IsMadeFor}
use Rattle.locked_peers.specs.InnerLine.View.{view, closer_view}
use Rattle.locked_peers.specs.InnerLine.Step.{Sat}
use Rattle.locked_peers.specs.InnerLine.Handle.{sizes_of, lane_record, pass_record}
use Rattle.locked_peers.specs.InnerLine.End.{IsWhole, IsEnd}
use Rattle.locked_peers.proofs.line_locked.LockedLineJobLine.into_rest.Goals as goal

-- The seat has the records of all members.
all_records : (m gathered whole : Sat) (n : ℕ) (lanes : List LockedLane) (passes : List LockedPass)
    → m ≡ (closer_view m.0.about (Some n), [])
    → gathered ≡ (
      view m.0.about (m.0.lanes ++ map lane_record lanes) m.0.passes m.0.closers None,
      [],
    )
    → whole ≡ (
      view gathered.0.about gathered.0.lanes (gathered.0.passes ++ map pass_record passes)
          gathered.0.closers None,
      [],
    )
    → whole ≡ (
      view m.0.about (map lane_record lanes) (map pass_record passes)
          (record { closed_at = Some n } ∷ []) None,
      [],
    )
all_records m gathered whole n lanes passes closer with_lanes with_passes =
    let first : gathered ≡ (view m.0.about (map lane_record lanes) [] (record { closed_at = Some n } ∷ []) None, []) =
    with_lanes ∙ ap (λ (z : Sat). (view m.0.about (z.0.lanes ++ map lane_record lanes) z.0.passes z.0.closers None, [])) closer in
    with_passes ∙ ap (λ (z : Sat). (view z.0.about z.0.lanes (z.0.passes ++ map pass_record passes) z.0.closers None, [])) first

-- These are the records of all members.
is_whole : (S about : Sizes) (m : Sat) (n : ℕ) (lanes : List LockedLane) (passes : List LockedPass)
    → m ≡ (
      view about (map lane_record lanes) (map pass_record passes)
          (record { closed_at = Some n } ∷ []) None,
      [],
    )
    → length lanes ≡ S.lanes
    → length passes ≡ S.passes
    → IsWhole S m.0 n
is_whole S about m n lanes passes is all_lanes all_passes =
    subst (λ (z : Sat). IsWhole S z.0 n) (sym is) (record { lanes = length-map lanes lane_record ∙ all_lanes; passes = length-map passes pass_record ∙ all_passes; closers = refl; found = refl })

-- The end, in terms of the handles that came back.
ended : (S : Sizes) (m gathered whole : Sat) (n : ℕ) (lanes : List LockedLane)
    (passes : List LockedPass) (x : Store)
    → m ≡ (closer_view m.0.about (Some n), [])
    → gathered ≡ (
      view m.0.about (m.0.lanes ++ map lane_record lanes) m.0.passes m.0.closers None,
      [],
    )
    → whole ≡ (
      view gathered.0.about gathered.0.lanes (gathered.0.passes ++ map pass_record passes)
          gathered.0.closers None,
      [],
    )
    → length lanes ≡ S.lanes
    → length passes ≡ S.passes
    → (IsWhole S whole.0 n → IsEnd S whole.0 n x)
    → IsEnd S (view m.0.about (map lane_record lanes) (map pass_record passes)
    (record { closed_at = Some n } ∷ []) None) n x
ended S m gathered whole n lanes passes x closer with_lanes with_passes all_lanes all_passes ends =
    let is = all_records m gathered whole n lanes passes closer with_lanes with_passes in
    subst (λ (z : Sat). IsEnd S z.0 n x) is (ends (is_whole S m.0.about whole n lanes passes is all_lanes all_passes))

by_lane : (P : LaneRecord → Type 0) (lanes : List LockedLane)
    → AllByRecursion P (map lane_record lanes)
    → AllByRecursion (λ l. P (lane_record l)) lanes
by_lane P [] all = tt
by_lane P (l ∷ lanes) all = (all.0, by_lane P lanes all.1)

pub end-jobs-requires-clause-whole : goal.end-jobs-requires-clause-whole
end-jobs-requires-clause-whole g c =
    let is = all_records c.args.note.seat.me c.gather_lanes.new.seat.me c.gather_passes.new.seat.me c.args.note.number c.args.lanes.items c.args.passes.items
    c.args.note.known c.gather_lanes.ensures.records c.gather_passes.ensures.records in (
      c.args.note.number,
      ap (λ (z : Sat). z.1) is,
      is_whole (sizes_of c.args.self.lock) c.args.note.seat.me.0.about c.gather_passes.new.seat.me c.args.note.number c.args.lanes.items c.args.passes.items is c.requires.all_lanes c.requires.all_passes,
    )

pub returns-clause-run : goal.returns-clause-run
returns-clause-run g c =
    let end = ended (sizes_of c.args.self.lock) c.args.note.seat.me c.gather_lanes.new.seat.me c.gather_passes.new.seat.me c.args.note.number c.args.lanes.items c.args.passes.items c.end-jobs.result
    c.args.note.known c.gather_lanes.ensures.records c.gather_passes.ensures.records c.requires.all_lanes c.requires.all_passes (c.end-jobs.ensures c.args.note.number) in
    end.run

pub returns-clause-numbers : goal.returns-clause-numbers
returns-clause-numbers g c =
    let end = ended (sizes_of c.args.self.lock) c.args.note.seat.me c.gather_lanes.new.seat.me c.gather_passes.new.seat.me c.args.note.number c.args.lanes.items c.args.passes.items c.end-jobs.result
    c.args.note.known c.gather_lanes.ensures.records c.gather_passes.ensures.records c.requires.all_lanes c.requires.all_passes (c.end-jobs.ensures c.args.note.number) in
    λ k within. total-map (is_at k) (λ (l : LockedLane). (lane_record l).number) c.args.lanes.items
    ∙ (sym (total-map (λ (r : LaneRecord). is_at k r.number) lane_record c.args.lanes.items) ∙ end.numbers k within)

pub returns-clause-lane_count : goal.returns-clause-lane_count
returns-clause-lane_count g c =
    let end = ended (sizes_of c.args.self.lock) c.args.note.seat.me c.gather_lanes.new.seat.me c.gather_passes.new.seat.me c.args.note.number c.args.lanes.items c.args.passes.items c.end-jobs.result
    c.args.note.known c.gather_lanes.ensures.records c.gather_passes.ensures.records c.requires.all_lanes c.requires.all_passes (c.end-jobs.ensures c.args.note.number) in
    end.lane_count

pub returns-clause-accepted : goal.returns-clause-accepted
returns-clause-accepted g c =
    let end = ended (sizes_of c.args.self.lock) c.args.note.seat.me c.gather_lanes.new.seat.me c.gather_passes.new.seat.me c.args.note.number c.args.lanes.items c.args.passes.items c.end-jobs.result
    c.args.note.known c.gather_lanes.ensures.records c.gather_passes.ensures.records c.requires.all_lanes c.requires.all_passes (c.end-jobs.ensures c.args.note.number) in
    All-from_recursion (λ (l : LockedLane). get_or c.end-jobs.result.accepted.items (lane_record l).number 0 ≡ length (accepted (lane_record l).entries)) c.args.lanes.items
    (by_lane (λ r. get_or c.end-jobs.result.accepted.items r.number 0 ≡ length (accepted r.entries)) c.args.lanes.items end.accepted_by)

pub returns-clause-fits : goal.returns-clause-fits
returns-clause-fits g c =
    let end = ended (sizes_of c.args.self.lock) c.args.note.seat.me c.gather_lanes.new.seat.me c.gather_passes.new.seat.me c.args.note.number c.args.lanes.items c.args.passes.items c.end-jobs.result
    c.args.note.known c.gather_lanes.ensures.records c.gather_passes.ensures.records c.requires.all_lanes c.requires.all_passes (c.end-jobs.ensures c.args.note.number) in
    end.fits

pub returns-clause-machine : goal.returns-clause-machine
returns-clause-machine g c =
    let end = ended (sizes_of c.args.self.lock) c.args.note.seat.me c.gather_lanes.new.seat.me c.gather_passes.new.seat.me c.args.note.number c.args.lanes.items c.args.passes.items c.end-jobs.result
    c.args.note.known c.gather_lanes.ensures.records c.gather_passes.ensures.records c.requires.all_lanes c.requires.all_passes (c.end-jobs.ensures c.args.note.number) in
    All-from_recursion (IsMadeFor (sizes_of c.args.self.lock).machine) c.end-jobs.result.jobs.items end.made_for
