use Rattle.std.proofs.Common.{◌≡◌, ◌++◌, ◌∷◌, List, sym, ap, ◌∙◌}
use Rattle.std.proofs.lemmas.List.Elements.{All-rest, All-same}
use Rattle.job_types.specs.Job.{JobData}
use Rattle.job_queue.specs.declared.record.LaneRecord.{LaneRecord}
use Rattle.job_queue.specs.Record.{accepted_jobs}
use Rattle.job_queue.specs.Line.{IsFor}
use Rattle.job_queue.proofs.FeedLemmas.{fed_one, fed_none}
use Rattle.uses.proofs.line_run.feeding.feed.Goals as goal

pub loop-preserved-in-Ok : goal.loop-preserved-in-Ok
loop-preserved-in-Ok g c =
    let line = g.L.JobLine in
    let inv = c.loop.invariant in
    let rest = c.pop_front.new.self.items in
    let items = c.in-Some-pop_front.ensures.items in
    let gains = c.in-Ok.ensures.accepted in (
      c.in-Ok.ensures.lane,
      ap (λ (r : LaneRecord). r.number) gains ∙ inv.1,
      All-rest (IsFor (line.id c.args.line.now).sizes.machine (line.lane_record c.args.lane.now).number) c.in-Some-pop_front.job rest _ items inv.2,
      fed_one (line.lane_record c.loop.lane) (line.lane_record c.submit.new.lane) _ _ rest gains ∙ (ap (λ (js : List JobData). accepted_jobs (line.lane_record c.loop.lane) ++ js) (sym items) ∙ inv.3),
    )

pub loop-preserved : goal.loop-preserved
loop-preserved g c =
    let line = g.L.JobLine in
    let inv = c.loop.invariant in
    let rest = c.pop_front.new.self.items in
    let full = c.in-Err-default-Full in
    let gains = (rw full.field-0-1-is at full.ensures.refused) in
    let items : c.push_front_reserved.new.self.items ≡ c.loop.jobs.items = c.push_front_reserved.ensures.items ∙ (ap (λ (j : JobData). j ∷ rest) full.ensures.gives_back ∙ sym c.in-Some-pop_front.ensures.items) in (
      full.ensures.lane,
      ap (λ (r : LaneRecord). r.number) gains.1 ∙ inv.1,
      All-same (IsFor (line.id c.args.line.now).sizes.machine (line.lane_record c.args.lane.now).number) _ _ items inv.2,
      ap (λ (js : List JobData). js ++ c.push_front_reserved.new.self.items) (fed_none (line.lane_record c.loop.lane) (line.lane_record c.submit.new.lane) gains.0 gains.1) ∙ (ap (λ (js : List JobData). accepted_jobs (line.lane_record c.loop.lane) ++ js) items ∙ inv.3),
    )
