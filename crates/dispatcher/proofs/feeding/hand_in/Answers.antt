use Rattle.std.proofs.Common.{rules, ◌≡◌, ◌<◌, ◌∷◌, List, ℕ, Some, refl, sym, ap, subst, ◌∙◌}
use Rattle.std.specs.List.{All}
use Rattle.std.proofs.lemmas.List.Elements.{All-rest, All-same}
use Rattle.job_types.specs.Job.{JobData}
use Rattle.job_queue.specs.declared.record.LaneRecord.{LaneRecord}
use Rattle.job_queue.specs.declared.job_line.Refused.{Refused}
use Rattle.job_queue.specs.Line.{IsFor, GainsRefusal}
use Rattle.job_queue.proofs.FeedLemmas.{refused_number}
use Rattle.dispatcher.specs.Feed.{full_since}
use Rattle.dispatcher.proofs.EntryLemmas.{SoFar, one_accepted, one_full, full_same, full_more, at_refusal, not_done_at, closed_at, turns_at, spent_at, fewer_at, goes_on, is_last}
use Rattle.dispatcher.proofs.feeding.hand_in.Goals as goal

pub loop-preserved-in_default-submit : goal.loop-preserved-in_default-submit
loop-preserved-in_default-submit g c =
    let line = g.L.JobLine in
    let inv = c.loop.invariant in
    let before = line.lane_record c.args.lane.now in
    let now = line.lane_record c.loop.lane in
    let next = line.lane_record c.submit.new.lane in
    let rest = c.pop_front.new.self.items in
    let items = c.in-Some-pop_front.ensures.items in
    let gains = c.in_default-submit.ensures.accepted in (
      c.in_default-submit.ensures.lane,
      All-rest (IsFor (line.id c.args.line.now).sizes.machine before.number) c.in-Some-pop_front.job rest _ items inv.1,
      one_accepted c.args.jobs.items rest before now next _ _ (subst (λ (js : List JobData). SoFar c.args.jobs.items js before now) items inv.2) gains,
      λ turns is. ((inv.3 turns is).0 ∙ sym (full_same _ _ before now next _ _ inv.2 gains), (inv.3 turns is).1),
    )

pub loop-preserved : goal.loop-preserved
loop-preserved g c =
    let line = g.L.JobLine in
    let inv = c.loop.invariant in
    let before = line.lane_record c.args.lane.now in
    let now = line.lane_record c.loop.lane in
    let next = line.lane_record c.submit.new.lane in
    let rest = c.pop_front.new.self.items in
    let on = c.stop_for.ensures.goes_on (search rules) in
    let gains = subst (λ (why : Refused). GainsRefusal now why next) on.0 c.in-Err.ensures.refused in
    let more = full_more _ _ before now next gains.0 inv.2 gains.1 in
    let same = sym c.wait_at_line.ensures.unchanged in
    let items : c.push_front_reserved.new.self.items ≡ c.loop.left.items = c.push_front_reserved.ensures.items ∙ (ap (λ (j : JobData). j ∷ rest) c.in-Err.ensures.gives_back ∙ sym c.in-Some-pop_front.ensures.items) in (
      c.wait_at_line.ensures.lane,
      All-same (IsFor (line.id c.args.line.now).sizes.machine before.number) _ _ items inv.1,
      subst (λ (r : LaneRecord). SoFar c.args.jobs.items c.push_front_reserved.new.self.items before r) same (subst (λ (js : List JobData). SoFar c.args.jobs.items js before next) (sym items) (one_full _ _ before now next gains.0 inv.2 gains.1)),
      λ turns is. subst (λ (r : LaneRecord). (c.stop_for.new.full ≡ full_since before r) × (c.stop_for.new.full < turns)) same (goes_on c.args.limit c.loop.full _ _ _ turns c.stop_for.ensures.word (c.stop_for.ensures.count on.0) more on.1 is (inv.3 turns is)),
    )

pub returns-in-Some-stop_for-clause-jobs : goal.returns-in-Some-stop_for-clause-jobs
returns-in-Some-stop_for-clause-jobs g c =
    let line = g.L.JobLine in
    let machine = (line.id c.args.line.now).sizes.machine in
    let rest = c.pop_front.new.self.items in
    let items : c.in-Err.job ∷ rest ≡ c.loop.left.items = ap (λ (j : JobData). j ∷ rest) c.in-Err.ensures.gives_back ∙ sym c.in-Some-pop_front.ensures.items in
    let number = refused_number (line.lane_record c.loop.lane) _ (line.lane_record c.submit.new.lane) c.in-Err.ensures.refused ∙ ap (λ (r : LaneRecord). r.number) c.loop.invariant.2.gains in
    subst (λ (n : ℕ). All (IsFor machine n) (c.in-Err.job ∷ rest)) (sym number)
    (All-same (IsFor machine (line.lane_record c.args.lane.now).number) _ _ items c.loop.invariant.1)

pub returns-in-Some-stop_for-clause-entries : goal.returns-in-Some-stop_for-clause-entries
returns-in-Some-stop_for-clause-entries g c =
    let line = g.L.JobLine in
    let before = line.lane_record c.args.lane.now in
    let now = line.lane_record c.loop.lane in
    let rest = c.pop_front.new.self.items in
    let items : c.in-Err.job ∷ rest ≡ c.loop.left.items = ap (λ (j : JobData). j ∷ rest) c.in-Err.ensures.gives_back ∙ sym c.in-Some-pop_front.ensures.items in
    at_refusal c.args.jobs.items (c.in-Err.job ∷ rest) before now (line.lane_record c.submit.new.lane) c.in-Err.refused c.in-Some-stop_for.stop
    (subst (λ (js : List JobData). SoFar c.args.jobs.items js before now) (sym items) c.loop.invariant.2) c.in-Err.ensures.refused c.in-Some-stop_for.ensures.stop

pub returns-in-Some-stop_for-clause-stopped : goal.returns-in-Some-stop_for-clause-stopped
returns-in-Some-stop_for-clause-stopped g c =
    let line = g.L.JobLine in
    let now = line.lane_record c.loop.lane in
    let next = line.lane_record c.submit.new.lane in
    let why = c.in-Err.refused in
    let stop = c.in-Some-stop_for.stop in
    let is = c.in-Some-stop_for.ensures.stop in
    record {
      done = λ done. absurd (not_done_at why stop is done);
      closed = λ seen closed. closed_at now next why stop seen c.in-Err.ensures.refused is closed;
      spent = spent_at now next why stop c.in-Err.ensures.refused c.in-Err.ensures.spent_only is;
    }

pub returns-in-Some-stop_for-clause-turns : goal.returns-in-Some-stop_for-clause-turns
returns-in-Some-stop_for-clause-turns g c = λ turns.
    let line = g.L.JobLine in
    let before = line.lane_record c.args.lane.now in
    let now = line.lane_record c.loop.lane in
    let next = line.lane_record c.submit.new.lane in
    let full = turns_at c.in-Err.refused c.in-Some-stop_for.stop c.in-Some-stop_for.ensures.stop turns in
    let gains = subst (λ (why : Refused). GainsRefusal now why next) full c.in-Err.ensures.refused in
    let last = c.in-Some-stop_for.ensures.last (ap Some turns) in
    is_last c.args.limit c.loop.full _ _ _ (c.stop_for.ensures.count full) (full_more _ _ before now next gains.0 c.loop.invariant.2 gains.1) last (c.loop.invariant.3 _ last)

pub returns-in-Some-stop_for-clause-fewer : goal.returns-in-Some-stop_for-clause-fewer
returns-in-Some-stop_for-clause-fewer g c = λ turns is other.
    let line = g.L.JobLine in
    fewer_at (line.lane_record c.args.lane.now) (line.lane_record c.loop.lane) (line.lane_record c.submit.new.lane) c.in-Err.refused c.in-Some-stop_for.stop c.loop.full turns
    c.in-Err.ensures.refused c.in-Some-stop_for.ensures.stop other (c.loop.invariant.3 turns is)

pub returns-in-Some-stop_for-clause-lane : goal.returns-in-Some-stop_for-clause-lane
returns-in-Some-stop_for-clause-lane g c = c.in-Err.ensures.lane

pub returns-in-Some-stop_for-clause-number : goal.returns-in-Some-stop_for-clause-number
returns-in-Some-stop_for-clause-number g c =
    let line = g.L.JobLine in
    refused_number (line.lane_record c.loop.lane) _ (line.lane_record c.submit.new.lane) c.in-Err.ensures.refused ∙ ap (λ (r : LaneRecord). r.number) c.loop.invariant.2.gains

pub returns-in-Some-stop_for-clause-refused : goal.returns-in-Some-stop_for-clause-refused
returns-in-Some-stop_for-clause-refused g c = λ other. refl
