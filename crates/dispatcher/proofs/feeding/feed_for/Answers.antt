use Rattle.std.proofs.Common.{◌++◌, List, refl, ap}
use Rattle.std.proofs.lemmas.List.{append-nil}
use Rattle.job_types.specs.Job.{JobData}
use Rattle.job_queue.specs.Record.{accepted_jobs}
use Rattle.dispatcher.specs.Stop.{given_back}
use Rattle.dispatcher.specs.declared.feeding.FeedStop.TheVariants.{Turns}
use Rattle.dispatcher.proofs.EntryLemmas.{fed_by, limit_is, none_yet, stops_as_is}
use Rattle.dispatcher.proofs.feeding.feed_for.Goals as goal

pub returns-clause-fed : goal.returns-clause-fed
returns-clause-fed g c = fed_by c.args.jobs.items (given_back c.hand_in.result.back) c.hand_in.result.left.items _ _ _ c.hand_in.ensures.entries

pub returns-clause-turns : goal.returns-clause-turns
returns-clause-turns g c = λ turns. limit_is _ _ (c.hand_in.ensures.turns turns)

pub returns-clause-fewer : goal.returns-clause-fewer
returns-clause-fewer g c = c.hand_in.ensures.fewer c.args.turns refl

pub returns-clause-entries : goal.returns-clause-entries
returns-clause-entries g c = c.hand_in.ensures.entries

pub returns-clause-refused : goal.returns-clause-refused
returns-clause-refused g c = λ done turns. c.hand_in.ensures.refused done

pub returns-then-turns-eq0-clause-fed : goal.returns-then-turns-eq0-clause-fed
returns-then-turns-eq0-clause-fed g c =
    ap (λ (js : List JobData). js ++ c.args.jobs.items) (append-nil (accepted_jobs (g.L.JobLine.lane_record c.args.lane.now)))

pub returns-then-turns-eq0-clause-jobs : goal.returns-then-turns-eq0-clause-jobs
returns-then-turns-eq0-clause-jobs g c = c.requires.jobs

pub returns-then-turns-eq0-clause-entries : goal.returns-then-turns-eq0-clause-entries
returns-then-turns-eq0-clause-entries g c =
    let lane = g.L.JobLine.lane_record c.args.lane.now in
    stops_as_is c.args.jobs.items c.args.jobs.items Turns lane lane (none_yet c.args.jobs.items lane) refl

pub returns-then-turns-eq0-clause-at_once : goal.returns-then-turns-eq0-clause-at_once
returns-then-turns-eq0-clause-at_once g c = λ zero. refl
