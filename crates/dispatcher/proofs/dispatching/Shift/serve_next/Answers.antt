use Rattle.std.proofs.Common.{refl, ap, ◌∙◌}
use Rattle.job_queue.specs.declared.record.PassRecord.{PassRecord}
use Rattle.dispatcher.proofs.WorkLemmas.{served_more, served_none}
use Rattle.dispatcher.proofs.dispatching.Shift.serve_next.Goals as goal

pub returns-in-Job-clause-served : goal.returns-in-Job-clause-served
returns-in-Job-clause-served g c =
    let line = g.L.JobLine in
    let floor = g.F.Floor in
    let shift = c.args.self in
    served_more (floor.id c.args.floor.now).dim (line.pass_record shift.pass).taken (line.pass_record c.take.new.pass).taken
    (floor.grants shift.station) (floor.grants c.serve-back.result.0) shift.replies.items c.push_reserved.new.self.items _ c.serve-back.result.1
    c.in-Job.ensures.taken c.serve-back.ensures.answers c.serve-back.ensures.granted
    c.serve-back.ensures.right c.push_reserved.ensures.items

pub returns-in-Ended-clause-served : goal.returns-in-Ended-clause-served
returns-in-Ended-clause-served g c =
    let line = g.L.JobLine in
    let floor = g.F.Floor in
    let shift = c.args.self in
    served_none (floor.id c.args.floor.now).dim (line.pass_record shift.pass).taken (line.pass_record c.take.new.pass).taken
    (floor.grants shift.station) shift.replies.items c.in-Ended.ensures.taken

pub returns-clause-served : goal.returns-clause-served
returns-clause-served g c =
    let line = g.L.JobLine in
    let floor = g.F.Floor in
    let shift = c.args.self in
    served_none (floor.id c.args.floor.now).dim (line.pass_record shift.pass).taken (line.pass_record c.wait_for_job.new.pass).taken
    (floor.grants shift.station) shift.replies.items
    (ap (λ (r : PassRecord). r.taken) c.wait_for_job.ensures.unchanged ∙ c.in-EmptyNow.ensures.taken)

pub returns-in-Ended-clause-stop : goal.returns-in-Ended-clause-stop
returns-in-Ended-clause-stop g c = refl
