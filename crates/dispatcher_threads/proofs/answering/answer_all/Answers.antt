use Rattle.dispatcher_threads.proofs.BatchLemmas.{outcome_of}
use Rattle.dispatcher_threads.proofs.answering.answer_all.Goals as goal

pub returns : goal.returns
returns g c =
    let ran = c.run-ran.ensures in
    let batch = c.batch_of.ensures in
    outcome_of g.L.JobLine g.F.Floor c.args.sizes c.args.jobs.items c.run-ran.result c.batch_of.result
    ran.run ran.ran_in ran.workers ran.dim ran.closed ran.accepted ran.refused ran.memory_last ran.gives_back batch.done batch.stopped
