-- The oldest is the first slot, and the others stay.
use Rattle.std.proofs.Common.{[], inl, refl, sym, subst, ◌∙◌}
use Rattle.sched_jobs.specs.Lists.{Has}
use Rattle.sched_jobs.specs.Queues.{IsQueue}
use Rattle.sched_jobs.proofs.FillLemmas.{first_is}
use Rattle.sched_jobs.proofs.queues.tests.remove_first.Goals as goal

pub remove-requires : goal.remove-requires
remove-requires c =
    let is = c.requires.1 in
    let rest = first_is c.requires.0 c.in-Some.slot (sym (c.oldest.ensures c.requires.0 is) ∙ c.in-Some.is) in
    (c.requires.0, record { is_queue = is; one_of = subst (λ xs. Has xs c.in-Some.slot) (sym rest.1) (inl refl) })

pub returns : goal.returns
returns c =
    let is = c.requires.1 in
    let rest = first_is c.requires.0 c.in-Some.slot (sym (c.oldest.ensures c.requires.0 is) ∙ c.in-Some.is) in
    (rest.0, c.remove.ensures.queue [] rest.0 (subst (IsQueue c.args.nodes.now c.args.queue.now) rest.1 is))
