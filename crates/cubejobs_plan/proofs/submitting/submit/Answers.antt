-- The job in its slot.
use Rattle.std.proofs.Common.{ℕ, ◌<◌, ◌∙◌, inl, inr, subst, arith}
use Rattle.sched_law.specs.Law.{IsSound}
use Rattle.sched_core.specs.Shows.{slots_of}
use Rattle.cubejobs_plan.proofs.submitting.submit.Goals as goal

pub returns-clause-submitted : goal.returns-clause-submitted
returns-clause-submitted c = λ code.
    let e = c.in-Some.ensures in record {
      slot = c.in-Some.slot;
      job = c.job_of.result;
      asked = c.job_of.ensures.asked;
      sound = λ w k. subst (λ (d : ℕ). IsSound d c.job_of.result) (c.dim-n.ensures.shown w k) c.job_of.ensures.sound;
      shows = e.shows;
      inside = e.inside;
      free = e.free;
      place = e.place;
      arrival = e.arrival;
      generation = e.generation;
      others = e.others;
      tells = c.answer_at_last.ensures.answer;
    }

pub returns-clause-refused : goal.returns-clause-refused
returns-clause-refused c = λ no_room. elim no_room.1 [
  | inl last ↦ absurd (c.if-submitted-eq-NEVER.false (c.submitted.ensures.submitted ∙ last))
  | inr all ↦
      let e = c.in-Some.ensures in
      let inside : c.in-Some.slot < slots_of c.args.scheduler.now = omega (arith, e.inside, e.slots) in
      elim (all c.in-Some.slot inside) [
        | inl taken ↦ absurd (e.free taken)
        | inr spent ↦ let less = e.unspent in let most = spent.1 in absurd (omega (arith, less, most))
      ]
]
