-- All slots are free at first.
use Rattle.std.proofs.Common.{◌*◌, refl, rules}
use Rattle.fixed_vec.proofs.Spending.{others, both}
use Rattle.sched_jobs.specs.Lines.{table_words}
use Rattle.sched_jobs.proofs.ChangeLemmas.{initial_shows}
use Rattle.sched_jobs.proofs.ShowLemmas.{initial_waiting}
use Rattle.sched_jobs.proofs.SumLemmas.{initial_running}
use Rattle.sched_jobs.proofs.jobs.Jobs.new.Goals as goal

pub returns-clause-shows : goal.returns-clause-shows
returns-clause-shows c = λ n patience. (
  refl,
  initial_shows c.in_ok-slots.slots.items c.in_ok-lines.lines.nodes.items c.args.capacity c.requires c.in_ok-slots.ensures.items (search rules) c.in_ok-lines.ensures.keys c.in_ok-lines.ensures.ranks,
  initial_waiting c.in_ok-slots.slots.items c.in_ok-lines.lines c.args.capacity c.in_ok-slots.ensures.items (search rules) c.in_ok-lines.ensures.slots c.in_ok-lines.ensures.lines,
  initial_running c.in_ok-slots.slots.items c.args.capacity c.in_ok-slots.ensures.items (search rules),
)

pub returns-in_err-lines-clause-enough : goal.returns-in_err-lines-clause-enough
returns-in_err-lines-clause-enough c = λ h.
    let none = c.in_err-lines.ensures.enough (others (7 * c.args.capacity) (table_words c.args.capacity) _ _ c.in_ok-slots.ensures.spends h) in
    absurd (cc)

pub returns-clause-spends : goal.returns-clause-spends
returns-clause-spends c = both (7 * c.args.capacity) (table_words c.args.capacity) _ _ _ c.in_ok-slots.ensures.spends c.in_ok-lines.ensures.spends
