-- There is no other one.
use Rattle.std.proofs.Common.{Option, sym, subst}
use Rattle.sched_jobs.specs.Inner.Search.{IsOlder}
use Rattle.sched_jobs.proofs.FitLemmas.{older_alone}
use Rattle.sched_jobs.proofs.search.older.Goals as goal

pub returns-in_default : goal.returns-in_default
returns-in_default c = subst (λ (o : Option _). IsOlder c.args.nodes.now c.args.one o c.args.one) (sym c.in_default.is) (older_alone c.args.nodes.now c.args.one)
