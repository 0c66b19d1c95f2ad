use Rattle.std.proofs.Common.{[], subst}
use Rattle.uses.proofs.line_run.member.Taker.drain.Goals as goal

pub invariant_of-self : goal.invariant_of-self
invariant_of-self g c = (subst (λ i. g.L.JobLine.is_pass i c.drain.new.pass) c.requires c.drain.ensures.pass, c.drain.ensures.taken [] c.self.invariant.1)
