-- The decisions come after what the worker asked. Before them the other workers did as at first.
use Rattle.std.proofs.Common.{[]}
use Rattle.sched_board.proofs.FollowLemmas.{at_then, decides_at, leads_stopped}
use Rattle.sched_board.proofs.ServeLemmas.{names_others}
use Rattle.sched_board.specs.Served.{deeds_of}
use Rattle.sched_board.proofs.board.JobBoard.serve.Goals as goal

pub returns-then-not-more-clause-follows : goal.returns-then-not-more-clause-follows
returns-then-not-more-clause-follows c =
    at_then c.args.now c.args.self.now c.begin.new.self c.decide-more.new.self (deeds_of c.args.stage c.args.worker) [] c.begin.ensures.count
    c.begin.ensures.leads (decides_at c.args.now c.begin.new.self c.decide-more.new.self c.decide-more.ensures.decides)

pub returns-then-not-more-clause-woken : goal.returns-then-not-more-clause-woken
returns-then-not-more-clause-woken c =
    names_others c.args.worker c.args.self.now c.begin.new.self c.decide-more.new.self c.decide-more.result.0 c.begin.ensures.others
    c.decide-more.ensures.woken

pub returns-else-not-more-clause-follows : goal.returns-else-not-more-clause-follows
returns-else-not-more-clause-follows c =
    at_then c.args.now c.args.self.now c.begin.new.self c.decide-more.new.self (deeds_of c.args.stage c.args.worker) [] c.begin.ensures.count
    c.begin.ensures.leads (decides_at c.args.now c.begin.new.self c.decide-more.new.self c.decide-more.ensures.decides)

pub returns-else-not-more-clause-woken : goal.returns-else-not-more-clause-woken
returns-else-not-more-clause-woken c =
    names_others c.args.worker c.args.self.now c.begin.new.self c.decide-more.new.self c.decide-more.result.0 c.begin.ensures.others
    c.decide-more.ensures.woken

pub returns-then-not-more-clause-stopped : goal.returns-then-not-more-clause-stopped
returns-then-not-more-clause-stopped c =
    leads_stopped c.args.self.now c.begin.new.self c.decide-more.new.self (deeds_of c.args.stage c.args.worker) c.begin.ensures.phase
    c.begin.ensures.leads c.decide-more.ensures.stopped

pub returns-else-not-more-clause-stopped : goal.returns-else-not-more-clause-stopped
returns-else-not-more-clause-stopped c =
    leads_stopped c.args.self.now c.begin.new.self c.decide-more.new.self (deeds_of c.args.stage c.args.worker) c.begin.ensures.phase
    c.begin.ensures.leads c.decide-more.ensures.stopped
