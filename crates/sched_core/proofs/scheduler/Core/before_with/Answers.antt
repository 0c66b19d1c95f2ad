-- The reserved job is one of those before, if it does not come later in order.
use Rattle.sched_core.proofs.BeforeLemmas.{before_first, before_later, before_none, before_own}
use Rattle.sched_core.proofs.scheduler.Core.before_with.Goals as goal

pub returns-in_default : goal.returns-in_default
returns-in_default c = λ w wait k waits.
    before_none w c.args.self.now k c.args.slot wait waits c.args.before (c.requires.count w wait k waits) c.in_default.is

pub returns-then-kept-slot : goal.returns-then-kept-slot
returns-then-kept-slot c = λ w wait k waits.
    before_own w c.args.self.now k c.args.slot wait waits c.args.before (c.requires.count w wait k waits) c.in-Some.kept c.in-Some.is c.if-kept-slot.true

pub returns-then-is_before : goal.returns-then-is_before
returns-then-is_before c = λ w wait k waits.
    before_first w c.args.self.now k c.args.slot wait waits c.args.before (c.requires.count w wait k waits) c.in-Some.kept c.in-Some.is c.if-kept-slot.false
    (λ one at. c.is_before.ensures.yes one wait at waits c.if-is_before.true)

pub returns : goal.returns
returns c = λ w wait k waits.
    before_later w c.args.self.now k c.args.slot wait waits c.args.before (c.requires.count w wait k waits) c.in-Some.kept c.in-Some.is c.if-kept-slot.false
    (λ one at. c.is_before.ensures.no one wait at waits c.if-is_before.false)
