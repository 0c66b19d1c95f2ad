use Rattle.std.proofs.Common.{true, false}
use Rattle.status_word.proofs.WordLemmas.{cleared-unmarked, cleared-occupied, cleared-left, cleared-right}
use Rattle.status_word.proofs.word.Word.cleared.Goals as goal

pub returns-in-true-true-clause-unmarked : goal.returns-in-true-true-clause-unmarked
returns-in-true-true-clause-unmarked c = cleared-unmarked c.args.self.0 true true

pub returns-in-true-false-clause-unmarked : goal.returns-in-true-false-clause-unmarked
returns-in-true-false-clause-unmarked c = cleared-unmarked c.args.self.0 true false

pub returns-in-false-true-clause-unmarked : goal.returns-in-false-true-clause-unmarked
returns-in-false-true-clause-unmarked c = cleared-unmarked c.args.self.0 false true

pub returns-in-false-false-clause-unmarked : goal.returns-in-false-false-clause-unmarked
returns-in-false-false-clause-unmarked c = rw c.without_marks.ensures.value (cleared-unmarked c.args.self.0 false false)

pub returns-in-true-false-clause-occupied : goal.returns-in-true-false-clause-occupied
returns-in-true-false-clause-occupied c = cleared-occupied c.args.self.0 true false

pub returns-in-true-false-clause-left : goal.returns-in-true-false-clause-left
returns-in-true-false-clause-left c = rw c.in-true-false.is-0 (cleared-left c.args.self.0 true false)

pub returns-in-true-false-clause-right : goal.returns-in-true-false-clause-right
returns-in-true-false-clause-right c = rw c.in-true-false.is-1 (cleared-right c.args.self.0 true false)
