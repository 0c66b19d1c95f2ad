use Rattle.std.proofs.Common.{arith}
use Rattle.status_word.proofs.WordLemmas.{unmarked_below}
use Rattle.status_word.proofs.word.flags_are_the_bits_of_use.Goals as goal

pub returns-clause-unmarked : goal.returns-clause-unmarked
returns-clause-unmarked c = λ station marked. unmarked_below 7 station (omega arith) marked
