use Rattle.status_word.proofs.WordLemmas.{IsSet-power}
use Rattle.status_word.proofs.word.Word.side_mask.Goals as goal

pub returns-in-Left-clause-alone : goal.returns-in-Left-clause-alone
returns-in-Left-clause-alone c = rw c.in-Left.is (IsSet-power 1)

pub returns-in-Right-clause-alone : goal.returns-in-Right-clause-alone
returns-in-Right-clause-alone c = rw c.in-Right.is (IsSet-power 2)
