use Rattle.status_word.proofs.WordLemmas.{IsSet-test}
use Rattle.status_word.proofs.word.Word.has_side.Goals as goal

pub returns-in-Left : goal.returns-in-Left
returns-in-Left c = rw c.in-Left.is (IsSet-test c.args.self.0 1)

pub returns-in-Right : goal.returns-in-Right
returns-in-Right c = rw c.in-Right.is (IsSet-test c.args.self.0 2)
