use Rattle.status_word.proofs.WordLemmas.{use_of-bits}
use Rattle.status_word.proofs.word.Word.without_marks.Goals as goal

pub returns-clause-bits : goal.returns-clause-bits
returns-clause-bits c = use_of-bits c.args.self.0
