use Rattle.cube_tree.proofs.FitLemmas.{is_lawful}
use Rattle.cube_tree.proofs.solo.Solo.holds.Goals as goal

pub returns-clause-lawful : goal.returns-clause-lawful
returns-clause-lawful c = is_lawful c.args.self.now.state
