use Rattle.job_types.proofs.DimLemmas.{dim_of-least}
use Rattle.job_types.proofs.work.Work.dim.Goals as goal

pub returns-clause-means : goal.returns-clause-means
returns-clause-means c = dim_of-least
