use Rattle.cube_core.proofs.ScheduleLemmas.{every_schedule}
use Rattle.cube_core.proofs.world.every_schedule_is_lawful.Goals as goal

pub returns : goal.returns
returns c = every_schedule
