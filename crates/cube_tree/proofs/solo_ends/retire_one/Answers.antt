use Rattle.cube_core.specs.declared.phase.Phase.TheVariants.{Idle}
use Rattle.cube_tree.proofs.MovedLemmas.{brought, gone}
use Rattle.cube_tree.proofs.solo_ends.retire_one.Goals as goal

pub retire-requires-clause-phase : goal.retire-requires-clause-phase
retire-requires-clause-phase c = (brought c.args.station Idle _ _ c.requires.all c.requires.there c.requires.idle c.turn.ensures.turns).0.at

pub retire-requires-clause-station : goal.retire-requires-clause-station
retire-requires-clause-station c = (brought c.args.station Idle _ _ c.requires.all c.requires.there c.requires.idle c.turn.ensures.turns).0.number

pub returns-clause-moved : goal.returns-clause-moved
returns-clause-moved c = gone c.turn.new.seat.me c.retire.ensures.retires.0 (brought c.args.station Idle _ _ c.requires.all c.requires.there c.requires.idle c.turn.ensures.turns).0 c.retire.ensures.retires.1
