use Rattle.std.proofs.Common.{refl, sym, ap, subst}
use Rattle.cube_core.specs.declared.phase.Phase.TheVariants.{Idle, Holding, Leaving}
use Rattle.tree_steps.specs.declared.view.Size.{Size}
use Rattle.cube_tree.specs.InnerSolo.{IsMoved}
use Rattle.cube_tree.proofs.MovedLemmas.{brought, walked}
use Rattle.cube_tree.proofs.ToldLemmas.{idle_holds, only_holds, told_read, told_turned}
use Rattle.cube_tree.proofs.solo_calls.give_back.Goals as goal

pub give_back-requires-clause-phase : goal.give_back-requires-clause-phase
give_back-requires-clause-phase c = (brought c.args.station (Holding c.args.node.0) _ _ c.requires.all c.requires.there c.requires.holds c.turn.ensures.turns).0.at

pub give_back-requires-clause-station : goal.give_back-requires-clause-station
give_back-requires-clause-station c = (brought c.args.station (Holding c.args.node.0) _ _ c.requires.all c.requires.there c.requires.holds c.turn.ensures.turns).0.number

pub returns-clause-moved : goal.returns-clause-moved
returns-clause-moved c = subst (IsMoved c.args.station Idle c.args.seat.now.me) (sym c.read_path.ensures.same)
    (walked c.turn.new.seat.me (Leaving c.args.node.0) (brought c.args.station (Holding c.args.node.0) _ _ c.requires.all c.requires.there c.requires.holds c.turn.ensures.turns).0 c.give_back.ensures.walks c.give_back.ensures.phase)

pub returns-clause-told : goal.returns-clause-told
returns-clause-told c =
    let front = brought c.args.station (Holding c.args.node.0) _ _ c.requires.all c.requires.there c.requires.holds c.turn.ensures.turns in
    told_read (Leaving c.args.node.0) (told_turned c.requires.told c.turn.ensures.turns) front.1 front.0.at c.give_back.ensures.walks c.give_back.ensures.phase tt
    (only_holds c.args.node.0) (idle_holds c.args.node.0) refl c.read_path.ensures.same (ap (λ (size : Size). size.dim) c.read_path.ensures.size)
    c.read_path.ensures.path c.read_path.ensures.others
