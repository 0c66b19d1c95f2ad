use Rattle.cube_core.specs.declared.phase.Phase.TheVariants.{Looking}
use Rattle.std.proofs.Common.{◌∙◌}
use Rattle.tree_steps.proofs.EventLemmas.{walks_on}
use Rattle.tree_steps.proofs.WalkLemmas.{station_of_begun, answered_begun, answered_after}
use Rattle.tree_steps.proofs.AloneLemmas.{alone_begun, others_begun, under_blocked}
use Rattle.tree_steps.specs.Alone.{IsBlocked, HasHolder}
use Rattle.tree_steps.proofs.tree.Tree.take.Goals as goal

pub returns-then-not-claim-clause-walks : goal.returns-then-not-claim-clause-walks
returns-then-not-claim-clause-walks c = walks_on c.look.ensures.walks c.claim.ensures.walks

pub returns-then-not-claim-clause-refused : goal.returns-then-not-claim-clause-refused
returns-then-not-claim-clause-refused c = answered_begun (Looking c.args.node.0) c.args.seat.now.me c.look.ensures.walks c.if-not-claim.ensures.refused

pub returns-in_default-mark_path-clause-walks : goal.returns-in_default-mark_path-clause-walks
returns-in_default-mark_path-clause-walks c = walks_on (walks_on c.look.ensures.walks c.claim.ensures.walks) c.mark_path.ensures.walks

pub roll_back-requires-clause-station : goal.roll_back-requires-clause-station
roll_back-requires-clause-station c = station_of_begun (Looking c.args.node.0) c.args.seat.now.me (walks_on (walks_on c.look.ensures.walks c.claim.ensures.walks) c.mark_path.ensures.walks) ∙ c.requires.station

pub returns-clause-walks : goal.returns-clause-walks
returns-clause-walks c = walks_on (walks_on (walks_on c.look.ensures.walks c.claim.ensures.walks) c.mark_path.ensures.walks) c.roll_back.ensures.walks

pub returns-clause-refused : goal.returns-clause-refused
returns-clause-refused c = answered_begun (Looking c.args.node.0) c.args.seat.now.me (walks_on c.look.ensures.walks c.claim.ensures.walks) (answered_after c.in-Some-mark_path.ensures.refused c.roll_back.ensures.walks)

pub returns-then-not-claim-clause-exact : goal.returns-then-not-claim-clause-exact
returns-then-not-claim-clause-exact c = λ alone. others_begun (IsBlocked c.args.node.0) (Looking c.args.node.0) c.args.seat.now.me c.look.ensures.walks
    (c.if-not-claim.ensures.exact (alone_begun (Looking c.args.node.0) c.args.seat.now.me c.look.ensures.walks alone) (c.in-Some.ensures.exact alone))

pub returns-clause-exact : goal.returns-clause-exact
returns-clause-exact c = λ alone. let walks = walks_on c.look.ensures.walks c.claim.ensures.walks in
    others_begun (IsBlocked c.args.node.0) (Looking c.args.node.0) c.args.seat.now.me walks
    (under_blocked c.in-Some-mark_path.at.0 c.args.node.0 _ c.in-Some-mark_path.ensures.names.0 (c.in-Some-mark_path.ensures.holder (alone_begun (Looking c.args.node.0) c.args.seat.now.me walks alone)))

pub returns-clause-holder : goal.returns-clause-holder
returns-clause-holder c = λ alone. let walks = walks_on c.look.ensures.walks c.claim.ensures.walks in
    others_begun (HasHolder c.in-Some-mark_path.at.0) (Looking c.args.node.0) c.args.seat.now.me walks (c.in-Some-mark_path.ensures.holder (alone_begun (Looking c.args.node.0) c.args.seat.now.me walks alone))
