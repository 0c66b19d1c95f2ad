-- The state becomes what the act makes of it, since the act is not refused.
use Rattle.std.proofs.Common.{sym, ◌∙◌, ap}
use Rattle.cube_core.specs.declared.phase.Phase.TheVariants.{Leaving}
use Rattle.cube_core.specs.declared.act.Act.TheVariants.{Release}
use Rattle.cube_core.specs.Phase.{owned}
use Rattle.cube_core.specs.Schedule.{apply_begin}
use Rattle.cube_core.proofs.WorldLemmas.{release_accepted, apply_begin_by, release_count, IsWorld-apply, IsWorld-lawful, IsWorld-of}
use Rattle.cube_core.proofs.world.World.begin_release.Goals as goal

pub invariant_of-self : goal.invariant_of-self
invariant_of-self c =
    let holds = sym c.in-Holding.is ∙ c.in_ok-node.ensures.found.0 in
    let none = release_accepted c.args.station c.in-Holding.node c.args.self.now c.in_ok-node.ensures.found.1 holds in
    IsWorld-apply (Release c.args.station) c.args.self.now _ (IsWorld-of c.self.view_is c.self.invariant)
    (apply_begin_by (Release c.args.station) c.args.station (Leaving c.in-Holding.node) c.self.inside.dim c.self.inside.words.items c.self.inside.phases.items c.args.self.now c.self.view_is none
    (ap (λ p. apply_begin c.args.station (Leaving (owned p)) c.args.self.now) (sym holds)))

pub returns-clause-world : goal.returns-clause-world
returns-clause-world c =
    let holds = sym c.in-Holding.is ∙ c.in_ok-node.ensures.found.0 in
    let none = release_accepted c.args.station c.in-Holding.node c.args.self.now c.in_ok-node.ensures.found.1 holds in
    apply_begin_by (Release c.args.station) c.args.station (Leaving c.in-Holding.node) c.self.inside.dim c.self.inside.words.items c.self.inside.phases.items c.args.self.now c.self.view_is none
    (ap (λ p. apply_begin c.args.station (Leaving (owned p)) c.args.self.now) (sym holds))

pub returns-clause-count : goal.returns-clause-count
returns-clause-count c =
    let holds = sym c.in-Holding.is ∙ c.in_ok-node.ensures.found.0 in
    let none = release_accepted c.args.station c.in-Holding.node c.args.self.now c.in_ok-node.ensures.found.1 holds in
    release_count c.args.station c.args.self.now _ (IsWorld-of c.self.view_is c.self.invariant) none
    (apply_begin_by (Release c.args.station) c.args.station (Leaving c.in-Holding.node) c.self.inside.dim c.self.inside.words.items c.self.inside.phases.items c.args.self.now c.self.view_is none
    (ap (λ p. apply_begin c.args.station (Leaving (owned p)) c.args.self.now) (sym holds)))

pub returns-in_err-node-clause-lawful : goal.returns-in_err-node-clause-lawful
returns-in_err-node-clause-lawful c = IsWorld-lawful c.args.self.now (IsWorld-of c.self.view_is c.self.invariant)

pub returns-in_default-clause-lawful : goal.returns-in_default-clause-lawful
returns-in_default-clause-lawful c = IsWorld-lawful c.args.self.now (IsWorld-of c.self.view_is c.self.invariant)

pub returns-clause-lawful : goal.returns-clause-lawful
returns-clause-lawful c =
    let holds = sym c.in-Holding.is ∙ c.in_ok-node.ensures.found.0 in
    let none = release_accepted c.args.station c.in-Holding.node c.args.self.now c.in_ok-node.ensures.found.1 holds in
    IsWorld-lawful _ (IsWorld-apply (Release c.args.station) c.args.self.now _ (IsWorld-of c.self.view_is c.self.invariant)
    (apply_begin_by (Release c.args.station) c.args.station (Leaving c.in-Holding.node) c.self.inside.dim c.self.inside.words.items c.self.inside.phases.items c.args.self.now c.self.view_is none
    (ap (λ p. apply_begin c.args.station (Leaving (owned p)) c.args.self.now) (sym holds))))
