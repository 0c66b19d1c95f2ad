-- The event's node has a word, and the state becomes what the act makes of it.
use Rattle.std.proofs.Common.{arith}
use Rattle.cube_core.specs.declared.act.Act.TheVariants.{Step}
use Rattle.cube_core.proofs.WorldLemmas.{node_in_words, word_there, step_accepted, apply_event_by, step_count, others_same, event_told_by, IsWorld-lawful, IsWorld-apply, IsWorld-of}
use Rattle.cube_core.proofs.world.World.step.Goals as goal

pub index_mut-requires : goal.index_mut-requires
index_mut-requires c =
    let world = IsWorld-of c.self.view_is c.self.invariant in
    let below = word_there c.self.inside.dim c.self.inside.words.items c.self.inside.phases.items c.args.self.now _ c.self.view_is world (node_in_words c.args.self.now c.args.station world _ c.in_ok-phase.ensures.found.0) in
    omega (arith, below, c.self.inside.words.ok.0, c.in-Some.ensures.effect.node)

pub invariant_of-self : goal.invariant_of-self
invariant_of-self c =
    let none = step_accepted c.args.station c.in_ok-phase.phase c.args.self.now c.in_ok-phase.ensures.found.1 c.in_ok-phase.ensures.found.0 c.in-Some.ensures.moves in
    IsWorld-apply (Step c.args.station) c.args.self.now _ (IsWorld-of c.self.view_is c.self.invariant)
    (apply_event_by c.args.station c.in_ok-phase.phase c.self.inside.dim c.self.inside.words.items c.self.inside.phases.items c.args.self.now c.in-Some.effect c.self.view_is none c.in_ok-phase.ensures.found.0 c.in-Some.ensures.effect)

pub returns-clause-world : goal.returns-clause-world
returns-clause-world c =
    let none = step_accepted c.args.station c.in_ok-phase.phase c.args.self.now c.in_ok-phase.ensures.found.1 c.in_ok-phase.ensures.found.0 c.in-Some.ensures.moves in
    apply_event_by c.args.station c.in_ok-phase.phase c.self.inside.dim c.self.inside.words.items c.self.inside.phases.items c.args.self.now c.in-Some.effect c.self.view_is none c.in_ok-phase.ensures.found.0 c.in-Some.ensures.effect

pub returns-in_err-phase-clause-lawful : goal.returns-in_err-phase-clause-lawful
returns-in_err-phase-clause-lawful c = IsWorld-lawful c.args.self.now (IsWorld-of c.self.view_is c.self.invariant)

pub returns-in_default-clause-lawful : goal.returns-in_default-clause-lawful
returns-in_default-clause-lawful c = IsWorld-lawful c.args.self.now (IsWorld-of c.self.view_is c.self.invariant)

pub returns-clause-lawful : goal.returns-clause-lawful
returns-clause-lawful c =
    let none = step_accepted c.args.station c.in_ok-phase.phase c.args.self.now c.in_ok-phase.ensures.found.1 c.in_ok-phase.ensures.found.0 c.in-Some.ensures.moves in
    IsWorld-lawful _ (IsWorld-apply (Step c.args.station) c.args.self.now _ (IsWorld-of c.self.view_is c.self.invariant)
    (apply_event_by c.args.station c.in_ok-phase.phase c.self.inside.dim c.self.inside.words.items c.self.inside.phases.items c.args.self.now c.in-Some.effect c.self.view_is none c.in_ok-phase.ensures.found.0 c.in-Some.ensures.effect))

pub returns-clause-count : goal.returns-clause-count
returns-clause-count c =
    let none = step_accepted c.args.station c.in_ok-phase.phase c.args.self.now c.in_ok-phase.ensures.found.1 c.in_ok-phase.ensures.found.0 c.in-Some.ensures.moves in
    step_count c.args.station c.args.self.now _ (IsWorld-of c.self.view_is c.self.invariant) none
    (apply_event_by c.args.station c.in_ok-phase.phase c.self.inside.dim c.self.inside.words.items c.self.inside.phases.items c.args.self.now c.in-Some.effect c.self.view_is none c.in_ok-phase.ensures.found.0 c.in-Some.ensures.effect)

pub returns-clause-others : goal.returns-clause-others
returns-clause-others c =
    let none = step_accepted c.args.station c.in_ok-phase.phase c.args.self.now c.in_ok-phase.ensures.found.1 c.in_ok-phase.ensures.found.0 c.in-Some.ensures.moves in
    others_same (Step c.args.station) c.args.self.now _ (IsWorld-of c.self.view_is c.self.invariant)
    (apply_event_by c.args.station c.in_ok-phase.phase c.self.inside.dim c.self.inside.words.items c.self.inside.phases.items c.args.self.now c.in-Some.effect c.self.view_is none c.in_ok-phase.ensures.found.0 c.in-Some.ensures.effect)

pub returns-clause-cause : goal.returns-clause-cause
returns-clause-cause c =
    let none = step_accepted c.args.station c.in_ok-phase.phase c.args.self.now c.in_ok-phase.ensures.found.1 c.in_ok-phase.ensures.found.0 c.in-Some.ensures.moves in
    (IsWorld-lawful c.args.self.now (IsWorld-of c.self.view_is c.self.invariant)).caused c.args.station _ none
    (event_told_by c.args.station c.in_ok-phase.phase c.args.self.now c.in-Some.effect c.in_ok-phase.ensures.found.1 none c.in_ok-phase.ensures.found.0 c.in-Some.ensures.effect)
