-- The nodes and words of each phase are those that the invariant keeps.
use Rattle.std.proofs.Common.{sym, ◌∙◌, refl}
use Rattle.cube_core.specs.declared.phase.Phase.TheVariants.{Looking, Looked, Climbing, Swept, Leaving, Backing, Arriving, Unmarked, Marked}
use Rattle.cube_core.specs.Schedule.{word_of}
use Rattle.cube_core.proofs.ScheduleLemmas.{below_inner}
use Rattle.cube_core.proofs.WorldLemmas.{phase_fit, node_in_words, station_in_limits, inner_in_limits, arm_makes, IsWorld-of}
use Rattle.cube_core.proofs.world.World.effect.Goals as goal

pub word-requires : goal.word-requires
word-requires c = node_in_words c.args.self.now c.args.station (IsWorld-of c.self.view_is c.self.invariant) _ (sym c.in-Looking.is ∙ c.requires.phase)

pub word-requires-in-Looked : goal.word-requires-in-Looked
word-requires-in-Looked c = node_in_words c.args.self.now c.args.station (IsWorld-of c.self.view_is c.self.invariant) _ (sym c.in-Looked.is ∙ c.requires.phase)

pub word-requires-in-Climbing : goal.word-requires-in-Climbing
word-requires-in-Climbing c = node_in_words c.args.self.now c.args.station (IsWorld-of c.self.view_is c.self.invariant) _ (sym c.in-Climbing.is ∙ c.requires.phase)

pub word-requires-in-Swept : goal.word-requires-in-Swept
word-requires-in-Swept c = node_in_words c.args.self.now c.args.station (IsWorld-of c.self.view_is c.self.invariant) _ (sym c.in-Swept.is ∙ c.requires.phase)

pub claim-effect-requires : goal.claim-effect-requires
claim-effect-requires c = (phase_fit c.args.self.now c.args.station (IsWorld-of c.self.view_is c.self.invariant) _ (sym c.in-Looked.is ∙ c.requires.phase)).0.0

pub raise-effect-requires-clause-above : goal.raise-effect-requires-clause-above
raise-effect-requires-clause-above c = (phase_fit c.args.self.now c.args.station (IsWorld-of c.self.view_is c.self.invariant) _ (sym c.in-Swept.is ∙ c.requires.phase)).1

pub raise-effect-requires-clause-on_path : goal.raise-effect-requires-clause-on_path
raise-effect-requires-clause-on_path c = (phase_fit c.args.self.now c.args.station (IsWorld-of c.self.view_is c.self.invariant) _ (sym c.in-Swept.is ∙ c.requires.phase)).2

pub zero-effect-requires : goal.zero-effect-requires
zero-effect-requires c = (phase_fit c.args.self.now c.args.station (IsWorld-of c.self.view_is c.self.invariant) _ (sym c.in-Leaving.is ∙ c.requires.phase)).0

pub zero-effect-requires-in-Backing : goal.zero-effect-requires-in-Backing
zero-effect-requires-in-Backing c = (phase_fit c.args.self.now c.args.station (IsWorld-of c.self.view_is c.self.invariant) _ (sym c.in-Backing.is ∙ c.requires.phase)).0

pub returns-in-Looking-clause-effect : goal.returns-in-Looking-clause-effect
returns-in-Looking-clause-effect c =
    arm_makes c.args.station (Looking c.in-Looking.node) c.args.phase c.args.self.now c.word.result c.look-effect.result c.in-Looking.is c.word.ensures c.look-effect.ensures

pub returns-in-Looked-clause-effect : goal.returns-in-Looked-clause-effect
returns-in-Looked-clause-effect c =
    arm_makes c.args.station (Looked c.in-Looked.node c.in-Looked.word) c.args.phase c.args.self.now c.word-in-Looked.result c.claim-effect.result c.in-Looked.is c.word-in-Looked.ensures c.claim-effect.ensures

pub returns-in-Climbing-clause-effect : goal.returns-in-Climbing-clause-effect
returns-in-Climbing-clause-effect c =
    arm_makes c.args.station (Climbing c.in-Climbing.node c.in-Climbing.at) c.args.phase c.args.self.now c.word-in-Climbing.result c.sweep-effect.result c.in-Climbing.is c.word-in-Climbing.ensures c.sweep-effect.ensures

pub returns-in-Swept-clause-effect : goal.returns-in-Swept-clause-effect
returns-in-Swept-clause-effect c =
    arm_makes c.args.station (Swept c.in-Swept.node c.in-Swept.at) c.args.phase c.args.self.now c.word-in-Swept.result c.raise-effect.result c.in-Swept.is c.word-in-Swept.ensures c.raise-effect.ensures

pub returns-in-Leaving-clause-effect : goal.returns-in-Leaving-clause-effect
returns-in-Leaving-clause-effect c =
    arm_makes c.args.station (Leaving c.in-Leaving.node) c.args.phase c.args.self.now (word_of c.args.self.now c.in-Leaving.node) c.zero-effect.result c.in-Leaving.is refl (c.zero-effect.ensures (word_of c.args.self.now c.in-Leaving.node))

pub returns-in-Backing-clause-effect : goal.returns-in-Backing-clause-effect
returns-in-Backing-clause-effect c =
    arm_makes c.args.station (Backing c.in-Backing.node c.in-Backing.at) c.args.phase c.args.self.now (word_of c.args.self.now c.in-Backing.node) c.zero-effect-in-Backing.result c.in-Backing.is refl (c.zero-effect-in-Backing.ensures (word_of c.args.self.now c.in-Backing.node))

pub word-requires-in-Arriving : goal.word-requires-in-Arriving
word-requires-in-Arriving c = node_in_words c.args.self.now c.args.station (IsWorld-of c.self.view_is c.self.invariant) _ (sym c.in-Arriving.is ∙ c.requires.phase)

pub word-requires-in-Unmarked : goal.word-requires-in-Unmarked
word-requires-in-Unmarked c = node_in_words c.args.self.now c.args.station (IsWorld-of c.self.view_is c.self.invariant) _ (sym c.in-Unmarked.is ∙ c.requires.phase)

pub mark-effect-requires : goal.mark-effect-requires
mark-effect-requires c = station_in_limits c.args.station c.args.self.now (IsWorld-of c.self.view_is c.self.invariant) c.requires.there

pub returns-in-Arriving-clause-effect : goal.returns-in-Arriving-clause-effect
returns-in-Arriving-clause-effect c =
    arm_makes c.args.station (Arriving c.in-Arriving.at) c.args.phase c.args.self.now c.word-in-Arriving.result c.unmark-effect.result c.in-Arriving.is c.word-in-Arriving.ensures c.unmark-effect.ensures

pub returns-in-Unmarked-clause-effect : goal.returns-in-Unmarked-clause-effect
returns-in-Unmarked-clause-effect c =
    arm_makes c.args.station (Unmarked c.in-Unmarked.at) c.args.phase c.args.self.now c.word-in-Unmarked.result c.mark-effect.result c.in-Unmarked.is c.word-in-Unmarked.ensures c.mark-effect.ensures

pub marked-effect-requires-clause-node : goal.marked-effect-requires-clause-node
marked-effect-requires-clause-node c = (phase_fit c.args.self.now c.args.station (IsWorld-of c.self.view_is c.self.invariant) _ (sym c.in-Marked.is ∙ c.requires.phase)).0

pub marked-effect-requires-clause-limit : goal.marked-effect-requires-clause-limit
marked-effect-requires-clause-limit c =
    let world = IsWorld-of c.self.view_is c.self.invariant in
    inner_in_limits c.in-Marked.at c.args.self.now world (phase_fit c.args.self.now c.args.station world _ (sym c.in-Marked.is ∙ c.requires.phase))

pub marked-effect-requires-clause-inner : goal.marked-effect-requires-clause-inner
marked-effect-requires-clause-inner c =
    below_inner c.args.self.now.dim c.in-Marked.at (phase_fit c.args.self.now c.args.station (IsWorld-of c.self.view_is c.self.invariant) _ (sym c.in-Marked.is ∙ c.requires.phase))

pub returns-in-Marked-clause-effect : goal.returns-in-Marked-clause-effect
returns-in-Marked-clause-effect c =
    arm_makes c.args.station (Marked c.in-Marked.at c.in-Marked.word c.in-Marked.left c.in-Marked.right) c.args.phase c.args.self.now _ c.marked-effect.result c.in-Marked.is refl c.marked-effect.ensures
