-- A node of the machine has a word.
use Rattle.std.proofs.Common.{arith}
use Rattle.cube_core.proofs.WorldLemmas.{word_there, word_read, IsWorld-of}
use Rattle.cube_core.proofs.world.World.word.Goals as goal

pub index-requires : goal.index-requires
index-requires c =
    let below = word_there c.self.inside.dim c.self.inside.words.items c.self.inside.phases.items c.args.self.now c.args.node c.self.view_is (IsWorld-of c.self.view_is c.self.invariant) c.requires in
    omega (arith, below, c.self.inside.words.ok.0)

pub returns : goal.returns
returns c =
    word_read c.self.inside.dim c.self.inside.words.items c.self.inside.phases.items c.args.self.now c.args.node c.index.result.now c.self.view_is
    (word_there c.self.inside.dim c.self.inside.words.items c.self.inside.phases.items c.args.self.now c.args.node c.self.view_is (IsWorld-of c.self.view_is c.self.invariant) c.requires) c.index.ensures
