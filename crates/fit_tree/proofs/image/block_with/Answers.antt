-- The nodes on the way up are those of the blocks that have the processor.
use Rattle.std.proofs.Common.{◌≡◌, ◌*◌, ◌%◌, ◌^◌, arith}
use Rattle.std.proofs.lemmas.Nat.{one_shl}
use Rattle.cube_shape.proofs.RegionLemmas.{IsNodeOf-aligned}
use Rattle.fit_tree.specs.Fit.{held_in}
use Rattle.fit_tree.specs.Image.{fit_in}
use Rattle.fit_tree.proofs.NodeLemmas.{IsNode-in_cube}
use Rattle.fit_tree.proofs.BlockLemmas.{IsPassed-begin, IsPassed-covers, IsPassed-free, IsPassed-step}
use Rattle.fit_tree.proofs.ImageLemmas.{Represents-in, held_at}
use Rattle.fit_tree.proofs.image.block_with.Goals as goal

pub loop-dim-init : goal.loop-dim-init
loop-dim-init c =
    let all : 1 * 2 ^ c.args.n % 2 ^ 64 ≡ 2 ^ c.args.n = one_shl c.args.n 64 (omega (arith, c.requires.machine)) in
    IsPassed-begin c.args.n c.args.rooms.now c.args.processor _ c.requires.processor (omega (arith, all))

pub bounds-rooms-node : goal.bounds-rooms-node
bounds-rooms-node c =
    let inv = c.loop-dim.invariant in
    let node = inv.node (omega arith) in
    omega (arith, (IsNode-in_cube c.args.n c.loop-dim.dim c.loop-dim.node node).1, c.requires.rooms)

pub returns-then-rooms-node-eq0-clause-aligned : goal.returns-then-rooms-node-eq0-clause-aligned
returns-then-rooms-node-eq0-clause-aligned c = IsNodeOf-aligned c.args.n c.loop-dim.node c.block_of.result c.block_of.ensures.named

pub returns-then-rooms-node-eq0-clause-covers : goal.returns-then-rooms-node-eq0-clause-covers
returns-then-rooms-node-eq0-clause-covers c =
    IsPassed-covers c.args.n c.args.rooms.now c.args.processor c.loop-dim.dim c.loop-dim.node c.block_of.result c.loop-dim.invariant (omega arith) c.requires.processor c.block_of.ensures.named

pub returns-then-rooms-node-eq0-clause-held : goal.returns-then-rooms-node-eq0-clause-held
returns-then-rooms-node-eq0-clause-held c = λ head image.
    let represents = Represents-in c.args.n c.args.rooms.now image.sound in
    held_at c.args.n c.args.rooms.now c.block_of.result (represents.each_is_held c.loop-dim.node c.block_of.result c.block_of.ensures.named (omega arith))

pub loop-dim-preserved : goal.loop-dim-preserved
loop-dim-preserved c =
    IsPassed-step c.args.n c.args.rooms.now c.args.processor c.loop-dim.dim c.loop-dim.node c.loop-dim.invariant (omega arith) (λ taken. omega (arith, taken))

pub returns-clause-free : goal.returns-clause-free
returns-clause-free c = λ head image s a is covers.
    IsPassed-free c.args.n c.args.rooms.now c.args.processor c.loop-dim.dim c.loop-dim.node (held_in (fit_in c.args.n c.args.rooms.now)) s a c.loop-dim.invariant (omega arith) c.requires.processor (Represents-in c.args.n c.args.rooms.now image.sound) is covers
