-- Each level has the halves of the free blocks above it, and its own maximal ones.
use Rattle.std.proofs.Common.{◌≡◌, ◌+◌, ◌-◌, ◌^◌, suc, sym, subst, ap, ◌∙◌, arith}
use Rattle.cube_shape.specs.Region.{block}
use Rattle.cube_shape.specs.Machine.{IsFree}
use Rattle.alloc_bits.specs.Count.{IsCount}
use Rattle.fit_tree.specs.Fit.{held_in}
use Rattle.fit_tree.specs.Image.{fit_in}
use Rattle.fit_tree.proofs.FreeLemmas.{free_counted, open_count, open_small}
use Rattle.fit_tree.proofs.ImageLemmas.{Represents-in}
use Rattle.fit_tree.proofs.image.free_blocks.Goals as goal

pub loop-above-preserved : goal.loop-above-preserved
loop-above-preserved c = λ rooms image.
    let next : suc c.loop-above.above ≡ c.loop-above.above + 1 = omega arith in
    let small = open_small c.args.n c.args.head.now.maximal rooms image.sound image.counted c.loop-above.above (omega arith) c.requires.machine in
    let moved : open_count c.args.n c.args.head.now.maximal (suc c.loop-above.above) ≡ open_count c.args.n c.args.head.now.maximal (c.loop-above.above + 1) = ap (open_count c.args.n c.args.head.now.maximal) next in
    omega (arith, c.loop-above.invariant rooms image, small, moved)

pub returns : goal.returns
returns c = λ rooms image.
    let all : suc (c.args.n - c.args.k) ≡ c.loop-above.above = omega arith in
    let is : open_count c.args.n c.args.head.now.maximal (suc (c.args.n - c.args.k)) ≡ c.loop-above.count =
    ap (open_count c.args.n c.args.head.now.maximal) all ∙ sym (c.loop-above.invariant rooms image) in
    subst (IsCount (λ m. IsFree (held_in (fit_in c.args.n rooms)) (block c.args.k m)) (2 ^ (c.args.n - c.args.k))) is
    (free_counted c.args.n c.args.head.now.maximal rooms image.sound image.counted c.args.k (held_in (fit_in c.args.n rooms)) (Represents-in c.args.n rooms image.sound) c.requires.dim)
