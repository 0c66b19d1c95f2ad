-- A processor is held if it is not free.
use Rattle.std.proofs.Common.{◌≡◌, ◌+◌, ◌-◌, ◌*◌, ◌%◌, ◌^◌, ◌≤◌, subst, ap, arith}
use Rattle.std.proofs.Math.Pow.{pow_mono}
use Rattle.cube_shape.specs.declared.limits.TheConstants.{MAX_BITMAP_DIM}
use Rattle.cube_shape.specs.Region.{block}
use Rattle.cube_shape.specs.Falling.{IsHeld}
use Rattle.cube_shape.specs.Machine.{IsFree}
use Rattle.alloc_bits.specs.Count.{IsCount}
use Rattle.fit_tree.specs.Fit.{held_in}
use Rattle.fit_tree.specs.Image.{fit_in}
use Rattle.fit_tree.proofs.CountLemmas.{count_bound}
use Rattle.fit_tree.proofs.FreeLemmas.{held_counted}
use Rattle.fit_tree.proofs.ImageLemmas.{Represents-in}
use Rattle.fit_tree.proofs.image.held_processors.Goals as goal

pub returns : goal.returns
returns c = λ rooms image.
    let n = c.args.n in
    let held = held_in (fit_in n rooms) in
    let free = c.free_blocks.result in
    let counted = c.free_blocks.ensures rooms image in
    let below : 2 ^ n ≤ 2 ^ MAX_BITMAP_DIM = pow_mono {j = MAX_BITMAP_DIM} c.requires in
    let all : 2 ^ (n - 0) ≡ 2 ^ n = let none : n - 0 ≡ n = omega arith in ap (λ i. 2 ^ i) none in
    let most = count_bound (λ m. IsFree held (block 0 m)) (2 ^ (n - 0)) free counted in
    let is : 2 ^ n - free ≡ (1 * 2 ^ n % 2 ^ 32 + (2 ^ 32 - free)) % 2 ^ 32 = omega (arith, below, all, most) in
    subst (IsCount (IsHeld held) (2 ^ n)) is (held_counted n rooms held free (Represents-in n rooms image.sound) counted)
