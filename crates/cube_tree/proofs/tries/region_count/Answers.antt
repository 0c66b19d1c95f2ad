use Rattle.std.proofs.Common.{ℕ, ◌-◌, ◌^◌, ◌≤◌, sym, ap, subst, arith}
use Rattle.std.proofs.lemmas.Nat.{one_shl}
use Rattle.std.proofs.Math.Pow.{pow_mono}
use Rattle.cube_shape.specs.declared.limits.TheConstants.{MAX_DIM}
use Rattle.tree_steps.specs.declared.view.Size.{Size}
use Rattle.cube_tree.proofs.tries.region_count.Goals as goal

pub returns-clause-limit : goal.returns-clause-limit
returns-clause-limit c =
    let dims = ap (λ (size : Size). size.dim) c.size.ensures in
    let limit = c.args.tree.now.dim_in_limits in
    subst (λ x. x ≤ 2 ^ MAX_DIM) (sym (one_shl (c.size.result.dim - c.args.k) 64 (omega (arith, dims, limit)))) (pow_mono (few (c.size.result.dim) c.args.k (omega (arith, dims, limit))))
  where
    few : (d k : ℕ) → d ≤ MAX_DIM → d - k ≤ MAX_DIM
    few d k le = omega arith
