use Rattle.std.proofs.Common.{◌^◌, ◌≤◌, subst, sym, arith}
use Rattle.std.proofs.Math.Nat.{pow-le-pow_right}
use Rattle.std.proofs.lemmas.Nat.{one_shl}
use Rattle.cube_shape.specs.declared.limits.TheConstants.{MAX_DIM}
use Rattle.cube_ledger.proofs.ledger.processors.Goals as goal

pub returns-clause-value : goal.returns-clause-value
returns-clause-value c = one_shl c.args.slip.now.region.dim 128 (omega (arith, c.requires))

pub returns-clause-small : goal.returns-clause-small
returns-clause-small c =
    let dim = c.args.slip.now.region.dim in
    let small : 2 ^ dim ≤ 2 ^ MAX_DIM = pow-le-pow_right (omega arith) c.requires in
    subst (λ processors. processors ≤ 2 ^ MAX_DIM) (sym (one_shl dim 128 (omega (arith, c.requires)))) small
