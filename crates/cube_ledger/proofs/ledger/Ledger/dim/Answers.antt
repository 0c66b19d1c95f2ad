use Rattle.std.proofs.Common.{◌<◌, All, ne_eqb, sym, subst, arith, rules}
use Rattle.cube_shape.specs.declared.limits.TheConstants.{MAX_DIM}
use Rattle.cube_ledger.specs.Ledger.{is_of_dim}
use Rattle.cube_ledger.specs.Inner.Tables.{HasSmallDim}
use Rattle.cube_ledger.proofs.TableLemmas.{none_passes}
use Rattle.cube_ledger.proofs.ledger.Ledger.dim.Goals as goal

pub returns-in-None : goal.returns-in-None
returns-in-None c =
    let above : MAX_DIM < c.args.dim = search rules in
    let small : All HasSmallDim c.args.self.now = subst (All HasSmallDim) c.self.view_is c.self.invariant.small in
    sym (none_passes (is_of_dim c.args.dim) c.args.self.now (λ k d lt. ne_eqb _ c.args.dim (λ same. omega (arith, same, above, small k d lt))))
