use Rattle.std.proofs.Common.{◌≡◌, ◌+◌, ◌<◌, All, sym, ap, subst, ◌∙◌, arith}
use Rattle.cube_shape.specs.declared.limits.TheConstants.{MAX_DIM}
use Rattle.cube_ledger.specs.Ledger.{is_any, processors_of, totals_of}
use Rattle.cube_ledger.specs.Inner.Tables.{HasSmallDim}
use Rattle.cube_ledger.proofs.TotalLemmas.{sums_by_number}
use Rattle.cube_ledger.proofs.ledger.Ledger.total.Goals as goal

pub returns-clause-value : goal.returns-clause-value
returns-clause-value c = c.self.invariant.in_all ∙ ap (totals_of is_any) c.self.view_is

pub returns-clause-lanes_sum : goal.returns-clause-lanes_sum
returns-clause-lanes_sum c =
    let whole : c.self.inside.total ≡ totals_of is_any c.args.self.now = c.self.invariant.in_all ∙ ap (totals_of is_any) c.self.view_is in
    λ lanes within. (
      sums_by_number (λ s. s.id.lane) (λ _. 1) lanes c.args.self.now within ∙ sym (ap (λ t. t.jobs) whole),
      sums_by_number (λ s. s.id.lane) processors_of lanes c.args.self.now within ∙ sym (ap (λ t. t.processors) whole),
      sums_by_number (λ s. s.id.lane) (λ s. s.idle) lanes c.args.self.now within ∙ sym (ap (λ t. t.idle) whole),
    )

pub returns-clause-dims_sum : goal.returns-clause-dims_sum
returns-clause-dims_sum c =
    let whole : c.self.inside.total ≡ totals_of is_any c.args.self.now = c.self.invariant.in_all ∙ ap (totals_of is_any) c.self.view_is in
    let small : All HasSmallDim c.args.self.now = subst (All HasSmallDim) c.self.view_is c.self.invariant.small in
    let within : All (λ s. s.region.dim < MAX_DIM + 1) c.args.self.now = λ k d lt. omega (arith, small k d lt) in (
      sums_by_number (λ s. s.region.dim) (λ _. 1) (MAX_DIM + 1) c.args.self.now within ∙ sym (ap (λ t. t.jobs) whole),
      sums_by_number (λ s. s.region.dim) processors_of (MAX_DIM + 1) c.args.self.now within ∙ sym (ap (λ t. t.processors) whole),
      sums_by_number (λ s. s.region.dim) (λ s. s.idle) (MAX_DIM + 1) c.args.self.now within ∙ sym (ap (λ t. t.idle) whole),
    )
