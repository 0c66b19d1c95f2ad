-- What contracts see of the blocks of a scheduler.
use Rattle.std.specs.Prelude.{◌≡◌, ℕ, ◌+◌, ◌^◌, ◌≤◌, List, length, refl}
use Rattle.std.specs.Coded.{Coded, code_by, coded×, coded_list, coded_ℕ}
use Rattle.cube_shape.specs.declared.limits.TheConstants.{MAX_BITMAP_DIM}
use Rattle.fit_tree.specs.Fit.{Fit}
use Rattle.fit_tree.specs.InnerFit.{fit_code}

-- The dimension of the machine, the blocks in use, those of them that are out of service, and the
-- entries of the two trees.
pub record Layout : Type 0 where
  pub dim : ℕ
  pub used : Fit
  pub out : Fit
  pub ends : List ℕ
  pub busy : List ℕ

-- All parts are of one dimension, which is within the limits.
pub record IsShaped (b : Layout) : Type 0 where
  pub limit : b.dim ≤ MAX_BITMAP_DIM
  pub used_dim : b.used.dim ≡ b.dim
  pub out_dim : b.out.dim ≡ b.dim
  pub ends_len : length b.ends ≡ 2 ^ (b.dim + 1)
  pub busy_len : length b.busy ≡ 2 ^ (b.dim + 1)

-- The storage of a layout as its parts.
abbrev pub layout_code : Coded Layout
layout_code =
    code_by (ℕ × (Fit × (Fit × (List ℕ × List ℕ))))
    (coded× coded_ℕ (coded× fit_code (coded× fit_code (coded× (coded_list coded_ℕ) (coded_list coded_ℕ)))))
    (λ a. (a.dim, (a.used, (a.out, (a.ends, a.busy)))))
    (λ p. record { dim = p.0; used = p.1.0; out = p.1.1.0; ends = p.1.1.1.0; busy = p.1.1.1.1 })
    (λ _. refl)
