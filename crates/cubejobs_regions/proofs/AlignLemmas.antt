-- Which blocks are aligned.
use Rattle.std.proofs.Common.{◌≡◌, ℕ, suc, mul-le-mul_right, suc-mul, ◌+◌, ◌%◌, ◌*◌, ◌/◌, ◌-◌, ◌^◌, ◌<◌, ◌≤◌, ap, sym, subst, ◌∙◌, arith}
use Rattle.std.proofs.Math.Nat.{mod-eq_of_lt, mul-div_left}
use Rattle.std.proofs.Math.Pow.{pow_mono}
use Rattle.bitmap_tree.proofs.LayoutLemmas.{split_at}
use Rattle.cube_shape.specs.declared.limits.TheConstants.{MAX_BITMAP_DIM}
use Rattle.std.proofs.lemmas.Nat.{pow_pos}
use Rattle.cube_shape.specs.declared.region.Region.{Region}
use Rattle.cube_shape.specs.Region.{IsAligned}

pub is_aligned : (n : ℕ) (r : Region) → r.dim ≤ n → r.base / 2 ^ r.dim < 2 ^ (n - r.dim)
    → r.base / 2 ^ r.dim * 2 ^ r.dim ≡ r.base → IsAligned n r
is_aligned n r fits few begins = (fits, (r.base / 2 ^ r.dim, few, λ i. record { base = sym begins i; dim = r.dim }))

number_is : (n : ℕ) (r : Region) (is : IsAligned n r) → r.base / 2 ^ r.dim ≡ is.1.0
number_is n r is = ap (λ base. base / 2 ^ r.dim) (ap (λ b. b.base) is.1.2) ∙ mul-div_left is.1.0 (pow_pos r.dim)

pub few_before : (n : ℕ) (r : Region) → IsAligned n r → r.base / 2 ^ r.dim < 2 ^ (n - r.dim)
few_before n r is = subst (λ m. m < 2 ^ (n - r.dim)) (sym (number_is n r is)) is.1.1

pub begins_at : (n : ℕ) (r : Region) → IsAligned n r → r.base / 2 ^ r.dim * 2 ^ r.dim ≡ r.base
begins_at n r is = ap (λ m. m * 2 ^ r.dim) (number_is n r is) ∙ sym (ap (λ b. b.base) is.1.2)

-- the product does not wrap
pub no_wrap : (n : ℕ) (r : Region) → n ≤ MAX_BITMAP_DIM → r.dim ≤ n → r.base / 2 ^ r.dim < 2 ^ (n - r.dim)
    → r.base / 2 ^ r.dim * 2 ^ r.dim % 2 ^ 64 ≡ r.base / 2 ^ r.dim * 2 ^ r.dim
no_wrap n r in_limits fits few =
    let q = r.base / 2 ^ r.dim in
    let size : 2 ^ (n - r.dim) * 2 ^ r.dim ≡ 2 ^ n = split_at n r.dim fits in
    let more : suc q * 2 ^ r.dim ≤ 2 ^ (n - r.dim) * 2 ^ r.dim = mul-le-mul_right (2 ^ r.dim) few in
    let next : suc q * 2 ^ r.dim ≡ q * 2 ^ r.dim + 2 ^ r.dim = suc-mul q (2 ^ r.dim) in
    let some : 0 < 2 ^ r.dim = pow_pos r.dim in
    let most : 2 ^ n ≤ 2 ^ MAX_BITMAP_DIM = pow_mono in_limits in
    let below : q * 2 ^ r.dim < 2 ^ 64 = omega (arith, size, more, next, some, most) in
    mod-eq_of_lt below
