-- Aligned blocks within others, and first ones.
use Rattle.std.proofs.Common.{◌≡◌, ℕ, zero, suc, ◌+◌, ◌-◌, ◌*◌, ◌^◌, ◌<◌, ◌≤◌, true, false, ltb, refl, sym, ◌∙◌, ap, subst, arith, mul_assoc}
use Rattle.std.specs.Prelude.{◌&&◌}
use Rattle.std.proofs.lemmas.Bool.{lt-ltb}
use Rattle.std.proofs.lemmas.Nat.{pow_pos, pow-add, mul-le}
use Rattle.std.proofs.Math.Pow.{pow_mono}
use Rattle.cube_shape.specs.declared.region.Region.{Region}
use Rattle.cube_shape.specs.Region.{AreApart, Covers, IsAligned, block}
use Rattle.cube_shape.proofs.RegionLemmas.{IsAligned-block}
use Rattle.fit_tree.specs.Halves.{lower_half, upper_half}
use Rattle.sched_law.specs.State.{overlaps}
use Rattle.sched_law.specs.Policy.{IsFirst}

-- an aligned block has an aligned block of each lesser dimension
pub inner : (n k : ℕ) (r : Region) → IsAligned n r → k ≤ r.dim → (s : Region) × IsAligned n s × (s.dim ≡ k) × ((p : ℕ) → Covers s p → Covers r p)
inner n k r (fits, (m, within, is)) narrow = (record { base = r.base; dim = k }, (omega (arith, fits, narrow), (m * 2 ^ (r.dim - k), below, ap (λ (b : ℕ). record { base = b; dim = k }) base)), refl, covers)
  where
    widths : 2 ^ r.dim ≡ 2 ^ (r.dim - k) * 2 ^ k
    widths =
        let parts : r.dim - k + k ≡ r.dim = omega (arith, narrow) in
        ap (λ i. 2 ^ i) (sym parts) ∙ pow-add 2 (r.dim - k) k

    base : r.base ≡ m * 2 ^ (r.dim - k) * 2 ^ k
    base = ap (λ (x : Region). x.base) is ∙ ap (λ i. m * i) widths ∙ sym (mul_assoc m (2 ^ (r.dim - k)) (2 ^ k))

    below : m * 2 ^ (r.dim - k) < 2 ^ (n - k)
    below =
        let rows : (m + 1) * 2 ^ (r.dim - k) ≤ 2 ^ (n - r.dim) * 2 ^ (r.dim - k) = mul-le (m + 1) (2 ^ (r.dim - k)) (2 ^ (n - r.dim)) (2 ^ (r.dim - k)) (omega (arith, within)) (omega arith) in
        let parts : n - r.dim + (r.dim - k) ≡ n - k = omega (arith, fits, narrow) in
        let all : 2 ^ (n - r.dim) * 2 ^ (r.dim - k) ≡ 2 ^ (n - k) = sym (pow-add 2 (n - r.dim) (r.dim - k)) ∙ ap (λ i. 2 ^ i) parts in
        let some : 0 < 2 ^ (r.dim - k) = pow_pos (r.dim - k) in
        omega (arith, rows, all, some)

    covers : (p : ℕ) → Covers (record { base = r.base; dim = k }) p → Covers r p
    covers p inside = let wider : 2 ^ k ≤ 2 ^ r.dim = pow_mono narrow in (inside.0, omega (arith, inside.1, wider))

-- a block of the same dimension within another one is that
pub within_is : (r s : Region) → s.dim ≡ r.dim → ((p : ℕ) → Covers s p → Covers r p) → s ≡ r
within_is r s dims covers =
    let some : 0 < 2 ^ s.dim = pow_pos s.dim in
    let powers : 2 ^ s.dim ≡ 2 ^ r.dim = ap (λ k. 2 ^ k) dims in
    let low = covers s.base (omega arith, omega (arith, some)) in
    let high = covers (s.base + 2 ^ s.dim - 1) (omega (arith, some), omega (arith, some)) in
    let base : s.base ≡ r.base = omega (arith, low.0, high.1, some, powers) in
    ap (λ (b : ℕ). record { base = b; dim = s.dim }) base ∙ ap (λ (k : ℕ). record { base = r.base; dim = k }) dims

-- ---- halves

half_size : (k : ℕ) → 0 < k → 2 ^ k ≡ 2 * 2 ^ (k - 1)
half_size k some =
    let parts : k ≡ 1 + (k - 1) = omega (arith, some) in
    ap (λ i. 2 ^ i) parts ∙ pow-add 2 1 (k - 1)

module _ (n : ℕ) (r : Region) (some : 0 < r.dim) where
  pub lower_inside : (p : ℕ) → Covers (lower_half r) p → Covers r p
  lower_inside p inside = (inside.0, omega (arith, inside.1, half_size r.dim some))

  pub upper_inside : (p : ℕ) → Covers (upper_half r) p → Covers r p
  upper_inside p inside = (omega (arith, inside.0), omega (arith, inside.1, half_size r.dim some))

  module _ (aligned : IsAligned n r) where
    below : 2 ^ (n - (r.dim - 1)) ≡ 2 * 2 ^ (n - r.dim)
    below =
        let parts : n - (r.dim - 1) ≡ 1 + (n - r.dim) = omega (arith, some, aligned.0) in
        ap (λ i. 2 ^ i) parts ∙ pow-add 2 1 (n - r.dim)

    base : r.base ≡ 2 * (aligned.1.0 * 2 ^ (r.dim - 1))
    base =
        ap (λ (x : Region). x.base) aligned.1.2 ∙ ap (λ i. aligned.1.0 * i) (half_size r.dim some) ∙ twice aligned.1.0 (2 ^ (r.dim - 1))
      where
        twice : (a b : ℕ) → a * (2 * b) ≡ 2 * (a * b)
        twice a b = sym (mul_assoc a 2 b) ∙ ap (λ x. x * b) (omega arith) ∙ mul_assoc 2 a b

    pub lower_aligned : IsAligned n (lower_half r)
    lower_aligned =
        let at : r.base ≡ 2 * aligned.1.0 * 2 ^ (r.dim - 1) = base ∙ sym (mul_assoc 2 aligned.1.0 (2 ^ (r.dim - 1))) in
        (omega (arith, aligned.0), (2 * aligned.1.0, omega (arith, below, aligned.1.1), ap (λ (b : ℕ). record { base = b; dim = r.dim - 1 }) at))

    pub upper_aligned : IsAligned n (upper_half r)
    upper_aligned =
        let at : 2 * aligned.1.0 * 2 ^ (r.dim - 1) ≡ 2 * (aligned.1.0 * 2 ^ (r.dim - 1)) = mul_assoc 2 aligned.1.0 (2 ^ (r.dim - 1)) in
        let next : (2 * aligned.1.0 + 1) * 2 ^ (r.dim - 1) ≡ 2 * aligned.1.0 * 2 ^ (r.dim - 1) + 2 ^ (r.dim - 1) = omega arith in
        let here : r.base + 2 ^ (r.dim - 1) ≡ (2 * aligned.1.0 + 1) * 2 ^ (r.dim - 1) = omega (arith, base, at, next) in
        (omega (arith, aligned.0), (2 * aligned.1.0 + 1, omega (arith, below, aligned.1.1), ap (λ (b : ℕ). record { base = b; dim = r.dim - 1 }) here))

-- ---- first ones

-- if there is no first one, there is none
pub no_first : (n k : ℕ) (P : Region → Type 0) → ((m : ℕ) → IsFirst n k P m → ⊥) → (m : ℕ) → m < 2 ^ (n - k) → P (block k m) → ⊥
no_first n k P none m within right = upto (suc m) m (omega arith) within right
  where
    upto : (bound i : ℕ) → i < bound → i < 2 ^ (n - k) → P (block k i) → ⊥
    upto zero i less inside is = omega (arith, less)
    upto (suc bound) i less inside is =
        none i (record {
          in_cube = inside;
          right = is;
          least = λ j before holds. upto bound j (omega (arith, before, less)) (omega (arith, before, inside)) holds;
        })

-- the same of a block
pub no_block : (n k : ℕ) (P : Region → Type 0) → ((m : ℕ) → m < 2 ^ (n - k) → P (block k m) → ⊥) → (r : Region) → IsAligned n r → r.dim ≡ k → P r → ⊥
no_block n k P none r aligned dim right =
    none aligned.1.0 (subst (λ d. aligned.1.0 < 2 ^ (n - d)) dim aligned.1.1)
    (subst (λ d. P (block d aligned.1.0)) dim (subst P aligned.1.2 right))

pub first_aligned : (n k m : ℕ) (P : Region → Type 0) → k ≤ n → IsFirst n k P m → IsAligned n (block k m)
first_aligned n k m P fits first = IsAligned-block n k m fits first.in_cube

-- ---- overlaps

pub apart_of : (a b : Region) → overlaps a b ≡ false → AreApart a b
apart_of a b clear p in_a in_b =
    let left : ltb a.base (b.base + 2 ^ b.dim) ≡ true = lt-ltb a.base (b.base + 2 ^ b.dim) (omega (arith, in_a.0, in_b.1)) in
    let right : ltb b.base (a.base + 2 ^ a.dim) ≡ true = lt-ltb b.base (a.base + 2 ^ a.dim) (omega (arith, in_b.0, in_a.1)) in
    let both : overlaps a b ≡ true = ap (λ x. x && ltb b.base (a.base + 2 ^ a.dim)) left ∙ right in
    true_is_false (sym both ∙ clear)
  where
    true_is_false : true ≡ false → ⊥
    true_is_false e = cc
