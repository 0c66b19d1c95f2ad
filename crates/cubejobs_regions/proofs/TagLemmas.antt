-- The parts of a tag.
use Rattle.std.proofs.Common.{◌≡◌, ℕ, ◌+◌, ◌*◌, ◌/◌, ◌%◌, ◌^◌, ◌<◌, ◌≤◌, ◌==◌, true, arith, ap, ◌∙◌}
use Rattle.std.proofs.Math.Pow.{pow_mono}
use Rattle.std.proofs.lemmas.Nat.{pow_pos}
use Rattle.cube_shape.specs.declared.limits.TheConstants.{MAX_BITMAP_DIM}
use Rattle.cube_shape.specs.declared.region.Region.{Region}
use Rattle.cubejobs_regions.specs.declared.codes.TheConstants.{HELD}
use Rattle.cubejobs_regions.specs.Tags.{is_held, tag_region}

-- the upper part of the tag of a held block
abbrev place : ℕ → ℕ
place base = HELD * 2 ^ MAX_BITMAP_DIM + base

pub base_is_in : (base dim n : ℕ) → n ≤ MAX_BITMAP_DIM → base + 2 ^ dim ≤ 2 ^ n → base < 2 ^ MAX_BITMAP_DIM
base_is_in base dim n few within =
    let most : 2 ^ n ≤ 2 ^ MAX_BITMAP_DIM = pow_mono few in
    let some : 0 < 2 ^ dim = pow_pos dim in
    omega (arith, most, some, within)

upper : (p dim n : ℕ) → dim < 64 → n < 64 → ((p * 64 + dim) * 64 + n) / 64 / 64 ≡ p
upper p dim n d few = omega (arith, d, few)

middle : (p dim n : ℕ) → dim < 64 → n < 64 → ((p * 64 + dim) * 64 + n) / 64 % 64 ≡ dim
middle p dim n d few = omega (arith, d, few)

pub held_tag : (base dim n : ℕ) → base < 2 ^ MAX_BITMAP_DIM → dim < 64 → n < 64
    → is_held ((place base * 64 + dim) * 64 + n) ≡ true
held_tag base dim n b d few =
    let high : place base / 2 ^ MAX_BITMAP_DIM ≡ HELD = omega (arith, b) in
    ap (λ p. p / 2 ^ MAX_BITMAP_DIM == HELD) (upper (place base) dim n d few) ∙ ap (λ h. h == HELD) high

pub region_tag : (r : Region) (n : ℕ) → r.base < 2 ^ MAX_BITMAP_DIM → r.dim < 64 → n < 64
    → tag_region ((place r.base * 64 + r.dim) * 64 + n) ≡ r
region_tag r n b d few =
    let low : place r.base % 2 ^ MAX_BITMAP_DIM ≡ r.base = omega (arith, b) in
    let base : ((place r.base * 64 + r.dim) * 64 + n) / 64 / 64 % 2 ^ MAX_BITMAP_DIM ≡ r.base =
    ap (λ p. p % 2 ^ MAX_BITMAP_DIM) (upper (place r.base) r.dim n d few) ∙ low in
    λ i. record { base = base i; dim = middle (place r.base) r.dim n d few i }
