-- The laws of the monoids of the crate, as proofs.
use Rattle.std.specs.Prelude.{◌≡◌, ℕ, ◌+◌, ◌*◌, ◌%◌, ◌-◌, ◌^◌, ◌<◌, min, max, bit_and, bit_or, bit_xor}
use Rattle.std.proofs.Common.{arith, ap, sym, ◌∙◌}
use Rattle.std.proofs.lemmas.Nat.{and_mask, and_le_l, and_comm, or_comm, xor_comm, or_lt, xor_lt, and_assoc, mul-mod_first, mul-mod_second}
use Rattle.std.proofs.lemmas.Nat.Bits.{bit_at_or, bit_at_xor, bit_at-zero, same_from_bits, bit_at-lt}
use Rattle.collectives.specs.Laws.{MonoidLaws}
use Rattle.collectives.specs.Operations.{IsU64, affine, affine_join, IsAffineValue}

-- The laws of addition modulo `2^64`.
pub add_laws : MonoidLaws IsU64 0 (λ x y. (x + y) % 2 ^ 64)
add_laws = record {
  unit_value = omega arith;
  join_value = λ x y x_value y_value. omega arith;
  left_unit = λ x x_value. omega arith;
  right_unit = λ x x_value. omega arith;
  assoc = λ x y z x_value y_value z_value. omega arith;
}

-- The laws of the minimum.
pub min_laws : MonoidLaws IsU64 (2 ^ 64 - 1) min
min_laws = record {
  unit_value = omega arith;
  join_value = λ x y x_value y_value. omega arith;
  left_unit = λ x x_value. omega arith;
  right_unit = λ x x_value. omega arith;
  assoc = λ x y z x_value y_value z_value. omega arith;
}

-- The laws of the maximum.
pub max_laws : MonoidLaws IsU64 0 max
max_laws = record {
  unit_value = omega arith;
  join_value = λ x y x_value y_value. omega arith;
  left_unit = λ x x_value. omega arith;
  right_unit = λ x x_value. omega arith;
  assoc = λ x y z x_value y_value z_value. omega arith;
}

-- Exclusive or with 0 changes nothing.
xor_zero : (x : ℕ) → bit_xor x 0 ≡ x
xor_zero x = same_from_bits (bit_xor x 0) x (λ i. bit_at_xor x 0 i ∙ (let none = bit_at-zero i in let small = bit_at-lt x i in omega arith))

-- Exclusive or is associative.
pub xor_assoc : (x y z : ℕ) → bit_xor (bit_xor x y) z ≡ bit_xor x (bit_xor y z)
xor_assoc x y z = same_from_bits (bit_xor (bit_xor x y) z) (bit_xor x (bit_xor y z)) (λ i.
    let left = bit_at_xor (bit_xor x y) z i in
    let xy = bit_at_xor x y i in
    let right = bit_at_xor x (bit_xor y z) i in
    let yz = bit_at_xor y z i in
    omega arith)

-- The laws of exclusive or.
pub xor_laws : MonoidLaws IsU64 0 bit_xor
xor_laws = record {
  unit_value = omega arith;
  join_value = λ x y x_value y_value. xor_lt 64 x y x_value y_value;
  left_unit = λ x x_value. xor_comm 0 x ∙ xor_zero x;
  right_unit = λ x x_value. xor_zero x;
  assoc = λ x y z x_value y_value z_value. xor_assoc x y z;
}

-- And with 64 ones does not change a number below `2^64`.
and_ones : (x : ℕ) → x < 2 ^ 64 → bit_and x (2 ^ 64 - 1) ≡ x
and_ones x small = and_mask x 64 ∙ (let same : x % 2 ^ 64 ≡ x = omega arith in same)

-- The laws of and.
pub and_laws : MonoidLaws IsU64 (2 ^ 64 - 1) bit_and
and_laws = record {
  unit_value = omega arith;
  join_value = λ x y x_value y_value. (let less = and_le_l x y in omega arith);
  left_unit = λ x x_value. and_comm (2 ^ 64 - 1) x ∙ and_ones x x_value;
  right_unit = λ x x_value. and_ones x x_value;
  assoc = λ x y z x_value y_value z_value. and_assoc z x y;
}

-- Or with 0 changes nothing.
or_zero : (x : ℕ) → bit_or x 0 ≡ x
or_zero x =
    same_from_bits (bit_or x 0) x (λ i. bit_at_or x 0 i ∙ (let none = bit_at-zero i in omega arith))

-- Or is associative.
or_assoc : (x y z : ℕ) → bit_or (bit_or x y) z ≡ bit_or x (bit_or y z)
or_assoc x y z = same_from_bits (bit_or (bit_or x y) z) (bit_or x (bit_or y z)) (λ i.
    let left = bit_at_or (bit_or x y) z i in
    let xy = bit_at_or x y i in
    let right = bit_at_or x (bit_or y z) i in
    let yz = bit_at_or y z i in
    omega arith)

-- The laws of or.
pub or_laws : MonoidLaws IsU64 0 bit_or
or_laws = record {
  unit_value = omega arith;
  join_value = λ x y x_value y_value. or_lt 64 x y x_value y_value;
  left_unit = λ x x_value. or_comm 0 x ∙ or_zero x;
  right_unit = λ x x_value. or_zero x;
  assoc = λ x y z x_value y_value z_value. or_assoc x y z;
}

-- The factors of three affine maps can be joined in either order of brackets.
factor_assoc : (x y z : ℕ) → (z * ((y * x) % 2 ^ 32)) % 2 ^ 32 ≡ ((z * y) % 2 ^ 32 * x) % 2 ^ 32
factor_assoc x y z =
    let product : z * (y * x) ≡ z * y * x = grind arith in
    mul-mod_second z (y * x) (2 ^ 32) ∙ ap (λ n. n % 2 ^ 32) product ∙ sym
    (mul-mod_first (z * y) x (2 ^ 32))

-- The summands of three affine maps can be joined in either order of brackets. The maps are `b`,
-- then `c` and `d`, then `e` and `f`.
summand_assoc : (b c d e f : ℕ)
    → (e * ((c * b + d) % 2 ^ 32) + f) % 2 ^ 32
    ≡ ((e * c) % 2 ^ 32 * b + (e * d + f) % 2 ^ 32) % 2 ^ 32
summand_assoc b c d e f =
    let left = mul-mod_second e (c * b + d) (2 ^ 32) in
    let right = mul-mod_first (e * c) b (2 ^ 32) in
    let product : e * (c * b + d) ≡ e * c * b + e * d = grind arith in
    omega arith

-- The laws of affine maps modulo `2^32`.
pub affine_laws : MonoidLaws IsAffineValue (affine 1 0) affine_join
affine_laws = record {
  unit_value = (omega arith, omega arith);
  join_value = λ x y x_value y_value. (omega arith, omega arith);
  left_unit = λ x x_value. (let first : (x.a * 1) % 2 ^ 32 ≡ x.a = omega arith in let second : (x.a * 0 + x.b) % 2 ^ 32 ≡ x.b = omega arith in ap (λ a. affine a ((x.a * 0 + x.b) % 2 ^ 32)) first ∙ ap (affine x.a) second);
  right_unit = λ x x_value. (let first : (1 * x.a) % 2 ^ 32 ≡ x.a = omega arith in let second : (1 * x.b + 0) % 2 ^ 32 ≡ x.b = omega arith in ap (λ a. affine a ((1 * x.b + 0) % 2 ^ 32)) first ∙ ap (affine x.a) second);
  assoc = λ x y z x_value y_value z_value. (
      ap (λ a. affine a (affine_join (affine_join x y) z).b) (factor_assoc x.a y.a z.a)
      ∙ ap (affine (affine_join x (affine_join y z)).a) (summand_assoc x.b y.a y.b z.a z.b));
}
