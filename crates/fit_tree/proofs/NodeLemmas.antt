-- The nodes of a dimension, their children and parents, and the paths between them.
use Rattle.std.proofs.Common.{◌≡◌, ℕ, zero, suc, ◌+◌, ◌-◌, ◌*◌, ◌/◌, ◌^◌, ◌<◌, ◌≤◌, ◌⊎◌, inl, inr, refl, sym, ◌∙◌, ap, subst, arith}
use Rattle.std.specs.Prelude.{bit_xor, ◌%◌}
use Rattle.std.specs.Int.Bits.{xor_zero_r}
use Rattle.std.proofs.lemmas.Nat.{shr-shr, pow_pos, pow-add, xor_mod, xor_shr}
use Rattle.std.proofs.lemmas.Bool.{cases_lt}
use Rattle.std.proofs.Math.Pow.{pow_mono}
use Rattle.std.proofs.Math.Nat.{div-one}
use Rattle.cube_shape.specs.declared.region.Region.{Region}
use Rattle.cube_shape.specs.Region.{block}
use Rattle.cube_shape.specs.Node.{IsInCube, IsNodeOf, OnPath}
use Rattle.cube_shape.proofs.PathLemmas.{child_cases, log_unique, level_difference}
use Rattle.cube_shape.proofs.RegionLemmas.{IsNodeOf-level}
use Rattle.fit_tree.specs.Rooms.{IsNode}

-- a level has twice as many nodes as the one above it
pub level_doubles : (n d : ℕ) → suc d ≤ n → 2 ^ (n - d) ≡ 2 * 2 ^ (n - suc d)
level_doubles n d fits =
    let parts : n - d ≡ 1 + (n - suc d) = omega arith in
    ap (λ i. 2 ^ i) parts ∙ pow-add 2 1 (n - suc d)

pub all_nodes : (n : ℕ) → 2 ^ (n + 1) ≡ 2 * 2 ^ n
all_nodes n = let parts : n + 1 ≡ 1 + n = omega arith in ap (λ i. 2 ^ i) parts ∙ pow-add 2 1 n

pub IsNode-in_cube : (n d v : ℕ) → IsNode n d v → (0 < v) × (v < 2 ^ (n + 1))
IsNode-in_cube n d v node =
    let power : 0 < 2 ^ (n - d) = pow_pos (n - d) in
    let below : 2 ^ (n - d) ≤ 2 ^ n = pow_mono (omega arith) in
    (omega (arith, node.1, power), omega (arith, node.2, below, all_nodes n))

pub IsNode-left : (n d v : ℕ) → IsNode n (suc d) v → IsNode n d (2 * v)
IsNode-left n d v node = (omega (arith, node.0), omega (arith, node.1, level_doubles n d node.0), omega (arith, node.2, level_doubles n d node.0))

pub IsNode-right : (n d v : ℕ) → IsNode n (suc d) v → IsNode n d (2 * v + 1)
IsNode-right n d v node = (omega (arith, node.0), omega (arith, node.1, level_doubles n d node.0), omega (arith, node.2, level_doubles n d node.0))

pub IsNode-parent : (n d v : ℕ) → d < n → IsNode n d v → IsNode n (suc d) (v / 2)
IsNode-parent n d v inner node =
    let twice = level_doubles n d (omega arith) in
    (omega arith, omega (arith, node.1, twice), omega (arith, node.2, twice))

pub children_inside : (n d v : ℕ) → 0 < d → IsNode n d v → 2 * v + 1 < 2 ^ (n + 1)
children_inside n d v inner node =
    let down : d ≡ suc (d - 1) = omega (arith, inner) in
    (IsNode-in_cube n (d - 1) (2 * v + 1) (IsNode-right n (d - 1) v (subst (λ e. IsNode n e v) down node))).1

pub IsNode-root : (n : ℕ) → IsNode n n 1
IsNode-root n =
    let none : n - n ≡ 0 = omega arith in
    let one : 2 ^ (n - n) ≡ 1 = ap (λ i. 2 ^ i) none in
    (omega arith, omega (arith, one), omega (arith, one))

-- a node has one dimension
pub IsNode-one : (n d e v : ℕ) → IsNode n d v → IsNode n e v → d ≡ e
IsNode-one n d e v of_d of_e =
    let level : n - d ≡ n - e = log_unique v (n - d) (n - e) of_d.1 of_d.2 of_e.1 of_e.2 in
    omega (arith, level, of_d.0, of_e.0)

-- each node has a dimension
has_level : (n v : ℕ) → 0 < v → v < 2 ^ (n + 1) → (i : ℕ) × (i ≤ n) × (2 ^ i ≤ v) × (v < 2 * 2 ^ i)
has_level zero v positive below = (0, omega arith, omega arith, omega arith)
has_level (suc n) v positive below = elim (cases_lt v (2 ^ (n + 1))) [
  | inl higher ↦ let found = has_level n v positive higher in (found.0, omega (arith, found.1), found.2, found.3)
  | inr lowest ↦
      let same : suc n ≡ n + 1 = omega arith in
      let power : 2 ^ suc n ≡ 2 ^ (n + 1) = ap (λ i. 2 ^ i) same in
      (suc n, omega arith, omega (arith, power), omega (arith, below, all_nodes (suc n)))
]

pub IsNode-has : (n v : ℕ) → IsInCube n v → (d : ℕ) × IsNode n d v
IsNode-has n v inside =
    let found = has_level n v inside.0 inside.1 in
    let level : n - (n - found.0) ≡ found.0 = omega (arith, found.1) in
    let power : 2 ^ (n - (n - found.0)) ≡ 2 ^ found.0 = ap (λ i. 2 ^ i) level in
    (n - found.0, (omega arith, omega (arith, power, found.2), omega (arith, power, found.3)))

-- the block that a node of a dimension names
pub IsNodeOf-at : (n d v : ℕ) → IsNode n d v → IsNodeOf n v (block d (v - 2 ^ (n - d)))
IsNodeOf-at n d v node = (node.0, (v - 2 ^ (n - d), omega (arith, node.1, node.2), refl, omega (arith, node.1)))

pub IsNode-of : (n v : ℕ) (r : Region) → IsNodeOf n v r → IsNode n r.dim v
IsNode-of n v r named = let level = IsNodeOf-level n v r named in (named.0, level.0, level.1)

-- ---- below a node

-- as many steps up as the dimensions differ
pub steps_up : (n d k v w : ℕ) → IsNode n d v → IsNode n k w → OnPath v w → (k ≤ d) × (w / 2 ^ (d - k) ≡ v)
steps_up n d k v w upper lower on =
    let levels : n - k ≡ (n - d) + on.1.0 = level_difference v w (n - d) (n - k) upper.1 upper.2 lower.1 lower.2 on in
    let steps : on.1.0 ≡ d - k = omega (arith, levels, upper.0, lower.0) in
    (omega (arith, levels, upper.0, lower.0), ap (λ i. w / 2 ^ i) (sym steps) ∙ on.1.1)

-- a node of the same dimension on the path is the node itself
pub same_dim : (n d v w : ℕ) → IsNode n d v → IsNode n d w → OnPath v w → v ≡ w
same_dim n d v w upper lower on =
    let steps = steps_up n d d v w upper lower on in
    let none : d - d ≡ 0 = omega arith in
    sym (steps.1) ∙ ap (λ i. w / 2 ^ i) none ∙ div-one w

-- what is below a node is the node, or below one of its children
pub below_child : (v w : ℕ) → OnPath v w → (w ≡ v) ⊎ OnPath (2 * v) w ⊎ OnPath (2 * v + 1) w
below_child v w (positive, (zero, is)) = inl (sym (div-one w) ∙ is)
below_child v w (positive, (suc steps, is)) =
    let split : steps + 1 ≡ suc steps = omega arith in
    let half : w / 2 ^ steps / 2 ≡ v = shr-shr w steps 1 ∙ ap (λ i. w / 2 ^ i) split ∙ is in
    elim (child_cases (w / 2 ^ steps) v half) [
      | inl left ↦ inr (inl (omega arith, (steps, left)))
      | inr right ↦ inr (inr (omega arith, (steps, right)))
    ]

pub OnPath-left : (v : ℕ) → 0 < v → OnPath v (2 * v)
OnPath-left v positive = (positive, (1, omega arith))

pub OnPath-right : (v : ℕ) → 0 < v → OnPath v (2 * v + 1)
OnPath-right v positive = (positive, (1, omega arith))

-- ---- the two children of a node

-- the last bit of a number is another one
flipped : (v : ℕ) → v % 2 + bit_xor v 1 % 2 ≡ 1
flipped v = elim (cases_lt (v % 2) 1) [
  | inl even ↦
      let none : v % 2 ≡ 0 = omega arith in
      let bit : bit_xor v 1 % 2 ≡ 1 = xor_mod v 1 1 ∙ ap (λ b. bit_xor b 1) none in
      omega (arith, none, bit)
  | inr odd ↦
      let one : v % 2 ≡ 1 = omega arith in
      let bit : bit_xor v 1 % 2 ≡ 0 = xor_mod v 1 1 ∙ ap (λ b. bit_xor b 1) one in
      omega (arith, one, bit)
]

pub sibling_half : (v : ℕ) → bit_xor v 1 / 2 ≡ v / 2
sibling_half v = xor_shr v 1 1 ∙ xor_zero_r (v / 2)

pub sibling : (v : ℕ) → ((v ≡ 2 * (v / 2)) × (bit_xor v 1 ≡ 2 * (v / 2) + 1)) ⊎ ((v ≡ 2 * (v / 2) + 1) × (bit_xor v 1 ≡ 2 * (v / 2)))
sibling v = elim (child_cases v (v / 2) refl) [
  | inl left ↦ inl (left, omega (arith, left, flipped v, sibling_half v))
  | inr right ↦ inr (right, omega (arith, right, flipped v, sibling_half v))
]

pub sibling_inside : (v : ℕ) → bit_xor v 1 ≤ 2 * (v / 2) + 1
sibling_inside v = omega (arith, sibling_half v)
