-- Nodes and blocks as the code computes them, and the answers of a sound tree.
use Rattle.std.proofs.Common.{◌≡◌, ◌≢◌, ℕ, zero, suc, ◌+◌, ◌-◌, ◌*◌, ◌/◌, ◌%◌, ◌^◌, ◌<◌, ◌≤◌, ◌⊎◌, inl, inr, List, length, Some, None, sym, ◌∙◌, ap, subst, arith}
use Rattle.std.proofs.lemmas.Nat.{one_shl, shl_whole, shl-shr, shr-shr, pow-add}
use Rattle.std.proofs.Math.Nat.{div-one}
use Rattle.std.proofs.Math.Pow.{pow_mono}
use Rattle.cube_shape.specs.declared.limits.TheConstants.{MAX_BITMAP_DIM}
use Rattle.std.proofs.lemmas.Bool.{cases_eq}
use Rattle.cube_shape.specs.declared.region.Region.{Region}
use Rattle.cube_shape.specs.Region.{Covers, IsAligned, block}
use Rattle.cube_shape.specs.Node.{IsNodeOf}
use Rattle.cube_shape.specs.Machine.{HasNoFit, Holdings, IsFree}
use Rattle.cube_shape.proofs.RegionLemmas.{Covers-leaf, IsNodeOf-in_cube, IsNodeOf-of_aligned, IsNodeOf-one_region}
use Rattle.cube_shape.proofs.PathLemmas.{OnPath-le}
use Rattle.fit_tree.specs.Rooms.{IsNode, IsRight, IsSound, room_of}
use Rattle.fit_tree.specs.InnerNodes.{HasNoTakenAbove, IsOpen}
use Rattle.fit_tree.specs.InnerRepresents.{Represents}
use Rattle.fit_tree.proofs.NodeLemmas.{IsNode-has, IsNode-in_cube, IsNode-left, IsNode-parent, steps_up, IsNode-of, IsNode-right, IsNode-root, IsNodeOf-at}
use Rattle.fit_tree.proofs.RoomLemmas.{none_open, room_bound, taken_below, whole_is_open}
use Rattle.fit_tree.proofs.WalkLemmas.{Descent-begin, Descent-ends, Descent-node, Descent-open, OnPath-root, above_root}
use Rattle.fit_tree.proofs.RepresentsLemmas.{Represents-new, free_from_open, no_fit, open_from_free, some_fit}

-- the block that is computed from a node
pub block_computed : (n k v : ℕ) → n ≤ MAX_BITMAP_DIM → IsNode n k v
    → IsNodeOf n v (record { base = (v - 1 * 2 ^ (n - k) % 2 ^ 64) * 2 ^ k % 2 ^ 64; dim = k })
block_computed n k v fits node =
    let shift : 1 * 2 ^ (n - k) % 2 ^ 64 ≡ 2 ^ (n - k) = one_shl (n - k) 64 (omega arith) in
    let base : (v - 1 * 2 ^ (n - k) % 2 ^ 64) * 2 ^ k % 2 ^ 64 ≡ (v - 2 ^ (n - k)) * 2 ^ k =
    ap (λ x. (v - x) * 2 ^ k % 2 ^ 64) shift ∙ shl_whole (v - 2 ^ (n - k)) (n - k) k 64 (omega (arith, node.1, node.2)) (omega (arith, node.0)) in
    subst (λ b. IsNodeOf n v (record { base = b; dim = k })) (sym base) (IsNodeOf-at n k v node)

-- the node that is computed from a block
pub node_computed : (n : ℕ) (r : Region) → n ≤ MAX_BITMAP_DIM → IsAligned n r
    → IsNodeOf n (1 * 2 ^ (n - r.dim) % 2 ^ 64 + r.base / 2 ^ r.dim) r
node_computed n r fits (lower, (m, within, is)) =
    let shift : 1 * 2 ^ (n - r.dim) % 2 ^ 64 ≡ 2 ^ (n - r.dim) = one_shl (n - r.dim) 64 (omega arith) in
    let base : r.base ≡ m * 2 ^ r.dim = ap (λ (x : Region). x.base) is in
    let number : r.base / 2 ^ r.dim ≡ m = ap (λ x. x / 2 ^ r.dim) base ∙ shl-shr m r.dim in
    (lower, (m, within, is, omega (arith, shift, number)))

-- the block of a node of a dimension is one
pub block_of_node : (n k v : ℕ) (r : Region) → IsNode n k v → IsNodeOf n v r → r ≡ block k (v - 2 ^ (n - k))
block_of_node n k v r node named = IsNodeOf-one_region n v r (block k (v - 2 ^ (n - k))) named (IsNodeOf-at n k v node)

module _ (n : ℕ) (rooms : List ℕ) (sound : IsSound n rooms) where
  -- an open node is wholly free
  pub open_is_whole : (k w : ℕ) → IsNode n k w → IsOpen n rooms w → room_of rooms w ≡ k + 2
  open_is_whole k w node clear = elim (cases_eq (room_of rooms w) (k + 2)) [
    | inl same ↦ same
    | inr other ↦
        let found = taken_below n rooms sound k w node other in absurd (clear found.0 found.1 found.3 (inr found.2))
  ]

  pub open_above : (w : ℕ) → 0 < w → w < 2 ^ (n + 1) → IsOpen n rooms w → HasNoTakenAbove rooms w
  open_above w positive inside clear u on other taken = clear u (on.0, omega (arith, inside, small)) taken (inl on)
    where
      small : u ≤ w
      small = OnPath-le u w on

  pub is_free_into : (held : Holdings) (w : ℕ) (r : Region) → Represents n held rooms → IsNodeOf n w r → room_of rooms w ≡ r.dim + 2 → HasNoTakenAbove rooms w → IsFree held r
  is_free_into held w r represents named whole above =
      free_from_open n held rooms represents w r named (whole_is_open n rooms sound r.dim w (IsNode-of n w r named) whole above)

  pub is_free_whole : (held : Holdings) (w : ℕ) (r : Region) → Represents n held rooms → IsNodeOf n w r → IsFree held r → room_of rooms w ≡ r.dim + 2
  is_free_whole held w r represents named free =
      open_is_whole r.dim w (IsNode-of n w r named) (open_from_free n held rooms represents w r named free)

  pub is_free_above : (held : Holdings) (w : ℕ) (r : Region) → Represents n held rooms → IsNodeOf n w r → IsFree held r → HasNoTakenAbove rooms w
  is_free_above held w r represents named free =
      let inside = IsNodeOf-in_cube n w r named in
      open_above w inside.0 inside.1 (open_from_free n held rooms represents w r named free)

  -- the room of the root
  pub root_none : (k : ℕ) (held : Holdings) → Represents n held rooms → k ≤ n → room_of rooms 1 < k + 2 → HasNoFit n k held
  root_none k held represents fits less =
      no_fit n held rooms represents k fits (λ w node. none_open n rooms sound n 1 k w (IsNode-root n) node (OnPath-root n k w node) less)

  pub root_some : (k : ℕ) (held : Holdings) → Represents n held rooms → k ≤ n → k + 2 ≤ room_of rooms 1 → HasNoFit n k held → ⊥
  root_some k held represents fits enough =
      let found = Descent-ends n k rooms sound n 1 (n - k) k 1 (omega arith) (Descent-begin n k rooms n 1 fits (IsNode-root n) enough (above_root rooms)) in
      some_fit n held rooms represents k found.0 (Descent-node n k rooms sound n 1 found.0 found.1) (Descent-open n k rooms sound n 1 found.0 found.1)

  pub root_bound : room_of rooms 1 ≤ n + 2
  root_bound = room_bound n rooms sound n 1 (IsNode-root n)

-- ---- a free machine

-- one more level of it is wholly free
pub whole_more : (n depth : ℕ) (rooms rooms' : List ℕ) → depth ≤ n
    → ((d v : ℕ) → IsNode n d v → n < d + depth → room_of rooms v ≡ d + 2)
    → ((v : ℕ) → 2 ^ depth ≤ v → v < 2 * 2 ^ depth → room_of rooms' v ≡ n - depth + 2)
    → ((v : ℕ) → (v < 2 ^ depth) ⊎ (2 * 2 ^ depth ≤ v) → room_of rooms' v ≡ room_of rooms v)
    → (d v : ℕ) → IsNode n d v → n < d + (depth + 1) → room_of rooms' v ≡ d + 2
whole_more n depth rooms rooms' fits before inside outside d v node more = elim (cases_eq (n - d) depth) [
  | inl same ↦
      let power : 2 ^ (n - d) ≡ 2 ^ depth = ap (λ i. 2 ^ i) same in
      omega (arith, inside v (omega (arith, node.1, power)) (omega (arith, node.2, power)), same, node.0)
  | inr other ↦
      let higher : n - d < depth = omega (arith, other, more, node.0) in
      let twice : 2 ^ (1 + (n - d)) ≡ 2 * 2 ^ (n - d) = pow-add 2 1 (n - d) in
      let below : 2 ^ (1 + (n - d)) ≤ 2 ^ depth = pow_mono (omega arith) in
      outside v (inl (omega (arith, node.2, twice, below))) ∙ before d v node (omega (arith, higher, node.0))
]

-- and a machine of which each node is wholly free is sound
pub whole_is_sound : (n : ℕ) (rooms : List ℕ) → n ≤ MAX_BITMAP_DIM → 2 ^ (n + 1) ≤ length rooms
    → ((d v : ℕ) → IsNode n d v → room_of rooms v ≡ d + 2) → IsSound n rooms
whole_is_sound n rooms fits enough whole = record { dim_in_limits = fits; room_count = enough; right = right }
  where
    right : (d v : ℕ) → IsNode n d v → v ≢ 0 → IsRight rooms d v
    right zero v node positive = inr (whole zero v node)
    right (suc d) v node positive = inl (inl (
      whole d (2 * v) (IsNode-left n d v node),
      whole d (2 * v + 1) (IsNode-right n d v node),
      omega (arith, whole (suc d) v node),
    ))

pub whole_is_free : (n : ℕ) (rooms : List ℕ) (held : Holdings)
    → ((d v : ℕ) → IsNode n d v → room_of rooms v ≡ d + 2) → ((s : ℕ) → held s ≡ None) → Represents n held rooms
whole_is_free n rooms held whole idle =
    Represents-new n held rooms (λ v inside taken. let found = IsNode-has n v inside in omega (arith, taken, whole found.0 v found.1)) idle

-- ---- the way up from a processor

-- Node `v` is `d` steps above the leaf of processor `p`, and none before it was taken.
pub record IsPassed (n : ℕ) (rooms : List ℕ) (p d v : ℕ) : Type 0 where
  pub way : (2 ^ n + p) / 2 ^ d ≡ v
  pub node : d ≤ n → IsNode n d v
  pub passed : (j : ℕ) → j < d → room_of rooms ((2 ^ n + p) / 2 ^ j) ≢ 0

leaf_node : (n p : ℕ) → p < 2 ^ n → IsNode n 0 (2 ^ n + p)
leaf_node n p inside =
    let all : n - 0 ≡ n = omega arith in
    let power : 2 ^ (n - 0) ≡ 2 ^ n = ap (λ i. 2 ^ i) all in
    (omega arith, omega (arith, power), omega (arith, power, inside))

pub IsPassed-begin : (n : ℕ) (rooms : List ℕ) (p v : ℕ) → p < 2 ^ n → v ≡ 2 ^ n + p → IsPassed n rooms p 0 v
IsPassed-begin n rooms p v inside is = record {
  way = div-one (2 ^ n + p) ∙ sym is;
  node = λ _. subst (IsNode n 0) (sym is) (leaf_node n p inside);
  passed = λ j less. absurd (omega (arith, less));
}

pub IsPassed-step : (n : ℕ) (rooms : List ℕ) (p d v : ℕ) → IsPassed n rooms p d v → d ≤ n → room_of rooms v ≢ 0 → IsPassed n rooms p (d + 1) (v / 2)
IsPassed-step n rooms p d v before fits here = record {
  way = sym (shr-shr (2 ^ n + p) d 1) ∙ ap (λ x. x / 2) before.way;
  node = λ inner. let next : suc d ≡ d + 1 = omega arith in subst (λ e. IsNode n e (v / 2)) next (IsNode-parent n d v (omega (arith, inner)) (before.node fits));
  passed = passed;
}
  where
    passed : (j : ℕ) → j < d + 1 → room_of rooms ((2 ^ n + p) / 2 ^ j) ≢ 0
    passed j less = elim (cases_eq j d) [
      | inl same ↦ λ taken. here (ap (room_of rooms) (sym before.way ∙ ap (λ i. (2 ^ n + p) / 2 ^ i) (sym same)) ∙ taken)
      | inr other ↦ before.passed j (omega (arith, less, other))
    ]

pub IsPassed-covers : (n : ℕ) (rooms : List ℕ) (p d v : ℕ) (r : Region) → IsPassed n rooms p d v → d ≤ n → p < 2 ^ n → IsNodeOf n v r → Covers r p
IsPassed-covers n rooms p d v r before fits inside named =
    (Covers-leaf n v r named p inside).1 ((IsNode-in_cube n d v (before.node fits)).0, (d, before.way))

pub IsPassed-free : (n : ℕ) (rooms : List ℕ) (p d v : ℕ) (held : Holdings) (s : ℕ) (a : Region) → IsPassed n rooms p d v → n < d → p < 2 ^ n → Represents n held rooms → held s ≡ Some a → Covers a p → ⊥
IsPassed-free n rooms p d v held s a before past inside represents is covers =
    let node = IsNodeOf-of_aligned n a ((represents.lawful).aligned s a is) in
    let on = (Covers-leaf n node.0 a node.1 p inside).0 covers in
    let steps = steps_up n a.dim 0 node.0 (2 ^ n + p) (IsNode-of n node.0 a node.1) (leaf_node n p inside) on in
    let all : a.dim - 0 ≡ a.dim = omega arith in
    before.passed a.dim (omega (arith, past, ((represents.lawful).aligned s a is).0)) (ap (room_of rooms) (ap (λ i. (2 ^ n + p) / 2 ^ i) (sym all) ∙ steps.1) ∙ represents.each_is_taken s a node.0 is node.1)
