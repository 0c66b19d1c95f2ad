-- Free blocks in a half of a block that has one.
use Rattle.std.proofs.Common.{◌≡◌, ◌≢◌, ℕ, suc, ◌+◌, ◌-◌, ◌*◌, ◌/◌, ◌^◌, ◌<◌, ◌≤◌, inl, inr, List, refl, sym, ap, subst, arith}
use Rattle.std.proofs.lemmas.Bool.{cases_lt}
use Rattle.std.proofs.lemmas.Nat.{pow_pos}
use Rattle.cube_shape.specs.declared.region.Region.{Region}
use Rattle.cube_shape.specs.Region.{Covers, IsAligned, block}
use Rattle.cube_shape.specs.Machine.{Holdings}
use Rattle.cube_shape.specs.Node.{IsInCube, IsNodeOf, OnPath}
use Rattle.cube_shape.proofs.PathLemmas.{OnPath-le, OnPath-linear, OnPath-self, OnPath-trans}
use Rattle.cube_shape.proofs.RegionLemmas.{Covers-below, Covers-leaf, IsNodeOf-aligned, IsNodeOf-in_cube, IsNodeOf-of_aligned, IsNodeOf-one_node}
use Rattle.fit_tree.specs.Rooms.{IsNode, IsSound, room_of}
use Rattle.fit_tree.specs.InnerNodes.{HasNoTakenAbove}
use Rattle.fit_tree.specs.InnerRepresents.{Represents}
use Rattle.fit_tree.specs.Parts.{HasFitIn, IsHalfOf}
use Rattle.fit_tree.proofs.NodeLemmas.{IsNode-of, IsNodeOf-at, same_dim, steps_up}
use Rattle.fit_tree.proofs.RoomLemmas.{none_open}
use Rattle.fit_tree.proofs.WalkLemmas.{Descent-begin, Descent-ends, Descent-node, Descent-open, above_child}
use Rattle.fit_tree.proofs.RepresentsLemmas.{free_from_open, open_from_free}
use Rattle.fit_tree.proofs.SplitLemmas.{named_lower, named_upper}

-- what is below the node of a part is in it
pub path_covers : (n v w : ℕ) (part s : Region) → IsNodeOf n v part → IsNodeOf n w s → OnPath v w → (p : ℕ) → Covers s p → Covers part p
path_covers n v w part s of_part of_s on p in_s =
    let below = Covers-below n w s of_s p in_s in
    (Covers-leaf n v part of_part p below).1 (OnPath-trans v w (2 ^ n + p) on ((Covers-leaf n w s of_s p below).0 in_s))

-- and what is in it is below its node
pub covers_path : (n v w : ℕ) (part s : Region) → IsNodeOf n v part → IsNodeOf n w s → s.dim ≤ part.dim → ((p : ℕ) → Covers s p → Covers part p) → OnPath v w
covers_path n v w part s of_part of_s small inside =
    let some : 0 < 2 ^ s.dim = pow_pos s.dim in
    let in_s : Covers s s.base = (omega arith, omega (arith, some)) in
    let below = Covers-below n w s of_s s.base in_s in
    let leaf_v = (Covers-leaf n v part of_part s.base below).0 (inside s.base in_s) in
    let leaf_w = (Covers-leaf n w s of_s s.base below).0 in_s in
    elim (cases_lt w v) [
      | inr order ↦ OnPath-linear v w (2 ^ n + s.base) leaf_v leaf_w order
      | inl less ↦
          let on = OnPath-linear w v (2 ^ n + s.base) leaf_w leaf_v (omega (arith, less)) in
          let steps = steps_up n s.dim part.dim w v (IsNode-of n w s of_s) (IsNode-of n v part of_part) on in
          let dims : s.dim ≡ part.dim = omega (arith, steps.0, small) in
          let one = same_dim n part.dim w v (subst (λ d. IsNode n d w) dims (IsNode-of n w s of_s)) (IsNode-of n v part of_part) on in
          absurd (omega (arith, one, less))
    ]

upper_node : (n u : ℕ) (whole : Region) → IsNodeOf n u whole → 0 < whole.dim → IsNode n (suc (whole.dim - 1)) u
upper_node n u whole named some =
    let more : whole.dim ≡ suc (whole.dim - 1) = omega (arith, some) in
    subst (λ d. IsNode n d u) more (IsNode-of n u whole named)

-- the node of a half is a child
pub half_node : (n u v : ℕ) (whole half : Region) → IsNodeOf n u whole → IsNodeOf n v half → IsHalfOf whole half → v / 2 ≡ u
half_node n u v whole half of_whole of_half (some, inl is) =
    let one : v ≡ 2 * u = IsNodeOf-one_node n v (2 * u) half of_half (subst (IsNodeOf n (2 * u)) (sym is) (named_lower n (whole.dim - 1) u whole (upper_node n u whole of_whole some) of_whole)) in
    omega (arith, one)
half_node n u v whole half of_whole of_half (some, inr is) =
    let one : v ≡ 2 * u + 1 = IsNodeOf-one_node n v (2 * u + 1) half of_half (subst (IsNodeOf n (2 * u + 1)) (sym is) (named_upper n (whole.dim - 1) u whole (upper_node n u whole of_whole some) of_whole)) in
    omega (arith, one)

module _ (n k : ℕ) (held : Holdings) (rooms : List ℕ) (sound : IsSound n rooms) (represents : Represents n held rooms) where
  -- the way to a part with a free block is open
  open_way : (u : ℕ) (whole : Region) → IsNodeOf n u whole → k ≤ whole.dim → HasFitIn n k held whole → (x : ℕ) → OnPath x u → room_of rooms x ≢ 0
  open_way u whole of_whole fits (s, aligned, dim, free, inside) x on taken =
      let node = IsNodeOf-of_aligned n s aligned in
      let under = covers_path n u node.0 whole s of_whole node.1 (omega (arith, dim, fits)) inside in
      let cube = IsNodeOf-in_cube n u whole of_whole in
      let in_cube : IsInCube n x = (on.0, (let low = OnPath-le x u on in let high = cube.1 in omega (arith, low, high))) in
      open_from_free n held rooms represents node.0 s node.1 free x in_cube taken (inl (OnPath-trans x u node.0 on under))

  module _ (v : ℕ) (half : Region) (of_half : IsNodeOf n v half) (fits : k ≤ half.dim) where
    -- there is room
    pub fit_enough : HasFitIn n k held half → k + 2 ≤ room_of rooms v
    fit_enough (s, aligned, dim, free, inside) = elim (cases_lt (room_of rooms v) (k + 2)) [
      | inr enough ↦ enough
      | inl less ↦
          let node = IsNodeOf-of_aligned n s aligned in
          let under = covers_path n v node.0 half s of_half node.1 (omega (arith, dim, fits)) inside in
          absurd (none_open n rooms sound half.dim v k node.0 (IsNode-of n v half of_half) (subst (λ d. IsNode n d node.0) dim (IsNode-of n node.0 s node.1)) under less
          (open_from_free n held rooms represents node.0 s node.1 free))
    ]

    -- there is a free block, if the way to it is open
    pub enough_fit : (whole : Region) → IsAligned n whole → IsHalfOf whole half → HasFitIn n k held whole → k + 2 ≤ room_of rooms v → HasFitIn n k held half
    enough_fit whole aligned is_half has enough =
        let top = IsNodeOf-of_aligned n whole aligned in
        let parent : v / 2 ≡ top.0 = half_node n top.0 v whole half top.1 of_half is_half in
        let wide : k ≤ whole.dim = wider in
        let way = open_way top.0 whole top.1 wide has in
        let cube = IsNodeOf-in_cube n top.0 whole top.1 in
        let above : HasNoTakenAbove rooms v = above_child rooms top.0 v parent (way top.0 (OnPath-self top.0 cube.0)) (λ x on other. way x on) in
        let found = Descent-ends n k rooms sound half.dim v (half.dim - k) k v (omega (arith, fits)) (Descent-begin n k rooms half.dim v fits (IsNode-of n v half of_half) enough above) in
        let node = Descent-node n k rooms sound half.dim v found.0 found.1 in
        let named = IsNodeOf-at n k found.0 node in (
          block k (found.0 - 2 ^ (n - k)),
          IsNodeOf-aligned n found.0 (block k (found.0 - 2 ^ (n - k))) named,
          refl,
          free_from_open n held rooms represents found.0 (block k (found.0 - 2 ^ (n - k))) named (Descent-open n k rooms sound half.dim v found.0 found.1),
          path_covers n v found.0 half (block k (found.0 - 2 ^ (n - k))) of_half named found.1.below,
        )
      where
        wider : k ≤ whole.dim
        wider = elim is_half.1 [
          | inl is ↦ let dims : half.dim ≡ whole.dim - 1 = ap (λ (r : Region). r.dim) is in omega (arith, dims, fits)
          | inr is ↦ let dims : half.dim ≡ whole.dim - 1 = ap (λ (r : Region). r.dim) is in omega (arith, dims, fits)
        ]
