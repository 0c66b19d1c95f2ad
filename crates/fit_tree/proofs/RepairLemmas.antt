-- A repair: each node is sorted by the bytes that were there, and then filled from its children.
use Rattle.std.proofs.Common.{◌≡◌, ◌≢◌, ℕ, zero, suc, ◌+◌, ◌-◌, ◌*◌, ◌/◌, ◌^◌, ◌<◌, ◌≤◌, ◌⊎◌, inl, inr, List, length, refl, sym, ◌∙◌, ap, subst, arith}
use Rattle.std.specs.Prelude.{◌↔◌}
use Rattle.std.proofs.Math.ListN.{set}
use Rattle.std.proofs.lemmas.List.{get_or-set_same, get_or-set_other}
use Rattle.std.proofs.lemmas.Bool.{cases_lt, cases_eq}
use Rattle.std.proofs.Math.Pow.{pow_mono}
use Rattle.cube_shape.specs.declared.limits.TheConstants.{MAX_BITMAP_DIM}
use Rattle.cube_shape.specs.declared.region.Region.{Region}
use Rattle.cube_shape.specs.Node.{IsNodeOf, OnPath}
use Rattle.cube_shape.specs.Machine.{IsLawful}
use Rattle.cube_shape.proofs.RegionLemmas.{IsNodeOf-of_aligned}
use Rattle.cube_shape.proofs.PathLemmas.{OnPath-le, OnPath-parent, OnPath-trans}
use Rattle.fit_tree.specs.Rooms.{IsJoin, IsNode, IsRight, IsSound, room_of}
use Rattle.fit_tree.specs.Fit.{HoldsBlock, held_in}
use Rattle.fit_tree.specs.Image.{fit_in}
use Rattle.fit_tree.specs.Topmost.{IsTopmost}
use Rattle.fit_tree.specs.InnerNodes.{HasNoTakenAbove}
use Rattle.fit_tree.specs.InnerRepair.{IsFilled, IsJoined, IsSorted}
use Rattle.fit_tree.proofs.NodeLemmas.{IsNode-in_cube, IsNode-left, IsNode-of, IsNode-one, IsNode-parent, IsNode-right, OnPath-left, OnPath-right}
use Rattle.fit_tree.proofs.RoomLemmas.{taken_alone}
use Rattle.fit_tree.proofs.WalkLemmas.{above_child, above_root}
use Rattle.fit_tree.proofs.ImageLemmas.{Represents-in, held_at}
use Rattle.fit_tree.proofs.CheckLemmas.{join_some}

-- the logarithm of a node
pub log_fits : (n i v : ℕ) → 2 ^ i ≤ v → v < 2 ^ (n + 1) → i ≤ n
log_fits n i v low high = elim (cases_lt n i) [
  | inl less ↦ let over : 2 ^ (n + 1) ≤ 2 ^ i = pow_mono (omega arith) in absurd (omega (arith, over))
  | inr fits ↦ fits
]

-- ---- sorting

-- what holds for a node holds for its parent
above_parent : (rooms : List ℕ) (u v : ℕ) → OnPath u v → HasNoTakenAbove rooms v → u ≢ v → HasNoTakenAbove rooms u
above_parent rooms u v on above other w over not_u =
    above w (OnPath-trans w u v over on) (λ same. omega (arith, same, not_u, other, OnPath-le w u over, OnPath-le u v on))

-- no node above it was taken
sorted_free : (old : List ℕ) (d v above result : ℕ) → above ≢ 0 → above ≢ d + 3 → HasNoTakenAbove old v
    → (above ≢ 0 → above ≢ d + 3 → room_of old v ≡ 0 → result ≡ 0)
    → (above ≢ 0 → above ≢ d + 3 → room_of old v ≢ 0 → result ≡ 1)
    → IsSorted old d v result
sorted_free old d v above result some part free taken other = elim (cases_eq (room_of old v) 0) [
  | inl is ↦ inl (taken some part is, is, free)
  | inr not ↦ inr (inl (other some part not, not, free))
]

pub sorted_root : (n : ℕ) (old : List ℕ) (d v above result : ℕ) → IsNode n d v → v / 2 ≡ 0 → above ≡ 1
    → (above ≢ 0 → above ≢ d + 3 → room_of old v ≡ 0 → result ≡ 0)
    → (above ≢ 0 → above ≢ d + 3 → room_of old v ≢ 0 → result ≡ 1)
    → IsSorted old d v result
sorted_root n old d v above result node root one taken other =
    let is : 1 ≡ v = omega (arith, root, (IsNode-in_cube n d v node).0) in
    sorted_free old d v above result (λ none. omega (arith, none, one)) (λ whole. omega (arith, whole, one)) (subst (HasNoTakenAbove old) is (above_root old)) taken other

pub sorted_below : (n : ℕ) (old : List ℕ) (d v above result : ℕ) → IsNode n d v → 0 < v / 2 → IsSorted old (suc d) (v / 2) above
    → ((above ≡ 0) ⊎ (above ≡ d + 3) → result ≡ d + 2)
    → (above ≢ 0 → above ≢ d + 3 → room_of old v ≡ 0 → result ≡ 0)
    → (above ≢ 0 → above ≢ d + 3 → room_of old v ≢ 0 → result ≡ 1)
    → IsSorted old d v result
sorted_below n old d v above result node positive (inl (none, taken_above, free)) below taken other =
    inr (inr (below (inl none), λ clear. clear (v / 2) (OnPath-parent v positive) (λ same. omega (arith, same, positive)) taken_above))
sorted_below n old d v above result node positive (inr (inl (one, here, free))) below taken other =
    sorted_free old d v above result (λ none. omega (arith, none, one)) (λ whole. omega (arith, whole, one)) (above_child old (v / 2) v refl here free) taken other
sorted_below n old d v above result node positive (inr (inr (whole, hidden))) below taken other =
    let is : above ≡ d + 3 = omega (arith, whole) in
    inr (inr (below (inr is), λ clear. hidden (above_parent old (v / 2) v (OnPath-parent v positive) clear (λ same. omega (arith, same, positive)))))

-- one more node is sorted
inner_of : (n d v : ℕ) → IsNode n d v → 0 < v / 2 → d < n
inner_of n d v node positive = elim (cases_lt d n) [
  | inl inner ↦ inner
  | inr top ↦
      let none : n - d ≡ 0 = omega (arith, top, node.0) in
      let one : 2 ^ (n - d) ≡ 1 = ap (λ i. 2 ^ i) none in
      absurd (omega (arith, positive, node.2, one))
]

module _ (n : ℕ) (old rooms : List ℕ) (d v r : ℕ) (node : IsNode n d v) (within : v < length rooms) (over_root : room_of rooms 0 ≡ 1)
    (before : (e w : ℕ) → IsNode n e w → w < v → IsSorted old e w (room_of rooms w)) (others : (w : ℕ) → v ≤ w → room_of rooms w ≡ room_of old w)
    (below : (room_of rooms (v / 2) ≡ 0) ⊎ (room_of rooms (v / 2) ≡ d + 3) → r ≡ d + 2)
    (taken : room_of rooms (v / 2) ≢ 0 → room_of rooms (v / 2) ≢ d + 3 → room_of rooms v ≡ 0 → r ≡ 0)
    (other : room_of rooms (v / 2) ≢ 0 → room_of rooms (v / 2) ≢ d + 3 → room_of rooms v ≢ 0 → r ≡ 1) where
  sorted_own : IsSorted old d v r
  sorted_own =
      let same : room_of rooms v ≡ room_of old v = others v (omega arith) in
      let taken_was : room_of rooms (v / 2) ≢ 0 → room_of rooms (v / 2) ≢ d + 3 → room_of old v ≡ 0 → r ≡ 0 = λ some part none. taken some part (same ∙ none) in
      let other_was : room_of rooms (v / 2) ≢ 0 → room_of rooms (v / 2) ≢ d + 3 → room_of old v ≢ 0 → r ≡ 1 = λ some part not. other some part (λ none. not (sym same ∙ none)) in
      elim (cases_eq (v / 2) 0) [
        | inl root ↦ sorted_root n old d v (room_of rooms (v / 2)) r node root (ap (room_of rooms) root ∙ over_root) taken_was other_was
        | inr inner ↦
            let positive : 0 < v / 2 = omega (arith, inner) in
            sorted_below n old d v (room_of rooms (v / 2)) r node positive
            (before (suc d) (v / 2) (IsNode-parent n d v (inner_of n d v node positive) node) (omega (arith, positive))) below taken_was other_was
      ]

  pub sorted_next : (e w : ℕ) → IsNode n e w → w < v + 1 → IsSorted old e w (room_of (set rooms v r) w)
  sorted_next e w lower less = elim (cases_eq w v) [
    | inl same ↦
        let dims : d ≡ e = IsNode-one n d e v node (subst (IsNode n e) same lower) in
        let got : r ≡ room_of (set rooms v r) w = sym (ap (room_of (set rooms v r)) same ∙ get_or-set_same rooms v r 0 within) in
        subst (IsSorted old e w) got (subst (λ i. IsSorted old i w r) dims (subst (λ u. IsSorted old d u r) (sym same) sorted_own))
    | inr not ↦
        subst (IsSorted old e w) (sym (get_or-set_other rooms v w r 0 not)) (before e w lower (omega (arith, less, not)))
  ]

-- ---- filling

-- a write at another node, which is not below, changes nothing of it
pub filled_moves : (mid rooms : List ℕ) (x j d v : ℕ) → x < v → IsFilled mid rooms d v → IsFilled mid (set rooms x j) d v
filled_moves mid rooms x j d v past (inl (one, joined)) = inl (one, joined_moves d joined)
  where
    kept : (u : ℕ) → x < u → room_of rooms u ≡ room_of (set rooms x j) u
    kept u more = sym (get_or-set_other rooms x u j 0 (λ same. omega (arith, same, more)))

    joined_moves : (d : ℕ) → IsJoined rooms d v → IsJoined (set rooms x j) d v
    joined_moves zero is = sym (kept v past) ∙ is
    joined_moves (suc e) is =
        subst (λ l. IsJoin e l (room_of (set rooms x j) (2 * v + 1)) (room_of (set rooms x j) v)) (kept (2 * v) (omega (arith, past)))
        (subst (λ r. IsJoin e (room_of rooms (2 * v)) r (room_of (set rooms x j) v)) (kept (2 * v + 1) (omega (arith, past)))
        (subst (IsJoin e (room_of rooms (2 * v)) (room_of rooms (2 * v + 1))) (kept v past) is))
filled_moves mid rooms x j d v past (inr (other, same)) =
    inr (other, get_or-set_other rooms x v j 0 (λ at. omega (arith, at, past)) ∙ same)

-- the node that is written has the room of its children
pub filled_own : (n : ℕ) (mid rooms : List ℕ) (j d v : ℕ) → IsNode n d v → v < length rooms → room_of mid v ≡ 1
    → (d ≡ 0 → j ≡ 2)
    → ((e : ℕ) → d ≡ e + 1 → IsJoin e (room_of rooms (2 * v)) (room_of rooms (2 * v + 1)) j)
    → IsFilled mid (set rooms v j) d v
filled_own n mid rooms j zero v node within one leaf inner = inl (one, get_or-set_same rooms v j 0 within ∙ leaf refl)
filled_own n mid rooms j (suc e) v node within one leaf inner =
    let positive = (IsNode-in_cube n (suc e) v node).0 in
    let next : suc e ≡ e + 1 = omega arith in
    let left : room_of rooms (2 * v) ≡ room_of (set rooms v j) (2 * v) = sym (get_or-set_other rooms v (2 * v) j 0 (λ same. omega (arith, same, positive))) in
    let right : room_of rooms (2 * v + 1) ≡ room_of (set rooms v j) (2 * v + 1) = sym (get_or-set_other rooms v (2 * v + 1) j 0 (λ same. omega (arith, same, positive))) in
    let own : j ≡ room_of (set rooms v j) v = sym (get_or-set_same rooms v j 0 within) in
    inl (
      one,
      subst (λ l. IsJoin e l (room_of (set rooms v j) (2 * v + 1)) (room_of (set rooms v j) v)) left
          (subst (λ r. IsJoin e (room_of rooms (2 * v)) r (room_of (set rooms v j) v)) right
          (subst (IsJoin e (room_of rooms (2 * v)) (room_of rooms (2 * v + 1))) own (inner e next))),
    )

-- the nodes past one before this one are filled
pub filled_next : (n : ℕ) (mid rooms : List ℕ) (j d v : ℕ) → IsNode n d v → v < length rooms → room_of mid v ≡ 1
    → (d ≡ 0 → j ≡ 2)
    → ((e : ℕ) → d ≡ e + 1 → IsJoin e (room_of rooms (2 * v)) (room_of rooms (2 * v + 1)) j)
    → ((e w : ℕ) → IsNode n e w → v < w → IsFilled mid rooms e w)
    → (e w : ℕ) → IsNode n e w → v - 1 < w → IsFilled mid (set rooms v j) e w
filled_next n mid rooms j d v node within one leaf inner before e w lower past = elim (cases_eq w v) [
  | inl same ↦
      let dims : d ≡ e = IsNode-one n d e v node (subst (IsNode n e) same lower) in
      subst (λ i. IsFilled mid (set rooms v j) i w) dims (subst (IsFilled mid (set rooms v j) d) (sym same) (filled_own n mid rooms j d v node within one leaf inner))
  | inr not ↦
      let more : v < w = omega (arith, past, not) in filled_moves mid rooms v j e w more (before e w lower more)
]

pub filled_skip : (n : ℕ) (mid rooms : List ℕ) (v : ℕ) → room_of mid v ≢ 1 → room_of rooms v ≡ room_of mid v
    → ((e w : ℕ) → IsNode n e w → v < w → IsFilled mid rooms e w)
    → (e w : ℕ) → IsNode n e w → v - 1 < w → IsFilled mid rooms e w
filled_skip n mid rooms v other kept before e w lower past = elim (cases_eq w v) [
  | inl same ↦ subst (IsFilled mid rooms e) (sym same) (inr (other, kept))
  | inr not ↦ before e w lower (omega (arith, past, not))
]

-- ---- the end

module _ (n : ℕ) (old mid new : List ℕ) (sorted : (d v : ℕ) → IsNode n d v → IsSorted old d v (room_of mid v)) (filled : (d v : ℕ) → IsNode n d v → IsFilled mid new d v) where
  -- a node below a taken one is as if free
  hidden_room : (d v : ℕ) → IsNode n d v → (HasNoTakenAbove old v → ⊥) → room_of new v ≡ d + 2
  hidden_room d v node hidden = elim (sorted d v node) [
    | inl taken ↦ absurd (hidden taken.2)
    | inr (inl free) ↦ absurd (hidden free.2)
    | inr (inr whole) ↦ elim (filled d v node) [
      | inl one ↦ absurd (omega (arith, one.0, whole.0))
      | inr kept ↦ kept.1 ∙ whole.0
    ]
  ]

  not_below : (d v : ℕ) → IsNode n (suc d) v → (room_of old v ≡ 0) ⊎ (HasNoTakenAbove old v → ⊥) → (room_of new (2 * v) ≡ d + 2) × (room_of new (2 * v + 1) ≡ d + 2)
  not_below d v node why =
      let positive = (IsNode-in_cube n (suc d) v node).0 in (
        hidden_room d (2 * v) (IsNode-left n d v node) (λ clear. under (2 * v) (OnPath-left v positive) (λ same. omega (arith, same, positive)) clear),
        hidden_room d (2 * v + 1) (IsNode-right n d v node) (λ clear. under (2 * v + 1) (OnPath-right v positive) (λ same. omega (arith, same, positive)) clear),
      )
    where
      under : (w : ℕ) → OnPath v w → v ≢ w → HasNoTakenAbove old w → ⊥
      under w on other clear = elim why [
        | inl taken ↦ clear v on other taken
        | inr hidden ↦ hidden (above_parent old v w on clear other)
      ]

  pub repaired_right : (d v : ℕ) → IsNode n d v → IsRight new d v
  repaired_right zero v node = elim (filled zero v node) [
    | inl one ↦ inr one.1
    | inr kept ↦ elim (sorted zero v node) [
      | inl taken ↦ inl (kept.1 ∙ taken.0)
      | inr (inl free) ↦ absurd (kept.0 free.0)
      | inr (inr whole) ↦ inr (kept.1 ∙ whole.0)
    ]
  ]
  repaired_right (suc d) v node = elim (filled (suc d) v node) [
    | inl one ↦ inl one.1
    | inr kept ↦ elim (sorted (suc d) v node) [
      | inl taken ↦ let below = not_below d v node (inl taken.1) in inr (kept.1 ∙ taken.0, below.0, below.1)
      | inr (inl free) ↦ absurd (kept.0 free.0)
      | inr (inr whole) ↦
          let below = not_below d v node (inr whole.1) in inl (inl (below.0, below.1, omega (arith, kept.1, whole.0)))
    ]
  ]

  joined_some : (d v : ℕ) → IsJoined new d v → room_of new v ≢ 0
  joined_some zero v is none = omega (arith, is, none)
  joined_some (suc d) v is none = omega (arith, none, join_some d (room_of new (2 * v)) (room_of new (2 * v + 1)) (room_of new v) is)

  pub repaired_taken : (d v : ℕ) → IsNode n d v → (room_of new v ≡ 0) ↔ ((room_of old v ≡ 0) × HasNoTakenAbove old v)
  repaired_taken d v node = elim (filled d v node) [
    | inl one ↦ elim (sorted d v node) [
      | inl taken ↦ absurd (omega (arith, one.0, taken.0))
      | inr (inl free) ↦ (λ none. absurd (joined_some d v one.1 none), λ is. absurd (free.1 is.0))
      | inr (inr whole) ↦ absurd (omega (arith, one.0, whole.0))
    ]
    | inr kept ↦ elim (sorted d v node) [
      | inl taken ↦ (λ none. (taken.1, taken.2), λ is. kept.1 ∙ taken.0)
      | inr (inl free) ↦ absurd (kept.0 free.0)
      | inr (inr whole) ↦ (λ none. absurd (omega (arith, none, kept.1, whole.0)), λ is. absurd (whole.1 is.1))
    ]
  ]

-- node 0 is no node
pub repaired_sound : (n : ℕ) (new : List ℕ) → n ≤ MAX_BITMAP_DIM → length new ≡ 2 ^ (n + 1) → ((d v : ℕ) → IsNode n d v → IsRight new d v) → IsSound n new
repaired_sound n new limit count right = record { dim_in_limits = limit; room_count = omega (arith, count); right = λ d v node some. right d v node }

-- the held blocks of an image with these taken nodes
pub topmost_held : (n : ℕ) (old new : List ℕ) → IsSound n new
    → ((d v : ℕ) → IsNode n d v → (room_of new v ≡ 0) ↔ ((room_of old v ≡ 0) × HasNoTakenAbove old v))
    → (r : Region) → HoldsBlock (fit_in n new) r ↔ IsTopmost n old r
topmost_held n old new sound taken r = (into, back)
  where
    into : HoldsBlock (fit_in n new) r → IsTopmost n old r
    into held =
        let represents = Represents-in n new sound in
        let named = node_of_held represents.lawful held in
        let was = (taken r.dim named.0 (IsNode-of n named.0 r named.1)).0 (represents.each_is_taken r.base r named.0 held named.1) in
        (named.0, named.1, was.0, was.1)
      where
        node_of_held : IsLawful n (held_in (fit_in n new)) → HoldsBlock (fit_in n new) r → (v : ℕ) × IsNodeOf n v r
        node_of_held lawful held = IsNodeOf-of_aligned n r (lawful.aligned r.base r held)

    back : IsTopmost n old r → HoldsBlock (fit_in n new) r
    back (v, named, none, above) =
        let represents = Represents-in n new sound in
        held_at n new r (represents.each_is_held v r named ((taken r.dim v (IsNode-of n v r named)).1 (none, above)))

-- what an image holds is topmost
pub held_topmost : (n : ℕ) (rooms : List ℕ) → IsSound n rooms → (r : Region) → IsTopmost n rooms r ↔ HoldsBlock (fit_in n rooms) r
held_topmost n rooms sound r = (into, back)
  where
    into : IsTopmost n rooms r → HoldsBlock (fit_in n rooms) r
    into (v, named, none, above) =
        let represents = Represents-in n rooms sound in held_at n rooms r (represents.each_is_held v r named none)

    back : HoldsBlock (fit_in n rooms) r → IsTopmost n rooms r
    back held =
        let represents = Represents-in n rooms sound in
        let node = aligned_node represents.lawful held in
        let taken = represents.each_is_taken r.base r node.0 held node.1 in
        (node.0, node.1, taken, taken_alone n rooms sound r.dim node.0 (IsNode-of n node.0 r node.1) taken)
      where
        aligned_node : IsLawful n (held_in (fit_in n rooms)) → HoldsBlock (fit_in n rooms) r → (v : ℕ) × IsNodeOf n v r
        aligned_node lawful held = IsNodeOf-of_aligned n r (lawful.aligned r.base r held)
