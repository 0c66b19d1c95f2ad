-- The way down to the first open node, and the way up from a node whose room has changed.
use Rattle.std.proofs.Common.{◌≡◌, ◌≢◌, ℕ, zero, suc, ◌+◌, ◌-◌, ◌*◌, ◌/◌, ◌^◌, ◌<◌, ◌≤◌, ◌⊎◌, inl, inr, List, length, refl, sym, ◌∙◌, ap, subst, arith}
use Rattle.std.specs.Prelude.{◌↔◌, bit_xor}
use Rattle.std.proofs.Math.ListN.{set}
use Rattle.std.proofs.lemmas.List.{get_or-set_same, get_or-set_other, length-set}
use Rattle.std.proofs.lemmas.Nat.{shr-shr, shr_high}
use Rattle.std.proofs.lemmas.Bool.{cases_lt, cases_eq}
use Rattle.std.proofs.Math.Nat.{div-one}
use Rattle.cube_shape.specs.Node.{OnPath}
use Rattle.cube_shape.proofs.PathLemmas.{OnPath-self, OnPath-le, OnPath-up, OnPath-linear, OnPath-parent, OnPath-trans}
use Rattle.fit_tree.specs.Rooms.{IsJoin, IsNode, IsRight, IsSound, IsSoundBut, room_of}
use Rattle.fit_tree.specs.InnerNodes.{HasNoTakenAbove, IsOpen}
use Rattle.fit_tree.proofs.NodeLemmas.{IsNode-in_cube, IsNode-left, IsNode-right, IsNode-parent, IsNode-one, OnPath-left, OnPath-right, steps_up, sibling, sibling_inside}
use Rattle.fit_tree.proofs.RoomLemmas.{join_enough, join_swaps, right_at, room_bound, none_open, whole_is_open, children_whole}

-- the root is on the path to each node
root_steps : (n k w : ℕ) → IsNode n k w → w / 2 ^ (n - k) ≡ 1
root_steps n k w node =
    let low : w - 2 ^ (n - k) < 2 ^ (n - k) = omega (arith, node.1, node.2) in
    let parts : 1 * 2 ^ (n - k) + (w - 2 ^ (n - k)) ≡ w = omega (arith, node.1) in
    ap (λ x. x / 2 ^ (n - k)) (sym parts) ∙ shr_high 1 (n - k) (w - 2 ^ (n - k)) low

pub OnPath-root : (n k w : ℕ) → IsNode n k w → OnPath 1 w
OnPath-root n k w node = (omega arith, (n - k, root_steps n k w node))

-- a child of a node that was not taken, with none taken above
pub above_child : (rooms : List ℕ) (v c : ℕ) → c / 2 ≡ v → room_of rooms v ≢ 0 → HasNoTakenAbove rooms v → HasNoTakenAbove rooms c
above_child rooms v c is here above u on other =
    let up : OnPath u v = subst (λ x. OnPath u x) is (OnPath-up u c on other) in
    elim (cases_eq u v) [
      | inl same ↦ λ taken. here (ap (room_of rooms) (sym same) ∙ taken)
      | inr higher ↦ above u up higher
    ]

-- ---- down

-- a step down from the node of dimension `top + k - i`
module _ (n k top i v : ℕ) (from : k ≤ i) (inner : i < top) (node : IsNode n (top + k - i) v) where
  pub down_upper : IsNode n (suc (top + k - (i + 1))) v
  down_upper = let same : top + k - i ≡ suc (top + k - (i + 1)) = omega arith in subst (λ d. IsNode n d v) same node

  pub down_left : IsNode n (top + k - (i + 1)) (2 * v)
  down_left = IsNode-left n (top + k - (i + 1)) v down_upper

  pub down_right : IsNode n (top + k - (i + 1)) (2 * v + 1)
  down_right = IsNode-right n (top + k - (i + 1)) v down_upper

  pub down_inside : 2 * v + 1 < 2 ^ (n + 1)
  down_inside = (IsNode-in_cube n (top + k - (i + 1)) (2 * v + 1) down_right).1

  pub down_on_left : (start : ℕ) → OnPath start v → OnPath start (2 * v)
  down_on_left start on = OnPath-trans start v (2 * v) on (OnPath-left v (IsNode-in_cube n (top + k - i) v node).0)

  pub down_on_right : (start : ℕ) → OnPath start v → OnPath start (2 * v + 1)
  down_on_right start on = OnPath-trans start v (2 * v + 1) on (OnPath-right v (IsNode-in_cube n (top + k - i) v node).0)

-- The way down from `start`, which has dimension `top`, after `i - k` steps. Node `v` has room for
-- dimension `k`, and all before it in `start` has none.
pub record Descent (n k : ℕ) (rooms : List ℕ) (top start i v : ℕ) : Type 0 where
  pub from : k ≤ i
  pub to : i ≤ top
  pub node : IsNode n (top + k - i) v
  pub enough : k + 2 ≤ room_of rooms v
  pub above : HasNoTakenAbove rooms v
  pub below : OnPath start v
  pub before : (w : ℕ) → IsNode n k w → OnPath start w → w / 2 ^ (top - i) < v → IsOpen n rooms w → ⊥

pub Descent-begin : (n k : ℕ) (rooms : List ℕ) (top start : ℕ) → k ≤ top → IsNode n top start → k + 2 ≤ room_of rooms start → HasNoTakenAbove rooms start → Descent n k rooms top start k start
Descent-begin n k rooms top start fits node enough above = record {
  from = omega arith;
  to = fits;
  node = let here : top + k - k ≡ top = omega arith in subst (λ d. IsNode n d start) (sym here) node;
  enough = enough;
  above = above;
  below = OnPath-self start (IsNode-in_cube n top start node).0;
  before = λ w lower under less free. omega (arith, less, (steps_up n top k start w node lower under).1);
}

module _ (n k : ℕ) (rooms : List ℕ) (sound : IsSound n rooms) (top start i v : ℕ) (descent : Descent n k rooms top start i v)
    (inner : i < top) where
  upper : IsNode n (suc (top + k - (i + 1))) v
  upper =
      let from = descent.from in
      let same : top + k - i ≡ suc (top + k - (i + 1)) = omega arith in subst (λ d. IsNode n d v) same descent.node

  half : (w : ℕ) → w / 2 ^ (top - (i + 1)) / 2 ≡ w / 2 ^ (top - i)
  half w =
      let parts : top - (i + 1) + 1 ≡ top - i = omega arith in
      shr-shr w (top - (i + 1)) 1 ∙ ap (λ j. w / 2 ^ j) parts

  here : room_of rooms v ≢ 0
  here = λ taken. omega (arith, taken, descent.enough)

  positive : 0 < v
  positive = (IsNode-in_cube n (suc (top + k - (i + 1))) v upper).0

  pub Descent-left : k + 2 ≤ room_of rooms (2 * v) → Descent n k rooms top start (i + 1) (2 * v)
  Descent-left enough = record {
    from = omega (arith, descent.from);
    to = omega arith;
    node = IsNode-left n (top + k - (i + 1)) v upper;
    enough = enough;
    above = above_child rooms v (2 * v) (omega arith) here descent.above;
    below = OnPath-trans start v (2 * v) descent.below (OnPath-left v positive);
    before = λ w lower under less. descent.before w lower under (omega (arith, less, half w));
  }

  pub Descent-right : room_of rooms (2 * v) < k + 2 → Descent n k rooms top start (i + 1) (2 * v + 1)
  Descent-right less = record {
    from = omega (arith, descent.from);
    to = omega arith;
    node = IsNode-right n (top + k - (i + 1)) v upper;
    enough = elim (right_at n rooms sound (suc (top + k - (i + 1))) v upper) [
      | inl joined ↦
          join_enough (top + k - (i + 1)) k (room_of rooms (2 * v)) (room_of rooms (2 * v + 1)) (room_of rooms v) (omega (arith, descent.from)) joined descent.enough less
      | inr taken ↦ absurd (here taken.0)
    ];
    above = above_child rooms v (2 * v + 1) (omega arith) here descent.above;
    below = OnPath-trans start v (2 * v + 1) descent.below (OnPath-right v positive);
    before = before;
  }
    where
      before : (w : ℕ) → IsNode n k w → OnPath start w → w / 2 ^ (top - (i + 1)) < 2 * v + 1 → IsOpen n rooms w → ⊥
      before w lower under small free = elim (cases_eq (w / 2 ^ (top - (i + 1))) (2 * v)) [
        | inl same ↦
            none_open n rooms sound (top + k - (i + 1)) (2 * v) k w (IsNode-left n (top + k - (i + 1)) v upper) lower (omega (arith, positive), (top - (i + 1), same)) less free
        | inr other ↦ descent.before w lower under (omega (arith, small, other, half w)) free
      ]

-- at the end the node is the first open one in `start`
module _ (n k : ℕ) (rooms : List ℕ) (sound : IsSound n rooms) (top start v : ℕ) (descent : Descent n k rooms top start top v) where
  pub Descent-node : IsNode n k v
  Descent-node = let same : top + k - top ≡ k = omega arith in subst (λ d. IsNode n d v) same descent.node

  pub Descent-whole : room_of rooms v ≡ k + 2
  Descent-whole = omega (arith, descent.enough, room_bound n rooms sound k v Descent-node)

  pub Descent-open : IsOpen n rooms v
  Descent-open = whole_is_open n rooms sound k v Descent-node Descent-whole descent.above

  pub Descent-first : (w : ℕ) → IsNode n k w → OnPath start w → w < v → IsOpen n rooms w → ⊥
  Descent-first w lower under less =
      let none : top - top ≡ 0 = omega arith in
      let all : w / 2 ^ (top - top) ≡ w = ap (λ j. w / 2 ^ j) none ∙ div-one w in
      descent.before w lower under (omega (arith, less, all))

-- so there is an open node where there is room
pub Descent-ends : (n k : ℕ) (rooms : List ℕ) → IsSound n rooms → (top start steps i v : ℕ) → i + steps ≡ top → Descent n k rooms top start i v → (w : ℕ) × Descent n k rooms top start top w
Descent-ends n k rooms sound top start zero i v is descent =
    let same : i ≡ top = omega arith in (v, subst (λ j. Descent n k rooms top start j v) same descent)
Descent-ends n k rooms sound top start (suc steps) i v is descent = elim (cases_lt (room_of rooms (2 * v)) (k + 2)) [
  | inl less ↦ Descent-ends n k rooms sound top start steps (i + 1) (2 * v + 1) (omega arith) (Descent-right n k rooms sound top start i v descent (omega arith) less)
  | inr enough ↦ Descent-ends n k rooms sound top start steps (i + 1) (2 * v) (omega arith) (Descent-left n k rooms sound top start i v descent (omega arith) enough)
]

-- no node is above the root
pub above_root : (rooms : List ℕ) → HasNoTakenAbove rooms 1
above_root rooms u on other = absurd (omega (arith, other, on.0, OnPath-le u 1 on))

-- ---- a room is written

module _ (rooms : List ℕ) (x j : ℕ) where
  pub room_other : (v : ℕ) → v ≢ x → room_of (set rooms x j) v ≡ room_of rooms v
  room_other v other = get_or-set_other rooms x v j 0 other

  -- only the node itself and its parent see it
  pub right_stays : (d v : ℕ) → v ≢ x → v ≢ x / 2 → IsRight rooms d v → IsRight (set rooms x j) d v
  right_stays zero v other not_parent is = subst (λ r. (r ≡ 0) ⊎ (r ≡ 2)) (sym (room_other v other)) is
  right_stays (suc d) v other not_parent is =
      let left : 2 * v ≢ x = λ same. not_parent (omega arith) in
      let right : 2 * v + 1 ≢ x = λ same. not_parent (omega arith) in
      subst (λ r. IsJoin d r (room_of (set rooms x j) (2 * v + 1)) (room_of (set rooms x j) v)
      ⊎ ((room_of (set rooms x j) v ≡ 0) × (r ≡ d + 2) × (room_of (set rooms x j) (2 * v + 1) ≡ d + 2))) (sym (room_other (2 * v) left))
      (subst (λ r. IsJoin d (room_of rooms (2 * v)) r (room_of (set rooms x j) v)
      ⊎ ((room_of (set rooms x j) v ≡ 0) × (room_of rooms (2 * v) ≡ d + 2) × (r ≡ d + 2))) (sym (room_other (2 * v + 1) right))
      (subst (λ r. IsJoin d (room_of rooms (2 * v)) (room_of rooms (2 * v + 1)) r
      ⊎ ((r ≡ 0) × (room_of rooms (2 * v) ≡ d + 2) × (room_of rooms (2 * v + 1) ≡ d + 2))) (sym (room_other v other)) is))

pub IsSoundBut-set : (n y k x j : ℕ) (rooms : List ℕ) → IsSoundBut n y rooms → (y ≡ x) ⊎ (y ≡ 0) → IsNode n k x → IsRight (set rooms x j) k x → IsSoundBut n (x / 2) (set rooms x j)
IsSoundBut-set n y k x j rooms sound either node right = record {
  dim_in_limits = sound.dim_in_limits;
  room_count = omega (arith, sound.room_count, length-set rooms x j);
  right = at;
}
  where
    not_y : (d v : ℕ) → IsNode n d v → v ≢ x → v ≢ y
    not_y d v lower other = λ same. elim either [
      | inl is ↦ other (same ∙ is)
      | inr is ↦ omega (arith, same, is, (IsNode-in_cube n d v lower).0)
    ]

    at : (d v : ℕ) → IsNode n d v → v ≢ x / 2 → IsRight (set rooms x j) d v
    at d v lower not_parent = elim (cases_eq v x) [
      | inl same ↦
          let moved : IsNode n d x = subst (IsNode n d) same lower in
          let dims : k ≡ d = IsNode-one n k d x node moved in
          subst (λ e. IsRight (set rooms x j) e v) dims (subst (λ u. IsRight (set rooms x j) k u) (sym same) right)
      | inr other ↦ right_stays rooms x j d v other not_parent (sound.right d v lower (not_y d v lower other))
    ]

-- ---- up

-- The way up: only the room of the parent of node `v`, which has dimension `d`, may be wrong.
pub record Climb (n : ℕ) (old rooms : List ℕ) (d v : ℕ) : Type 0 where
  pub len : length rooms ≡ length old
  pub node : IsNode n d v
  pub sound : IsSoundBut n (v / 2) rooms
  pub above : HasNoTakenAbove rooms v
  pub taken : (u : ℕ) → (room_of rooms u ≡ 0) ↔ (room_of old u ≡ 0)

pub Climb-begin : (n d v : ℕ) (rooms : List ℕ) → IsNode n d v → IsSoundBut n (v / 2) rooms → HasNoTakenAbove rooms v → Climb n rooms rooms d v
Climb-begin n d v rooms node sound above =
    record { len = refl; node = node; sound = sound; above = above; taken = λ u. (λ is. is, λ is. is) }

-- above the root there is nothing to do
pub Climb-end : (n v : ℕ) (old rooms : List ℕ) → Climb n old rooms n v → IsSound n rooms
Climb-end n v old rooms climb =
    let none : n - n ≡ 0 = omega arith in
    let one : 2 ^ (n - n) ≡ 1 = ap (λ j. 2 ^ j) none in
    let node = climb.node in
    let parent : v / 2 ≡ 0 = omega (arith, node.2, one) in
    subst (λ x. IsSoundBut n x rooms) parent climb.sound

-- the parent and its children have rooms
pub parent_inside : (n d v : ℕ) → d < n → IsNode n d v → (0 < v / 2) × (2 * (v / 2) + 1 < 2 ^ (n + 1))
parent_inside n d v inner node =
    let parent = IsNode-parent n d v inner node in
    ((IsNode-in_cube n (suc d) (v / 2) parent).0, (IsNode-in_cube n d (2 * (v / 2) + 1) (IsNode-right n d (v / 2) parent)).1)

-- and so has the other child
pub sibling_room : (n d v : ℕ) → d < n → IsNode n d v → bit_xor v 1 < 2 ^ (n + 1)
sibling_room n d v inner node = omega (arith, parent_inside n d v inner node, sibling_inside v)

-- a join of a node's own room and that of the other child
pub joined_above : (d v own j : ℕ) (rooms : List ℕ) → own ≡ room_of rooms v → IsJoin d own (room_of rooms (bit_xor v 1)) j
    → IsJoin d (room_of rooms (2 * (v / 2))) (room_of rooms (2 * (v / 2) + 1)) j
joined_above d v own j rooms is joined =
    let both : IsJoin d (room_of rooms v) (room_of rooms (bit_xor v 1)) j = subst (λ r. IsJoin d r (room_of rooms (bit_xor v 1)) j) is joined in
    elim (sibling v) [
      | inl left ↦
          subst (λ u. IsJoin d (room_of rooms u) (room_of rooms (2 * (v / 2) + 1)) j) left.0 (subst (λ u. IsJoin d (room_of rooms v) (room_of rooms u) j) left.1 both)
      | inr right ↦
          subst (λ u. IsJoin d (room_of rooms (2 * (v / 2))) (room_of rooms u) j) right.0
          (subst (λ u. IsJoin d (room_of rooms u) (room_of rooms v) j) right.1 (join_swaps d (room_of rooms v) (room_of rooms (bit_xor v 1)) j both))
    ]

pub Climb-inside : (n d v : ℕ) (old rooms : List ℕ) → Climb n old rooms d v → d < n → (0 < v / 2) × (2 * (v / 2) + 1 < length rooms)
Climb-inside n d v old rooms climb inner =
    let parent = IsNode-parent n d v inner climb.node in
    let here = IsNode-in_cube n (suc d) (v / 2) parent in
    let right = IsNode-in_cube n d (2 * (v / 2) + 1) (IsNode-right n d (v / 2) parent) in
    let sound = climb.sound in
    (here.0, omega (arith, right.1, sound.room_count))

module _ (n d v j : ℕ) (old rooms : List ℕ) (climb : Climb n old rooms d v) (inner : d < n)
    (joined : IsJoin d (room_of rooms (2 * (v / 2))) (room_of rooms (2 * (v / 2) + 1)) j) where
  parent : IsNode n (suc d) (v / 2)
  parent = IsNode-parent n d v inner climb.node

  -- the room that is there is right already
  pub Climb-stop : room_of rooms (v / 2) ≡ j → IsSound n rooms
  Climb-stop same = record {
    dim_in_limits = (climb.sound).dim_in_limits;
    room_count = (climb.sound).room_count;
    right = at;
  }
    where
      at : (e u : ℕ) → IsNode n e u → u ≢ 0 → IsRight rooms e u
      at e u lower _ = elim (cases_eq u (v / 2)) [
        | inl is ↦
            let dims : suc d ≡ e = IsNode-one n (suc d) e (v / 2) parent (subst (IsNode n e) is lower) in
            subst (λ i. IsRight rooms i u) dims (subst (λ x. IsRight rooms (suc d) x) (sym is)
            (inl (subst (IsJoin d (room_of rooms (2 * (v / 2))) (room_of rooms (2 * (v / 2) + 1))) (sym same) joined)))
        | inr other ↦ (climb.sound).right e u lower other
      ]

  pub Climb-step : Climb n old (set rooms (v / 2) j) (d + 1) (v / 2)
  Climb-step = record {
    len = length-set rooms (v / 2) j ∙ climb.len;
    node = subst (λ e. IsNode n e (v / 2)) next parent;
    sound = IsSoundBut-set n (v / 2) (suc d) (v / 2) j rooms climb.sound (inl refl) parent (inl joined_now);
    above = above;
    taken = taken;
  }
    where
      next : suc d ≡ d + 1
      next = omega arith

      positive : 0 < v / 2
      positive = (Climb-inside n d v old rooms climb inner).0

      within : v / 2 < length rooms
      within = omega (arith, (Climb-inside n d v old rooms climb inner).1)

      own : room_of (set rooms (v / 2) j) (v / 2) ≡ j
      own = get_or-set_same rooms (v / 2) j 0 within

      left : 2 * (v / 2) ≢ v / 2
      left = λ same. omega (arith, same, positive)

      right : 2 * (v / 2) + 1 ≢ v / 2
      right = λ same. omega (arith, same, positive)

      joined_now : IsJoin d (room_of (set rooms (v / 2) j) (2 * (v / 2))) (room_of (set rooms (v / 2) j) (2 * (v / 2) + 1)) (room_of (set rooms (v / 2) j) (v / 2))
      joined_now =
          subst (λ r. IsJoin d r (room_of (set rooms (v / 2) j) (2 * (v / 2) + 1)) (room_of (set rooms (v / 2) j) (v / 2))) (sym (room_other rooms (v / 2) j (2 * (v / 2)) left))
          (subst (λ r. IsJoin d (room_of rooms (2 * (v / 2))) r (room_of (set rooms (v / 2) j) (v / 2))) (sym (room_other rooms (v / 2) j (2 * (v / 2) + 1) right))
          (subst (IsJoin d (room_of rooms (2 * (v / 2))) (room_of rooms (2 * (v / 2) + 1))) (sym own) joined))

      up : (u : ℕ) → OnPath u (v / 2) → OnPath u v
      up u on =
          let split : 1 + on.1.0 ≡ on.1.0 + 1 = omega arith in
          (on.0, (1 + on.1.0, sym (shr-shr v 1 on.1.0) ∙ on.1.1))

      above : HasNoTakenAbove (set rooms (v / 2) j) (v / 2)
      above u on other taken =
          let small = OnPath-le u (v / 2) on in
          climb.above u (up u on) (λ same. omega (arith, same, small, positive)) (sym (room_other rooms (v / 2) j u other) ∙ taken)

      not_before : room_of rooms (v / 2) ≢ 0
      not_before = climb.above (v / 2) (positive, (1, refl)) (λ same. omega (arith, same, positive))

      not_after : j ≢ 0
      not_after = joined_positive joined
        where
          joined_positive : IsJoin d (room_of rooms (2 * (v / 2))) (room_of rooms (2 * (v / 2) + 1)) j → j ≢ 0
          joined_positive (inl whole) is = omega (arith, whole.2, is)
          joined_positive (inr part) is = omega (arith, part.3, is)

      taken : (u : ℕ) → (room_of (set rooms (v / 2) j) u ≡ 0) ↔ (room_of old u ≡ 0)
      taken u = elim (cases_eq u (v / 2)) [
        | inl same ↦ (
          λ is. absurd (not_after (sym own ∙ ap (room_of (set rooms (v / 2) j)) (sym same) ∙ is)),
          λ is. absurd (not_before (ap (room_of rooms) (sym same) ∙ (climb.taken u).1 is)),
        )
        | inr other ↦ (
          λ is. (climb.taken u).0 (sym (room_other rooms (v / 2) j u other) ∙ is),
          λ is. room_other rooms (v / 2) j u other ∙ (climb.taken u).1 is,
        )
      ]

-- ---- a look up

-- Each node above `start` that was passed was not taken: these are the nodes past `v`.
pub record Ascent (rooms : List ℕ) (start v : ℕ) : Type 0 where
  pub below : (v ≡ 0) ⊎ (OnPath v start × (v ≢ start))
  pub passed : (u : ℕ) → OnPath u start → u ≢ start → v < u → room_of rooms u ≢ 0

half_above : (start v : ℕ) → (v ≡ start) ⊎ OnPath v start → 0 < start → (v / 2 ≡ 0) ⊎ (OnPath (v / 2) start × (v / 2 ≢ start))
half_above start v on positive = elim (cases_eq (v / 2) 0) [
  | inl none ↦ inl none
  | inr some ↦ inr (up on some, λ same. omega (arith, some, same, small on))
]
  where
    small : (v ≡ start) ⊎ OnPath v start → v ≤ start
    small (inl same) = omega arith
    small (inr over) = OnPath-le v start over

    up : (v ≡ start) ⊎ OnPath v start → v / 2 ≢ 0 → OnPath (v / 2) start
    up (inl same) some = subst (λ x. OnPath (v / 2) x) same (OnPath-parent v (omega arith))
    up (inr over) some = OnPath-trans (v / 2) v start (OnPath-parent v (omega arith)) over

-- what is above a node and past its parent is the node
past_half : (start v u : ℕ) → (v ≡ start) ⊎ OnPath v start → OnPath u start → v / 2 < u → (v < u) ⊎ (u ≡ v)
past_half start v u on over past = elim (cases_lt v u) [
  | inl less ↦ inl less
  | inr order ↦ elim (cases_eq u v) [
    | inl same ↦ inr same
    | inr higher ↦
        let up : OnPath u (v / 2) = OnPath-up u v (at on order) higher in
        absurd (omega (arith, past, OnPath-le u (v / 2) up))
  ]
]
  where
    at : (v ≡ start) ⊎ OnPath v start → u ≤ v → OnPath u v
    at (inl same) order = subst (λ x. OnPath u x) (sym same) over
    at (inr above) order = OnPath-linear u v start over above order

pub Ascent-begin : (rooms : List ℕ) (start : ℕ) → 0 < start → Ascent rooms start (start / 2)
Ascent-begin rooms start positive = record { below = half_above start start (inl refl) positive; passed = passed }
  where
    passed : (u : ℕ) → OnPath u start → u ≢ start → start / 2 < u → room_of rooms u ≢ 0
    passed u over other past = absurd (elim (past_half start start u (inl refl) over past) [
      | inl less ↦ omega (arith, less, OnPath-le u start over)
      | inr same ↦ other same
    ])

pub Ascent-step : (rooms : List ℕ) (start v : ℕ) → 0 < start → 0 < v → Ascent rooms start v → room_of rooms v ≢ 0 → Ascent rooms start (v / 2)
Ascent-step rooms start v positive inner ascent here = record { below = half_above start v (inr on) positive; passed = passed }
  where
    on : OnPath v start
    on = elim (ascent.below) [ inl none ↦ absurd (omega (arith, none, inner)) | inr over ↦ over.0 ]

    passed : (u : ℕ) → OnPath u start → u ≢ start → v / 2 < u → room_of rooms u ≢ 0
    passed u over other past = elim (past_half start v u (inr on) over past) [
      | inl less ↦ ascent.passed u over other less
      | inr same ↦ λ taken. here (ap (room_of rooms) (sym same) ∙ taken)
    ]

pub Ascent-inside : (rooms : List ℕ) (start v : ℕ) → 0 < start → Ascent rooms start v → v < start
Ascent-inside rooms start v positive ascent = elim (ascent.below) [
  | inl none ↦ omega (arith, none)
  | inr over ↦ omega (arith, OnPath-le v start over.0, over.1)
]

pub Ascent-end : (rooms : List ℕ) (start v : ℕ) → v ≡ 0 → Ascent rooms start v → HasNoTakenAbove rooms start
Ascent-end rooms start v none ascent u over other = ascent.passed u over other (omega (arith, none, over.0))

pub Ascent-taken : (rooms : List ℕ) (start v : ℕ) → 0 < v → Ascent rooms start v → room_of rooms v ≡ 0 → HasNoTakenAbove rooms start → ⊥
Ascent-taken rooms start v inner ascent taken above = elim (ascent.below) [
  | inl none ↦ omega (arith, none, inner)
  | inr over ↦ above v over.0 over.1 taken
]

-- ---- a node is taken or released

-- its own room is right, since all below it is as if free
pub right_own : (n : ℕ) (rooms : List ℕ) → IsSound n rooms → (k x j : ℕ) → IsNode n k x → (room_of rooms x ≡ 0) ⊎ (room_of rooms x ≡ k + 2) → (j ≡ 0) ⊎ (j ≡ k + 2) → IsRight (set rooms x j) k x
right_own n rooms sound zero x j node before either =
    let within : x < length rooms = omega (arith, (IsNode-in_cube n zero x node).1, sound.room_count) in
    subst (λ r. (r ≡ 0) ⊎ (r ≡ 2)) (sym (get_or-set_same rooms x j 0 within)) either
right_own n rooms sound (suc d) x j node before either =
    subst (λ r. IsJoin d r (room_of (set rooms x j) (2 * x + 1)) (room_of (set rooms x j) x)
    ⊎ ((room_of (set rooms x j) x ≡ 0) × (r ≡ d + 2) × (room_of (set rooms x j) (2 * x + 1) ≡ d + 2))) (sym (room_other rooms x j (2 * x) left ∙ below.0))
    (subst (λ r. IsJoin d (d + 2) r (room_of (set rooms x j) x)
    ⊎ ((room_of (set rooms x j) x ≡ 0) × ((d + 2) ≡ d + 2) × (r ≡ d + 2))) (sym (room_other rooms x j (2 * x + 1) right ∙ below.1))
    (subst (λ r. IsJoin d (d + 2) (d + 2) r ⊎ ((r ≡ 0) × ((d + 2) ≡ d + 2) × ((d + 2) ≡ d + 2))) (sym own) (choose either)))
  where
    below : (room_of rooms (2 * x) ≡ d + 2) × (room_of rooms (2 * x + 1) ≡ d + 2)
    below = children_whole n rooms sound d x node before

    positive : 0 < x
    positive = (IsNode-in_cube n (suc d) x node).0

    left : 2 * x ≢ x
    left = λ same. omega (arith, same, positive)

    right : 2 * x + 1 ≢ x
    right = λ same. omega (arith, same, positive)

    own : room_of (set rooms x j) x ≡ j
    own = get_or-set_same rooms x j 0 (omega (arith, (IsNode-in_cube n (suc d) x node).1, sound.room_count))

    choose : (j ≡ 0) ⊎ (j ≡ suc d + 2) → IsJoin d (d + 2) (d + 2) j ⊎ ((j ≡ 0) × ((d + 2) ≡ d + 2) × ((d + 2) ≡ d + 2))
    choose (inl none) = inr (none, refl, refl)
    choose (inr whole) = inl (inl (refl, refl, omega (arith, whole)))
