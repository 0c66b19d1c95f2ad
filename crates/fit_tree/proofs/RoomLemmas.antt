-- What the rooms of a sound tree say of the nodes that were taken.
use Rattle.std.proofs.Common.{◌≡◌, ◌≢◌, ℕ, zero, suc, ◌+◌, ◌*◌, ◌<◌, ◌≤◌, ◌⊎◌, inl, inr, List, sym, ◌∙◌, ap, subst, arith}
use Rattle.std.proofs.lemmas.Bool.{cases_eq}
use Rattle.cube_shape.specs.Node.{IsInCube, OnPath}
use Rattle.cube_shape.proofs.PathLemmas.{OnPath-self, OnPath-le, OnPath-trans}
use Rattle.fit_tree.specs.Rooms.{IsJoin, IsNode, IsRight, IsSound, room_of}
use Rattle.fit_tree.specs.InnerNodes.{HasNoTakenAbove, IsOpen}
use Rattle.fit_tree.proofs.NodeLemmas.{IsNode-in_cube, IsNode-left, IsNode-right, IsNode-one, IsNode-has, steps_up, same_dim, below_child, OnPath-left, OnPath-right}

-- ---- joins

pub join_bound : (d left right room : ℕ) → left ≤ d + 2 → right ≤ d + 2 → IsJoin d left right room → (0 < room) × (room ≤ d + 3)
join_bound d left right room low high (inl whole) = (omega (arith, whole.2), omega (arith, whole.2))
join_bound d left right room low high (inr (part, of_left, of_right, positive, inl is)) = (omega arith, omega arith)
join_bound d left right room low high (inr (part, of_left, of_right, positive, inr (inl is))) = (omega arith, omega arith)
join_bound d left right room low high (inr (part, of_left, of_right, positive, inr (inr is))) = (omega arith, omega arith)

-- only two wholly free children make a wholly free node
pub join_whole : (d left right room : ℕ) → left ≤ d + 2 → right ≤ d + 2 → IsJoin d left right room → room ≡ d + 3 → (left ≡ d + 2) × (right ≡ d + 2)
join_whole d left right room low high (inl whole) is = (whole.0, whole.1)
join_whole d left right room low high (inr (part, of_left, of_right, positive, inl same)) is = absurd (omega arith)
join_whole d left right room low high (inr (part, of_left, of_right, positive, inr (inl same))) is = absurd (omega arith)
join_whole d left right room low high (inr (part, of_left, of_right, positive, inr (inr same))) is = absurd (omega arith)

pub join_part : (d left right room : ℕ) → IsJoin d left right room → room ≢ d + 3 → (left ≢ d + 2) ⊎ (right ≢ d + 2)
join_part d left right room (inl whole) other = absurd (other whole.2)
join_part d left right room (inr part) other = part.0

-- a join is the same from either side
pub join_swaps : (d left right room : ℕ) → IsJoin d left right room → IsJoin d right left room
join_swaps d left right room (inl whole) = inl (whole.1, whole.0, whole.2)
join_swaps d left right room (inr (part, of_left, of_right, positive, is)) =
    inr (either part, of_right, of_left, positive, from is)
  where
    either : (left ≢ d + 2) ⊎ (right ≢ d + 2) → (right ≢ d + 2) ⊎ (left ≢ d + 2)
    either (inl of_left) = inr of_left
    either (inr of_right) = inl of_right

    from : (room ≡ left) ⊎ (room ≡ right) ⊎ (room ≡ 1) → (room ≡ right) ⊎ (room ≡ left) ⊎ (room ≡ 1)
    from (inl same) = inr (inl same)
    from (inr (inl same)) = inl same
    from (inr (inr one)) = inr (inr one)

-- what is too little for a dimension is too little in both children
pub join_less : (d k left right room : ℕ) → k ≤ d → IsJoin d left right room → room < k + 2 → (left < k + 2) × (right < k + 2)
join_less d k left right room fits (inl whole) less = absurd (omega (arith, whole.2))
join_less d k left right room fits (inr part) less = (omega (arith, part.1), omega (arith, part.2))

-- and what is enough and not in the left child is in the right one
pub join_enough : (d k left right room : ℕ) → k ≤ d → IsJoin d left right room → k + 2 ≤ room → left < k + 2 → k + 2 ≤ right
join_enough d k left right room fits (inl whole) enough less = omega (arith, whole.1)
join_enough d k left right room fits (inr (part, of_left, of_right, positive, inl same)) enough less = absurd (omega arith)
join_enough d k left right room fits (inr (part, of_left, of_right, positive, inr (inl same))) enough less = omega arith
join_enough d k left right room fits (inr (part, of_left, of_right, positive, inr (inr same))) enough less = absurd (omega arith)

-- ---- below a node

-- all nodes below have the rooms of a free machine
abbrev IsWhole : ℕ → List ℕ → ℕ → Type 0
IsWhole n rooms v = (e u : ℕ) → IsNode n e u → OnPath v u → room_of rooms u ≡ e + 2

module _ (n : ℕ) (rooms : List ℕ) (sound : IsSound n rooms) where
  pub right_at : (d v : ℕ) → IsNode n d v → IsRight rooms d v
  right_at d v node = sound.right d v node (λ is. omega (arith, is, (IsNode-in_cube n d v node).0))

  pub room_bound : (d v : ℕ) → IsNode n d v → room_of rooms v ≤ d + 2
  room_bound zero v node = elim (right_at zero v node) [ inl taken ↦ omega arith | inr whole ↦ omega arith ]
  room_bound (suc d) v node = elim (right_at (suc d) v node) [
    | inl joined ↦
        let bound = join_bound d (room_of rooms (2 * v)) (room_of rooms (2 * v + 1)) (room_of rooms v) (room_bound d (2 * v) (IsNode-left n d v node)) (room_bound d (2 * v + 1) (IsNode-right n d v node)) joined in
        omega (arith, bound.1)
    | inr taken ↦ omega (arith, taken.0)
  ]

  -- the children of a node with no join were wholly free
  pub children_whole : (d v : ℕ) → IsNode n (suc d) v → (room_of rooms v ≡ 0) ⊎ (room_of rooms v ≡ suc d + 2) → (room_of rooms (2 * v) ≡ d + 2) × (room_of rooms (2 * v + 1) ≡ d + 2)
  children_whole d v node is = elim (right_at (suc d) v node) [
    | inl joined ↦
        let left = room_bound d (2 * v) (IsNode-left n d v node) in
        let right = room_bound d (2 * v + 1) (IsNode-right n d v node) in
        let bound = join_bound d (room_of rooms (2 * v)) (room_of rooms (2 * v + 1)) (room_of rooms v) left right joined in
        elim is [
          | inl none ↦ absurd (omega (arith, bound.0, none))
          | inr whole ↦ join_whole d (room_of rooms (2 * v)) (room_of rooms (2 * v + 1)) (room_of rooms v) left right joined (omega (arith, whole))
        ]
    | inr taken ↦ (taken.1, taken.2)
  ]

  pub whole_below : (d v : ℕ) → IsNode n d v → room_of rooms v ≡ d + 2 → IsWhole n rooms v
  whole_below zero v node is e u lower on =
      let steps = steps_up n zero e v u node lower on in
      let none : e ≡ 0 = omega (arith, steps.0) in
      let same : v ≡ u = same_dim n zero v u node (subst (λ x. IsNode n x u) none lower) on in
      subst (λ x. room_of rooms x ≡ e + 2) same (omega (arith, is, none))
  whole_below (suc d) v node is e u lower on =
      let below = children_whole d v node (inr is) in
      elim (below_child v u on) [
        | inl same ↦
            let dims : suc d ≡ e = IsNode-one n (suc d) e v node (subst (λ x. IsNode n e x) same lower) in
            ap (room_of rooms) same ∙ is ∙ ap (λ x. x + 2) dims
        | inr child ↦ elim child [
          | inl left ↦ whole_below d (2 * v) (IsNode-left n d v node) below.0 e u lower left
          | inr right ↦ whole_below d (2 * v + 1) (IsNode-right n d v node) below.1 e u lower right
        ]
      ]

  -- a node that is not wholly free has a taken one in it
  pub taken_below : (d v : ℕ) → IsNode n d v → room_of rooms v ≢ d + 2 → (u : ℕ) × IsInCube n u × OnPath v u × (room_of rooms u ≡ 0)
  taken_below zero v node other =
      let inside = IsNode-in_cube n zero v node in
      elim (right_at zero v node) [
        | inl taken ↦ (v, inside, OnPath-self v inside.0, taken)
        | inr whole ↦ absurd (other whole)
      ]
  taken_below (suc d) v node other =
      let inside = IsNode-in_cube n (suc d) v node in
      elim (right_at (suc d) v node) [
        | inl joined ↦ elim (join_part d (room_of rooms (2 * v)) (room_of rooms (2 * v + 1)) (room_of rooms v) joined (λ is. other (omega (arith, is)))) [
          | inl left ↦
              let found = taken_below d (2 * v) (IsNode-left n d v node) left in
              (found.0, found.1, OnPath-trans v (2 * v) found.0 (OnPath-left v inside.0) found.2, found.3)
          | inr right ↦
              let found = taken_below d (2 * v + 1) (IsNode-right n d v node) right in
              (found.0, found.1, OnPath-trans v (2 * v + 1) found.0 (OnPath-right v inside.0) found.2, found.3)
        ]
        | inr taken ↦ (v, inside, OnPath-self v inside.0, taken.0)
      ]

  -- a node of this very dimension that is not wholly free is not open
  at_node : (d v k w : ℕ) → IsNode n d v → IsNode n k w → OnPath v w → room_of rooms v < k + 2 → IsOpen n rooms w → d ≡ k → ⊥
  at_node d v k w node lower on less free same =
      let is : v ≡ w = same_dim n d v w node (subst (λ x. IsNode n x w) (sym same) lower) on in
      let found = taken_below d v node (λ whole. omega (arith, whole, less, same)) in
      free found.0 found.1 found.3 (inr (subst (λ x. OnPath x found.0) is found.2))

  -- a node whose room is too little for a dimension has no open node of this dimension in it
  pub none_open : (d v k w : ℕ) → IsNode n d v → IsNode n k w → OnPath v w → room_of rooms v < k + 2 → IsOpen n rooms w → ⊥
  none_open zero v k w node lower on less free =
      let steps = steps_up n zero k v w node lower on in
      let none : k ≡ 0 = omega (arith, steps.0) in
      at_node zero v k w node lower on less free (sym none)
  none_open (suc d) v k w node lower on less free =
      let steps = steps_up n (suc d) k v w node lower on in
      let inside = IsNode-in_cube n (suc d) v node in
      elim (cases_eq (suc d) k) [
        | inl same ↦ at_node (suc d) v k w node lower on less free same
        | inr other ↦ elim (right_at (suc d) v node) [
          | inl joined ↦
              let rooms_less = join_less d k (room_of rooms (2 * v)) (room_of rooms (2 * v + 1)) (room_of rooms v) (omega (arith, steps.0, other)) joined less in
              elim (below_child v w on) [
                | inl is ↦ other (IsNode-one n (suc d) k v node (subst (λ x. IsNode n k x) is lower))
                | inr child ↦ elim child [
                  | inl left ↦ none_open d (2 * v) k w (IsNode-left n d v node) lower left rooms_less.0 free
                  | inr right ↦ none_open d (2 * v + 1) k w (IsNode-right n d v node) lower right rooms_less.1 free
                ]
              ]
          | inr taken ↦ free v inside taken.0 (inl on)
        ]
      ]

  -- a wholly free node with none taken above it is open
  pub whole_is_open : (k w : ℕ) → IsNode n k w → room_of rooms w ≡ k + 2 → HasNoTakenAbove rooms w → IsOpen n rooms w
  whole_is_open k w node is above u inside taken (inl over) = elim (cases_eq u w) [
    | inl same ↦ omega (arith, is, taken, ap (room_of rooms) same)
    | inr other ↦ above u over other taken
  ]
  whole_is_open k w node is above u inside taken (inr under) =
      let found = IsNode-has n u inside in
      omega (arith, taken, whole_below k w node is found.0 u found.1 under)

  -- a taken node has none taken above it
  pub taken_alone : (k v : ℕ) → IsNode n k v → room_of rooms v ≡ 0 → HasNoTakenAbove rooms v
  taken_alone k v node taken u on other above =
      let small = OnPath-le u v on in
      let found = IsNode-has n u (on.0, omega (arith, small, (IsNode-in_cube n k v node).1)) in
      at_dim found.0 found.1
    where
      at_dim : (d : ℕ) → IsNode n d u → ⊥
      at_dim zero upper =
          let steps = steps_up n zero k u v upper node on in
          let none : k ≡ 0 = omega (arith, steps.0) in
          other (same_dim n zero u v upper (subst (λ x. IsNode n x v) none node) on)
      at_dim (suc d) upper =
          let below = children_whole d u upper (inl above) in
          elim (below_child u v on) [
            | inl same ↦ other (sym same)
            | inr child ↦ elim child [
              | inl left ↦ omega (arith, taken, whole_below d (2 * u) (IsNode-left n d u upper) below.0 k v node left)
              | inr right ↦ omega (arith, taken, whole_below d (2 * u + 1) (IsNode-right n d u upper) below.1 k v node right)
            ]
          ]
