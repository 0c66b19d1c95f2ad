-- A taken node and its two children: one is taken, or both of the others are.
use Rattle.std.proofs.Common.{◌≡◌, ◌≢◌, ℕ, zero, suc, ◌+◌, ◌-◌, ◌*◌, ◌/◌, ◌^◌, ◌<◌, ◌≤◌, ◌⊎◌, inl, inr, List, length, Option, Some, None, refl, sym, ◌∙◌, ap, subst, arith}
use Rattle.std.proofs.Math.ListN.{set}
use Rattle.std.proofs.lemmas.List.{get_or-set_same, get_or-set_other, length-set}
use Rattle.std.proofs.lemmas.Bool.{cases_eq}
use Rattle.std.proofs.lemmas.Nat.{pow-add, pow_pos}
use Rattle.cube_shape.specs.declared.region.Region.{Region}
use Rattle.cube_shape.specs.Region.{block}
use Rattle.cube_shape.specs.Node.{IsNodeOf}
use Rattle.cube_shape.proofs.RegionLemmas.{IsNodeOf-one_region}
use Rattle.cube_shape.proofs.PathLemmas.{child_cases}
use Rattle.fit_tree.specs.Rooms.{IsJoin, IsNode, IsRight, IsSound, room_of}
use Rattle.fit_tree.specs.Halves.{AreSplit, lower_half, upper_half}
use Rattle.fit_tree.specs.InnerFit.{held_by}
use Rattle.fit_tree.proofs.NodeLemmas.{IsNode-in_cube, IsNode-left, IsNode-one, IsNode-right, IsNodeOf-at, level_doubles}
use Rattle.fit_tree.proofs.RoomLemmas.{children_whole, right_at}
use Rattle.fit_tree.proofs.BlockLemmas.{block_of_node}
use Rattle.fit_tree.proofs.HeldLemmas.{held_is, is_held, taken_apart}

-- ---- three rooms are written

pub record AreWritten (rooms new : List ℕ) (a b c x y z : ℕ) : Type 0 where
  pub len : length new ≡ length rooms
  pub first : room_of new a ≡ x
  pub second : room_of new b ≡ y
  pub third : room_of new c ≡ z
  pub others : (u : ℕ) → u ≢ a → u ≢ b → u ≢ c → room_of new u ≡ room_of rooms u

three_set : (rooms : List ℕ) (a b c x y z : ℕ) → a ≢ b → a ≢ c → b ≢ c → a < length rooms → b < length rooms → c < length rooms → AreWritten rooms (set (set (set rooms a x) b y) c z) a b c x y z
three_set rooms a b c x y z not_ab not_ac not_bc in_a in_b in_c =
    let len_one = length-set rooms a x in
    let len_two = length-set (set rooms a x) b y in
    record {
      len = length-set (set (set rooms a x) b y) c z ∙ len_two ∙ len_one;
      first = get_or-set_other (set (set rooms a x) b y) c a z 0 not_ac ∙ get_or-set_other (set rooms a x) b a y 0 not_ab ∙ get_or-set_same rooms a x 0 in_a;
      second = get_or-set_other (set (set rooms a x) b y) c b z 0 not_bc ∙ get_or-set_same (set rooms a x) b y 0 (omega (arith, len_one));
      third = get_or-set_same (set (set rooms a x) b y) c z 0 (omega (arith, len_one, len_two));
      others = λ u not_a not_b not_c.
          get_or-set_other (set (set rooms a x) b y) c u z 0 not_c ∙ get_or-set_other (set rooms a x) b u y 0 not_b ∙ get_or-set_other rooms a u x 0 not_a;
    }

-- a node and its children have rooms
pub family_inside : (n k v : ℕ) → IsNode n (suc k) v → (0 < v) × (2 * v + 1 < 2 ^ (n + 1))
family_inside n k v node = ((IsNode-in_cube n (suc k) v node).0, (IsNode-in_cube n k (2 * v + 1) (IsNode-right n k v node)).1)

module _ (n k v : ℕ) (rooms new : List ℕ) (node : IsNode n (suc k) v) (count : length rooms ≡ 2 ^ (n + 1)) where
  pub split_written : new ≡ set (set (set rooms (2 * v) 0) (2 * v + 1) 0) v 1 → AreWritten rooms new (2 * v) (2 * v + 1) v 0 0 1
  split_written is =
      let inside = family_inside n k v node in
      subst (λ r. AreWritten rooms r (2 * v) (2 * v + 1) v 0 0 1) (sym is)
      (three_set rooms (2 * v) (2 * v + 1) v 0 0 1 (λ same. omega (arith, same)) (λ same. omega (arith, same, inside.0)) (λ same. omega (arith, same)) (omega (arith, inside.1, count)) (omega (arith, inside.1, count)) (omega (arith, inside.1, count)))

  pub join_written : new ≡ set (set (set rooms v 0) (2 * v) (k + 2)) (2 * v + 1) (k + 2) → AreWritten rooms new v (2 * v) (2 * v + 1) 0 (k + 2) (k + 2)
  join_written is =
      let inside = family_inside n k v node in
      subst (λ r. AreWritten rooms r v (2 * v) (2 * v + 1) 0 (k + 2) (k + 2)) (sym is)
      (three_set rooms v (2 * v) (2 * v + 1) 0 (k + 2) (k + 2) (λ same. omega (arith, same, inside.0)) (λ same. omega (arith, same)) (λ same. omega (arith, same)) (omega (arith, inside.1, count)) (omega (arith, inside.1, count)) (omega (arith, inside.1, count)))

-- ---- the rooms stay sound

-- a room is right by its own byte and those of its children
pub right_alike : (rooms new : List ℕ) (d v : ℕ) → room_of rooms v ≡ room_of new v → room_of rooms (2 * v) ≡ room_of new (2 * v) → room_of rooms (2 * v + 1) ≡ room_of new (2 * v + 1) → IsRight rooms d v → IsRight new d v
right_alike rooms new zero v here left right is = subst (λ r. (r ≡ 0) ⊎ (r ≡ 2)) here is
right_alike rooms new (suc d) v here left right is =
    subst (λ r. IsJoin d r (room_of new (2 * v + 1)) (room_of new v) ⊎ ((room_of new v ≡ 0) × (r ≡ d + 2) × (room_of new (2 * v + 1) ≡ d + 2))) left
    (subst (λ r. IsJoin d (room_of rooms (2 * v)) r (room_of new v) ⊎ ((room_of new v ≡ 0) × (room_of rooms (2 * v) ≡ d + 2) × (r ≡ d + 2))) right
    (subst (λ r. IsJoin d (room_of rooms (2 * v)) (room_of rooms (2 * v + 1)) r ⊎ ((r ≡ 0) × (room_of rooms (2 * v) ≡ d + 2) × (room_of rooms (2 * v + 1) ≡ d + 2))) here is))

-- the room of a node whose children are wholly free
pub right_over_whole : (new : List ℕ) (d v : ℕ) → (room_of new v ≡ 0) ⊎ (room_of new v ≡ suc d + 2) → room_of new (2 * v) ≡ d + 2 → room_of new (2 * v + 1) ≡ d + 2 → IsRight new (suc d) v
right_over_whole new d v (inl taken) left right = inr (taken, left, right)
right_over_whole new d v (inr whole) left right = inl (inl (left, right, omega (arith, whole)))

-- a node that is taken or wholly free may become either
pub right_of_either : (n k v : ℕ) (rooms new : List ℕ) → IsSound n rooms → IsNode n k v → (room_of rooms v ≡ 0) ⊎ (room_of rooms v ≡ k + 2) → (room_of new v ≡ 0) ⊎ (room_of new v ≡ k + 2)
    → room_of new (2 * v) ≡ room_of rooms (2 * v) → room_of new (2 * v + 1) ≡ room_of rooms (2 * v + 1) → IsRight new k v
right_of_either n zero v rooms new sound node before after left right = after
right_of_either n (suc d) v rooms new sound node before after left right =
    let below = children_whole n rooms sound d v node before in
    right_over_whole new d v after (left ∙ below.0) (right ∙ below.1)

-- a child that is taken or not free is the same to its parent
join_small_left : (d l l' right room : ℕ) → l ≤ 1 → l' ≤ 1 → IsJoin d l right room → IsJoin d l' right room
join_small_left d l l' right room small small' (inl whole) = absurd (omega (arith, whole.0))
join_small_left d l l' right room small small' (inr (part, of_left, of_right, positive, inl same)) =
    inr (inl (λ is. omega (arith, is)), omega arith, of_right, positive, inr (inr (omega arith)))
join_small_left d l l' right room small small' (inr (part, of_left, of_right, positive, inr same)) =
    inr (inl (λ is. omega (arith, is)), omega arith, of_right, positive, inr same)

join_small_right : (d left r r' room : ℕ) → r ≤ 1 → r' ≤ 1 → IsJoin d left r room → IsJoin d left r' room
join_small_right d left r r' room small small' (inl whole) = absurd (omega (arith, whole.1))
join_small_right d left r r' room small small' (inr (part, of_left, of_right, positive, inl same)) =
    inr (inr (λ is. omega (arith, is)), of_left, omega arith, positive, inl same)
join_small_right d left r r' room small small' (inr (part, of_left, of_right, positive, inr (inl same))) =
    inr (inr (λ is. omega (arith, is)), of_left, omega arith, positive, inr (inr (omega arith)))
join_small_right d left r r' room small small' (inr (part, of_left, of_right, positive, inr (inr one))) =
    inr (inr (λ is. omega (arith, is)), of_left, omega arith, positive, inr (inr one))

module _ (n k v : ℕ) (rooms new : List ℕ) (sound : IsSound n rooms) (node : IsNode n (suc k) v) (len : length new ≡ length rooms)
    (others : (u : ℕ) → u ≢ v → u ≢ 2 * v → u ≢ 2 * v + 1 → room_of new u ≡ room_of rooms u)
    (before : room_of rooms v ≤ 1) (after : room_of new v ≤ 1) (own : IsRight new (suc k) v)
    (left : (room_of rooms (2 * v) ≡ 0) ⊎ (room_of rooms (2 * v) ≡ k + 2)) (left' : (room_of new (2 * v) ≡ 0) ⊎ (room_of new (2 * v) ≡ k + 2))
    (right : (room_of rooms (2 * v + 1) ≡ 0) ⊎ (room_of rooms (2 * v + 1) ≡ k + 2)) (right' : (room_of new (2 * v + 1) ≡ 0) ⊎ (room_of new (2 * v + 1) ≡ k + 2)) where
  positive : 0 < v
  positive = (family_inside n k v node).0

  kept : (u : ℕ) → u ≢ v → u ≢ 2 * v → u ≢ 2 * v + 1 → room_of rooms u ≡ room_of new u
  kept u a b c = sym (others u a b c)

  -- the node is the left or the right child
  over : (d u : ℕ) → 0 < u → (v ≡ 2 * u) ⊎ (v ≡ 2 * u + 1) → IsRight rooms d u → IsRight new d u
  over zero u inner which is = subst (λ r. (r ≡ 0) ⊎ (r ≡ 2)) (kept u (λ same. omega (arith, same, which_le u which, inner)) (λ same. omega (arith, same, which_le u which)) (λ same. omega (arith, same, which_le u which))) is
    where
      which_le : (u : ℕ) → (v ≡ 2 * u) ⊎ (v ≡ 2 * u + 1) → 2 * u ≤ v
      which_le u (inl is) = omega (arith, is)
      which_le u (inr is) = omega (arith, is)
  over (suc d) u inner (inl is) (inl joined) =
      let here : room_of rooms u ≡ room_of new u = kept u (λ same. omega (arith, same, is, inner)) (λ same. omega (arith, same, is)) (λ same. omega (arith, same, is)) in
      let beside : room_of rooms (2 * u + 1) ≡ room_of new (2 * u + 1) = kept (2 * u + 1) (λ same. omega (arith, same, is)) (λ same. omega (arith, same, is, inner)) (λ same. omega (arith, same, is, inner)) in
      let was : room_of rooms (2 * u) ≤ 1 = subst (λ x. room_of rooms x ≤ 1) is before in
      let will : room_of new (2 * u) ≤ 1 = subst (λ x. room_of new x ≤ 1) is after in
      inl (join_small_left d (room_of rooms (2 * u)) (room_of new (2 * u)) (room_of new (2 * u + 1)) (room_of new u) was will
      (subst (λ r. IsJoin d (room_of rooms (2 * u)) r (room_of new u)) beside (subst (IsJoin d (room_of rooms (2 * u)) (room_of rooms (2 * u + 1))) here joined)))
  over (suc d) u inner (inl is) (inr taken) =
      let was : room_of rooms (2 * u) ≤ 1 = subst (λ x. room_of rooms x ≤ 1) is before in absurd (omega (arith, was, taken.1))
  over (suc d) u inner (inr is) (inl joined) =
      let here : room_of rooms u ≡ room_of new u = kept u (λ same. omega (arith, same, is, inner)) (λ same. omega (arith, same, is)) (λ same. omega (arith, same, is)) in
      let beside : room_of rooms (2 * u) ≡ room_of new (2 * u) = kept (2 * u) (λ same. omega (arith, same, is)) (λ same. omega (arith, same, is, inner)) (λ same. omega (arith, same, is, inner)) in
      let was : room_of rooms (2 * u + 1) ≤ 1 = subst (λ x. room_of rooms x ≤ 1) is before in
      let will : room_of new (2 * u + 1) ≤ 1 = subst (λ x. room_of new x ≤ 1) is after in
      inl (join_small_right d (room_of new (2 * u)) (room_of rooms (2 * u + 1)) (room_of new (2 * u + 1)) (room_of new u) was will
      (subst (λ l. IsJoin d l (room_of rooms (2 * u + 1)) (room_of new u)) beside (subst (IsJoin d (room_of rooms (2 * u)) (room_of rooms (2 * u + 1))) here joined)))
  over (suc d) u inner (inr is) (inr taken) =
      let was : room_of rooms (2 * u + 1) ≤ 1 = subst (λ x. room_of rooms x ≤ 1) is before in absurd (omega (arith, was, taken.2))

  elsewhere : (d u : ℕ) → IsNode n d u → u ≢ v → u ≢ 2 * v → u ≢ 2 * v + 1 → IsRight new d u
  elsewhere d u lower not_v not_left not_right = elim (cases_eq (v / 2) u) [
    | inl above ↦
        over d u (IsNode-in_cube n d u lower).0 (child_cases v u above) (right_at n rooms sound d u lower)
    | inr apart ↦
        right_alike rooms new d u (kept u not_v not_left not_right)
        (kept (2 * u) (λ same. apart (omega (arith, same))) (λ same. not_v (omega (arith, same))) (λ same. omega (arith, same)))
        (kept (2 * u + 1) (λ same. apart (omega (arith, same))) (λ same. omega (arith, same)) (λ same. not_v (omega (arith, same))))
        (right_at n rooms sound d u lower)
  ]

  at_dims : (d e u w : ℕ) → IsNode n d u → IsNode n e w → u ≡ w → IsRight new e w → IsRight new d u
  at_dims d e u w lower upper same is =
      let dims : e ≡ d = IsNode-one n e d w upper (subst (IsNode n d) same lower) in
      subst (λ x. IsRight new x u) dims (subst (IsRight new e) (sym same) is)

  pub family_sound : IsSound n new
  family_sound = record { dim_in_limits = sound.dim_in_limits; room_count = omega (arith, len, sound.room_count); right = at }
    where
      below_left : IsRight new k (2 * v)
      below_left = right_of_either n k (2 * v) rooms new sound (IsNode-left n k v node) left left'
          (others (2 * (2 * v)) (λ same. omega (arith, same, positive)) (λ same. omega (arith, same, positive)) (λ same. omega (arith, same)))
          (others (2 * (2 * v) + 1) (λ same. omega (arith, same, positive)) (λ same. omega (arith, same, positive)) (λ same. omega (arith, same, positive)))

      below_right : IsRight new k (2 * v + 1)
      below_right = right_of_either n k (2 * v + 1) rooms new sound (IsNode-right n k v node) right right'
          (others (2 * (2 * v + 1)) (λ same. omega (arith, same, positive)) (λ same. omega (arith, same, positive)) (λ same. omega (arith, same)))
          (others (2 * (2 * v + 1) + 1) (λ same. omega (arith, same, positive)) (λ same. omega (arith, same, positive)) (λ same. omega (arith, same, positive)))

      at : (d u : ℕ) → IsNode n d u → u ≢ 0 → IsRight new d u
      at d u lower some = elim (cases_eq u v) [
        | inl same ↦ at_dims d (suc k) u v lower node same own
        | inr not_v ↦ elim (cases_eq u (2 * v)) [
          | inl same ↦ at_dims d k u (2 * v) lower (IsNode-left n k v node) same below_left
          | inr not_left ↦ elim (cases_eq u (2 * v + 1)) [
            | inl same ↦ at_dims d k u (2 * v + 1) lower (IsNode-right n k v node) same below_right
            | inr not_right ↦ elsewhere d u lower not_v not_left not_right
          ]
        ]
      ]

pub split_sound : (n k v : ℕ) (rooms new : List ℕ) → IsSound n rooms → IsNode n (suc k) v → room_of rooms v ≡ 0 → AreWritten rooms new (2 * v) (2 * v + 1) v 0 0 1 → IsSound n new
split_sound n k v rooms new sound node taken written =
    let below = children_whole n rooms sound k v node (inl taken) in
    let own : IsRight new (suc k) v = inl (inr (
      inl (λ is. omega (arith, is, written.first)),
      omega (arith, written.first),
      omega (arith, written.second),
      omega (arith, written.third),
      inr (inr written.third),
    )) in
    family_sound n k v rooms new sound node written.len (λ u a b c. written.others u b c a) (omega (arith, taken)) (omega (arith, written.third)) own (inr below.0) (inl written.first) (inr below.1) (inl written.second)

-- over two taken children nothing is free
pub over_taken : (n k v : ℕ) (rooms : List ℕ) → IsSound n rooms → IsNode n (suc k) v → room_of rooms (2 * v) ≡ 0 → room_of rooms (2 * v + 1) ≡ 0 → room_of rooms v ≡ 1
over_taken n k v rooms sound node left right = elim (right_at n rooms sound (suc k) v node) [
  | inl joined ↦ one (room_of rooms (2 * v)) (room_of rooms (2 * v + 1)) (room_of rooms v) left right joined
  | inr taken ↦ absurd (omega (arith, taken.1, left))
]
  where
    one : (l r room : ℕ) → l ≡ 0 → r ≡ 0 → IsJoin k l r room → room ≡ 1
    one l r room left right (inl whole) = absurd (omega (arith, whole.0))
    one l r room left right (inr (part, of_left, of_right, positive, inl same)) = absurd (omega arith)
    one l r room left right (inr (part, of_left, of_right, positive, inr (inl same))) = absurd (omega arith)
    one l r room left right (inr (part, of_left, of_right, positive, inr (inr same))) = same

pub join_sound : (n k v : ℕ) (rooms new : List ℕ) → IsSound n rooms → IsNode n (suc k) v → room_of rooms (2 * v) ≡ 0 → room_of rooms (2 * v + 1) ≡ 0 → AreWritten rooms new v (2 * v) (2 * v + 1) 0 (k + 2) (k + 2) → IsSound n new
join_sound n k v rooms new sound node left right written =
    let own : IsRight new (suc k) v = inr (written.first, written.second, written.third) in
    family_sound n k v rooms new sound node written.len written.others (omega (arith, over_taken n k v rooms sound node left right)) (omega (arith, written.first)) own (inl left) (inr written.second) (inl right) (inr written.third)

-- ---- what is held

region_is : (b c d e : ℕ) → b ≡ c → d ≡ e → ◌≡◌ {A = Region} (record { base = b; dim = d }) (record { base = c; dim = e })
region_is b c d e same_base same_dim = ap (λ x. record { base = x; dim = d }) same_base ∙ ap (λ x. record { base = c; dim = x }) same_dim

-- the halves of a block are those of the children of its node
module _ (n k v : ℕ) (r : Region) (node : IsNode n (suc k) v) (named : IsNodeOf n v r) where
  m : ℕ
  m = v - 2 ^ (n - suc k)

  r_is : r ≡ block (suc k) m
  unfolding m
  r_is = block_of_node n (suc k) v r node named

  power : 2 ^ suc k ≡ 2 * 2 ^ k
  power = let parts : suc k ≡ 1 + k = omega arith in ap (λ i. 2 ^ i) parts ∙ pow-add 2 1 k

  base_is : r.base ≡ 2 * m * 2 ^ k
  base_is =
      let twice : m * (2 * 2 ^ k) ≡ 2 * m * 2 ^ k = omega arith in
      ap (λ (x : Region). x.base) r_is ∙ ap (λ x. m * x) power ∙ twice

  dim_is : r.dim ≡ suc k
  dim_is = ap (λ (x : Region). x.dim) r_is

  m_left : 2 * v - 2 ^ (n - k) ≡ 2 * m
  unfolding m
  m_left = omega (arith, level_doubles n k node.0, node.1)

  m_right : 2 * v + 1 - 2 ^ (n - k) ≡ 2 * m + 1
  unfolding m
  m_right = omega (arith, level_doubles n k node.0, node.1)

  pub named_lower : IsNodeOf n (2 * v) (lower_half r)
  named_lower =
      let is : lower_half r ≡ block k (2 * v - 2 ^ (n - k)) = region_is r.base ((2 * v - 2 ^ (n - k)) * 2 ^ k) (r.dim - 1) k (base_is ∙ ap (λ x. x * 2 ^ k) (sym m_left)) (omega (arith, dim_is)) in
      subst (IsNodeOf n (2 * v)) (sym is) (IsNodeOf-at n k (2 * v) (IsNode-left n k v node))

  upper_base : (upper_half r).base ≡ r.base + 2 ^ k
  upper_base = let down : r.dim - 1 ≡ k = omega (arith, dim_is) in ap (λ i. r.base + 2 ^ i) down

  pub named_upper : IsNodeOf n (2 * v + 1) (upper_half r)
  named_upper =
      let sum : 2 * m * 2 ^ k + 2 ^ k ≡ (2 * m + 1) * 2 ^ k = omega arith in
      let is : upper_half r ≡ block k (2 * v + 1 - 2 ^ (n - k)) =
      region_is (upper_half r).base ((2 * v + 1 - 2 ^ (n - k)) * 2 ^ k) (r.dim - 1) k
      (upper_base ∙ ap (λ x. x + 2 ^ k) base_is ∙ sum ∙ ap (λ x. x * 2 ^ k) (sym m_right)) (omega (arith, dim_is)) in
      subst (IsNodeOf n (2 * v + 1)) (sym is) (IsNodeOf-at n k (2 * v + 1) (IsNode-right n k v node))

  -- the node is taken in one tree, and its children in the other
  module _ (whole halves : List ℕ) (sound : IsSound n whole) (sound' : IsSound n halves)
      (taken : room_of whole v ≡ 0) (left : room_of whole (2 * v) ≢ 0) (right : room_of whole (2 * v + 1) ≢ 0)
      (free : room_of halves v ≢ 0) (left' : room_of halves (2 * v) ≡ 0) (right' : room_of halves (2 * v + 1) ≡ 0)
      (others : (u : ℕ) → u ≢ v → u ≢ 2 * v → u ≢ 2 * v + 1 → room_of halves u ≡ room_of whole u) where
    further : r.base < (upper_half r).base
    further = omega (arith, upper_base, pow_pos k)

    -- a block that begins at another base is of another node
    other_node : (s w : ℕ) (a b : Region) (u : ℕ) → IsNodeOf n u a → IsNodeOf n w b → b.base ≡ s → s ≢ a.base → w ≢ u
    other_node s w a b u named_a named_b at not_base same =
        not_base (sym at ∙ ap (λ (x : Region). x.base) (IsNodeOf-one_region n u b a (subst (λ x. IsNodeOf n x b) same named_b) named_a))

    pub split_idle : held_by n whole (upper_half r).base ≡ None
    split_idle = turn (held_by n whole (upper_half r).base) refl
      where
        turn : (o : Option Region) → held_by n whole (upper_half r).base ≡ o → o ≡ None
        turn None is = refl
        turn (Some b) is =
            let found = held_is n whole (upper_half r).base b is in
            let other = other_node (upper_half r).base found.1.0 r b v named found.1.1 found.0 (λ same. omega (arith, same, further)) in
            let apart = taken_apart n whole sound v found.1.0 r b named found.1.1 taken found.1.2 (λ same. other (sym same)) in
            let end : 2 ^ r.dim ≡ 2 * 2 ^ k = ap (λ i. 2 ^ i) dim_is ∙ power in
            absurd (apart (upper_half r).base (omega (arith, further), omega (arith, upper_base, end, pow_pos k)) (omega (arith, found.0), omega (arith, found.0, pow_pos b.dim)))

    pub split_others : (s : ℕ) → s ≢ r.base → s ≢ (upper_half r).base → held_by n halves s ≡ held_by n whole s
    split_others s not_lower not_upper = turn (held_by n halves s) (held_by n whole s) refl refl
      where
        turn : (o p : Option Region) → held_by n halves s ≡ o → held_by n whole s ≡ p → o ≡ p
        turn None None is here = refl
        turn (Some a) p is here =
            let found = held_is n halves s a is in
            let w = found.1.0 in
            let same = others w (λ same. free (ap (room_of halves) (sym same) ∙ found.1.2))
            (other_node s w (lower_half r) a (2 * v) named_lower found.1.1 found.0 not_lower) (other_node s w (upper_half r) a (2 * v + 1) named_upper found.1.1 found.0 not_upper) in
            sym (ap (held_by n whole) (sym found.0) ∙ is_held n whole sound w a found.1.1 (sym same ∙ found.1.2)) ∙ here
        turn None (Some b) is here =
            let found = held_is n whole s b here in
            let w = found.1.0 in
            let same = others w (other_node s w r b v named found.1.1 found.0 not_lower)
            (λ same. left (ap (room_of whole) (sym same) ∙ found.1.2)) (λ same. right (ap (room_of whole) (sym same) ∙ found.1.2)) in
            sym is ∙ ap (held_by n halves) (sym found.0) ∙ is_held n halves sound' w b found.1.1 (same ∙ found.1.2)

    pub AreSplit-held : AreSplit (held_by n whole) (held_by n halves) r
    AreSplit-held = record {
      held = is_held n whole sound v r named taken;
      idle = split_idle;
      lower = is_held n halves sound' (2 * v) (lower_half r) named_lower left';
      upper = is_held n halves sound' (2 * v + 1) (upper_half r) named_upper right';
      others = split_others;
    }
