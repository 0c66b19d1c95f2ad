-- Nodes that are neither taken nor wholly free, and those above them.
use Rattle.std.proofs.Common.{◌≡◌, ◌≢◌, ℕ, suc, ◌+◌, ◌*◌, ◌/◌, ◌<◌, ◌≤◌, ◌⊎◌, inl, inr, List, length, refl, sym, ◌∙◌, ap, subst, arith}
use Rattle.std.proofs.Math.ListN.{set}
use Rattle.std.proofs.lemmas.List.{get_or-set_same, get_or-set_other}
use Rattle.std.proofs.lemmas.Bool.{cases_eq}
use Rattle.cube_shape.proofs.PathLemmas.{child_cases}
use Rattle.fit_tree.specs.Rooms.{IsJoin, IsNode, IsSoundBut, room_of}
use Rattle.fit_tree.specs.Image.{AreCounted}
use Rattle.fit_tree.specs.InnerNodes.{AreBounded, CanMend, CanSet, HasParts}
use Rattle.fit_tree.proofs.NodeLemmas.{IsNode-in_cube, IsNode-left, IsNode-one, IsNode-parent, IsNode-right}
use Rattle.fit_tree.proofs.RoomLemmas.{join_bound, join_whole, room_bound}
use Rattle.fit_tree.proofs.MaximalLemmas.{counted_part}
use Rattle.fit_tree.proofs.ImageLemmas.{set_begins}
use Rattle.fit_tree.proofs.WalkLemmas.{Climb, Climb-begin, Climb-step}

-- a write of a room that is not too large
pub bounded_set : (n k x j : ℕ) (rooms : List ℕ) → IsNode n k x → x < length rooms → j ≤ k + 2 → AreBounded n rooms → AreBounded n (set rooms x j)
bounded_set n k x j rooms node within most bounded d v place = elim (cases_eq v x) [
  | inl same ↦
      let dims : d ≡ k = IsNode-one n d k v place (subst (IsNode n k) (sym same) node) in
      let written : room_of (set rooms x j) v ≡ j = ap (room_of (set rooms x j)) same ∙ get_or-set_same rooms x j 0 within in
      omega (arith, written, dims, most)
  | inr other ↦
      let kept : room_of (set rooms x j) v ≡ room_of rooms v = get_or-set_other rooms x v j 0 other in
      omega (arith, kept, bounded d v place)
]

-- a take or a release
pub set_mends : (n k x j : ℕ) (rooms new : List ℕ) → new ≡ set rooms x j → IsNode n k x → (j ≡ 0) ⊎ (j ≡ k + 2) → CanSet n k rooms x → x < length rooms
    → CanMend n new x
set_mends n k x j rooms new written node room can within =
    let begins = set_begins n k x j rooms new written node room can in
    record { bounded = subst (AreBounded n) (sym written) bounded; sound = begins.0; open_above = begins.1 }
  where
    bounded : AreBounded n (set rooms x j)
    bounded = bounded_set n k x j rooms node within (elim room [ inl none ↦ omega (arith, none) | inr whole ↦ omega (arith, whole) ]) (room_bound n rooms can.sound)

-- the node above a part is not wholly free
module _ (n d v : ℕ) (rooms : List ℕ) (inner : d < n) (node : IsNode n d v) (bounded : AreBounded n rooms) (part : room_of rooms v ≢ d + 2) where
  not_joined : (j : ℕ) → IsJoin d (room_of rooms (2 * (v / 2))) (room_of rooms (2 * (v / 2) + 1)) j → j ≢ d + 3
  not_joined j joined whole =
      let parent = IsNode-parent n d v inner node in
      let both = join_whole d (room_of rooms (2 * (v / 2))) (room_of rooms (2 * (v / 2) + 1)) j
      (bounded d (2 * (v / 2)) (IsNode-left n d (v / 2) parent)) (bounded d (2 * (v / 2) + 1) (IsNode-right n d (v / 2) parent)) joined whole in
      elim (child_cases v (v / 2) refl) [
        | inl left ↦ part (ap (room_of rooms) left ∙ both.0)
        | inr right ↦ part (ap (room_of rooms) right ∙ both.1)
      ]

  pub parent_is_part : IsSoundBut n v rooms → room_of rooms (v / 2) ≢ d + 3
  parent_is_part sound whole =
      let parent = IsNode-parent n d v inner node in
      let positive = (IsNode-in_cube n d v node).0 in
      elim (sound.right (suc d) (v / 2) parent (λ same. omega (arith, same, positive))) [
        | inl joined ↦ not_joined (room_of rooms (v / 2)) joined whole
        | inr taken ↦ omega (arith, taken.0, whole)
      ]

-- a step up to a node that was a part, and is one
module _ (n d v j : ℕ) (rooms : List ℕ) (inner : d < n) (node : IsNode n d v) (within : v / 2 < length rooms) (bounded : AreBounded n rooms)
    (joined : IsJoin d (room_of rooms (2 * (v / 2))) (room_of rooms (2 * (v / 2) + 1)) j) where
  parent : IsNode n (suc d) (v / 2)
  parent = IsNode-parent n d v inner node

  positive : 0 < v / 2
  positive = (IsNode-in_cube n (suc d) (v / 2) parent).0

  bounds : (0 < j) × (j ≤ d + 3)
  bounds =
      join_bound d (room_of rooms (2 * (v / 2))) (room_of rooms (2 * (v / 2) + 1)) j (bounded d (2 * (v / 2)) (IsNode-left n d (v / 2) parent))
      (bounded d (2 * (v / 2) + 1) (IsNode-right n d (v / 2) parent)) joined

  pub bounded_above : AreBounded n (set rooms (v / 2) j)
  bounded_above = bounded_set n (suc d) (v / 2) j rooms parent within (omega (arith, bounds.1)) bounded

  written : room_of (set rooms (v / 2) j) (v / 2) ≡ j
  written = get_or-set_same rooms (v / 2) j 0 within

  pub Can-step : (old : List ℕ) → Climb n old rooms d v → CanMend n (set rooms (v / 2) j) (v / 2)
  Can-step old climb =
      let step = Climb-step n d v j old rooms climb inner joined in
      record { bounded = bounded_above; sound = step.sound; open_above = step.above }

  pub Parts-begin : (old : List ℕ) → Climb n old rooms d v → room_of rooms (v / 2) ≢ d + 3 → j ≢ d + 3 → HasParts n (d + 1) (set rooms (v / 2) j) (v / 2)
  Parts-begin old climb was now = record {
    can = Can-step old climb;
    used = λ none. omega (arith, sym written ∙ none, bounds.0);
    own = λ whole. now (omega (arith, sym written ∙ whole));
    above = λ higher whole.
        parent_is_part n (suc d) (v / 2) rooms (omega (arith, higher)) parent bounded (λ same. was (omega (arith, same))) climb.sound (omega (arith, sym kept ∙ whole));
  }
    where
      kept : room_of (set rooms (v / 2) j) (v / 2 / 2) ≡ room_of rooms (v / 2 / 2)
      kept = get_or-set_other rooms (v / 2) (v / 2 / 2) j 0 (λ same. omega (arith, same, positive))

  pub Parts-counted : room_of rooms (v / 2) ≢ 0 → room_of rooms (v / 2) ≢ d + 3 → j ≢ d + 3 → (counts : List ℕ)
      → AreCounted n counts rooms → AreCounted n counts (set rooms (v / 2) j)
  Parts-counted used was now counts =
      counted_part n (suc d) (v / 2) j rooms parent (used, λ whole. was (omega (arith, whole))) (λ none. omega (arith, none, bounds.0), λ whole. now (omega (arith, whole))) within counts

  -- the same from a child that is a part
  module _ (parts : HasParts n d rooms v) where
    stays_part : j ≢ d + 3
    stays_part = not_joined n d v rooms inner node bounded parts.own j joined

    pub Parts-step : HasParts n (d + 1) (set rooms (v / 2) j) (v / 2)
    Parts-step =
        Parts-begin rooms (Climb-begin n d v rooms node (parts.can).sound (parts.can).open_above) (parts.above inner) stays_part

    pub Parts-counted_step : (counts : List ℕ) → AreCounted n counts rooms → AreCounted n counts (set rooms (v / 2) j)
    Parts-counted_step = Parts-counted ((parts.can).open_above (v / 2) (positive, (1, refl)) (λ same. omega (arith, same, positive))) (parts.above inner) stays_part
