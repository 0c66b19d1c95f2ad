-- What a test of each byte shows.
use Rattle.std.proofs.Common.{◌≡◌, ℕ, zero, suc, ◌+◌, ◌-◌, ◌*◌, ◌^◌, ◌≤◌, ◌⊎◌, inl, inr, List, slice_index, sym, ◌∙◌, subst, arith}
use Rattle.std.specs.Prelude.{◌↔◌}
use Rattle.std.proofs.lemmas.Bool.{cases_lt}
use Rattle.fit_tree.specs.Rooms.{IsJoin, IsRight, room_of}
use Rattle.fit_tree.specs.Image.{AreCounted}
use Rattle.fit_tree.proofs.CountLemmas.{count_unique}
use Rattle.fit_tree.proofs.MaximalLemmas.{MaximalIn}
use Rattle.alloc_bits.specs.Count.{IsCount}

-- a leaf and an inner node
pub right_leaf : (rooms : List ℕ) (d v : ℕ) → d ≡ 0 → ((room_of rooms v ≡ 0) ⊎ (room_of rooms v ≡ 2)) ↔ IsRight rooms d v
right_leaf rooms zero v leaf = (λ is. is, λ is. is)
right_leaf rooms (suc d) v leaf = absurd (omega arith)

abbrev pub IsRightOver : ℕ → ℕ → ℕ → ℕ → Type 0
IsRightOver d left right room = IsJoin d left right room ⊎ ((room ≡ 0) × (left ≡ d + 2) × (right ≡ d + 2))

pub right_inner : (rooms : List ℕ) (d e v : ℕ) → d ≡ suc e → IsRightOver e (room_of rooms (2 * v)) (room_of rooms (2 * v + 1)) (room_of rooms v) ↔ IsRight rooms d v
right_inner rooms d e v inner =
    subst (λ i. IsRightOver e (room_of rooms (2 * v)) (room_of rooms (2 * v + 1)) (room_of rooms v) ↔ IsRight rooms i v) (sym inner) (λ is. is, λ is. is)

-- ---- joins

pub join_some : (d left right room : ℕ) → IsJoin d left right room → 1 ≤ room
join_some d left right room (inl whole) = omega (arith, whole.2)
join_some d left right room (inr part) = part.3

-- which of the three a room is
join_least : (left right room other : ℕ) → (room ≡ left) ⊎ (room ≡ right) ⊎ (room ≡ 1) → left ≤ other → right ≤ other → 1 ≤ other → room ≤ other
join_least left right room other (inl is) of_left of_right positive = omega arith
join_least left right room other (inr (inl is)) of_left of_right positive = omega arith
join_least left right room other (inr (inr is)) of_left of_right positive = omega arith

pub join_unique : (d left right a b : ℕ) → IsJoin d left right a → IsJoin d left right b → a ≡ b
join_unique d left right a b (inl whole) (inl too) = omega (arith, whole.2, too.2)
join_unique d left right a b (inl whole) (inr part) = absurd (elim (part.0) [ inl not_left ↦ not_left whole.0 | inr not_right ↦ not_right whole.1 ])
join_unique d left right a b (inr part) (inl whole) = absurd (elim (part.0) [ inl not_left ↦ not_left whole.0 | inr not_right ↦ not_right whole.1 ])
join_unique d left right a b (inr part) (inr too) =
    omega (arith, join_least left right a b part.4 too.1 too.2 too.3, join_least left right b a too.4 part.1 part.2 part.3)

-- ---- counts

pub counted_moves : (n : ℕ) (a b rooms : List ℕ) → ((d : ℕ) → slice_index a d ≡ slice_index b d) → AreCounted n a rooms → AreCounted n b rooms
counted_moves n a b rooms same counted = record {
  each = λ d fits. subst (IsCount (MaximalIn n rooms d) (2 ^ (n - d))) (same d) (counted.each d fits);
  none_above = λ d above. sym (same d) ∙ counted.none_above d above;
}

pub counted_same : (n : ℕ) (a b rooms : List ℕ) → AreCounted n a rooms → AreCounted n b rooms → (d : ℕ) → slice_index a d ≡ slice_index b d
counted_same n a b rooms of_a of_b d = elim (cases_lt n d) [
  | inl above ↦ of_a.none_above d above ∙ sym (of_b.none_above d above)
  | inr fits ↦
      count_unique (MaximalIn n rooms d) (2 ^ (n - d)) (slice_index a d) (slice_index b d) (of_a.each d fits) (of_b.each d fits)
]
