-- Two images that hold the same blocks have the same bytes.
use Rattle.std.proofs.Common.{◌≡◌, ℕ, zero, suc, ◌+◌, ◌-◌, ◌*◌, ◌^◌, ◌⊎◌, ◌↔◌, List, inl, inr, length, sym, subst, ap, ◌∙◌, arith}
use Rattle.std.proofs.lemmas.Bool.{cases_eq}
use Rattle.std.proofs.lemmas.List.{ext_get_or}
use Rattle.cube_shape.specs.declared.region.Region.{Region}
use Rattle.cube_shape.specs.Region.{block}
use Rattle.fit_tree.specs.declared.head.Head.{Head}
use Rattle.fit_tree.specs.Fit.{HoldsBlock}
use Rattle.fit_tree.specs.Image.{IsImage, fit_in}
use Rattle.fit_tree.specs.Rooms.{IsNode, IsSound, room_of}
use Rattle.fit_tree.proofs.CheckLemmas.{IsRightOver, counted_same, join_unique}
use Rattle.fit_tree.proofs.ImageLemmas.{Represents-in, held_at}
use Rattle.fit_tree.proofs.NodeLemmas.{IsNode-has, IsNode-in_cube, IsNode-left, IsNode-right, IsNodeOf-at}

abbrev pub HoldsSame : ℕ → List ℕ → List ℕ → Type 0
HoldsSame n a b = (r : Region) → HoldsBlock (fit_in n a) r ↔ HoldsBlock (fit_in n b) r

-- ---- rooms

taken_moves : (n d v : ℕ) (a b : List ℕ)
    → IsSound n a
    → IsSound n b
    → ((r : Region) → HoldsBlock (fit_in n a) r → HoldsBlock (fit_in n b) r)
    → IsNode n d v
    → room_of a v ≡ 0
    → room_of b v ≡ 0
taken_moves n d v a b of_a of_b moves node taken =
    let r = block d (v - 2 ^ (n - d)) in
    let named = IsNodeOf-at n d v node in
    let held = held_at n a r ((Represents-in n a of_a).each_is_held v r named taken) in
    (Represents-in n b of_b).each_is_taken r.base r v (moves r held) named

leaf_same : (x y : ℕ) → (x ≡ 0) ⊎ (x ≡ 2) → (y ≡ 0) ⊎ (y ≡ 2) → (x ≡ 0 → y ≡ 0) → (y ≡ 0 → x ≡ 0) → x ≡ y
leaf_same x y (inl none) of_y into back = none ∙ sym (into none)
leaf_same x y (inr two) (inl none) into back = back none ∙ sym none
leaf_same x y (inr two) (inr too) into back = two ∙ sym too

inner_same : (d left right x y : ℕ)
    → IsRightOver d left right x
    → IsRightOver d left right y
    → (x ≡ 0 → y ≡ 0)
    → (y ≡ 0 → x ≡ 0)
    → x ≡ y
inner_same d left right x y (inr taken) of_y into back = taken.0 ∙ sym (into taken.0)
inner_same d left right x y (inl of_x) (inr taken) into back = back taken.0 ∙ sym taken.0
inner_same d left right x y (inl of_x) (inl of_y) into back = join_unique d left right x y of_x of_y

room_same : (n : ℕ) (a b : List ℕ)
    → IsSound n a
    → IsSound n b
    → HoldsSame n a b
    → (d v : ℕ)
    → IsNode n d v
    → room_of a v ≡ room_of b v
room_same n a b of_a of_b same zero v node =
    leaf_same (room_of a v) (room_of b v)
    (of_a.right zero v node (λ none. omega (arith, none, (IsNode-in_cube n zero v node).0)))
    (of_b.right zero v node (λ none. omega (arith, none, (IsNode-in_cube n zero v node).0)))
    (taken_moves n zero v a b of_a of_b (λ r. (same r).0) node)
    (taken_moves n zero v b a of_b of_a (λ r. (same r).1) node)
room_same n a b of_a of_b same (suc d) v node =
    let left = room_same n a b of_a of_b same d (2 * v) (IsNode-left n d v node) in
    let right = room_same n a b of_a of_b same d (2 * v + 1) (IsNode-right n d v node) in
    let over : IsRightOver d (room_of b (2 * v)) (room_of b (2 * v + 1)) (room_of b v) =
    of_b.right (suc d) v node (λ none. omega (arith, none, (IsNode-in_cube n (suc d) v node).0)) in
    inner_same d (room_of a (2 * v)) (room_of a (2 * v + 1)) (room_of a v) (room_of b v)
    (of_a.right (suc d) v node (λ none. omega (arith, none, (IsNode-in_cube n (suc d) v node).0)))
    (subst (λ room. IsRightOver d room (room_of a (2 * v + 1)) (room_of b v)) (sym left)
    (subst (λ room. IsRightOver d (room_of b (2 * v)) room (room_of b v)) (sym right) over))
    (taken_moves n (suc d) v a b of_a of_b (λ r. (same r).0) node)
    (taken_moves n (suc d) v b a of_b of_a (λ r. (same r).1) node)

pub rooms_same : (n : ℕ) (of_a of_b : Head) (a b : List ℕ)
    → IsImage n of_a a
    → IsImage n of_b b
    → HoldsSame n a b
    → a ≡ b
rooms_same n of_a of_b a b image other same =
    ext_get_or 0 a b (image.room_count ∙ sym other.room_count) (λ v within. elim (cases_eq v 0) [
      | inl none ↦ ap (room_of a) none ∙ image.no_node ∙ sym (ap (room_of b) none ∙ other.no_node)
      | inr some ↦
          let found = IsNode-has n v (omega (arith, some), omega (arith, within, image.room_count)) in
          room_same n a b image.sound other.sound same found.0 v found.1
    ])

-- ---- heads

pub heads_same : (n : ℕ) (a b : Head) (rooms : List ℕ)
    → length a.maximal ≡ length b.maximal
    → IsImage n a rooms
    → IsImage n b rooms
    → a ≡ b
heads_same n a b rooms places image other =
    let maximal = ext_get_or 0 a.maximal b.maximal places (λ d _. counted_same n a.maximal b.maximal rooms image.counted other.counted d) in
    ap (λ x. record { mark = x; dim = a.dim; maximal = a.maximal; unused = a.unused }) (image.mark ∙ sym other.mark)
    ∙ ap (λ x. record { mark = b.mark; dim = x; maximal = a.maximal; unused = a.unused }) (image.dim ∙ sym other.dim)
    ∙ ap (λ x. record { mark = b.mark; dim = b.dim; maximal = x; unused = a.unused }) maximal
    ∙ ap (λ x. record { mark = b.mark; dim = b.dim; maximal = b.maximal; unused = x }) (image.unused ∙ sym other.unused)
