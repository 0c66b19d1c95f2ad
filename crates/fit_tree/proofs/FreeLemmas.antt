-- Free blocks and held processors, from the counts of maximal free blocks.
use Rattle.std.proofs.Common.{◌≡◌, ◌≢◌, ℕ, zero, suc, ◌+◌, ◌-◌, ◌*◌, ◌/◌, ◌^◌, ◌<◌, ◌≤◌, ◌⊎◌, inl, inr, List, slice_index, refl, sym, ◌∙◌, ap, subst, arith}
use Rattle.std.proofs.lemmas.Bool.{cases_lt, cases_eq}
use Rattle.std.proofs.lemmas.Nat.{pow-add, pow_pos}
use Rattle.std.proofs.Math.Pow.{pow_mono}
use Rattle.cube_shape.specs.declared.limits.TheConstants.{MAX_BITMAP_DIM}
use Rattle.cube_shape.specs.Region.{Covers, block}
use Rattle.cube_shape.specs.Falling.{IsFreeProcessor, IsHeld}
use Rattle.cube_shape.specs.Machine.{Holdings, IsFree}
use Rattle.cube_shape.specs.Node.{OnPath}
use Rattle.cube_shape.proofs.PathLemmas.{OnPath-le, OnPath-linear, OnPath-parent, OnPath-trans, OnPath-up}
use Rattle.alloc_bits.specs.Count.{IsCount}
use Rattle.fit_tree.specs.Rooms.{IsNode, IsSound, room_of}
use Rattle.fit_tree.specs.Image.{AreCounted, IsMaximal}
use Rattle.fit_tree.specs.InnerNodes.{HasNoTakenAbove, IsOpen}
use Rattle.fit_tree.specs.InnerRepresents.{Represents}
use Rattle.fit_tree.proofs.NodeLemmas.{IsNode-has, IsNode-in_cube, IsNode-left, IsNode-parent, IsNode-right, IsNodeOf-at, below_child}
use Rattle.fit_tree.proofs.RoomLemmas.{children_whole, whole_below, whole_is_open}
use Rattle.fit_tree.proofs.RepresentsLemmas.{free_from_open, nth_named, open_from_free}
use Rattle.fit_tree.proofs.BlockLemmas.{IsPassed, IsPassed-begin, IsPassed-covers, IsPassed-free, IsPassed-step, open_is_whole}
use Rattle.fit_tree.proofs.CountLemmas.{count_adds, count_alike, count_bound, count_doubles, count_none, count_others}
use Rattle.fit_tree.proofs.MaximalLemmas.{MaximalIn, level_node}

-- ---- a free machine

-- only the root of a machine of which each node is wholly free is maximal
module _ (n : ℕ) (counts rooms : List ℕ) (whole : (d v : ℕ) → IsNode n d v → room_of rooms v ≡ d + 2) where
  root_counted : IsCount (MaximalIn n rooms n) (2 ^ (n - n)) 1
  root_counted =
      let none : n - n ≡ 0 = omega arith in
      let one : 2 ^ (n - n) ≡ 1 = ap (λ i. 2 ^ i) none in
      let root : 2 ^ (n - n) + 0 ≡ 1 = omega (arith, one) in
      let alone : 1 ≡ 2 ^ (n - n) = sym one in
      subst (λ bound. IsCount (MaximalIn n rooms n) bound 1) alone
      (inl ((whole n (2 ^ (n - n) + 0) (omega arith, omega arith, omega (arith, one)), inl root), (0, refl, refl)))

  below_root : (d m : ℕ) → d ≤ n → d ≢ n → m < 2 ^ (n - d) → MaximalIn n rooms d m → ⊥
  below_root d m fits other within is =
      let node = level_node n d m fits within in
      let inner : d < n = omega (arith, other) in
      let above = whole (suc d) ((2 ^ (n - d) + m) / 2) (IsNode-parent n d (2 ^ (n - d) + m) inner node) in
      elim (is.1) [
        | inl root ↦
            let parts : n - d ≡ 1 + (n - suc d) = omega (arith, inner) in
            let twice : 2 ^ (n - d) ≡ 2 * 2 ^ (n - suc d) = ap (λ i. 2 ^ i) parts ∙ pow-add 2 1 (n - suc d) in
            omega (arith, root, twice, pow_pos (n - suc d))
        | inr part ↦ part.0 (omega (arith, above))
      ]

  pub whole_counted : slice_index counts n ≡ 1 → ((d : ℕ) → d ≢ n → slice_index counts d ≡ 0) → AreCounted n counts rooms
  whole_counted own others = record { each = each; none_above = λ d above. others d (λ same. omega (arith, same, above)) }
    where
      each : (d : ℕ) → d ≤ n → IsCount (MaximalIn n rooms d) (2 ^ (n - d)) (slice_index counts d)
      each d fits = elim (cases_eq d n) [
        | inl same ↦
            subst (λ i. IsCount (MaximalIn n rooms i) (2 ^ (n - i)) (slice_index counts i)) (sym same) (subst (IsCount (MaximalIn n rooms n) (2 ^ (n - n))) (sym own) root_counted)
        | inr other ↦
            subst (IsCount (MaximalIn n rooms d) (2 ^ (n - d))) (sym (others d other)) (count_none (MaximalIn n rooms d) (2 ^ (n - d)) (λ m within. below_root d m fits other within))
      ]

-- ---- open nodes

leaf_bound : (n d w : ℕ) → IsNode n d w → w < 2 * 2 ^ (n - 0)
leaf_bound n d w lower =
    let below : 2 ^ (n - d) ≤ 2 ^ (n - 0) = pow_mono (omega arith) in omega (arith, lower.2, below)

module _ (n : ℕ) (rooms : List ℕ) (sound : IsSound n rooms) where
  -- all nodes below a taken one are as if free
  below_taken : (e u d w : ℕ) → IsNode n e u → room_of rooms u ≡ 0 → IsNode n d w → OnPath u w → u ≢ w → room_of rooms w ≡ d + 2
  below_taken zero u d w upper taken lower on other =
      absurd (elim (below_child u w on) [
        | inl same ↦ other (sym same)
        | inr child ↦ no_child child
      ])
    where
      no_child : OnPath (2 * u) w ⊎ OnPath (2 * u + 1) w → ⊥
      no_child (inl left) = omega (arith, OnPath-le (2 * u) w left, inside, upper.1)
        where
          inside : w < 2 * 2 ^ (n - 0)
          inside = leaf_bound n d w lower
      no_child (inr right) = omega (arith, OnPath-le (2 * u + 1) w right, inside, upper.1)
        where
          inside : w < 2 * 2 ^ (n - 0)
          inside = leaf_bound n d w lower
  below_taken (suc e) u d w upper taken lower on other =
      let below = children_whole n rooms sound e u upper (inl taken) in
      elim (below_child u w on) [
        | inl same ↦ absurd (other (sym same))
        | inr child ↦ elim child [
          | inl left ↦ whole_below n rooms sound e (2 * u) (IsNode-left n e u upper) below.0 d w lower left
          | inr right ↦ whole_below n rooms sound e (2 * u + 1) (IsNode-right n e u upper) below.1 d w lower right
        ]
      ]

  -- a maximal node is open
  maximal_is_open : (d v : ℕ) → IsNode n d v → IsMaximal rooms d v → IsOpen n rooms v
  maximal_is_open d v node (whole, either) = whole_is_open n rooms sound d v node whole above
    where
      above : HasNoTakenAbove rooms v
      above u on other taken = elim either [
        | inl root ↦ omega (arith, root, other, on.0, OnPath-le u v on)
        | inr part ↦
            let up = OnPath-up u v on other in
            let inside = IsNode-in_cube n d v node in
            let found = IsNode-has n u (on.0, omega (arith, inside.1, OnPath-le u v on)) in
            elim (cases_eq u (v / 2)) [
              | inl same ↦ part.1 (ap (room_of rooms) (sym same) ∙ taken)
              | inr higher ↦
                  let inner : d < n = below_top u up in
                  part.0 (omega (arith, below_taken found.0 u (suc d) (v / 2) found.1 taken (IsNode-parent n d v inner node) up higher))
            ]
      ]
        where
          below_top : (u : ℕ) → OnPath u (v / 2) → d < n
          below_top u up = elim (cases_lt d n) [
            | inl inner ↦ inner
            | inr top ↦
                let none : n - d ≡ 0 = omega (arith, top, node.0) in
                let one : 2 ^ (n - d) ≡ 1 = ap (λ i. 2 ^ i) none in
                absurd (omega (arith, OnPath-le u (v / 2) up, up.0, node.2, one))
          ]

  -- below an open node each node is open
  open_below : (p v : ℕ) → OnPath p v → IsOpen n rooms p → IsOpen n rooms v
  open_below p v on clear u inside taken (inl over) = elim (cases_lt u p) [
    | inl less ↦ clear u inside taken (inl (OnPath-linear u p v over on (omega (arith, less))))
    | inr from ↦ clear u inside taken (inr (OnPath-linear p u v on over from))
  ]
  open_below p v on clear u inside taken (inr under) = clear u inside taken (inr (OnPath-trans p v u on under))

  -- and a node whose parent is not open is open only if it is maximal
  open_cases : (d v : ℕ) → d < n → IsNode n d v → IsOpen n rooms v → IsMaximal rooms d v ⊎ IsOpen n rooms (v / 2)
  open_cases d v inner node clear =
      let whole = open_is_whole n rooms sound d v node clear in
      let parent = IsNode-parent n d v inner node in
      let positive = (IsNode-in_cube n (suc d) (v / 2) parent).0 in
      let above : HasNoTakenAbove rooms (v / 2) =
      λ u on other taken. clear u (on.0, omega (arith, OnPath-le u (v / 2) on, (IsNode-in_cube n d v node).1)) taken (inl (OnPath-trans u (v / 2) v on (OnPath-parent v positive))) in
      elim (cases_eq (room_of rooms (v / 2)) (d + 3)) [
        | inl same ↦
            let is : room_of rooms (v / 2) ≡ suc d + 2 = omega (arith, same) in
            inr (whole_is_open n rooms sound (suc d) (v / 2) parent is above)
        | inr other ↦
            inl (whole, inr (other, λ taken. clear (v / 2) (IsNode-in_cube n (suc d) (v / 2) parent) taken (inl (OnPath-parent v positive))))
      ]

  not_both : (d v : ℕ) → d < n → IsNode n d v → IsMaximal rooms d v → IsOpen n rooms (v / 2) → ⊥
  not_both d v inner node (whole, inl root) clear =
      let parent = IsNode-parent n d v inner node in omega (arith, root, (IsNode-in_cube n (suc d) (v / 2) parent).0)
  not_both d v inner node (whole, inr part) clear =
      part.0 (omega (arith, open_is_whole n rooms sound (suc d) (v / 2) (IsNode-parent n d v inner node) clear))

-- ---- the count of open nodes

-- the number of open nodes of each level, from the top one on
abbrev pub open_count : ℕ → List ℕ → ℕ → ℕ
open_count n counts zero = 0
open_count n counts (suc levels) = slice_index counts (n - levels) + 2 * open_count n counts levels

-- the open nodes that have this number of levels above them
abbrev OpenIn : ℕ → List ℕ → ℕ → ℕ → Type 0
OpenIn n rooms above m = IsOpen n rooms (2 ^ above + m)

module _ (n : ℕ) (counts rooms : List ℕ) (sound : IsSound n rooms) (counted : AreCounted n counts rooms) where
  -- the nodes of a level, by the number of levels above it
  level_is : (above : ℕ) → above ≤ n → 2 ^ (n - (n - above)) ≡ 2 ^ above
  level_is above fits = let same : n - (n - above) ≡ above = omega (arith, fits) in ap (λ i. 2 ^ i) same

  maximal_counted : (above : ℕ) → above ≤ n → IsCount (λ m. IsMaximal rooms (n - above) (2 ^ above + m)) (2 ^ above) (slice_index counts (n - above))
  maximal_counted above fits =
      subst (λ size. IsCount (λ m. IsMaximal rooms (n - above) (size + m)) size (slice_index counts (n - above))) (level_is above fits) (counted.each (n - above) (omega arith))

  node_at : (above m : ℕ) → above ≤ n → m < 2 ^ above → IsNode n (n - above) (2 ^ above + m)
  node_at above m fits within = (omega arith, omega (arith, level_is above fits), omega (arith, level_is above fits, within))

  pub open_counted : (above : ℕ) → above ≤ n → IsCount (OpenIn n rooms above) (2 ^ above) (open_count n counts (suc above))
  open_counted zero fits =
      let none : slice_index counts (n - 0) ≡ slice_index counts (n - 0) + 2 * 0 = omega arith in
      subst (IsCount (OpenIn n rooms 0) 1) none
      (count_alike (λ m. IsMaximal rooms (n - 0) (2 ^ 0 + m)) (OpenIn n rooms 0) 1 (slice_index counts (n - 0))
      (λ m within. (maximal_is_open n rooms sound (n - 0) (2 ^ 0 + m) (node_at 0 m fits within), λ clear. root m within clear))
      (maximal_counted 0 fits))
    where
      root : (m : ℕ) → m < 1 → IsOpen n rooms (2 ^ 0 + m) → IsMaximal rooms (n - 0) (2 ^ 0 + m)
      root m within clear = (open_is_whole n rooms sound (n - 0) (2 ^ 0 + m) (node_at 0 m fits within) clear, inl (omega (arith, within)))
  open_counted (suc above) fits =
      let twice : 2 * 2 ^ above ≡ 2 ^ suc above = power in
      let double = subst (λ bound. IsCount (λ m. OpenIn n rooms above (m / 2)) bound (2 * open_count n counts (suc above))) twice
      (count_doubles (OpenIn n rooms above) (2 ^ above) (open_count n counts (suc above)) (open_counted above (omega (arith, fits)))) in
      count_adds (λ m. IsMaximal rooms (n - suc above) (2 ^ suc above + m)) (λ m. OpenIn n rooms above (m / 2)) (OpenIn n rooms (suc above)) (2 ^ suc above)
      (slice_index counts (n - suc above)) (2 * open_count n counts (suc above)) into back apart (maximal_counted (suc above) fits) double
    where
      power : 2 * 2 ^ above ≡ 2 ^ suc above
      power = let parts : 1 + above ≡ suc above = omega arith in sym (pow-add 2 1 above) ∙ ap (λ i. 2 ^ i) parts

      inner : n - suc above < n
      inner = omega (arith, fits)

      parent_is : (m : ℕ) → (2 ^ suc above + m) / 2 ≡ 2 ^ above + m / 2
      parent_is m = omega (arith, power)

      into : (m : ℕ) → m < 2 ^ suc above → OpenIn n rooms (suc above) m → IsMaximal rooms (n - suc above) (2 ^ suc above + m) ⊎ OpenIn n rooms above (m / 2)
      into m within clear = elim (open_cases n rooms sound (n - suc above) (2 ^ suc above + m) inner (node_at (suc above) m fits within) clear) [
        | inl maximal ↦ inl maximal
        | inr parent ↦ inr (subst (IsOpen n rooms) (parent_is m) parent)
      ]

      back : (m : ℕ) → m < 2 ^ suc above → IsMaximal rooms (n - suc above) (2 ^ suc above + m) ⊎ OpenIn n rooms above (m / 2) → OpenIn n rooms (suc above) m
      back m within (inl maximal) = maximal_is_open n rooms sound (n - suc above) (2 ^ suc above + m) (node_at (suc above) m fits within) maximal
      back m within (inr parent) =
          let positive : 0 < (2 ^ suc above + m) / 2 = omega (arith, power, pow_pos above) in
          open_below n rooms sound ((2 ^ suc above + m) / 2) (2 ^ suc above + m) (OnPath-parent (2 ^ suc above + m) positive) (subst (IsOpen n rooms) (sym (parent_is m)) parent)

      apart : (m : ℕ) → m < 2 ^ suc above → IsMaximal rooms (n - suc above) (2 ^ suc above + m) → OpenIn n rooms above (m / 2) → ⊥
      apart m within maximal parent =
          not_both n rooms sound (n - suc above) (2 ^ suc above + m) inner (node_at (suc above) m fits within) maximal (subst (IsOpen n rooms) (sym (parent_is m)) parent)

  pub open_small : (above : ℕ) → above ≤ n → n ≤ MAX_BITMAP_DIM → open_count n counts (suc above) < 2 ^ 32
  open_small above fits limit =
      let below : 2 ^ above ≤ 2 ^ MAX_BITMAP_DIM = pow_mono {j = MAX_BITMAP_DIM} (omega arith) in
      omega (arith, count_bound (OpenIn n rooms above) (2 ^ above) (open_count n counts (suc above)) (open_counted above fits), below)

  pub free_counted : (k : ℕ) (held : Holdings) → Represents n held rooms → k ≤ n → IsCount (λ m. IsFree held (block k m)) (2 ^ (n - k)) (open_count n counts (suc (n - k)))
  free_counted k held represents fits =
      count_alike (OpenIn n rooms (n - k)) (λ m. IsFree held (block k m)) (2 ^ (n - k)) (open_count n counts (suc (n - k)))
      (λ m within. let named = nth_named n k m fits within in (
        free_from_open n held rooms represents (2 ^ (n - k) + m) (block k m) named,
        open_from_free n held rooms represents (2 ^ (n - k) + m) (block k m) named,
      )) (open_counted (n - k) (omega arith))

-- ---- processors

-- each processor is held or free
processor_cases : (n p : ℕ) (rooms : List ℕ) (held : Holdings) → Represents n held rooms → p < 2 ^ n
    → (steps d v : ℕ) → d + steps ≡ suc n → IsPassed n rooms p d v → IsHeld held p ⊎ IsFreeProcessor held p
processor_cases n p rooms held represents within zero d v all passed =
    inr (λ s a is covers. IsPassed-free n rooms p d v held s a passed (omega (arith, all)) within represents is covers)
processor_cases n p rooms held represents within (suc steps) d v all passed = elim (cases_eq (room_of rooms v) 0) [
  | inl taken ↦
      let node = passed.node (omega (arith, all)) in
      let named = IsNodeOf-at n d v node in
      let found = represents.each_is_held v (block d (v - 2 ^ (n - d))) named taken in
      inl (found.0, block d (v - 2 ^ (n - d)), found.1, IsPassed-covers n rooms p d v (block d (v - 2 ^ (n - d))) passed (omega (arith, all)) within named)
  | inr other ↦
      processor_cases n p rooms held represents within steps (d + 1) (v / 2) (omega (arith, all)) (IsPassed-step n rooms p d v passed (omega (arith, all)) other)
]

pub held_or_free : (n p : ℕ) (rooms : List ℕ) (held : Holdings) → Represents n held rooms → p < 2 ^ n → IsHeld held p ⊎ IsFreeProcessor held p
held_or_free n p rooms held represents within =
    processor_cases n p rooms held represents within (suc n) 0 (2 ^ n + p) (omega arith) (IsPassed-begin n rooms p (2 ^ n + p) within refl)

one_covers : (p : ℕ) → Covers (block 0 p) p
one_covers p = (omega arith, omega arith)

pub held_counted : (n : ℕ) (rooms : List ℕ) (held : Holdings) (free : ℕ) → Represents n held rooms → IsCount (λ m. IsFree held (block 0 m)) (2 ^ (n - 0)) free → IsCount (IsHeld held) (2 ^ n) (2 ^ n - free)
held_counted n rooms held free represents counted =
    let all : n - 0 ≡ n = omega arith in
    count_others (λ m. IsFree held (block 0 m)) (IsHeld held) (2 ^ n) free apart rest
    (subst (λ i. IsCount (λ m. IsFree held (block 0 m)) (2 ^ i) free) all counted)
  where
    apart : (p : ℕ) → p < 2 ^ n → IsFree held (block 0 p) → IsHeld held p → ⊥
    apart p within is (s, a, at, covers) = is s a at p covers (one_covers p)

    rest : (p : ℕ) → p < 2 ^ n → (IsFree held (block 0 p) → ⊥) → IsHeld held p
    rest p within not_free = elim (held_or_free n p rooms held represents within) [
      | inl is ↦ is
      | inr free ↦
          absurd (not_free (λ t a at q in_a in_one.
          let same : q ≡ p = omega (arith, in_one) in free t a at (subst (Covers a) same in_a)))
    ]
