-- Maximal free blocks, and how a write of a room changes their counts.
use Rattle.std.proofs.Common.{◌≡◌, ◌≢◌, ℕ, suc, ◌+◌, ◌-◌, ◌*◌, ◌/◌, ◌^◌, ◌<◌, ◌≤◌, ◌⊎◌, inl, inr, List, length, slice_index, refl, sym, ◌∙◌, ap, subst, arith}
use Rattle.std.specs.Prelude.{◌↔◌}
use Rattle.std.proofs.Math.ListN.{set}
use Rattle.std.proofs.lemmas.List.{get_or-set_same, get_or-set_other}
use Rattle.std.proofs.lemmas.Bool.{cases_lt, cases_eq}
use Rattle.std.proofs.Math.Pow.{pow_mono}
use Rattle.cube_shape.specs.declared.limits.TheConstants.{MAX_BITMAP_DIM}
use Rattle.cube_shape.proofs.PathLemmas.{child_cases}
use Rattle.alloc_bits.specs.Count.{IsCount}
use Rattle.fit_tree.specs.Rooms.{IsNode, room_of}
use Rattle.fit_tree.specs.Image.{AreCounted, IsMaximal}
use Rattle.fit_tree.specs.InnerNodes.{IsTopped, Weighs}
use Rattle.fit_tree.proofs.NodeLemmas.{all_nodes, IsNode-in_cube, IsNode-one, IsNode-parent, level_doubles}
use Rattle.fit_tree.proofs.CountLemmas.{count_alike, count_bound, count_changes, count_changes_two, two_counted, weight_counted}

pub level_node : (n d m : ℕ) → d ≤ n → m < 2 ^ (n - d) → IsNode n d (2 ^ (n - d) + m)
level_node n d m fits within = (fits, omega arith, omega (arith, within))

-- the rooms of a level
pub level_end : (n d : ℕ) → d ≤ n → 2 * 2 ^ (n - d) ≤ 2 ^ (n + 1)
level_end n d fits =
    let below : 2 ^ (n - d) ≤ 2 ^ n = pow_mono (omega arith) in omega (arith, below, all_nodes n)

-- the maximal nodes of a level, by their numbers in it
abbrev pub MaximalIn : ℕ → List ℕ → ℕ → ℕ → Type 0
MaximalIn n rooms d m = IsMaximal rooms d (2 ^ (n - d) + m)

-- only the rooms of a node and of its parent count
pub maximal_moves : (rooms rooms' : List ℕ) (d v : ℕ) → room_of rooms v ≡ room_of rooms' v → room_of rooms (v / 2) ≡ room_of rooms' (v / 2) → IsMaximal rooms d v → IsMaximal rooms' d v
maximal_moves rooms rooms' d v here above is = (
  sym here ∙ is.0,
  elim (is.1) [
    | inl root ↦ inl root
    | inr other ↦ inr (λ whole. other.0 (above ∙ whole), λ taken. other.1 (above ∙ taken))
  ],
)

pub maximal_alike : (rooms rooms' : List ℕ) (d v : ℕ) → room_of rooms v ≡ room_of rooms' v → room_of rooms (v / 2) ≡ room_of rooms' (v / 2) → IsMaximal rooms d v ↔ IsMaximal rooms' d v
maximal_alike rooms rooms' d v here above = (maximal_moves rooms rooms' d v here above, maximal_moves rooms' rooms d v (sym here) (sym above))

-- two facts that are the same have one weight
pub weighs_alike : (P Q : Type 0) (weight : ℕ) → (P → Q) → (Q → P) → Weighs P weight → Weighs Q weight
weighs_alike P Q weight to from (inl one) = inl (one.0, to one.1)
weighs_alike P Q weight to from (inr none) = inr (none.0, λ has. none.1 (from has))

-- how many children of node `x`, of dimension `e`, are maximal
abbrev pub Children : List ℕ → ℕ → ℕ → ℕ → Type 0
Children rooms e x result =
    (left : ℕ) × (right : ℕ) × (result ≡ left + right) × Weighs (IsMaximal rooms e (2 * x)) left × Weighs (IsMaximal rooms e (2 * x + 1)) right

-- a child is maximal exactly if it is wholly free and the node above it is a part
module _ (rooms : List ℕ) (k e x : ℕ) (level : k ≡ suc e) (inside : 0 < x) where
  child_weighs : (v weight : ℕ) → v / 2 ≡ x → room_of rooms x ≢ 0 → room_of rooms x ≢ k + 2
      → Weighs (room_of rooms v ≡ e + 2) weight → Weighs (IsMaximal rooms e v) weight
  child_weighs v weight above used part =
      let same : e + 3 ≡ k + 2 = omega (arith, level) in
      weighs_alike (room_of rooms v ≡ e + 2) (IsMaximal rooms e v) weight
      (λ whole. (whole, inr (λ is. part (ap (room_of rooms) (sym above) ∙ is ∙ same), λ none. used (ap (room_of rooms) (sym above) ∙ none))))
      (λ is. is.0)

  child_none : (v : ℕ) → v / 2 ≡ x → 1 < v → (room_of rooms x ≡ 0) ⊎ (room_of rooms x ≡ k + 2) → Weighs (IsMaximal rooms e v) 0
  child_none v above inner shut =
      let same : k + 2 ≡ e + 3 = omega (arith, level) in
      inr (
        refl,
        λ is. elim (is.1) [
          | inl root ↦ omega (arith, root, inner)
          | inr seen ↦ elim shut [
            | inl none ↦ seen.1 (ap (room_of rooms) above ∙ none)
            | inr whole ↦ seen.0 (ap (room_of rooms) above ∙ whole ∙ same)
          ]
        ],
      )

  pub children_none : (room_of rooms x ≡ 0) ⊎ (room_of rooms x ≡ k + 2) → Children rooms e x 0
  children_none is = (0, 0, refl, child_none (2 * x) (omega arith) (omega (arith, inside)) is, child_none (2 * x + 1) (omega arith) (omega (arith, inside)) is)

  pub children_weigh : (left right result : ℕ)
      → Weighs (room_of rooms (2 * x) ≡ e + 2) left
      → Weighs (room_of rooms (2 * x + 1) ≡ e + 2) right
      → (room_of rooms x ≢ 0 → room_of rooms x ≢ k + 2 → result ≡ left + right)
      → ((room_of rooms x ≡ 0) ⊎ (room_of rooms x ≡ k + 2) → result ≡ 0)
      → Children rooms e x result
  children_weigh left right result of_left of_right part shut = elim (cases_eq (room_of rooms x) 0) [
    | inl none ↦ nothing (inl none)
    | inr used ↦ elim (cases_eq (room_of rooms x) (k + 2)) [
      | inl whole ↦ nothing (inr whole)
      | inr other ↦
          (left, right, part used other, child_weighs (2 * x) left (omega arith) used other of_left, child_weighs (2 * x + 1) right (omega arith) used other of_right)
    ]
  ]
    where
      nothing : (room_of rooms x ≡ 0) ⊎ (room_of rooms x ≡ k + 2) → Children rooms e x result
      nothing is = subst (Children rooms e x) (sym (shut is)) (children_none is)

-- a level has fewer nodes than a word counts
pub level_small : (n d : ℕ) → n ≤ MAX_BITMAP_DIM → 2 * 2 ^ (n - d) < 2 ^ 32
level_small n d limit =
    let below : 2 ^ (n - d) ≤ 2 ^ MAX_BITMAP_DIM = pow_mono {j = MAX_BITMAP_DIM} (omega arith) in omega (arith, below)

-- a count is below the number of processors of the largest machine
pub count_small : (n d count : ℕ) (P : ℕ → Type 0) → n ≤ MAX_BITMAP_DIM → IsCount P (2 ^ (n - d)) count → count ≤ 2 ^ MAX_BITMAP_DIM
count_small n d count P fits counted =
    let below : 2 ^ (n - d) ≤ 2 ^ MAX_BITMAP_DIM = pow_mono {j = MAX_BITMAP_DIM} (omega arith) in omega (arith, count_bound P (2 ^ (n - d)) count counted, below)

module _ (n k x j : ℕ) (rooms : List ℕ) (node : IsNode n k x) where
  pub room_kept : (v : ℕ) → v ≢ x → room_of rooms v ≡ room_of (set rooms x j) v
  room_kept v other = sym (get_or-set_other rooms x v j 0 other)

  -- the weight of the node itself
  pub own_weighs : (Fact : Type 0) (weight : ℕ) → Fact ↔ IsTopped rooms k x → Weighs ((room_of rooms x ≡ k + 2) × Fact) weight → Weighs (IsMaximal rooms k x) weight
  own_weighs Fact weight topped =
      weighs_alike ((room_of rooms x ≡ k + 2) × Fact) (IsMaximal rooms k x) weight (λ both. (both.0, topped.0 both.1)) (λ is. (is.0, topped.1 is.1))

  module _ (within : x < length rooms) where
    is_written : room_of (set rooms x j) x ≡ j
    is_written = get_or-set_same rooms x j 0 within

    pub own_weighs_after : (Fact : Type 0) (weight : ℕ) → Fact ↔ IsTopped rooms k x → Weighs ((j ≡ k + 2) × Fact) weight → Weighs (IsMaximal (set rooms x j) k x) weight
    own_weighs_after Fact weight topped =
        weighs_alike ((j ≡ k + 2) × Fact) (IsMaximal (set rooms x j) k x) weight (λ both. (is_written ∙ both.0, to (topped.0 both.1)))
        (λ is. (sym is_written ∙ is.0, topped.1 (from is.1)))
      where
        above : room_of rooms (x / 2) ≡ room_of (set rooms x j) (x / 2)
        above = room_kept (x / 2) (λ same. omega (arith, same, (IsNode-in_cube n k x node).0))

        to : IsTopped rooms k x → IsTopped (set rooms x j) k x
        to (inl root) = inl root
        to (inr other) = inr (λ whole. other.0 (above ∙ whole), λ taken. other.1 (above ∙ taken))

        from : IsTopped (set rooms x j) k x → IsTopped rooms k x
        from (inl root) = inl root
        from (inr other) = inr (λ whole. other.0 (sym above ∙ whole), λ taken. other.1 (sym above ∙ taken))

    -- the weights of its children, by their rooms of before
    pub children_after : (e left right result : ℕ) → k ≡ suc e
        → Weighs (room_of rooms (2 * x) ≡ e + 2) left
        → Weighs (room_of rooms (2 * x + 1) ≡ e + 2) right
        → (j ≢ 0 → j ≢ k + 2 → result ≡ left + right)
        → ((j ≡ 0) ⊎ (j ≡ k + 2) → result ≡ 0)
        → Children (set rooms x j) e x result
    children_after e left right result level of_left of_right part shut =
        let inside = (IsNode-in_cube n k x node).0 in
        children_weigh (set rooms x j) k e x level (omega (arith, inside)) left right result
        (subst (λ room. Weighs (room ≡ e + 2) left) (room_kept (2 * x) (λ same. omega (arith, same, inside))) of_left)
        (subst (λ room. Weighs (room ≡ e + 2) right) (room_kept (2 * x + 1) (λ same. omega (arith, same, inside))) of_right)
        (λ used other. part (λ none. used (is_written ∙ none)) (λ whole. other (is_written ∙ whole)))
        (λ is. shut (written_shut is))
      where
        written_shut : (room_of (set rooms x j) x ≡ 0) ⊎ (room_of (set rooms x j) x ≡ k + 2) → (j ≡ 0) ⊎ (j ≡ k + 2)
        written_shut (inl none) = inl (sym is_written ∙ none)
        written_shut (inr whole) = inr (sym is_written ∙ whole)

  not_node : (d m : ℕ) → d ≤ n → m < 2 ^ (n - d) → d ≢ k → 2 ^ (n - d) + m ≢ x
  not_node d m fits within other same = other (IsNode-one n d k x (subst (IsNode n d) same (level_node n d m fits within)) node)

  not_parent : (d m : ℕ) → d ≤ n → m < 2 ^ (n - d) → suc d ≢ k → (2 ^ (n - d) + m) / 2 ≢ x
  not_parent d m fits within other same = elim (cases_lt d n) [
    | inl inner ↦
        other (IsNode-one n (suc d) k x (subst (IsNode n (suc d)) same (IsNode-parent n d (2 ^ (n - d) + m) inner (level_node n d m fits within))) node)
    | inr top ↦
        let none : n - d ≡ 0 = omega (arith, fits, top) in
        let one : 2 ^ (n - d) ≡ 1 = ap (λ i. 2 ^ i) none in
        omega (arith, one, within, same, (IsNode-in_cube n k x node).0)
  ]

  alike_other : (d m : ℕ) → d ≤ n → m < 2 ^ (n - d) → 2 ^ (n - d) + m ≢ x → (2 ^ (n - d) + m) / 2 ≢ x → MaximalIn n rooms d m ↔ MaximalIn n (set rooms x j) d m
  alike_other d m fits within here above =
      maximal_alike rooms (set rooms x j) d (2 ^ (n - d) + m) (room_kept (2 ^ (n - d) + m) here) (room_kept ((2 ^ (n - d) + m) / 2) above)

  -- the counts of all other levels stay
  pub counted_elsewhere : (d count : ℕ) → d ≤ n → d ≢ k → suc d ≢ k → IsCount (MaximalIn n rooms d) (2 ^ (n - d)) count → IsCount (MaximalIn n (set rooms x j) d) (2 ^ (n - d)) count
  counted_elsewhere d count fits other upper counted =
      count_alike (MaximalIn n rooms d) (MaximalIn n (set rooms x j) d) (2 ^ (n - d)) count
      (λ m within. alike_other d m fits within (not_node d m fits within other) (not_parent d m fits within upper)) counted

  -- in the node's level it alone may change
  pub counted_own : (own own' count after : ℕ) → Weighs (IsMaximal rooms k x) own → Weighs (IsMaximal (set rooms x j) k x) own' → after + own ≡ count + own'
      → IsCount (MaximalIn n rooms k) (2 ^ (n - k)) count → IsCount (MaximalIn n (set rooms x j) k) (2 ^ (n - k)) after
  counted_own own own' count after weighs weighs' sums counted =
      let here : x ≡ 2 ^ (n - k) + (x - 2 ^ (n - k)) = omega (arith, node.1) in
      count_changes (MaximalIn n rooms k) (MaximalIn n (set rooms x j) k) (x - 2 ^ (n - k)) own own'
      (subst (λ v. Weighs (IsMaximal rooms k v) own) here weighs) (subst (λ v. Weighs (IsMaximal (set rooms x j) k v) own') here weighs')
      (2 ^ (n - k)) count after
      (λ m within other. alike_other k m node.0 within (λ same. omega (arith, same, here, other)) (not_parent k m node.0 within (λ same. omega (arith, same))))
      (omega (arith, node.1, node.2)) sums counted

  -- in the level below its children may change
  pub counted_children : (e left right left' right' count after : ℕ) → k ≡ suc e
      → Weighs (IsMaximal rooms e (2 * x)) left → Weighs (IsMaximal rooms e (2 * x + 1)) right
      → Weighs (IsMaximal (set rooms x j) e (2 * x)) left' → Weighs (IsMaximal (set rooms x j) e (2 * x + 1)) right'
      → after + (left + right) ≡ count + (left' + right')
      → IsCount (MaximalIn n rooms e) (2 ^ (n - e)) count → IsCount (MaximalIn n (set rooms x j) e) (2 ^ (n - e)) after
  counted_children e left right left' right' count after level of_left of_right of_left' of_right' sums counted =
      let twice : 2 ^ (n - e) ≡ 2 * 2 ^ (n - suc e) = level_doubles n e (omega (arith, node.0, level)) in
      let same : 2 ^ (n - suc e) ≡ 2 ^ (n - k) = ap (λ i. 2 ^ (n - i)) (sym level) in
      let low : 2 ^ (n - e) ≤ 2 * x = omega (arith, twice, same, node.1) in
      let here : 2 * x ≡ 2 ^ (n - e) + (2 * x - 2 ^ (n - e)) = omega (arith, low) in
      let next : 2 * x + 1 ≡ 2 ^ (n - e) + (2 * x - 2 ^ (n - e) + 1) = omega (arith, low) in
      let fits : e ≤ n = omega (arith, node.0, level) in
      count_changes_two (MaximalIn n rooms e) (MaximalIn n (set rooms x j) e) (2 * x - 2 ^ (n - e)) left right left' right'
      (subst (λ v. Weighs (IsMaximal rooms e v) left) here of_left) (subst (λ v. Weighs (IsMaximal rooms e v) right) next of_right)
      (subst (λ v. Weighs (IsMaximal (set rooms x j) e v) left') here of_left') (subst (λ v. Weighs (IsMaximal (set rooms x j) e v) right') next of_right')
      (2 ^ (n - e)) count after
      (λ m within first second. alike_other e m fits within (not_node e m fits within (λ at. omega (arith, at, level))) (λ at. child_is m first second here (child_cases (2 ^ (n - e) + m) x at)))
      (omega (arith, low, twice, same, node.2)) sums counted
    where
      child_is : (m : ℕ) → m ≢ 2 * x - 2 ^ (n - e) → m ≢ 2 * x - 2 ^ (n - e) + 1 → 2 * x ≡ 2 ^ (n - e) + (2 * x - 2 ^ (n - e)) → (2 ^ (n - e) + m ≡ 2 * x) ⊎ (2 ^ (n - e) + m ≡ 2 * x + 1) → ⊥
      child_is m first second here (inl is) = first (omega (arith, is, here))
      child_is m first second here (inr is) = second (omega (arith, is, here))

  -- no count changes where the node is neither taken nor wholly free, before and after
  module _ (before : (room_of rooms x ≢ 0) × (room_of rooms x ≢ k + 2)) (after : (j ≢ 0) × (j ≢ k + 2)) (within : x < length rooms) where
    written : room_of (set rooms x j) x ≡ j
    written = get_or-set_same rooms x j 0 within

    alike_part : (d m : ℕ) → d ≤ n → m < 2 ^ (n - d) → MaximalIn n rooms d m ↔ MaximalIn n (set rooms x j) d m
    alike_part d m fits inside = elim (cases_eq (2 ^ (n - d) + m) x) [
      | inl here ↦
          let dims : d ≡ k = IsNode-one n d k x (subst (IsNode n d) here (level_node n d m fits inside)) node in (
            λ is. absurd (before.1 (ap (room_of rooms) (sym here) ∙ is.0 ∙ ap (λ i. i + 2) dims)),
            λ is. absurd (after.1 (sym written ∙ ap (room_of (set rooms x j)) (sym here) ∙ is.0 ∙ ap (λ i. i + 2) dims)),
          )
      | inr other ↦ elim (cases_eq ((2 ^ (n - d) + m) / 2) x) [
        | inl above ↦
            let dims : suc d ≡ k = elim (cases_eq (suc d) k) [ inl same ↦ same | inr off ↦ absurd (not_parent d m fits inside off above) ] in
            let whole : d + 3 ≡ k + 2 = omega (arith, dims) in (
              λ is. (
                sym (room_kept (2 ^ (n - d) + m) other) ∙ is.0,
                inr (
                  λ same. after.1 (sym written ∙ ap (room_of (set rooms x j)) (sym above) ∙ same ∙ whole),
                  λ none. after.0 (sym written ∙ ap (room_of (set rooms x j)) (sym above) ∙ none),
                ),
              ),
              λ is. (
                room_kept (2 ^ (n - d) + m) other ∙ is.0,
                inr (
                  λ same. before.1 (ap (room_of rooms) (sym above) ∙ same ∙ whole),
                  λ none. before.0 (ap (room_of rooms) (sym above) ∙ none),
                ),
              ),
            )
        | inr apart ↦ alike_other d m fits inside other apart
      ]
    ]

    pub counted_part : (counts : List ℕ) → AreCounted n counts rooms → AreCounted n counts (set rooms x j)
    counted_part counts counted = record {
      each = λ d fits. count_alike (MaximalIn n rooms d) (MaximalIn n (set rooms x j) d) (2 ^ (n - d)) (slice_index counts d) (λ m inside. alike_part d m fits inside) (counted.each d fits);
      none_above = counted.none_above;
    }

-- what a change of one count does
abbrev IsChanged : List ℕ → List ℕ → ℕ → ℕ → ℕ → Type 0
IsChanged old new dim less more =
    less ≤ slice_index old dim → slice_index old dim + more < 2 ^ 32 → slice_index new dim + less ≡ slice_index old dim + more

abbrev AreKept : List ℕ → List ℕ → ℕ → Type 0
AreKept old new dim = (d : ℕ) → d ≢ dim → slice_index new d ≡ slice_index old d

module _ (n k x j : ℕ) (rooms counts mid : List ℕ) (limit : n ≤ MAX_BITMAP_DIM) (node : IsNode n k x) (counted : AreCounted n counts rooms)
    (own own' : ℕ) (weighs : Weighs (IsMaximal rooms k x) own) (weighs' : Weighs (IsMaximal (set rooms x j) k x) own') (small : own' ≤ 1)
    (changed : IsChanged counts mid k own own') (kept : AreKept counts mid k) where
  own_after : IsCount (MaximalIn n (set rooms x j) k) (2 ^ (n - k)) (slice_index mid k)
  own_after =
      let here : x ≡ 2 ^ (n - k) + (x - 2 ^ (n - k)) = omega (arith, node.1) in
      let some = weight_of (x - 2 ^ (n - k)) (omega (arith, node.1, node.2)) (subst (λ v. Weighs (IsMaximal rooms k v) own) here weighs) in
      let most = count_small n k (slice_index counts k) (MaximalIn n rooms k) limit (counted.each k node.0) in
      counted_own n k x j rooms node own own' (slice_index counts k) (slice_index mid k) weighs weighs' (changed some (omega (arith, most, small))) (counted.each k node.0)
    where
      weight_of : (i : ℕ) → i < 2 ^ (n - k) → Weighs (MaximalIn n rooms k i) own → own ≤ slice_index counts k
      weight_of i within is = weight_counted (MaximalIn n rooms k) i own (2 ^ (n - k)) (slice_index counts k) within is (counted.each k node.0)

  pub counted_leaf : k ≡ 0 → AreCounted n mid (set rooms x j)
  counted_leaf leaf = record { each = each; none_above = λ d above. kept d (λ same. omega (arith, same, above, leaf)) ∙ counted.none_above d above }
    where
      each : (d : ℕ) → d ≤ n → IsCount (MaximalIn n (set rooms x j) d) (2 ^ (n - d)) (slice_index mid d)
      each d fits = elim (cases_eq d k) [
        | inl same ↦ subst (λ i. IsCount (MaximalIn n (set rooms x j) i) (2 ^ (n - i)) (slice_index mid i)) (sym same) own_after
        | inr other ↦
            subst (IsCount (MaximalIn n (set rooms x j) d) (2 ^ (n - d))) (sym (kept d other))
            (counted_elsewhere n k x j rooms node d (slice_index counts d) fits other (λ same. omega (arith, same, leaf)) (counted.each d fits))
      ]

  module _ (e : ℕ) (level : k ≡ suc e) (after : List ℕ) (left right left' right' : ℕ)
      (of_left : Weighs (IsMaximal rooms e (2 * x)) left) (of_right : Weighs (IsMaximal rooms e (2 * x + 1)) right)
      (of_left' : Weighs (IsMaximal (set rooms x j) e (2 * x)) left') (of_right' : Weighs (IsMaximal (set rooms x j) e (2 * x + 1)) right')
      (few : left' + right' ≤ 2) (changed_below : IsChanged mid after e (left + right) (left' + right')) (kept_below : AreKept mid after e) where
    pub counted_inner : AreCounted n after (set rooms x j)
    counted_inner = record { each = each; none_above = λ d above. kept_below d (λ same. omega (arith, same, above, level, node.0)) ∙ kept d (λ same. omega (arith, same, above, node.0)) ∙ counted.none_above d above }
      where
        fits_below : e ≤ n
        fits_below = omega (arith, level, node.0)

        was : slice_index mid e ≡ slice_index counts e
        was = kept e (λ same. omega (arith, same, level))

        below : IsCount (MaximalIn n (set rooms x j) e) (2 ^ (n - e)) (slice_index after e)
        below =
            let most = count_small n e (slice_index counts e) (MaximalIn n rooms e) limit (counted.each e fits_below) in
            let some = both in
            let sums : slice_index after e + (left + right) ≡ slice_index mid e + (left' + right') = changed_below (omega (arith, some, was)) (omega (arith, most, was, few)) in
            counted_children n k x j rooms node e left right left' right' (slice_index counts e) (slice_index after e) level of_left of_right of_left' of_right'
            (omega (arith, sums, was)) (counted.each e fits_below)
          where
            both : left + right ≤ slice_index counts e
            both =
                let twice : 2 ^ (n - e) ≡ 2 * 2 ^ (n - suc e) = level_doubles n e (omega (arith, node.0, level)) in
                let same : 2 ^ (n - suc e) ≡ 2 ^ (n - k) = ap (λ i. 2 ^ (n - i)) (sym level) in
                let low : 2 ^ (n - e) ≤ 2 * x = omega (arith, twice, same, node.1) in
                let here : 2 * x ≡ 2 ^ (n - e) + (2 * x - 2 ^ (n - e)) = omega (arith, low) in
                let next : 2 * x + 1 ≡ 2 ^ (n - e) + (2 * x - 2 ^ (n - e) + 1) = omega (arith, low) in
                two_counted (MaximalIn n rooms e) (2 * x - 2 ^ (n - e)) left right (2 ^ (n - e)) (slice_index counts e) (omega (arith, low, twice, same, node.2))
                (subst (λ v. Weighs (IsMaximal rooms e v) left) here of_left) (subst (λ v. Weighs (IsMaximal rooms e v) right) next of_right) (counted.each e fits_below)

        each : (d : ℕ) → d ≤ n → IsCount (MaximalIn n (set rooms x j) d) (2 ^ (n - d)) (slice_index after d)
        each d fits = elim (cases_eq d e) [
          | inl same ↦ subst (λ i. IsCount (MaximalIn n (set rooms x j) i) (2 ^ (n - i)) (slice_index after i)) (sym same) below
          | inr other ↦ subst (IsCount (MaximalIn n (set rooms x j) d) (2 ^ (n - d))) (sym (kept_below d other)) (elim (cases_eq d k) [
            | inl same ↦ subst (λ i. IsCount (MaximalIn n (set rooms x j) i) (2 ^ (n - i)) (slice_index mid i)) (sym same) own_after
            | inr off ↦
                subst (IsCount (MaximalIn n (set rooms x j) d) (2 ^ (n - d))) (sym (kept d off))
                (counted_elsewhere n k x j rooms node d (slice_index counts d) fits off (λ same. other (omega (arith, same, level))) (counted.each d fits))
          ])
        ]
