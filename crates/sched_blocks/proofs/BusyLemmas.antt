-- How many processors are busy at a node follows from how many are at its children.
use Rattle.std.proofs.Common.{◌≡◌, ◌≢◌, ℕ, zero, suc, ◌+◌, ◌-◌, ◌*◌, ◌/◌, ◌^◌, ◌<◌, ◌≤◌, inl, inr, Bool, true, false, cond, List, length, refl, sym, ◌∙◌, ap, subst, arith}
use Rattle.std.specs.Prelude.{◌↔◌, bit_xor}
use Rattle.std.proofs.Math.ListN.{set as set_entry}
use Rattle.std.proofs.Math.Nat.{add_comm}
use Rattle.std.proofs.lemmas.Nat.{pow-add, mul-le}
use Rattle.std.proofs.lemmas.Bool.{cases_lt, true≢false}
use Rattle.std.proofs.Math.Pow.{pow_mono}
use Rattle.cube_shape.specs.declared.limits.TheConstants.{MAX_BITMAP_DIM}
use Rattle.cube_shape.specs.Node.{IsInCube, OnPath}
use Rattle.cube_shape.proofs.PathLemmas.{OnPath-self, OnPath-le, OnPath-leaf, OnPath-linear, OnPath-trans, OnPath-up}
use Rattle.alloc_bits.specs.Count.{IsCount}
use Rattle.fit_tree.specs.Rooms.{IsNode}
use Rattle.fit_tree.proofs.CountLemmas.{count_alike, count_none, count_unique}
use Rattle.fit_tree.proofs.NodeLemmas.{IsNode-in_cube, IsNode-left, IsNode-right, IsNode-parent, OnPath-left, OnPath-right, all_nodes}
use Rattle.sched_law.specs.State.{set}
use Rattle.sched_law.proofs.SetLemmas.{set_here, set_else}
use Rattle.sched_blocks.specs.Ends.{entry_of}
use Rattle.sched_blocks.specs.Busy.{AreBusy, HasNoneBeside, IsUsedIn}
use Rattle.sched_blocks.proofs.ClimbLemmas.{AreRuledBut, Climb-begin, IsRuled, Rule, entry_other, entry_same, parent_above, ruled_at, sibling_entry}

-- the entry is the size of a node in use, else the sum of its children's
abbrev pub busy_by : (ℕ → Bool) → Rule
busy_by used d v l r = cond (used v) (2 ^ d) (l + r)

-- ---- counts

pub count_all : (P : ℕ → Type 0) (bound : ℕ) → ((i : ℕ) → i < bound → P i) → IsCount P bound bound
count_all P zero has = refl
count_all P (suc m) has = inl (has m (omega arith), (m, omega arith, count_all P m (λ i less. has i (omega arith))))

pub count_joins : (P : ℕ → Type 0) (a b x y : ℕ) → IsCount P a x → IsCount (λ i. P (a + i)) b y → IsCount P (a + b) (x + y)
count_joins P a zero x y first none =
    let here : a ≡ a + zero = omega arith in
    let sum : x ≡ x + y = omega (arith, none) in
    subst (λ bound. IsCount P bound (x + y)) here (subst (IsCount P a) sum first)
count_joins P a (suc m) x y first (inl (has, (before, is, counted))) =
    let next : suc (a + m) ≡ a + suc m = omega arith in
    let sum : x + y ≡ x + before + 1 = omega (arith, is) in
    subst (λ bound. IsCount P bound (x + y)) next (inl (has, (x + before, sum, count_joins P a m x before first counted)))
count_joins P a (suc m) x y first (inr (none, counted)) =
    let next : suc (a + m) ≡ a + suc m = omega arith in
    subst (λ bound. IsCount P bound (x + y)) next (inr (none, count_joins P a m x y first counted))

-- ---- nodes in use

-- the processors that are busy at a node of dimension `d`
abbrev pub Busy : (ℕ → Bool) → ℕ → ℕ → ℕ → Type 0
Busy used d v i = IsUsedIn used v (v * 2 ^ d + i)

double : (d : ℕ) → 2 ^ suc d ≡ 2 * 2 ^ d
double d = let parts : suc d ≡ 1 + d = omega arith in ap (λ i. 2 ^ i) parts ∙ pow-add 2 1 d

-- a child sees what its parent sees, unless the parent itself is in use
pub used_child : (used : ℕ → Bool) (v c w : ℕ) → used v ≡ false → OnPath v c → c / 2 ≡ v → OnPath c w → IsUsedIn used c w ↔ IsUsedIn used v w
used_child used v c w idle on half lower = (
  λ found. (found.0, found.1, OnPath-trans v c found.0 on found.2, found.3),
  λ found. (found.0, found.1, under found.0 found.1 found.2 found.3, found.3),
)
  where
    under : (u : ℕ) → used u ≡ true → OnPath v u → OnPath u w → OnPath c u
    under u is over below = elim (cases_lt u c) [
      | inr order ↦ OnPath-linear c u w lower below order
      | inl less ↦
          let up : OnPath u (c / 2) = OnPath-up u c (OnPath-linear u c w below lower (omega arith)) (λ same. omega (arith, same, less)) in
          let same : u ≡ v = omega (arith, OnPath-le u (c / 2) up, OnPath-le v u over, half) in
          absurd (true≢false (sym is ∙ ap used same ∙ idle))
    ]

cond_le : (t : Bool) (a b c : ℕ) → a ≤ c → b ≤ c → cond t a b ≤ c
cond_le true a b c first second = first
cond_le false a b c first second = second

-- the processors of a node are nodes
pub leaf_inside : (n d v i : ℕ) → IsNode n d v → i < 2 ^ d → v * 2 ^ d + i < 2 ^ (n + 1)
leaf_inside n d v i node less =
    let rows : (v + 1) * 2 ^ d ≤ 2 * 2 ^ (n - d) * 2 ^ d = mul-le (v + 1) (2 ^ d) (2 * 2 ^ (n - d)) (2 ^ d) (omega (arith, node.2)) (omega arith) in
    let parts : n - d + d ≡ n = omega (arith, node.0) in
    let all : 2 ^ (n - d) * 2 ^ d ≡ 2 ^ n = sym (pow-add 2 (n - d) d) ∙ ap (λ i. 2 ^ i) parts in
    omega (arith, rows, all, less, all_nodes n)

module _ (n : ℕ) (used : ℕ → Bool) where
  pub busy_whole : (d v : ℕ) → IsNode n d v → used v ≡ true → IsCount (Busy used d v) (2 ^ d) (2 ^ d)
  busy_whole d v node is =
      let inside = IsNode-in_cube n d v node in
      count_all (Busy used d v) (2 ^ d) (λ i less. (v, is, OnPath-self v inside.0, OnPath-leaf v d i inside.0 less))

  pub busy_leaf : (v : ℕ) → used v ≡ false → IsCount (Busy used 0 v) (2 ^ 0) 0
  busy_leaf v idle = count_none (Busy used 0 v) (2 ^ 0) none
    where
      none : (i : ℕ) → i < 2 ^ 0 → Busy used 0 v i → ⊥
      none i less found =
          let low : v * 2 ^ 0 + i ≡ v = omega (arith, less) in
          let same : found.0 ≡ v = omega (arith, OnPath-le v found.0 found.2, OnPath-le found.0 (v * 2 ^ 0 + i) found.3, low) in
          true≢false (sym found.1 ∙ ap used same ∙ idle)

  pub busy_join : (d v l r : ℕ) → IsNode n (suc d) v → used v ≡ false → IsCount (Busy used d (2 * v)) (2 ^ d) l → IsCount (Busy used d (2 * v + 1)) (2 ^ d) r → IsCount (Busy used (suc d) v) (2 ^ suc d) (l + r)
  busy_join d v l r node idle left right =
      let both : 2 ^ d + 2 ^ d ≡ 2 ^ suc d = omega (arith, double d) in
      subst (λ bound. IsCount (Busy used (suc d) v) bound (l + r)) both
      (count_joins (Busy used (suc d) v) (2 ^ d) (2 ^ d) l r
      (count_alike (Busy used d (2 * v)) (Busy used (suc d) v) (2 ^ d) l in_left left)
      (count_alike (Busy used d (2 * v + 1)) (λ i. Busy used (suc d) v (2 ^ d + i)) (2 ^ d) r in_right right))
    where
      positive : 0 < v
      positive = (IsNode-in_cube n (suc d) v node).0

      leaf_left : (i : ℕ) → 2 * v * 2 ^ d + i ≡ v * 2 ^ suc d + i
      leaf_left i = omega (arith, double d, ap (λ x. v * x) (double d))

      leaf_right : (i : ℕ) → (2 * v + 1) * 2 ^ d + i ≡ v * 2 ^ suc d + (2 ^ d + i)
      leaf_right i = omega (arith, double d, ap (λ x. v * x) (double d))

      in_left : (i : ℕ) → i < 2 ^ d → Busy used d (2 * v) i ↔ Busy used (suc d) v i
      in_left i less =
          subst (λ w. Busy used d (2 * v) i ↔ IsUsedIn used v w) (leaf_left i)
          (used_child used v (2 * v) (2 * v * 2 ^ d + i) idle (OnPath-left v positive) (omega arith) (OnPath-leaf (2 * v) d i (omega (arith, positive)) less))

      in_right : (i : ℕ) → i < 2 ^ d → Busy used d (2 * v + 1) i ↔ Busy used (suc d) v (2 ^ d + i)
      in_right i less =
          subst (λ w. Busy used d (2 * v + 1) i ↔ IsUsedIn used v w) (leaf_right i)
          (used_child used v (2 * v + 1) ((2 * v + 1) * 2 ^ d + i) idle (OnPath-right v positive) (omega arith) (OnPath-leaf (2 * v + 1) d i (omega arith) less))

  -- the count that the rule gives is the right one
  by_leaf : (v : ℕ) → IsNode n 0 v → (t : Bool) → used v ≡ t → IsCount (Busy used 0 v) (2 ^ 0) (cond t (2 ^ 0) (0 + 0))
  by_leaf v node true is = busy_whole 0 v node is
  by_leaf v node false is = busy_leaf v is

  by_join : (d v l r : ℕ) → IsNode n (suc d) v → IsCount (Busy used d (2 * v)) (2 ^ d) l → IsCount (Busy used d (2 * v + 1)) (2 ^ d) r
      → (t : Bool) → used v ≡ t → IsCount (Busy used (suc d) v) (2 ^ suc d) (cond t (2 ^ suc d) (l + r))
  by_join d v l r node left right true is = busy_whole (suc d) v node is
  by_join d v l r node left right false is = busy_join d v l r node is left right

  -- entries that follow from each other are the right counts
  count_of : (busy : List ℕ) → AreRuledBut n 0 (busy_by used) busy → (d v : ℕ) → IsNode n d v → IsCount (Busy used d v) (2 ^ d) (entry_of busy v)
  count_of busy ruled zero v node =
      subst (IsCount (Busy used 0 v) (2 ^ 0)) (sym (ruled_at n (busy_by used) busy ruled zero v node)) (by_leaf v node (used v) refl)
  count_of busy ruled (suc d) v node =
      subst (IsCount (Busy used (suc d) v) (2 ^ suc d)) (sym (ruled_at n (busy_by used) busy ruled (suc d) v node))
      (by_join d v (entry_of busy (2 * v)) (entry_of busy (2 * v + 1)) node (count_of busy ruled d (2 * v) (IsNode-left n d v node)) (count_of busy ruled d (2 * v + 1) (IsNode-right n d v node)) (used v) refl)

  pub busy_of : (busy : List ℕ) → AreRuledBut n 0 (busy_by used) busy → AreBusy n used busy
  busy_of busy ruled = record { each = count_of busy ruled }

  -- and the right counts follow from each other
  module _ (busy : List ℕ) (are : AreBusy n used busy) where
    rule_at : (d v : ℕ) → IsNode n d v → v ≢ 0 → IsRuled (busy_by used) busy d v
    rule_at zero v node _ =
        count_unique (Busy used 0 v) (2 ^ 0) (entry_of busy v) (cond (used v) (2 ^ 0) (0 + 0)) (are.each 0 v node) (by_leaf v node (used v) refl)
    rule_at (suc d) v node _ =
        count_unique (Busy used (suc d) v) (2 ^ suc d) (entry_of busy v) (cond (used v) (2 ^ suc d) (entry_of busy (2 * v) + entry_of busy (2 * v + 1))) (are.each (suc d) v node)
        (by_join d v (entry_of busy (2 * v)) (entry_of busy (2 * v + 1)) node (are.each d (2 * v) (IsNode-left n d v node)) (are.each d (2 * v + 1) (IsNode-right n d v node)) (used v) refl)

    pub busy_ruled : AreRuledBut n 0 (busy_by used) busy
    busy_ruled = record { right = rule_at }

    -- below a node with none beside nothing is busy
    pub none_below : (x d c : ℕ) → HasNoneBeside n used x → OnPath x c → x ≢ c → IsNode n d c → entry_of busy c ≡ 0
    none_below x d c alone on other node =
        count_unique (Busy used d c) (2 ^ d) (entry_of busy c) 0 (are.each d c node) (count_none (Busy used d c) (2 ^ d) none)
      where
        none : (i : ℕ) → i < 2 ^ d → Busy used d c i → ⊥
        none i less found =
            let high : found.0 < 2 ^ (n + 1) = omega (arith, OnPath-le found.0 (c * 2 ^ d + i) found.3, leaf_inside n d c i node less) in
            let above : c ≤ found.0 = OnPath-le c found.0 found.2 in
            let idle = alone found.0 ((found.3).0, high) (inr (OnPath-trans x c found.0 on found.2)) (λ same. omega (arith, other, same, OnPath-le x c on, above)) in
            true≢false (sym found.1 ∙ idle)

    module _ (k x y : ℕ) (is_used : Bool) (node : IsNode n k x) (alone : HasNoneBeside n used x) (within : x < length busy)
        (is : y ≡ cond is_used (2 ^ k) 0) where
      positive : 0 < x
      positive = (IsNode-in_cube n k x node).0

      -- whether it is in use or not, nothing is busy below
      sized : (t : Bool) (l r : ℕ) → l ≡ 0 → r ≡ 0 → cond t (2 ^ k) 0 ≡ cond t (2 ^ k) (l + r)
      sized true l r left right = refl
      sized false l r left right = omega (arith, left, right)

      here_is : (l r : ℕ) → l ≡ 0 → r ≡ 0 → entry_of (set_entry busy x y) x ≡ busy_by (set used x is_used) k x l r
      here_is l r left right =
          entry_same busy x y within ∙ is ∙ sized is_used l r left right ∙ ap (λ t. cond t (2 ^ k) (l + r)) (sym (set_here used x is_used))

      child_idle : (e c : ℕ) → OnPath x c → c ≢ x → IsNode n e c → entry_of (set_entry busy x y) c ≡ 0
      child_idle e c on other lower = entry_other busy x y c other ∙ none_below x e c alone on (λ same. other (sym same)) lower

      rule_here : (e : ℕ) → k ≡ e → IsNode n e x → IsRuled (busy_by (set used x is_used)) (set_entry busy x y) e x
      rule_here zero dims lower = subst (λ e. entry_of (set_entry busy x y) x ≡ busy_by (set used x is_used) e x 0 0) dims (here_is 0 0 refl refl)
      rule_here (suc e) dims lower =
          subst (λ i. entry_of (set_entry busy x y) x ≡ busy_by (set used x is_used) i x (entry_of (set_entry busy x y) (2 * x)) (entry_of (set_entry busy x y) (2 * x + 1))) dims
          (here_is (entry_of (set_entry busy x y) (2 * x)) (entry_of (set_entry busy x y) (2 * x + 1))
          (child_idle e (2 * x) (OnPath-left x positive) (λ same. omega (arith, same, positive)) (IsNode-left n e x lower))
          (child_idle e (2 * x + 1) (OnPath-right x positive) (λ same. omega (arith, same, positive)) (IsNode-right n e x lower)))

      -- the node's own count is written
      pub set_begins : AreRuledBut n (x / 2) (busy_by (set used x is_used)) (set_entry busy x y)
      set_begins =
          Climb-begin n k x y (busy_by used) (busy_by (set used x is_used)) busy node
          (λ e v l r other. ap (λ t. cond t (2 ^ e) (l + r)) (set_else used x is_used v other)) busy_ruled (rule_here k refl node)

  -- above the node nothing is in use
  rule_above : (x v d l r : ℕ) (is_used : Bool) → HasNoneBeside n used x → OnPath v x → v ≢ x → IsInCube n v → l + r ≡ busy_by (set used x is_used) d v l r
  rule_above x v d l r is_used alone on other within =
      ap (λ t. cond t (2 ^ d) (l + r)) (sym (set_else used x is_used v other ∙ alone v within (inl on) other))

  -- the sum of a node's and its sibling's count is what the parent has to have
  pub sum_is : (d v x : ℕ) (is_used : Bool) (busy : List ℕ) (kept j : ℕ) → d < n → IsNode n d v → OnPath v x → HasNoneBeside n used x
      → kept ≡ entry_of busy v
      → j ≡ kept + entry_of busy (bit_xor v 1)
      → j ≡ busy_by (set used x is_used) (suc d) (v / 2) (entry_of busy (2 * (v / 2))) (entry_of busy (2 * (v / 2) + 1))
  sum_is d v x is_used busy kept j inner node on alone here is =
      let above = parent_above n d v x inner node on in
      let within = IsNode-in_cube n (suc d) (v / 2) (IsNode-parent n d v inner node) in
      is ∙ sibling_entry (λ a b. a + b) add_comm v kept busy here
      ∙ rule_above x (v / 2) (suc d) (entry_of busy (2 * (v / 2))) (entry_of busy (2 * (v / 2) + 1)) is_used alone above.0 above.1 within

  -- ---- counts are small

  -- no more is busy at a node than it has, where all entries below are right
  bounded : (x : ℕ) (busy : List ℕ) → AreRuledBut n x (busy_by used) busy → (d v : ℕ) → IsNode n d v → (OnPath v x → ⊥) → entry_of busy v ≤ 2 ^ d
  bounded x busy ruled zero v node apart =
      let positive = (IsNode-in_cube n zero v node).0 in
      let is = ruled.right zero v node (λ same. apart (subst (OnPath v) same (OnPath-self v positive))) in
      omega (arith, is, cond_le (used v) (2 ^ 0) (0 + 0) (2 ^ 0) (omega arith) (omega arith))
  bounded x busy ruled (suc d) v node apart =
      let positive = (IsNode-in_cube n (suc d) v node).0 in
      let is = ruled.right (suc d) v node (λ same. apart (subst (OnPath v) same (OnPath-self v positive))) in
      let left = bounded x busy ruled d (2 * v) (IsNode-left n d v node) (λ on. apart (OnPath-trans v (2 * v) x (OnPath-left v positive) on)) in
      let right = bounded x busy ruled d (2 * v + 1) (IsNode-right n d v node) (λ on. apart (OnPath-trans v (2 * v + 1) x (OnPath-right v positive) on)) in
      omega (arith, is, cond_le (used v) (2 ^ suc d) (entry_of busy (2 * v) + entry_of busy (2 * v + 1)) (2 ^ suc d) (omega arith) (omega (arith, left, right, double d)))

  pub sum_fits : (d v : ℕ) (busy : List ℕ) (kept : ℕ) → n ≤ MAX_BITMAP_DIM → d < n → IsNode n d v → AreRuledBut n (v / 2) (busy_by used) busy
      → kept ≡ entry_of busy v
      → kept + entry_of busy (bit_xor v 1) < 2 ^ 32
  sum_fits d v busy kept small inner node ruled here =
      let parent = IsNode-parent n d v inner node in
      let positive = (IsNode-in_cube n (suc d) (v / 2) parent).0 in
      let left = bounded (v / 2) busy ruled d (2 * (v / 2)) (IsNode-left n d (v / 2) parent) (λ on. omega (arith, OnPath-le (2 * (v / 2)) (v / 2) on, positive)) in
      let right = bounded (v / 2) busy ruled d (2 * (v / 2) + 1) (IsNode-right n d (v / 2) parent) (λ on. omega (arith, OnPath-le (2 * (v / 2) + 1) (v / 2) on, positive)) in
      let few : 2 ^ d ≤ 2 ^ MAX_BITMAP_DIM = pow_mono {j = MAX_BITMAP_DIM} (omega arith) in
      let both = sibling_entry (λ a b. a + b) add_comm v kept busy here in
      omega (arith, left, right, few, both)

-- if nothing is in use, nothing is busy
pub idle_is : (n : ℕ) (busy : List ℕ) → ((v : ℕ) → entry_of busy v ≡ 0) → AreBusy n (λ u. false) busy
idle_is n busy none = record {
  each = λ d v node.
      subst (IsCount (Busy (λ u. false) d v) (2 ^ d)) (sym (none v))
      (count_none (Busy (λ u. false) d v) (2 ^ d) (λ i less found. true≢false (sym found.1)));
}

-- the entries depend on the use of nodes alone
pub busy_alike : (n : ℕ) (used other : ℕ → Bool) (busy : List ℕ) → ((u : ℕ) → IsInCube n u → used u ≡ other u) → AreBusy n used busy → AreBusy n other busy
busy_alike n used other busy alike are = record {
  each = λ d v node. count_alike (Busy used d v) (Busy other d v) (2 ^ d) (entry_of busy v) (same_at d v node) (are.each d v node);
}
  where
    inside : (d v i : ℕ) → IsNode n d v → i < 2 ^ d → (u : ℕ) → OnPath u (v * 2 ^ d + i) → IsInCube n u
    inside d v i node less u on = (on.0, omega (arith, OnPath-le u (v * 2 ^ d + i) on, leaf_inside n d v i node less))

    same_at : (d v : ℕ) → IsNode n d v → (i : ℕ) → i < 2 ^ d → Busy used d v i ↔ Busy other d v i
    same_at d v node i less = (
      λ found. (found.0, sym (alike found.0 (inside d v i node less found.0 found.3)) ∙ found.1, found.2, found.3),
      λ found. (found.0, alike found.0 (inside d v i node less found.0 found.3) ∙ found.1, found.2, found.3),
    )
