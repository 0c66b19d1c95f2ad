-- Entries of nodes, each of which follows from those of its two children, and the way up from one
-- that has changed.
use Rattle.std.proofs.Common.{◌≡◌, ◌≢◌, ℕ, zero, suc, ◌+◌, ◌-◌, ◌*◌, ◌/◌, ◌^◌, ◌<◌, ◌≤◌, inl, inr, List, length, sym, ◌∙◌, ap, subst, arith}
use Rattle.std.specs.Prelude.{bit_xor}
use Rattle.std.proofs.Math.ListN.{set}
use Rattle.std.proofs.lemmas.List.{get_or-set_same, get_or-set_other}
use Rattle.std.proofs.lemmas.Bool.{cases_eq}
use Rattle.std.proofs.Math.Pow.{pow_mono}
use Rattle.cube_shape.specs.declared.limits.TheConstants.{MAX_BITMAP_DIM}
use Rattle.cube_shape.specs.Node.{OnPath}
use Rattle.cube_shape.proofs.PathLemmas.{OnPath-le, OnPath-parent, OnPath-trans}
use Rattle.fit_tree.specs.Rooms.{IsNode}
use Rattle.fit_tree.proofs.NodeLemmas.{IsNode-in_cube, IsNode-parent, IsNode-one, sibling}
use Rattle.sched_blocks.specs.Ends.{entry_of}

-- How the entry of a node follows from its dimension, its number and the entries of its children.
abbrev pub Rule : Type 0
Rule = ℕ → ℕ → ℕ → ℕ → ℕ

-- The entry of a node of dimension `d` is right.
abbrev pub IsRuled : Rule → List ℕ → ℕ → ℕ → Type 0
IsRuled f entries zero v = entry_of entries v ≡ f zero v 0 0
IsRuled f entries (suc d) v =
    entry_of entries v ≡ f (suc d) v (entry_of entries (2 * v)) (entry_of entries (2 * v + 1))

-- Each entry is right, except perhaps that of node `x`.
pub record AreRuledBut (n x : ℕ) (f : Rule) (entries : List ℕ) : Type 0 where
  pub right : (d v : ℕ) → IsNode n d v → v ≢ x → IsRuled f entries d v

pub ruled_at : (n : ℕ) (f : Rule) (entries : List ℕ) → AreRuledBut n 0 f entries → (d v : ℕ) → IsNode n d v → IsRuled f entries d v
ruled_at n f entries ruled d v node =
    ruled.right d v node (λ is. omega (arith, is, (IsNode-in_cube n d v node).0))

-- the other child of the parent
pub sibling_entry : (g : ℕ → ℕ → ℕ) → ((a b : ℕ) → g a b ≡ g b a) → (v own : ℕ) (entries : List ℕ) → own ≡ entry_of entries v
    → g own (entry_of entries (bit_xor v 1)) ≡ g (entry_of entries (2 * (v / 2))) (entry_of entries (2 * (v / 2) + 1))
sibling_entry g swaps v own entries is = elim (sibling v) [
  | inl left ↦
      ap (λ x. g x (entry_of entries (bit_xor v 1))) (is ∙ ap (entry_of entries) left.0) ∙ ap (λ u. g (entry_of entries (2 * (v / 2))) (entry_of entries u)) left.1
  | inr right ↦
      ap (λ x. g x (entry_of entries (bit_xor v 1))) (is ∙ ap (entry_of entries) right.0) ∙ ap (λ u. g (entry_of entries (2 * (v / 2) + 1)) (entry_of entries u)) right.1
      ∙ swaps (entry_of entries (2 * (v / 2) + 1)) (entry_of entries (2 * (v / 2)))
]

-- ---- an entry is written

module _ (entries : List ℕ) (x y : ℕ) where
  pub entry_other : (v : ℕ) → v ≢ x → entry_of (set entries x y) v ≡ entry_of entries v
  entry_other v other = get_or-set_other entries x v y 0 other

  pub entry_same : x < length entries → entry_of (set entries x y) x ≡ y
  entry_same within = get_or-set_same entries x y 0 within

  -- a rule of the entries before is one of those after
  module _ (f : Rule) where
    pub children_stay : (d v : ℕ) → 2 * v ≢ x → 2 * v + 1 ≢ x
        → f d v (entry_of (set entries x y) (2 * v)) (entry_of (set entries x y) (2 * v + 1)) ≡ f d v (entry_of entries (2 * v)) (entry_of entries (2 * v + 1))
    children_stay d v left right =
        ap (λ e. f d v e (entry_of (set entries x y) (2 * v + 1))) (entry_other (2 * v) left)
        ∙ ap (λ e. f d v (entry_of entries (2 * v)) e) (entry_other (2 * v + 1) right)

    -- only the node itself and its parent see it
    pub ruled_stays : (d v : ℕ) → v ≢ x → v ≢ x / 2 → IsRuled f entries d v → IsRuled f (set entries x y) d v
    ruled_stays zero v other not_parent is = entry_other v other ∙ is
    ruled_stays (suc d) v other not_parent is =
        let left : 2 * v ≢ x = λ same. not_parent (omega arith) in
        let right : 2 * v + 1 ≢ x = λ same. not_parent (omega arith) in
        entry_other v other ∙ is ∙ sym (children_stay (suc d) v left right)

-- the rules agree at all nodes other than x
ruled_along : (f g : Rule) (entries : List ℕ) (d v : ℕ) → ((e l r : ℕ) → g e v l r ≡ f e v l r) → IsRuled f entries d v → IsRuled g entries d v
ruled_along f g entries zero v same is = is ∙ sym (same zero 0 0)
ruled_along f g entries (suc d) v same is = is ∙ sym (same (suc d) (entry_of entries (2 * v)) (entry_of entries (2 * v + 1)))

-- one entry is written, by a rule that differs from that before at its node alone
pub Climb-begin : (n k x y : ℕ) (f g : Rule) (entries : List ℕ) → IsNode n k x
    → ((e v l r : ℕ) → v ≢ x → g e v l r ≡ f e v l r)
    → AreRuledBut n 0 f entries
    → IsRuled g (set entries x y) k x
    → AreRuledBut n (x / 2) g (set entries x y)
Climb-begin n k x y f g entries node same ruled here = record { right = at }
  where
    at : (d v : ℕ) → IsNode n d v → v ≢ x / 2 → IsRuled g (set entries x y) d v
    at d v lower not_parent = elim (cases_eq v x) [
      | inl is ↦
          let dims : k ≡ d = IsNode-one n k d x node (subst (IsNode n d) is lower) in
          subst (λ e. IsRuled g (set entries x y) e v) dims (subst (λ u. IsRuled g (set entries x y) k u) (sym is) here)
      | inr other ↦
          ruled_along f g (set entries x y) d v (λ e l r. same e v l r other) (ruled_stays entries x y f d v other not_parent (ruled_at n f entries ruled d v lower))
    ]

-- ---- up

-- above the root there is nothing to do
pub Climb-end : (n v : ℕ) (f : Rule) (entries : List ℕ) → IsNode n n v → AreRuledBut n (v / 2) f entries → AreRuledBut n 0 f entries
Climb-end n v f entries node ruled =
    let none : n - n ≡ 0 = omega arith in
    let one : 2 ^ (n - n) ≡ 1 = ap (λ j. 2 ^ j) none in
    let parent : v / 2 ≡ 0 = omega (arith, node.2, one) in
    subst (λ x. AreRuledBut n x f entries) parent ruled

module _ (n d v j : ℕ) (f : Rule) (entries : List ℕ) (inner : d < n) (node : IsNode n d v)
    (ruled : AreRuledBut n (v / 2) f entries)
    (is : j ≡ f (suc d) (v / 2) (entry_of entries (2 * (v / 2))) (entry_of entries (2 * (v / 2) + 1))) where
  parent : IsNode n (suc d) (v / 2)
  parent = IsNode-parent n d v inner node

  -- the entry that is there is right already
  pub Climb-stop : entry_of entries (v / 2) ≡ j → AreRuledBut n 0 f entries
  Climb-stop same = record { right = at }
    where
      at : (e u : ℕ) → IsNode n e u → u ≢ 0 → IsRuled f entries e u
      at e u lower _ = elim (cases_eq u (v / 2)) [
        | inl here ↦
            let dims : suc d ≡ e = IsNode-one n (suc d) e (v / 2) parent (subst (IsNode n e) here lower) in
            subst (λ i. IsRuled f entries i u) dims (subst (λ x. IsRuled f entries (suc d) x) (sym here) (same ∙ is))
        | inr other ↦ ruled.right e u lower other
      ]

  pub Climb-step : v / 2 < length entries → AreRuledBut n (v / 2 / 2) f (set entries (v / 2) j)
  Climb-step within = record { right = at }
    where
      positive : 0 < v / 2
      positive = (IsNode-in_cube n (suc d) (v / 2) parent).0

      here : IsRuled f (set entries (v / 2) j) (suc d) (v / 2)
      here =
          entry_same entries (v / 2) j within ∙ is
          ∙ sym (children_stay entries (v / 2) j f (suc d) (v / 2) (λ same. omega (arith, same, positive)) (λ same. omega (arith, same, positive)))

      at : (e u : ℕ) → IsNode n e u → u ≢ v / 2 / 2 → IsRuled f (set entries (v / 2) j) e u
      at e u lower not_parent = elim (cases_eq u (v / 2)) [
        | inl same ↦
            let dims : suc d ≡ e = IsNode-one n (suc d) e (v / 2) parent (subst (IsNode n e) same lower) in
            subst (λ i. IsRuled f (set entries (v / 2) j) i u) dims (subst (λ x. IsRuled f (set entries (v / 2) j) (suc d) x) (sym same) here)
        | inr other ↦ ruled_stays entries (v / 2) j f e u other not_parent (ruled.right e u lower other)
      ]

-- the parent of a node on the way up from x is above x
pub parent_above : (n d v x : ℕ) → d < n → IsNode n d v → OnPath v x → OnPath (v / 2) x × ((v / 2) ≢ x)
parent_above n d v x inner node on =
    let parent = IsNode-in_cube n (suc d) (v / 2) (IsNode-parent n d v inner node) in
    (up, λ same. omega (arith, same, parent.0, OnPath-le v x on))
  where
    up : OnPath (v / 2) x
    up =
        let parent = IsNode-in_cube n (suc d) (v / 2) (IsNode-parent n d v inner node) in
        OnPath-trans (v / 2) v x (OnPath-parent v parent.0) on

-- a machine has few nodes
pub nodes_few : (n : ℕ) → n ≤ MAX_BITMAP_DIM → 2 ^ (n + 1) ≤ 2 ^ (MAX_BITMAP_DIM + 1)
nodes_few n small = pow_mono {j = MAX_BITMAP_DIM + 1} (omega arith)
