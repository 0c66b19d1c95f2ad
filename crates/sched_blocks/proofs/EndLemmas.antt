-- The latest end at a node follows from those of its children.
use Rattle.std.proofs.Common.{◌≡◌, ◌≢◌, ℕ, zero, suc, ◌+◌, ◌*◌, ◌<◌, ◌≤◌, ◌⊎◌, inl, inr, List, length, max, ◌/◌, refl, sym, ◌∙◌, ap, subst, arith}
use Rattle.std.proofs.Math.ListN.{set as set_entry}
use Rattle.std.proofs.Math.Nat.{max_comm}
use Rattle.std.specs.Prelude.{bit_xor}
use Rattle.std.proofs.lemmas.Bool.{cases_lt}
use Rattle.cube_shape.specs.Node.{IsInCube, OnPath}
use Rattle.cube_shape.proofs.PathLemmas.{OnPath-self, OnPath-le, OnPath-trans}
use Rattle.fit_tree.specs.Rooms.{IsNode}
use Rattle.fit_tree.proofs.NodeLemmas.{IsNode-has, IsNode-in_cube, IsNode-left, IsNode-right, IsNode-parent, OnPath-left, OnPath-right, below_child, steps_up, same_dim}
use Rattle.sched_law.specs.State.{set}
use Rattle.sched_law.proofs.SetLemmas.{set_here, set_else}
use Rattle.sched_blocks.specs.Ends.{entry_of, AreEnds, HasNoEndBeside, IsLatestIn}
use Rattle.sched_blocks.proofs.ClimbLemmas.{AreRuledBut, Climb-begin, IsRuled, Rule, entry_other, entry_same, parent_above, ruled_at, sibling_entry}

-- the entry is the latest one of a node's own end and its children's
abbrev pub latest_by : (ℕ → ℕ) → Rule
latest_by own d v l r = max (own v) (max l r)

either : (a b : ℕ) → (max a b ≡ a) ⊎ (max a b ≡ b)
either a b = elim (cases_lt a b) [ inl less ↦ inr (omega arith) | inr order ↦ inl (omega arith) ]

pub end_unique : (n : ℕ) (own : ℕ → ℕ) (v s t : ℕ) → IsLatestIn n own v s → IsLatestIn n own v t → s ≡ t
end_unique n own v s t of_s of_t = omega (arith, no_more s t of_s of_t, no_more t s of_t of_s)
  where
    no_more : (a b : ℕ) → IsLatestIn n own v a → IsLatestIn n own v b → a ≤ b
    no_more a b of_a of_b = elim (of_a.reached) [
      | inl none ↦ omega (arith, none)
      | inr found ↦ omega (arith, found.3, of_b.all found.0 found.1 found.2)
    ]

module _ (n : ℕ) (own : ℕ → ℕ) where
  pub end_leaf : (v : ℕ) → IsNode n 0 v → IsLatestIn n own v (max (own v) (max 0 0))
  end_leaf v node = record { all = all; reached = inr (v, inside, OnPath-self v inside.0, omega arith) }
    where
      inside : IsInCube n v
      inside = IsNode-in_cube n 0 v node

      all : (u : ℕ) → IsInCube n u → OnPath v u → own u ≤ max (own v) (max 0 0)
      all u within on =
          let found = IsNode-has n u within in
          let steps = steps_up n 0 found.0 v u node found.1 on in
          let none : found.0 ≡ 0 = omega (arith, steps.0) in
          let same : v ≡ u = same_dim n 0 v u node (subst (λ e. IsNode n e u) none found.1) on in
          omega (arith, ap own same)

  module _ (d v l r : ℕ) (node : IsNode n (suc d) v) (left : IsLatestIn n own (2 * v) l) (right : IsLatestIn n own (2 * v + 1) r) where
    inside : IsInCube n v
    inside = IsNode-in_cube n (suc d) v node

    pub end_join : IsLatestIn n own v (max (own v) (max l r))
    end_join = record { all = all; reached = reached }
      where
        all : (u : ℕ) → IsInCube n u → OnPath v u → own u ≤ max (own v) (max l r)
        all u within on = elim (below_child v u on) [
          | inl same ↦ omega (arith, ap own same)
          | inr child ↦ elim child [
            | inl lower ↦ omega (arith, left.all u within lower)
            | inr upper ↦ omega (arith, right.all u within upper)
          ]
        ]

        at : (t : ℕ) → max (own v) (max l r) ≡ t → (t ≡ 0) ⊎ ((u : ℕ) × IsInCube n u × OnPath v u × (own u ≡ t))
            → (max (own v) (max l r) ≡ 0) ⊎ ((u : ℕ) × IsInCube n u × OnPath v u × (own u ≡ max (own v) (max l r)))
        at t is (inl none) = inl (is ∙ none)
        at t is (inr found) = inr (found.0, found.1, found.2, found.3 ∙ sym is)

        under : (c t : ℕ) → OnPath v c → (t ≡ 0) ⊎ ((u : ℕ) × IsInCube n u × OnPath c u × (own u ≡ t)) → (t ≡ 0) ⊎ ((u : ℕ) × IsInCube n u × OnPath v u × (own u ≡ t))
        under c t on (inl none) = inl none
        under c t on (inr found) = inr (found.0, found.1, OnPath-trans v c found.0 on found.2, found.3)

        reached : (max (own v) (max l r) ≡ 0) ⊎ ((u : ℕ) × IsInCube n u × OnPath v u × (own u ≡ max (own v) (max l r)))
        reached = elim (either (own v) (max l r)) [
          | inl own_is ↦ at (own v) own_is (inr (v, inside, OnPath-self v inside.0, refl))
          | inr below ↦ elim (either l r) [
            | inl left_is ↦ at l (below ∙ left_is) (under (2 * v) l (OnPath-left v inside.0) left.reached)
            | inr right_is ↦ at r (below ∙ right_is) (under (2 * v + 1) r (OnPath-right v inside.0) right.reached)
          ]
        ]

  -- ends that follow from each other are the latest ones
  latest_of : (ends : List ℕ) → AreRuledBut n 0 (latest_by own) ends → (d v : ℕ) → IsNode n d v → IsLatestIn n own v (entry_of ends v)
  latest_of ends ruled zero v node = subst (IsLatestIn n own v) (sym (ruled_at n (latest_by own) ends ruled zero v node)) (end_leaf v node)
  latest_of ends ruled (suc d) v node =
      subst (IsLatestIn n own v) (sym (ruled_at n (latest_by own) ends ruled (suc d) v node))
      (end_join d v (entry_of ends (2 * v)) (entry_of ends (2 * v + 1)) node (latest_of ends ruled d (2 * v) (IsNode-left n d v node)) (latest_of ends ruled d (2 * v + 1) (IsNode-right n d v node)))

  pub ends_of : (ends : List ℕ) → AreRuledBut n 0 (latest_by own) ends → AreEnds n own ends
  ends_of ends ruled = record {
    each = λ v within. let found = IsNode-has n v within in latest_of ends ruled found.0 v found.1;
  }

  -- and the latest ones follow from each other
  module _ (ends : List ℕ) (are : AreEnds n own ends) where
    at_node : (d v : ℕ) → IsNode n d v → IsLatestIn n own v (entry_of ends v)
    at_node d v node = are.each v (IsNode-in_cube n d v node)

    rule_at : (d v : ℕ) → IsNode n d v → v ≢ 0 → IsRuled (latest_by own) ends d v
    rule_at zero v node _ = end_unique n own v (entry_of ends v) (max (own v) (max 0 0)) (at_node zero v node) (end_leaf v node)
    rule_at (suc d) v node _ =
        end_unique n own v (entry_of ends v) (max (own v) (max (entry_of ends (2 * v)) (entry_of ends (2 * v + 1)))) (at_node (suc d) v node)
        (end_join d v (entry_of ends (2 * v)) (entry_of ends (2 * v + 1)) node (at_node d (2 * v) (IsNode-left n d v node)) (at_node d (2 * v + 1) (IsNode-right n d v node)))

    pub ends_ruled : AreRuledBut n 0 (latest_by own) ends
    ends_ruled = record { right = rule_at }

    -- below a node with none beside there is no end
    pub none_below : (x c : ℕ) → HasNoEndBeside n own x → OnPath x c → x ≢ c → IsInCube n c → entry_of ends c ≡ 0
    none_below x c alone on other within = elim ((are.each c within).reached) [
      | inl none ↦ none
      | inr found ↦
          sym found.3
          ∙ alone found.0 found.1 (inr (OnPath-trans x c found.0 on found.2)) (λ same. omega (arith, other, same, OnPath-le x c on, OnPath-le c found.0 found.2))
    ]

    module _ (k x y : ℕ) (node : IsNode n k x) (alone : HasNoEndBeside n own x) (within : x < length ends) where
      positive : 0 < x
      positive = (IsNode-in_cube n k x node).0

      rule_here : (e : ℕ) → IsNode n e x → IsRuled (latest_by (set own x y)) (set_entry ends x y) e x
      rule_here zero lower = entry_same ends x y within ∙ omega (arith, set_here own x y)
      rule_here (suc e) lower =
          let left : entry_of (set_entry ends x y) (2 * x) ≡ 0 = entry_other ends x y (2 * x) (λ same. omega (arith, same, positive)) ∙ none_below x (2 * x) alone (OnPath-left x positive) (λ same. omega (arith, same, positive)) (IsNode-in_cube n e (2 * x) (IsNode-left n e x lower)) in
          let right : entry_of (set_entry ends x y) (2 * x + 1) ≡ 0 = entry_other ends x y (2 * x + 1) (λ same. omega (arith, same, positive)) ∙ none_below x (2 * x + 1) alone (OnPath-right x positive) (λ same. omega (arith, same, positive)) (IsNode-in_cube n e (2 * x + 1) (IsNode-right n e x lower)) in
          entry_same ends x y within ∙ omega (arith, set_here own x y, left, right)

      -- the node's own end is written
      pub set_begins : AreRuledBut n (x / 2) (latest_by (set own x y)) (set_entry ends x y)
      set_begins =
          Climb-begin n k x y (latest_by own) (latest_by (set own x y)) ends node
          (λ e v l r other. ap (λ t. max t (max l r)) (set_else own x y v other)) ends_ruled (rule_here k node)

  -- above the node there is no own end
  pub rule_above : (x y v d l r : ℕ) → HasNoEndBeside n own x → OnPath v x → v ≢ x → IsInCube n v → max l r ≡ latest_by (set own x y) d v l r
  rule_above x y v d l r alone on other within =
      omega (arith, set_else own x y v other, alone v within (inl on) other)

  -- the later one of a node's and its sibling's end is what the parent has to have
  pub later_is : (d v x y : ℕ) (ends : List ℕ) (kept j : ℕ) → d < n → IsNode n d v → OnPath v x → HasNoEndBeside n own x
      → kept ≡ entry_of ends v
      → j ≡ max kept (entry_of ends (bit_xor v 1))
      → j ≡ latest_by (set own x y) (suc d) (v / 2) (entry_of ends (2 * (v / 2))) (entry_of ends (2 * (v / 2) + 1))
  later_is d v x y ends kept j inner node on alone here is =
      let above = parent_above n d v x inner node on in
      let within = IsNode-in_cube n (suc d) (v / 2) (IsNode-parent n d v inner node) in
      is ∙ sibling_entry max max_comm v kept ends here
      ∙ rule_above x y (v / 2) (suc d) (entry_of ends (2 * (v / 2))) (entry_of ends (2 * (v / 2) + 1)) alone above.0 above.1 within

-- the entries depend on the own ends of nodes alone
pub ends_alike : (n : ℕ) (own other : ℕ → ℕ) (ends : List ℕ) → ((u : ℕ) → IsInCube n u → own u ≡ other u) → AreEnds n own ends → AreEnds n other ends
ends_alike n own other ends alike are = record { each = each }
  where
    each : (v : ℕ) → IsInCube n v → IsLatestIn n other v (entry_of ends v)
    each v within = record {
      all = λ u inside on. omega (arith, (are.each v within).all u inside on, alike u inside);
      reached = elim ((are.each v within).reached) [
        | inl none ↦ inl none
        | inr found ↦ inr (found.0, found.1, found.2, sym (alike found.0 found.1) ∙ found.3)
      ];
    }
