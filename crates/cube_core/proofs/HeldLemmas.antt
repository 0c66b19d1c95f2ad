-- The held regions: each event is a step of the machine of pairs on them, or does not change them.
use Rattle.std.proofs.Common.{◌≡◌, ◌≢◌, ℕ, ◌<◌, ◌≤◌, ◌⊎◌, inl, inr, Bool, true, false, cond, eqb, Option, Some, None, refl, sym, ◌∙◌, ap, subst, arith}
use Rattle.std.proofs.lemmas.Bool.{cases_eq, eqb-false, ne_eqb}
use Rattle.cube_shape.specs.declared.region.Region.{Region}
use Rattle.cube_shape.specs.Region.{AreApart}
use Rattle.cube_shape.specs.Node.{OnPath, IsInCube, IsNodeOf, child_towards}
use Rattle.cube_shape.specs.Machine.{Gives, TakesBack, IsLawful}
use Rattle.cube_shape.proofs.PathLemmas.{OnPath-le, child_towards_is}
use Rattle.cube_shape.proofs.RegionLemmas.{IsNodeOf-aligned, AreApart-paths}
use Rattle.cube_core.specs.declared.phase.Phase.{Phase}
use Rattle.cube_core.specs.declared.phase.Phase.TheVariants.{Idle, Looking, Looked, Climbing, Swept, Holding, Leaving, Backing, Arriving, Unmarked, Marked, Retired}
use Rattle.cube_core.specs.Phase.{owned, node_held}
use Rattle.cube_core.specs.InnerPhase.{asked, stop}
use Rattle.cube_core.specs.Held.{dim_at, region_at, region_held, IsMachineStep}
use Rattle.cube_core.proofs.LevelLemmas.{region_at-named}
use Rattle.cube_core.proofs.ChangeLemmas.{Fit, Agrees, Change, each}

-- ---- which station holds a region

-- a station that holds a node owns it, and has passed all its ancestors
pub record Holder (n : ℕ) (p : Phase) : Type 0 where
  pub in_cube : IsInCube n (node_held p)
  pub own : owned p ≡ node_held p
  pub past : stop p ≡ 0

pub holder_is : (n : ℕ) (p : Phase) → Fit n p → 0 < node_held p → Holder n p
holder_is n Idle fit holds = absurd (omega arith)
holder_is n (Looking h) fit holds = absurd (omega arith)
holder_is n (Looked h w) fit holds = absurd (omega arith)
holder_is n (Climbing h a) fit holds = absurd (omega arith)
holder_is n (Swept h a) fit holds = absurd (omega arith)
holder_is n (Holding h) fit holds = record { in_cube = fit; own = refl; past = refl }
holder_is n (Leaving h) fit holds = record { in_cube = fit; own = refl; past = refl }
holder_is n (Backing h a) fit holds = absurd (omega arith)
holder_is n (Arriving a) fit holds = absurd (omega arith)
holder_is n (Unmarked a) fit holds = absurd (omega arith)
holder_is n (Marked a w left right) fit holds = absurd (omega arith)
holder_is n Retired fit holds = absurd (omega arith)

-- a phase that holds no node holds no region, and one that holds a node holds its region
pub region_held-some : (n v : ℕ) → 0 < v → region_held n v ≡ Some (region_at n v)
region_held-some n v positive = ap (λ t. cond t None (Some (region_at n v))) (ne_eqb v 0 (λ is. omega arith))

pub region_held-is : (n v : ℕ) (a : Region)
    → region_held n v ≡ Some a
    → (0 < v) × (a ≡ region_at n v)
region_held-is n v a = turn (eqb v 0) refl
  where
    turn : (t : Bool)
        → eqb v 0 ≡ t
        → cond t None (Some (region_at n v)) ≡ Some a
        → (0 < v) × (a ≡ region_at n v)
    turn true is held = absurd (cc)
    turn false is held = let other : v ≢ 0 = eqb-false v 0 is in (omega arith, cc)

-- the regions of two stations are apart: neither node is on the path to the other
pub held_apart : {n : ℕ} {W : ℕ → ℕ} {P : ℕ → Phase}
    → Agrees n W P
    → (s t : ℕ) (a b : Region)
    → s ≢ t
    → region_held n (node_held (P s)) ≡ Some a
    → region_held n (node_held (P t)) ≡ Some b
    → AreApart a b
held_apart {n = n} {P = P} k s t a b other is_a is_b =
    let of_a = region_held-is n (node_held (P s)) a is_a in
    let of_b = region_held-is n (node_held (P t)) b is_b in
    let by_s = holder_is n (P s) (k.fit s) of_a.0 in
    let by_t = holder_is n (P t) (k.fit t) of_b.0 in
    subst (λ r. AreApart r b) (sym of_a.1) (subst (λ r. AreApart (region_at n (node_held (P s))) r) (sym of_b.1)
    ((AreApart-paths n (node_held (P s)) (node_held (P t)) _ _ (region_at-named n (node_held (P s)) by_s.in_cube) (region_at-named n (node_held (P t)) by_t.in_cube)).1
    (λ on. elim on [ inl over ↦ not_over s t other by_s by_t over | inr under ↦ not_over t s (λ e. other (sym e)) by_t by_s under ])))
  where
    not_over : (u v : ℕ)
        → u ≢ v
        → Holder n (P u)
        → Holder n (P v)
        → OnPath (node_held (P u)) (node_held (P v))
        → ⊥
    not_over u v ne by_u by_v over = elim (cases_eq (node_held (P u)) (node_held (P v))) [
      | inl same ↦
          let none : owned (P u) ≡ 0 = k.alone u v ne (by_u.own ∙ same ∙ sym by_v.own) in
          strictly (node_held (P u)) by_u.in_cube.0 (sym by_u.own ∙ none)
      | inr differ ↦
          let less : node_held (P u) < node_held (P v) = below (node_held (P u)) (node_held (P v)) (OnPath-le (node_held (P u)) (node_held (P v)) over) differ in
          let child = child_towards_is (node_held (P u)) (node_held (P v)) over less in
          k.apart u v (child_towards (node_held (P u)) (node_held (P v))) (by_u.own ∙ sym child.0)
          (subst (OnPath (child_towards (node_held (P u)) (node_held (P v)))) (sym by_v.own) child.1, above_zero (stop (P v)) _ (node_held (P u)) by_v.past child.0 by_u.in_cube.0)
    ]
      where
        strictly : (x : ℕ) → 0 < x → x ≡ 0 → ⊥
        strictly x positive is = omega arith

        below : (x y : ℕ) → x ≤ y → x ≢ y → x < y
        below x y le differ = omega arith

        above_zero : (x y z : ℕ) → x ≡ 0 → y ≡ z → 0 < z → x < y
        above_zero x y z none is positive = omega arith

-- ---- the step of the machine of pairs

-- after an event a station holds what it held before, or the node asked, or nothing
abbrev pub HeldMoves : Phase → Phase → Type 0
HeldMoves p q = ((node_held p ≡ 0) × (node_held q ≡ asked p)) ⊎ ((node_held q ≡ 0) ⊎ (node_held q ≡ node_held p))

-- so a station's change of phase is a step of the machine, or does not change the held regions
pub machine_step : {n : ℕ} {W : ℕ → ℕ} {P : ℕ → Phase} {v y u : ℕ} {q : Phase} {V : ℕ → ℕ}
    {Q : ℕ → Phase}
    → Change W P v y u q V Q
    → Agrees n V Q
    → HeldMoves (P u) q
    → IsMachineStep n u (asked (P u)) (λ s. region_held n (node_held (P s)))
    (λ s. region_held n (node_held (Q s)))
machine_step {n = n} {P = P} {u = u} {q = q} {Q = Q} x k moves = elim moves [
  | inl (idle, named) ↦ elim (cases_eq (node_held q) 0) [
    | inl none ↦ inr (inr (unchanged (none ∙ sym idle)))
    | inr some ↦ inl (subst (λ v. Gives n u (dim_at n v) (λ s. region_held n (node_held (P s))) (λ s. region_held n (node_held (Q s))) (region_at n v)) named (given idle (positive (node_held q) some)))
  ]
  | inr (inl none) ↦ elim (cases_eq (node_held (P u)) 0) [
    | inl idle ↦ inr (inr (unchanged (none ∙ sym idle)))
    | inr some ↦ inr (inl (region_at n (node_held (P u)), taken_back none (positive (node_held (P u)) some)))
  ]
  | inr (inr same) ↦ inr (inr (unchanged same))
]
  where
    positive : (i : ℕ) → i ≢ 0 → 0 < i
    positive i some = omega arith

    now : node_held (Q u) ≡ node_held q
    now = ap node_held x.phase_here

    unchanged : node_held q ≡ node_held (P u)
        → (t : ℕ)
        → region_held n (node_held (Q t)) ≡ region_held n (node_held (P t))
    unchanged same = each x (λ t p. region_held n (node_held p) ≡ region_held n (node_held (P t))) (ap (region_held n) same) (λ t _. refl)

    others : (t : ℕ) → t ≢ u → region_held n (node_held (Q t)) ≡ region_held n (node_held (P t))
    others t other = ap (λ p. region_held n (node_held p)) (x.phase_else t other)

    given : node_held (P u) ≡ 0
        → 0 < node_held q
        → Gives n u (dim_at n (node_held q)) (λ s. region_held n (node_held (P s)))
        (λ s. region_held n (node_held (Q s))) (region_at n (node_held q))
    given idle some =
        let holds : 0 < node_held (Q u) = subst (λ i. 0 < i) (sym now) some in
        let in_cube : IsInCube n (node_held q) = subst (IsInCube n) now (holder_is n (Q u) (k.fit u) holds).in_cube in
        let held : region_held n (node_held (Q u)) ≡ Some (region_at n (node_held q)) = ap (region_held n) now ∙ region_held-some n (node_held q) some in record {
          idle = ap (region_held n) idle;
          aligned = IsNodeOf-aligned n (node_held q) (region_at n (node_held q)) (region_at-named n (node_held q) in_cube);
          dimension = refl;
          apart = λ t a is. apart_from t a is held;
          held = held;
          others = others;
        }
      where
        apart_from : (t : ℕ) (a : Region)
            → region_held n (node_held (P t)) ≡ Some a
            → region_held n (node_held (Q u)) ≡ Some (region_at n (node_held q))
            → AreApart a (region_at n (node_held q))
        apart_from t a is held = elim (cases_eq t u) [
          | inl at ↦ absurd (none_is_some a (sym (ap (region_held n) (ap (λ s. node_held (P s)) at ∙ idle)) ∙ is))
          | inr other ↦ held_apart k t u a (region_at n (node_held q)) other (others t other ∙ is) held
        ]
          where
            none_is_some : (b : Region) → ◌≡◌ {A = Option Region} None (Some b) → ⊥
            none_is_some b e = cc

    taken_back : node_held q ≡ 0
        → 0 < node_held (P u)
        → TakesBack u (λ s. region_held n (node_held (P s))) (λ s. region_held n (node_held (Q s)))
        (region_at n (node_held (P u)))
    taken_back none some = record {
      held = region_held-some n (node_held (P u)) some;
      idle = ap (region_held n) (now ∙ none);
      others = others;
    }

-- a held region is the one that the station's node names
pub held_named : {n : ℕ} {W : ℕ → ℕ} {P : ℕ → Phase}
    → Agrees n W P
    → (s : ℕ) (a : Region)
    → region_held n (node_held (P s)) ≡ Some a
    → IsNodeOf n (node_held (P s)) a
held_named {n = n} {P = P} k s a is =
    let of_a = region_held-is n (node_held (P s)) a is in
    subst (IsNodeOf n (node_held (P s))) (sym of_a.1) (region_at-named n (node_held (P s)) (holder_is n (P s) (k.fit s) of_a.0).in_cube)

-- held regions are aligned and apart
pub held_lawful : {n : ℕ} {W : ℕ → ℕ} {P : ℕ → Phase}
    → Agrees n W P
    → IsLawful n (λ s. region_held n (node_held (P s)))
held_lawful {n = n} {P = P} k = record { aligned = λ s a is. IsNodeOf-aligned n (node_held (P s)) a (held_named k s a is); apart = held_apart k }
