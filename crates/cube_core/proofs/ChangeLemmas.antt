-- The part of the invariant that gives safety, and how one word and one phase that change keep it.
use Rattle.std.proofs.Common.{◌≡◌, ◌≢◌, ℕ, ◌/◌, ◌^◌, ◌<◌, ◌≤◌, ◌⊎◌, inl, inr, refl, sym, ◌∙◌, ap, subst, arith}
use Rattle.std.specs.Prelude.{◌↔◌}
use Rattle.std.proofs.lemmas.Bool.{cases_eq}
use Rattle.cube_shape.specs.declared.node.Side.{Side}
use Rattle.cube_shape.specs.declared.node.Side.TheVariants.{Left, Right}
use Rattle.cube_shape.specs.Node.{OnPath, IsInCube, child_towards}
use Rattle.cube_shape.proofs.PathLemmas.{OnPath-le, OnPath-zero, OnPath-jump, OnPath-one_child, child_towards_is}
use Rattle.status_word.specs.Word.{side_bit, IsSet, IsOccupied, HasSide, IsFree, with_side}
use Rattle.status_word.proofs.WordLemmas.{IsOccupied-in_use, HasSide-in_use, with_side-has, with_side-keeps, with_side-others}
use Rattle.cube_core.proofs.BitLemmas.{side_bit-low}
use Rattle.cube_core.specs.declared.phase.Phase.{Phase}
use Rattle.cube_core.specs.declared.phase.Phase.TheVariants.{Idle, Looking, Looked, Climbing, Swept, Holding, Leaving, Backing, Arriving, Unmarked, Marked, Retired}
use Rattle.cube_core.specs.Phase.{side_of, owned, HasPassed}
use Rattle.cube_core.specs.InnerPhase.{stop}
use Rattle.cube_core.specs.Event.{busy}

-- ---- the invariant, of the words and the phases as functions

-- an inner node of the machine of dimension n
abbrev pub IsInner : ℕ → ℕ → Type 0
IsInner n a = (0 < a) × (a < 2 ^ n)

-- the nodes and the word that a phase keeps
abbrev pub Fit : ℕ → Phase → Type 0
Fit n Idle = Unit {0}
Fit n (Looking h) = IsInCube n h
Fit n (Looked h w) = IsInCube n h × IsFree w
Fit n (Climbing h a) = IsInCube n h × (a < h) × OnPath a h
Fit n (Swept h a) = IsInCube n h × (a < h) × OnPath a h
Fit n (Holding h) = IsInCube n h
Fit n (Leaving h) = IsInCube n h
Fit n (Backing h a) = IsInCube n h
Fit n (Arriving a) = IsInner n a
Fit n (Unmarked a) = IsInner n a
Fit n (Marked a w left right) = IsInner n a
Fit n Retired = Unit {0}

pub record Agrees (n : ℕ) (W : ℕ → ℕ) (P : ℕ → Phase) : Type 0 where
  pub fit : (s : ℕ) → Fit n (P s)
  pub sides : (s c : ℕ) → HasPassed (P s) c → HasSide (side_of c) (W (c / 2))
  pub busy : (s : ℕ) → 0 < owned (P s) → IsOccupied (W (owned (P s)))
  pub owner : (v : ℕ) → 0 < v → IsOccupied (W v) → (s : ℕ) × (owned (P s) ≡ v)
  pub alone : (s t : ℕ) → s ≢ t → owned (P s) ≡ owned (P t) → owned (P s) ≡ 0
  pub apart : (s t c : ℕ) → owned (P s) ≡ c / 2 → HasPassed (P t) c → ⊥

-- ---- one word and one phase change

-- word v becomes y and station u gets phase q: words W and phases P become V and Q
pub record Change (W : ℕ → ℕ) (P : ℕ → Phase) (v y u : ℕ) (q : Phase) (V : ℕ → ℕ) (Q : ℕ → Phase) :
    Type 0 where
  pub word_here : V v ≡ y
  pub word_else : (a : ℕ) → a ≢ v → V a ≡ W a
  pub phase_here : Q u ≡ q
  pub phase_else : (t : ℕ) → t ≢ u → Q t ≡ P t

-- what holds for the station's new phase and for the others' old ones holds for all
pub each : {W : ℕ → ℕ} {P : ℕ → Phase} {v y u : ℕ} {q : Phase} {V : ℕ → ℕ} {Q : ℕ → Phase}
    → Change W P v y u q V Q
    → (F : ℕ → Phase → Type 0)
    → F u q
    → ((t : ℕ) → t ≢ u → F t (P t))
    → (t : ℕ)
    → F t (Q t)
each {u = u} {Q = Q} x F here others t = elim (cases_eq t u) [
  | inl at ↦ subst (λ i. F i (Q i)) (sym at) (subst (F u) (sym x.phase_here) here)
  | inr other ↦ subst (F t) (sym (x.phase_else t other)) (others t other)
]

-- and so for the words
pub each_word : {W : ℕ → ℕ} {P : ℕ → Phase} {v y u : ℕ} {q : Phase} {V : ℕ → ℕ} {Q : ℕ → Phase}
    → Change W P v y u q V Q
    → (F : ℕ → ℕ → Type 0)
    → F v y
    → ((a : ℕ) → a ≢ v → F a (W a))
    → (a : ℕ)
    → F a (V a)
each_word {v = v} {V = V} x F here others a = elim (cases_eq a v) [
  | inl at ↦ subst (λ i. F i (V i)) (sym at) (subst (F v) (sym x.word_here) here)
  | inr other ↦ subst (F a) (sym (x.word_else a other)) (others a other)
]

-- ---- what every event keeps that changes no owner

-- no station's owned node and no word's OCC changes
pub owners_kept : {n : ℕ} {W : ℕ → ℕ} {P : ℕ → Phase} {V : ℕ → ℕ} {Q : ℕ → Phase}
    → Agrees n W P
    → ((s : ℕ) → owned (Q s) ≡ owned (P s))
    → ((v : ℕ) → 0 < v → IsOccupied (V v) ↔ IsOccupied (W v))
    → ((s : ℕ) → Fit n (Q s))
    → ((s c : ℕ) → HasPassed (Q s) c → HasSide (side_of c) (V (c / 2)))
    → ((s t c : ℕ) → owned (Q s) ≡ c / 2 → HasPassed (Q t) c → ⊥)
    → Agrees n V Q
owners_kept {W = W} {P = P} {V = V} {Q = Q} k owns occ fit sides apart = record {
  fit = fit;
  sides = sides;
  busy = λ s positive. (occ (owned (Q s)) positive).1 (subst (λ h. IsOccupied (W h)) (sym (owns s)) (k.busy s (subst (λ h. 0 < h) (owns s) positive)));
  owner = λ v positive occupied. let found = k.owner v positive ((occ v positive).0 occupied) in (found.0, owns found.0 ∙ found.1);
  alone = λ s t other same. owns s ∙ k.alone s t other (sym (owns s) ∙ same ∙ owns t);
  apart = apart;
}

-- the same words and phases
pub Agrees-same : {n : ℕ} {W : ℕ → ℕ} {P : ℕ → Phase} {Q : ℕ → Phase}
    → ((s : ℕ) → Q s ≡ P s)
    → Agrees n W P
    → Agrees n W Q
Agrees-same {n = n} same k = owners_kept k (λ s. ap owned (same s)) (λ v _. (λ o. o, λ o. o)) (λ s. subst (Fit n) (sym (same s)) (k.fit s)) (λ s c on. k.sides s c (subst (λ p. HasPassed p c) (same s) on)) (λ s t c o on. k.apart s t c (sym (ap owned (same s)) ∙ o) (subst (λ p. HasPassed p c) (same t) on))

-- a word of a node keeps its bits of use, and a station owns what it owned and has passed no more.
-- These are all moves except a Claim that wins, a Raise that finds no OCC, a Zero and a Clear that
-- wins
pub quiet : {n : ℕ} {W : ℕ → ℕ} {P : ℕ → Phase} {v y u : ℕ} {q : Phase} {V : ℕ → ℕ} {Q : ℕ → Phase}
    → Change W P v y u q V Q
    → Agrees n W P
    → Fit n q
    → owned q ≡ owned (P u)
    → stop (P u) ≤ stop q
    → (0 < v → IsOccupied y ↔ IsOccupied (W v))
    → (0 < v → (i : ℕ) → i < 3 → IsSet (W v) i → IsSet y i)
    → Agrees n V Q
quiet {n = n} {W = W} {P = P} {u = u} {V = V} {Q = Q} x k fit own further occ grows = owners_kept k owns occ_all fit_all (λ s c on. grown (c / 2) (omega (arith, on.1)) (side_bit (side_of c)) (side_bit-low (side_of c)) (k.sides s c (passed s c on))) (λ s t c o on. k.apart s t c (sym (owns s) ∙ o) (passed t c on))
  where
    owns : (s : ℕ) → owned (Q s) ≡ owned (P s)
    owns = each x (λ s p. owned p ≡ owned (P s)) own (λ t _. refl)

    occ_all : (a : ℕ) → 0 < a → IsOccupied (V a) ↔ IsOccupied (W a)
    occ_all = each_word x (λ a w. 0 < a → IsOccupied w ↔ IsOccupied (W a)) occ (λ a _ _. (λ o. o, λ o. o))

    fit_all : (s : ℕ) → Fit n (Q s)
    fit_all = each x (λ s p. Fit n p) fit (λ t _. k.fit t)

    grown : (a : ℕ) → 0 < a → (i : ℕ) → i < 3 → IsSet (W a) i → IsSet (V a) i
    grown = each_word x (λ a w. 0 < a → (i : ℕ) → i < 3 → IsSet (W a) i → IsSet w i) grows (λ a _ _ i _ set. set)

    passed : (s c : ℕ) → HasPassed (Q s) c → HasPassed (P s) c
    passed = each x (λ s p. (c : ℕ) → HasPassed p c → HasPassed (P s) c) (λ c on. (subst (OnPath c) own on.0, omega (arith, on.1))) (λ t _ c on. on)

-- ---- a Claim that wins

has_both : (side : Side) → HasSide side busy
has_both Left = refl
has_both Right = refl

-- a free word becomes BUSY, and its station owns the node and has passed none of its ancestors
pub claimed : {n : ℕ} {W : ℕ → ℕ} {P : ℕ → Phase} {h u : ℕ} {q : Phase} {V : ℕ → ℕ} {Q : ℕ → Phase}
    → Change W P h busy u q V Q
    → Agrees n W P
    → owned (P u) ≡ 0
    → IsFree (W h)
    → 0 < h
    → Fit n q
    → owned q ≡ h
    → stop q ≡ h / 2
    → Agrees n V Q
claimed {n = n} {W = W} {P = P} {h = h} {u = u} {q = q} {V = V} {Q = Q} x k none free positive fit own at = record {
  fit = each x (λ s p. Fit n p) fit (λ t _. k.fit t);
  sides = λ s c on. grown (side_of c) (c / 2) (k.sides s c (passed s c on).1);
  busy = each x (λ s p. 0 < owned p → IsOccupied (V (owned p))) (λ _. subst (λ a. IsOccupied (V a)) (sym own) (subst IsOccupied (sym x.word_here) refl)) (λ t _ is. occ (owned (P t)) (k.busy t is));
  owner = each_word x (λ a w. 0 < a → IsOccupied w → (s : ℕ) × (owned (Q s) ≡ a)) (λ _ _. (u, ap owned x.phase_here ∙ own)) (λ a _ is occupied. let found = k.owner a is occupied in (found.0, stays found.0 (subst (λ b. 0 < b) (sym found.1) is) ∙ found.1));
  alone = each x (λ s p. (t : ℕ) → s ≢ t → owned p ≡ owned (Q t) → owned p ≡ 0) alone_here alone_else;
  apart = λ s t c o on. let was = passed t c on in each x (λ r p. owned p ≡ c / 2 → ⊥) (λ is. clear c (sym own ∙ is) (k.sides t c was.1)) (λ r _ is. k.apart r t c is was.1) s o;
}
  where
    fresh : (c : ℕ) → HasPassed q c → ⊥
    fresh c on = let below : c ≤ h = OnPath-le c h (subst (OnPath c) own on.0) in omega (arith, on.1)

    passed : (s c : ℕ) → HasPassed (Q s) c → (s ≢ u) × HasPassed (P s) c
    passed = each x (λ s p. (c : ℕ) → HasPassed p c → (s ≢ u) × HasPassed (P s) c) (λ c on. absurd (fresh c on)) (λ t other c on. (other, on))

    grown : (side : Side) (a : ℕ) → HasSide side (W a) → HasSide side (V a)
    grown side = each_word x (λ a w. HasSide side (W a) → HasSide side w) (λ _. has_both side) (λ a _ has. has)

    occ : (a : ℕ) → IsOccupied (W a) → IsOccupied (V a)
    occ = each_word x (λ a w. IsOccupied (W a) → IsOccupied w) (λ _. refl) (λ a _ is. is)

    stays : (s : ℕ) → 0 < owned (P s) → owned (Q s) ≡ owned (P s)
    stays = each x (λ s p. 0 < owned (P s) → owned p ≡ owned (P s)) (λ is. absurd (no_owner is)) (λ t _ _. refl)
      where
        no_owner : 0 < owned (P u) → ⊥
        no_owner is = let e : 0 < 0 = subst (λ a. 0 < a) none is in omega arith

    unowned : (t : ℕ) → owned (P t) ≡ h → ⊥
    unowned t is = IsOccupied-in_use (W h) (subst (λ a. IsOccupied (W a)) is (k.busy t (subst (λ a. 0 < a) (sym is) positive))) free

    clear : (c : ℕ) → h ≡ c / 2 → HasSide (side_of c) (W (c / 2)) → ⊥
    clear c is has = HasSide-in_use (side_of c) (W h) (subst (λ a. HasSide (side_of c) (W a)) (sym is) has) free

    alone_here : (t : ℕ) → u ≢ t → owned q ≡ owned (Q t) → owned q ≡ 0
    alone_here t other same = absurd (unowned t (sym (ap owned (x.phase_else t (λ e. other (sym e)))) ∙ sym same ∙ own))

    alone_else : (s : ℕ) → s ≢ u → (t : ℕ) → s ≢ t → owned (P s) ≡ owned (Q t) → owned (P s) ≡ 0
    alone_else s _ = each x (λ t p. s ≢ t → owned (P s) ≡ owned p → owned (P s) ≡ 0) (λ _ same. absurd (unowned s (same ∙ own))) (λ t _ other same. k.alone s t other same)

-- ---- a Raise that finds no OCC

-- a further side does not change OCC
pub with_side-occupied : (side : Side) (w : ℕ) → IsOccupied (with_side side w) ↔ IsOccupied w
with_side-occupied Left w = (with_side-others Left w 0 (λ e. omega arith), with_side-keeps Left w 0)
with_side-occupied Right w = (with_side-others Right w 0 (λ e. omega arith), with_side-keeps Right w 0)

-- the side of the child towards h is set at its parent a, and the station has passed a
pub raised : {n : ℕ} {W : ℕ → ℕ} {P : ℕ → Phase} {a h u : ℕ} {q : Phase} {V : ℕ → ℕ} {Q : ℕ → Phase}
    → Change W P a (with_side (side_of (child_towards a h)) (W a)) u q V Q
    → Agrees n W P
    → (IsOccupied (W a) → ⊥)
    → OnPath a h
    → a < h
    → owned (P u) ≡ h
    → stop (P u) ≡ a
    → Fit n q
    → owned q ≡ h
    → stop q ≡ a / 2
    → Agrees n V Q
raised {n = n} {W = W} {P = P} {a = a} {h = h} {u = u} {q = q} {V = V} {Q = Q} x k unoccupied above less was_own was_at fit own at = owners_kept k owns occ fit_all sides apart
  where
    child_is : (child_towards a h / 2 ≡ a) × OnPath (child_towards a h) h
    child_is = child_towards_is a h above less

    owns : (s : ℕ) → owned (Q s) ≡ owned (P s)
    owns = each x (λ s p. owned p ≡ owned (P s)) (own ∙ sym was_own) (λ t _. refl)

    occ : (v : ℕ) → 0 < v → IsOccupied (V v) ↔ IsOccupied (W v)
    occ = each_word x (λ v w. 0 < v → IsOccupied w ↔ IsOccupied (W v)) (λ _. with_side-occupied (side_of (child_towards a h)) (W a)) (λ v _ _. (λ o. o, λ o. o))

    fit_all : (s : ℕ) → Fit n (Q s)
    fit_all = each x (λ s p. Fit n p) fit (λ t _. k.fit t)

    grown : (v i : ℕ) → IsSet (W v) i → IsSet (V v) i
    grown = each_word x (λ v w. (i : ℕ) → IsSet (W v) i → IsSet w i) (λ i set. with_side-keeps (side_of (child_towards a h)) (W a) i set) (λ v _ i set. set)

    -- only the station itself has passed more: a, through the child towards h
    passed : (s c : ℕ) → HasPassed (Q s) c → HasPassed (P s) c ⊎ (c ≡ child_towards a h)
    passed = each x (λ s p. (c : ℕ) → HasPassed p c → HasPassed (P s) c ⊎ (c ≡ child_towards a h)) here (λ t _ c on. inl on)
      where
        strictly : (b d e : ℕ) → b ≤ d → b ≢ d → e ≡ b → e < d
        strictly b d e le ne is = omega arith

        here : (c : ℕ) → HasPassed q c → HasPassed (P u) c ⊎ (c ≡ child_towards a h)
        here c on =
            let on_h : OnPath c h = subst (OnPath c) own on.0 in
            let step : a / 2 < c / 2 = omega (arith, on.1, at) in
            let reached : a ≤ c / 2 = OnPath-jump a c h above on_h step in
            elim (cases_eq a (c / 2)) [
              | inl same ↦ inr (OnPath-one_child c (child_towards a h) h on_h child_is.1 (sym same ∙ sym child_is.0))
              | inr other ↦ inl (subst (OnPath c) (sym was_own) on_h, strictly a (c / 2) (stop (P u)) reached other was_at)
            ]

    raised_side : (c : ℕ) → c ≡ child_towards a h → HasSide (side_of c) (V (c / 2))
    raised_side c same =
        let node : c / 2 ≡ a = ap (λ b. b / 2) same ∙ child_is.0 in
        subst (λ b. HasSide (side_of c) (V b)) (sym node) (subst (λ b. HasSide (side_of b) (V a)) (sym same) (subst (HasSide (side_of (child_towards a h))) (sym x.word_here) (with_side-has (side_of (child_towards a h)) (W a))))

    sides : (s c : ℕ) → HasPassed (Q s) c → HasSide (side_of c) (V (c / 2))
    sides s c on = elim (passed s c on) [
      | inl old ↦ grown (c / 2) (side_bit (side_of c)) (k.sides s c old)
      | inr same ↦ raised_side c same
    ]

    apart : (s t c : ℕ) → owned (Q s) ≡ c / 2 → HasPassed (Q t) c → ⊥
    apart s t c o on = elim (passed t c on) [
      | inl old ↦ k.apart s t c (sym (owns s) ∙ o) old
      | inr same ↦
          let owner : owned (P s) ≡ a = sym (owns s) ∙ o ∙ ap (λ b. b / 2) same ∙ child_is.0 in
          unoccupied (subst (λ b. IsOccupied (W b)) owner (k.busy s (subst (λ b. 0 < b) (sym owner) above.0)))
    ]

-- ---- a Zero

-- the word of the node that a station owns becomes 0, and the station owns nothing
pub zeroed : {n : ℕ} {W : ℕ → ℕ} {P : ℕ → Phase} {h u : ℕ} {q : Phase} {V : ℕ → ℕ} {Q : ℕ → Phase}
    → Change W P h 0 u q V Q
    → Agrees n W P
    → owned (P u) ≡ h
    → 0 < h
    → Fit n q
    → owned q ≡ 0
    → Agrees n V Q
zeroed {n = n} {W = W} {P = P} {h = h} {u = u} {q = q} {V = V} {Q = Q} x k own positive fit none = record {
  fit = each x (λ s p. Fit n p) fit (λ t _. k.fit t);
  sides = λ s c on. each_word x (λ a w. c / 2 ≡ a → HasSide (side_of c) (W a) → HasSide (side_of c) w) (λ is _. absurd (k.apart u s c (own ∙ sym is) (passed s c on).1)) (λ a _ _ has. has) (c / 2) refl (k.sides s c (passed s c on).1);
  busy = each x (λ s p. 0 < owned p → IsOccupied (V (owned p))) (λ is. absurd (nothing is)) (λ t other is. still (owned (P t)) (λ same. owned_alone t other is same) (k.busy t is));
  owner = each_word x (λ a w. 0 < a → IsOccupied w → (s : ℕ) × (owned (Q s) ≡ a)) (λ _ occupied. absurd (no_bit occupied)) (λ a other is occupied. let found = k.owner a is occupied in (found.0, ap owned (x.phase_else found.0 (λ e. other (sym found.1 ∙ ap (λ s. owned (P s)) e ∙ own))) ∙ found.1));
  alone = each x (λ s p. (t : ℕ) → s ≢ t → owned p ≡ owned (Q t) → owned p ≡ 0) (λ t _ _. none) (λ s _. each x (λ t p. s ≢ t → owned (P s) ≡ owned p → owned (P s) ≡ 0) (λ _ same. same ∙ none) (λ t _ other same. k.alone s t other same));
  apart = λ s t c o on. each x (λ r p. owned p ≡ c / 2 → ⊥) (λ is. nothing_above c (sym none ∙ is) (P t) (passed t c on).1) (λ r _ is. k.apart r t c is (passed t c on).1) s o;
}
  where
    no_bit : IsOccupied 0 → ⊥
    no_bit is = omega arith

    nothing : 0 < owned q → ⊥
    nothing is = let e : 0 < 0 = subst (λ a. 0 < a) none is in omega arith

    nothing_above : (c : ℕ) → 0 ≡ c / 2 → (p : Phase) → HasPassed p c → ⊥
    nothing_above c is p on = omega (arith, on.1)

    passed : (s c : ℕ) → HasPassed (Q s) c → (s ≢ u) × HasPassed (P s) c
    passed = each x (λ s p. (c : ℕ) → HasPassed p c → (s ≢ u) × HasPassed (P s) c) (λ c on. absurd (OnPath-zero c (subst (OnPath c) none on.0))) (λ t other c on. (other, on))

    owned_alone : (t : ℕ) → t ≢ u → 0 < owned (P t) → owned (P t) ≡ h → ⊥
    owned_alone t other is same =
        let zero_owned : owned (P t) ≡ 0 = k.alone t u other (same ∙ sym own) in
        let e : 0 < 0 = subst (λ a. 0 < a) zero_owned is in
        omega arith

    still : (a : ℕ) → (a ≢ h) → IsOccupied (W a) → IsOccupied (V a)
    still a other is = subst IsOccupied (sym (x.word_else a other)) is

-- ---- a Clear that wins

-- no word's OCC changes, and no side is removed that a station has passed through
pub cleared_kept : {n : ℕ} {W : ℕ → ℕ} {P : ℕ → Phase} {a y u : ℕ} {q : Phase} {V : ℕ → ℕ}
    {Q : ℕ → Phase}
    → Change W P a y u q V Q
    → Agrees n W P
    → owned (P u) ≡ 0
    → owned q ≡ 0
    → Fit n q
    → IsOccupied y ↔ IsOccupied (W a)
    → ((t c : ℕ) → c / 2 ≡ a → HasPassed (P t) c → HasSide (side_of c) y)
    → Agrees n V Q
cleared_kept {n = n} {W = W} {P = P} {a = a} {u = u} {q = q} {V = V} {Q = Q} x k was_none none fit occ stay = owners_kept k owns occ_all (each x (λ s p. Fit n p) fit (λ t _. k.fit t)) sides (λ s t c o on. k.apart s t c (sym (owns s) ∙ o) (passed t c on))
  where
    owns : (s : ℕ) → owned (Q s) ≡ owned (P s)
    owns = each x (λ s p. owned p ≡ owned (P s)) (none ∙ sym was_none) (λ t _. refl)

    occ_all : (v : ℕ) → 0 < v → IsOccupied (V v) ↔ IsOccupied (W v)
    occ_all = each_word x (λ v w. 0 < v → IsOccupied w ↔ IsOccupied (W v)) (λ _. occ) (λ v _ _. (λ o. o, λ o. o))

    passed : (s c : ℕ) → HasPassed (Q s) c → HasPassed (P s) c
    passed = each x (λ s p. (c : ℕ) → HasPassed p c → HasPassed (P s) c) (λ c on. absurd (OnPath-zero c (subst (OnPath c) none on.0))) (λ t _ c on. on)

    sides : (s c : ℕ) → HasPassed (Q s) c → HasSide (side_of c) (V (c / 2))
    sides s c on = each_word x (λ v w. c / 2 ≡ v → HasSide (side_of c) w) (λ is. stay s c is (passed s c on)) (λ v _ is. subst (λ b. HasSide (side_of c) (W b)) is (k.sides s c (passed s c on))) (c / 2) refl
