-- While a mark is set, no station has passed or swept its node through a child that the marked
-- station saw free.
use Rattle.std.proofs.Common.{◌≡◌, ◌≢◌, ℕ, suc, ◌+◌, ◌*◌, ◌/◌, ◌%◌, ◌<◌, ◌≤◌, inl, inr, Bool, true, false, cond, eqb, refl, sym, ◌∙◌, ap, subst, arith}
use Rattle.std.proofs.lemmas.Bool.{cases_eq, eqb-true, eqb-false}
use Rattle.cube_shape.specs.declared.node.Side.{Side}
use Rattle.cube_shape.specs.declared.node.Side.TheVariants.{Left, Right}
use Rattle.cube_shape.specs.Node.{OnPath, child_towards}
use Rattle.cube_shape.proofs.PathLemmas.{OnPath-le, OnPath-zero, OnPath-jump, child_towards_is}
use Rattle.status_word.specs.Word.{IsSet, IsOccupied, HasSide, IsMarked, IsFree, IsInUse, with_mark}
use Rattle.status_word.proofs.WordLemmas.{IsOccupied-in_use, HasSide-in_use, use_of-unmarked, with_side-keeps, with_mark-has, with_mark-keeps, cleared-unmarked}
use Rattle.cube_core.specs.declared.phase.Seen.{Seen}
use Rattle.cube_core.specs.declared.phase.Seen.TheVariants as seen
use Rattle.cube_core.specs.declared.phase.Phase.{Phase}
use Rattle.cube_core.specs.declared.phase.Phase.TheVariants.{Idle, Looking, Looked, Climbing, Swept, Holding, Leaving, Backing, Arriving, Unmarked, Marked, Retired}
use Rattle.cube_core.specs.Phase.{side_of, owned, marked_word, is_seen_free, IsMarkedAt, HasPassed, HasSwept}
use Rattle.cube_core.specs.InnerPhase.{stop, swept_from, marked_at, saw}
use Rattle.cube_core.specs.Event.{busy}
use Rattle.cube_core.proofs.BitLemmas.{with_side-marks, with_mark-other}
use Rattle.cube_core.proofs.ChangeLemmas.{Agrees, Change, each, each_word}
use Rattle.cube_core.proofs.MoveLemmas.{Move, Shows, begins_take, begins_release, retires, looks_free, looks_used, claims, claims_lost, sweeps, raises, raises_under, zeroes, zeroes_back, unmarks, marks, marks_stop, looks_left, looks_right, clears, clears_lost}

-- ---- words on the path to an owned node

-- if a station owns or has passed the node, its word is in use
pub used_on_path : {n : ℕ} {W : ℕ → ℕ} {P : ℕ → Phase}
    → Agrees n W P
    → (s v : ℕ)
    → OnPath v (owned (P s))
    → stop (P s) < v
    → IsInUse (W v)
used_on_path {W = W} {P = P} k s v on past = elim (cases_eq v (owned (P s))) [
  | inl same ↦ IsOccupied-in_use (W v) (subst (λ a. IsOccupied (W a)) (sym same) (k.busy s (positive on)))
  | inr other ↦
      let child = child_towards_is v (owned (P s)) on (below v (owned (P s)) (OnPath-le v (owned (P s)) on) other) in
      HasSide-in_use (side_of (child_towards v (owned (P s)))) (W v)
      (subst (λ a. HasSide (side_of (child_towards v (owned (P s)))) (W a)) child.0
      (k.sides s (child_towards v (owned (P s))) (child.1, past_parent (stop (P s)) v (child_towards v (owned (P s)) / 2) past child.0)))
]
  where
    positive : OnPath v (owned (P s)) → 0 < owned (P s)
    positive above =
        let le : v ≤ owned (P s) = OnPath-le v (owned (P s)) above in
        let some : 0 < v = above.0 in
        omega arith

    below : (a b : ℕ) → a ≤ b → a ≢ b → a < b
    below a b le ne = omega arith

    past_parent : (a b c : ℕ) → a < b → c ≡ b → a < c
    past_parent a b c less is = omega arith

-- a station has swept what it has passed, and beyond this at most the node where it is swept
stop_swept : (p : Phase) → (stop p ≤ swept_from p) × (swept_from p ≤ suc (stop p))
stop_swept Idle = (omega arith, omega arith)
stop_swept (Looking h) = (omega arith, omega arith)
stop_swept (Looked h w) = (omega arith, omega arith)
stop_swept (Climbing h a) = (omega arith, omega arith)
stop_swept (Swept h a) = (omega arith, omega arith)
stop_swept (Holding h) = (omega arith, omega arith)
stop_swept (Leaving h) = (omega arith, omega arith)
stop_swept (Backing h a) = (omega arith, omega arith)
stop_swept (Arriving a) = (omega arith, omega arith)
stop_swept (Unmarked a) = (omega arith, omega arith)
stop_swept (Marked a w left right) = (omega arith, omega arith)
stop_swept Retired = (omega arith, omega arith)

pub passed_swept : (p : Phase) (c : ℕ) → HasPassed p c → HasSwept p c
passed_swept p c on = let bound : swept_from p ≤ suc (stop p) = (stop_swept p).1 in (on.0, omega (arith, on.1))

-- so a child through which a station has passed is in use
pub used_where_swept : {n : ℕ} {W : ℕ → ℕ} {P : ℕ → Phase}
    → Agrees n W P
    → (s c : ℕ)
    → HasSwept (P s) c
    → IsInUse (W c)
used_where_swept {P = P} k s c on = used_on_path k s c on.0 (below (stop (P s)) (swept_from (P s)) (stop_swept (P s)).0 on.0.0 on.1)
  where
    below : (a b : ℕ) → a ≤ b → 0 < c → b ≤ c / 2 → a < c
    below a b le positive half = omega arith

-- ---- marks of other stations

-- a mark of another station that is set after a move was set before it, and since then the word has
-- only grown
pub others_marks : {n u : ℕ} {W : ℕ → ℕ} {p : Phase} {v y : ℕ} {q : Phase}
    → Move n u W p v y q
    → 0 < v
    → (s : ℕ)
    → s ≢ u
    → IsMarked s y
    → IsMarked s (W v) × ((i : ℕ) → IsSet (W v) i → IsSet y i)
others_marks {W = W} (begins_take h _) positive s other marked = (marked, λ i set. set)
others_marks (begins_release h _) positive s other marked = (marked, λ i set. set)
others_marks retires positive s other marked = absurd (omega arith)
others_marks (looks_free h _ _) positive s other marked = (marked, λ i set. set)
others_marks (looks_used h _) positive s other marked = (marked, λ i set. set)
others_marks (claims h w q _ _ _ _) positive s other marked = absurd (use_of-unmarked busy s marked)
others_marks (claims_lost h w _) positive s other marked = (marked, λ i set. set)
others_marks {W = W} (sweeps h a _ _ _) positive s other marked = absurd (use_of-unmarked (W a) s marked)
others_marks {W = W} (raises h a q _ _ _ _ _) positive s other marked =
    (with_side-marks (side_of (child_towards a h)) (W a) s marked, λ i set. with_side-keeps (side_of (child_towards a h)) (W a) i set)
others_marks {W = W} (raises_under h a _ _ _ _) positive s other marked =
    (with_side-marks (side_of (child_towards a h)) (W a) s marked, λ i set. with_side-keeps (side_of (child_towards a h)) (W a) i set)
others_marks (zeroes h q _ _) positive s other marked = absurd (use_of-unmarked 0 s marked)
others_marks (zeroes_back h a q _ _) positive s other marked = absurd (use_of-unmarked 0 s marked)
others_marks {W = W} (unmarks a _) positive s other marked = absurd (use_of-unmarked (W a) s marked)
others_marks {u = u} {W = W} (marks a _ _) positive s other marked = (with_mark-other u s (W a) other marked, λ i set. with_mark-keeps u (W a) i set)
others_marks {u = u} {W = W} (marks_stop a _ _) positive s other marked = (with_mark-other u s (W a) other marked, λ i set. with_mark-keeps u (W a) i set)
others_marks (looks_left a w right found _ _) positive s other marked = (marked, λ i set. set)
others_marks (looks_right a w left found _ _ _) positive s other marked = (marked, λ i set. set)
others_marks (clears a w left right q _ _ _ _ _) positive s other marked = absurd (cleared-unmarked w (is_seen_free left) (is_seen_free right) s marked)
others_marks (clears_lost a w left right _ _) positive s other marked = (marked, λ i set. set)

-- the same for all words
pub marks_stood : {n : ℕ} {W : ℕ → ℕ} {P : ℕ → Phase} {p : Phase} {u v y : ℕ} {q : Phase}
    {V : ℕ → ℕ} {Q : ℕ → Phase}
    → Move n u W p v y q
    → Change W P v y u q V Q
    → (s a : ℕ)
    → s ≢ u
    → 0 < a
    → IsMarked s (V a)
    → IsMarked s (W a) × ((i : ℕ) → IsSet (W a) i → IsSet (V a) i)
marks_stood {W = W} move x s a other = each_word x (λ b w. 0 < b → IsMarked s w → IsMarked s (W b) × ((i : ℕ) → IsSet (W b) i → IsSet w i)) (λ positive marked. others_marks move positive s other marked) (λ b _ _ marked. (marked, λ i set. set)) a

-- ---- the record

pub record Shut (W : ℕ → ℕ) (P : ℕ → Phase) : Type 0 where
  pub own_mark : (s : ℕ) → 0 < marked_at (P s) → IsMarked s (marked_word (P s))
  pub shut : (s t c : ℕ)
      → IsMarkedAt (P s) (c / 2)
      → IsMarked s (W (c / 2))
      → saw (P s) (side_of c) ≡ seen.Free
      → HasSwept (P t) c
      → ⊥

nothing_owned : (c : ℕ) (q : Phase) → owned q ≡ 0 → HasSwept q c → ⊥
nothing_owned c q none on = OnPath-zero c (subst (OnPath c) none on.0)

-- if a mark is set after a move, the moving station has swept no more than before
swept_here : {n u : ℕ} {W : ℕ → ℕ} {p : Phase} {v y : ℕ} {q : Phase}
    → Move n u W p v y q
    → (s c : ℕ)
    → (c / 2 ≡ v → IsMarked s y)
    → HasSwept q c
    → HasSwept p c
swept_here (begins_release h _) s c marked on = on
swept_here (claims h w q _ _ _ risen) s c marked on =
    let below : c ≤ h = OnPath-le c h (subst (OnPath c) risen.own on.0) in absurd (omega (arith, on.1, risen.from))
swept_here {W = W} (sweeps h a _ _ _) s c marked on = elim (cases_eq (c / 2) a) [
  | inl same ↦ absurd (use_of-unmarked (W a) s (marked same))
  | inr other ↦ (on.0, further a (c / 2) on.1 other)
]
  where
    further : (b d : ℕ) → b ≤ d → d ≢ b → suc b ≤ d
    further b d le ne = omega arith
swept_here (raises h a q _ _ above _ risen) s c marked on =
    let on_h : OnPath c h = subst (OnPath c) risen.own on.0 in
    (on_h, OnPath-jump a c h above on_h (omega (arith, on.1, risen.from)))
swept_here (raises_under h a _ _ _ _) s c marked on = (on.0, omega (arith, on.1))
swept_here (zeroes h q _ leaving) s c marked on = absurd (nothing_owned c q leaving.none on)
swept_here (zeroes_back h a q _ leaving) s c marked on = absurd (nothing_owned c q leaving.none on)
swept_here (clears a w left right q _ _ _ _ leaving) s c marked on = absurd (nothing_owned c q leaving.none on)
swept_here _ s c marked on = absurd (OnPath-zero c on.0)

-- ---- every move keeps it

-- with what the moving station itself has marked and seen afterwards
shut_by : {n : ℕ} {W : ℕ → ℕ} {P : ℕ → Phase} {p : Phase} {u v y : ℕ} {q : Phase} {V : ℕ → ℕ}
    {Q : ℕ → Phase}
    → Move n u W p v y q
    → P u ≡ p
    → Change W P v y u q V Q
    → Shut W P
    → (0 < marked_at q → IsMarked u (marked_word q))
    → ((t c : ℕ) → IsMarkedAt q (c / 2) → IsMarked u (V (c / 2)) → saw q (side_of c) ≡ seen.Free
    → HasSwept (P t) c → ⊥)
    → Shut V Q
shut_by {P = P} {u = u} {v = v} {y = y} {q = q} {V = V} {Q = Q} move is x k own here = record {
  own_mark = each x (λ s r. 0 < marked_at r → IsMarked s (marked_word r)) own (λ t _. k.own_mark t);
  shut = each x (λ s r. (t c : ℕ) → IsMarkedAt r (c / 2) → IsMarked s (V (c / 2)) → saw r (side_of c) ≡ seen.Free → HasSwept (Q t) c → ⊥)
      (λ t c at marked free on. here t c at marked free (was u t c marked on))
      (λ s other t c at marked free on. k.shut s t c at (marks_stood move x s (c / 2) other at.0 marked).0 free (was s t c marked on));
}
  where
    was : (s t c : ℕ) → IsMarked s (V (c / 2)) → HasSwept (Q t) c → HasSwept (P t) c
    was s t c marked = each x (λ r a. HasSwept a c → HasSwept (P r) c)
        (λ on. subst (λ a. HasSwept a c) (sym is) (swept_here move s c (λ node. subst (IsMarked s) (ap V node ∙ x.word_here) marked) on))
        (λ r _ on. on) t

-- a moving station that is marked nowhere afterwards
shut_unmarked : {n : ℕ} {W : ℕ → ℕ} {P : ℕ → Phase} {p : Phase} {u v y : ℕ} {q : Phase} {V : ℕ → ℕ}
    {Q : ℕ → Phase}
    → Move n u W p v y q
    → P u ≡ p
    → Change W P v y u q V Q
    → Shut W P
    → marked_at q ≡ 0
    → Shut V Q
shut_unmarked {q = q} move is x k none = shut_by move is x k (λ positive. absurd (nowhere (marked_at q) none positive)) (λ t c at _ _ _. nowhere (marked_at q) none (subst (λ a. 0 < a) (sym at.1) at.0))
  where
    nowhere : (a : ℕ) → a ≡ 0 → 0 < a → ⊥
    nowhere a is_zero positive = omega arith

left_child : (c : ℕ) → side_of c ≡ Left → c ≡ 2 * (c / 2)
left_child c = turn (eqb (c % 2) 0) refl
  where
    turn : (t : Bool) → eqb (c % 2) 0 ≡ t → cond t Left Right ≡ Left → c ≡ 2 * (c / 2)
    turn true even is = let e : c % 2 ≡ 0 = eqb-true (c % 2) 0 even in omega arith
    turn false odd is = absurd (cc)

right_child : (c : ℕ) → side_of c ≡ Right → c ≡ 2 * (c / 2) + 1
right_child c = turn (eqb (c % 2) 0) refl
  where
    turn : (t : Bool) → eqb (c % 2) 0 ≡ t → cond t Left Right ≡ Right → c ≡ 2 * (c / 2) + 1
    turn true even is = absurd (cc)
    turn false odd is = let e : c % 2 ≢ 0 = eqb-false (c % 2) 0 odd in omega arith

-- what a station sees at a child through which another one has passed is not free
not_free : {n : ℕ} {W : ℕ → ℕ} {P : ℕ → Phase}
    → Agrees n W P
    → (t c a : ℕ) (found : Seen)
    → a ≡ c
    → Shows found (W a)
    → found ≡ seen.Free
    → HasSwept (P t) c
    → ⊥
not_free {W = W} k t c a found same (inl shown) free on = used_where_swept k t c on (subst (λ b. IsFree (W b)) same shown.1)
not_free k t c a found same (inr shown) free on = absurd (differ (sym shown.0 ∙ free))
  where
    differ : seen.Used ≡ seen.Free → ⊥
    differ e = cc

pub shut_kept : {n : ℕ} {W : ℕ → ℕ} {P : ℕ → Phase} {p : Phase} {u v y : ℕ} {q : Phase} {V : ℕ → ℕ}
    {Q : ℕ → Phase}
    → Move n u W p v y q
    → P u ≡ p
    → Change W P v y u q V Q
    → Agrees n W P
    → Shut W P
    → Shut V Q
shut_kept (claims h w q i f e risen) is x agrees k = shut_unmarked (claims h w q i f e risen) is x k risen.plain.not_marked
shut_kept (raises h a q i l o f risen) is x agrees k = shut_unmarked (raises h a q i l o f risen) is x k risen.plain.not_marked
shut_kept (zeroes h q i leaving) is x agrees k = shut_unmarked (zeroes h q i leaving) is x k leaving.plain.not_marked
shut_kept (zeroes_back h a q i leaving) is x agrees k = shut_unmarked (zeroes_back h a q i leaving) is x k leaving.plain.not_marked
shut_kept (clears a w left right q i l r e leaving) is x agrees k = shut_unmarked (clears a w left right q i l r e leaving) is x k leaving.plain.not_marked
shut_kept {W = W} {u = u} (marks a i f) is x agrees k = shut_by (marks a i f) is x k (λ _. with_mark-has u (W a)) (λ t c at _ free _. none_seen (side_of c) free)
  where
    none_seen : (side : Side)
        → saw (Marked a (with_mark u (W a)) seen.NotYet seen.NotYet) side ≡ seen.Free
        → ⊥
    none_seen Left e = cc
    none_seen Right e = cc
shut_kept {W = W} {P = P} {u = u} {V = V} (looks_left a w right found i shown) is x agrees k = shut_by (looks_left a w right found i shown) is x k (λ positive. subst (λ r. 0 < marked_at r → IsMarked u (marked_word r)) is (k.own_mark u) positive) (λ t c at marked free on. by_side t c at marked on (side_of c) refl free)
  where
    same : (b : ℕ) → V b ≡ W b
    same = each_word x (λ b z. z ≡ W b) refl (λ b _. refl)

    by_side : (t c : ℕ)
        → (0 < c / 2) × (a ≡ c / 2)
        → IsMarked u (V (c / 2))
        → HasSwept (P t) c
        → (side : Side)
        → side_of c ≡ side
        → saw (Marked a w found right) side ≡ seen.Free
        → ⊥
    by_side t c at marked on Left side free = not_free agrees t c (2 * a) found (ap (λ b. 2 * b) at.1 ∙ sym (left_child c side)) shown free on
    by_side t c at marked on Right side free = k.shut u t c (at.0, ap marked_at is ∙ at.1) (subst (IsMarked u) (same (c / 2)) marked) (ap (λ r. saw r (side_of c)) is ∙ ap (λ z. saw (Marked a w seen.NotYet right) z) side ∙ free) on
shut_kept {W = W} {P = P} {u = u} {V = V} (looks_right a w left found i l shown) is x agrees k = shut_by (looks_right a w left found i l shown) is x k (λ positive. subst (λ r. 0 < marked_at r → IsMarked u (marked_word r)) is (k.own_mark u) positive) (λ t c at marked free on. by_side t c at marked on (side_of c) refl free)
  where
    same : (b : ℕ) → V b ≡ W b
    same = each_word x (λ b z. z ≡ W b) refl (λ b _. refl)

    by_side : (t c : ℕ)
        → (0 < c / 2) × (a ≡ c / 2)
        → IsMarked u (V (c / 2))
        → HasSwept (P t) c
        → (side : Side)
        → side_of c ≡ side
        → saw (Marked a w left found) side ≡ seen.Free
        → ⊥
    by_side t c at marked on Left side free = k.shut u t c (at.0, ap marked_at is ∙ at.1) (subst (IsMarked u) (same (c / 2)) marked) (ap (λ r. saw r (side_of c)) is ∙ ap (λ z. saw (Marked a w left seen.NotYet) z) side ∙ free) on
    by_side t c at marked on Right side free = not_free agrees t c (2 * a + 1) found (ap (λ b. 2 * b + 1) at.1 ∙ sym (right_child c side)) shown free on
shut_kept move is x agrees k = shut_unmarked move is x k refl
