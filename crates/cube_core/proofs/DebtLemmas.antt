-- A word in use that is not occupied has a child in use, or a station that is to clear the node.
use Rattle.std.proofs.Common.{◌≡◌, ◌≢◌, ℕ, ◌+◌, ◌*◌, ◌/◌, ◌<◌, ◌⊎◌, inl, inr, refl, sym, ◌∙◌, ap, subst, arith}
use Rattle.std.proofs.lemmas.Bool.{cases_eq}
use Rattle.cube_shape.specs.Node.{OnPath, child_towards}
use Rattle.cube_shape.proofs.PathLemmas.{child_cases, child_towards_is}
use Rattle.status_word.specs.Word.{IsOccupied, IsFree, IsInUse, use_of}
use Rattle.status_word.proofs.WordLemmas.{cleared-occupied}
use Rattle.cube_core.specs.declared.phase.Seen.{Seen}
use Rattle.cube_core.specs.declared.phase.Seen.TheVariants as seen
use Rattle.cube_core.specs.declared.phase.Phase.{Phase}
use Rattle.cube_core.specs.declared.phase.Phase.TheVariants.{Idle, Looking, Looked, Climbing, Swept, Holding, Leaving, Backing, Arriving, Unmarked, Marked, Retired}
use Rattle.cube_core.specs.Phase.{side_of, owned, marked_word, is_seen_free, MustClear}
use Rattle.cube_core.specs.InnerPhase.{stop, marked_at}
use Rattle.cube_core.specs.Event.{cleared_as_seen}
use Rattle.cube_core.proofs.BitLemmas.{IsInUse-use_of, IsInUse-more, IsInUse-with_mark, IsInUse-with_side, cleared-had, cleared-none, with_mark-use}
use Rattle.cube_core.proofs.ChangeLemmas.{Agrees, Change, each_word}
use Rattle.cube_core.proofs.MoveLemmas.{Move, begins_take, begins_release, retires, looks_free, looks_used, claims, claims_lost, sweeps, raises, raises_under, zeroes, zeroes_back, unmarks, marks, marks_stop, looks_left, looks_right, clears, clears_lost}
use Rattle.cube_core.proofs.SeenFreeLemmas.{used_on_path}
use Rattle.cube_core.proofs.MarkLemmas.{Stamped}

-- a child in use, or a station that owes
abbrev pub Owed : (ℕ → ℕ) → (ℕ → Phase) → ℕ → Type 0
Owed W P v = IsInUse (W (2 * v)) ⊎ (IsInUse (W (2 * v + 1)) ⊎ ((s : ℕ) × MustClear (P s) v (W v)))

pub record Owing (W : ℕ → ℕ) (P : ℕ → Phase) : Type 0 where
  pub owed : (v : ℕ) → 0 < v → IsInUse (W v) → (IsOccupied (W v) → ⊥) → Owed W P v

-- ---- every move keeps it

child_owed : (W : ℕ → ℕ) (P : ℕ → Phase) (a c : ℕ) → c / 2 ≡ a → IsInUse (W c) → Owed W P a
child_owed W P a c node used = elim (child_cases c a node) [
  | inl left ↦ inl (subst (λ b. IsInUse (W b)) left used)
  | inr right ↦ inr (inl (subst (λ b. IsInUse (W b)) right used))
]

-- with what is owed at the word that changes, at its parent, and elsewhere by the moving station
owing_by : {W : ℕ → ℕ} {P : ℕ → Phase} {u v y : ℕ} {q : Phase} {V : ℕ → ℕ} {Q : ℕ → Phase}
    → Change W P v y u q V Q
    → Owing W P
    → (0 < v → IsInUse y → (IsOccupied y → ⊥) → Owed V Q v)
    → (0 < v / 2 → IsInUse (W v) → IsInUse y ⊎ ((x : ℕ) → MustClear q (v / 2) x))
    → ((a : ℕ) → 0 < a → a ≢ v → MustClear (P u) a (W a) → Owed V Q a)
    → Owing V Q
owing_by {W = W} {P = P} {u = u} {v = v} {y = y} {q = q} {V = V} {Q = Q} x k here above own = record {
  owed = each_word x (λ a w. 0 < a → IsInUse w → (IsOccupied w → ⊥) → Owed V Q a) here elsewhere;
}
  where
    child_used : (a c : ℕ) → 0 < a → c / 2 ≡ a → IsInUse (W c) → Owed V Q a
    child_used a c positive node used = elim (cases_eq c v) [
      | inr other ↦ child_owed V Q a c node (subst IsInUse (sym (x.word_else c other)) used)
      | inl same ↦ elim (above (subst (λ b. 0 < b) (sym node ∙ ap (λ b. b / 2) same) positive) (subst (λ b. IsInUse (W b)) same used)) [
        | inl still ↦ child_owed V Q a c node (subst (λ b. IsInUse (V b)) (sym same) (subst IsInUse (sym x.word_here) still))
        | inr owes ↦ inr (inr (u, subst (λ r. MustClear r a (V a)) (sym x.phase_here) (subst (λ b. MustClear q b (V a)) (sym (ap (λ b. b / 2) same) ∙ node) (owes (V a)))))
      ]
    ]

    debtor : (a : ℕ) → 0 < a → a ≢ v → (s : ℕ) → MustClear (P s) a (W a) → Owed V Q a
    debtor a positive other s owes = elim (cases_eq s u) [
      | inl same ↦ own a positive other (subst (λ t. MustClear (P t) a (W a)) same owes)
      | inr differ ↦ inr (inr (s, subst (λ r. MustClear r a (V a)) (sym (x.phase_else s differ)) (subst (MustClear (P s) a) (sym (x.word_else a other)) owes)))
    ]

    elsewhere : (a : ℕ) → a ≢ v → 0 < a → IsInUse (W a) → (IsOccupied (W a) → ⊥) → Owed V Q a
    elsewhere a other positive used unoccupied = elim (k.owed a positive used unoccupied) [
      | inl left ↦ child_used a (2 * a) positive (omega arith) left
      | inr (inl right) ↦ child_used a (2 * a + 1) positive (omega arith) right
      | inr (inr (s, owes)) ↦ debtor a positive other s owes
    ]

-- if no word changes
owing_same : {W : ℕ → ℕ} {P : ℕ → Phase} {u v y : ℕ} {q : Phase} {V : ℕ → ℕ} {Q : ℕ → Phase}
    → Change W P v y u q V Q
    → Owing W P
    → y ≡ W v
    → ((a : ℕ) → 0 < a → MustClear (P u) a (W a) → IsInUse (W (2 * a))
    ⊎ (IsInUse (W (2 * a + 1)) ⊎ MustClear q a (W a)))
    → Owing V Q
owing_same {W = W} {P = P} {u = u} {q = q} {V = V} {Q = Q} x k same own = record {
  owed = λ a positive used unoccupied. elim (k.owed a positive (subst IsInUse (words a) used) (λ is. unoccupied (subst IsOccupied (sym (words a)) is))) [
    | inl left ↦ inl (subst IsInUse (sym (words (2 * a))) left)
    | inr (inl right) ↦ inr (inl (subst IsInUse (sym (words (2 * a + 1))) right))
    | inr (inr (s, owes)) ↦ debtor a positive s owes
  ];
}
  where
    words : (b : ℕ) → V b ≡ W b
    words = each_word x (λ b z. z ≡ W b) same (λ b _. refl)

    debtor : (a : ℕ) → 0 < a → (s : ℕ) → MustClear (P s) a (W a) → Owed V Q a
    debtor a positive s owes = elim (cases_eq s u) [
      | inr differ ↦ inr (inr (s, subst (λ r. MustClear r a (V a)) (sym (x.phase_else s differ)) (subst (MustClear (P s) a) (sym (words a)) owes)))
      | inl at ↦ elim (own a positive (subst (λ t. MustClear (P t) a (W a)) at owes)) [
        | inl left ↦ inl (subst IsInUse (sym (words (2 * a))) left)
        | inr (inl right) ↦ inr (inl (subst IsInUse (sym (words (2 * a + 1))) right))
        | inr (inr still) ↦ inr (inr (u, subst (λ r. MustClear r a (V a)) (sym x.phase_here) (subst (MustClear q a) (sym (words a)) still)))
      ]
    ]

-- a moving station that owes nothing in its phase
owes_none : {A : Type 0} (p r : Phase) (a w : ℕ)
    → p ≡ r
    → (MustClear r a w → ⊥)
    → MustClear p a w
    → A
owes_none p r a w is none owes = absurd (none (subst (λ z. MustClear z a w) is owes))

-- if the moving station owns a node below v and has stopped there, a child of v is in use, also
-- afterwards
child_on_way : {n : ℕ} {W : ℕ → ℕ} {P : ℕ → Phase} {u v y : ℕ} {q : Phase} {V : ℕ → ℕ}
    {Q : ℕ → Phase}
    → Change W P v y u q V Q
    → Agrees n W P
    → (h : ℕ)
    → owned (P u) ≡ h
    → stop (P u) ≡ v
    → v < h
    → OnPath v h
    → Owed V Q v
child_on_way {u = u} {v = v} {V = V} {Q = Q} x k h own at less above =
    let child = child_towards_is v h above less in
    let below : v < child_towards v h = strictly (child_towards v h) child.0 above.0 in
    child_owed V Q v (child_towards v h) child.0 (subst IsInUse (sym (x.word_else (child_towards v h) (λ same. differ (child_towards v h) below same)))
    (used_on_path k u (child_towards v h) (subst (OnPath (child_towards v h)) (sym own) child.1) (subst (λ b. b < child_towards v h) (sym at) below)))
  where
    strictly : (c : ℕ) → c / 2 ≡ v → 0 < v → v < c
    strictly c node positive = omega arith

    differ : (c : ℕ) → v < c → c ≡ v → ⊥
    differ c lower same = omega arith

-- a station that owes is marked there by the word, or owes whatever the word is
debt_cases : (p : Phase) (v x : ℕ)
    → MustClear p v x
    → ((z : ℕ) → MustClear p v z) ⊎ ((marked_at p ≡ v) × (marked_word p ≡ x))
debt_cases Idle v x owes = absurd owes
debt_cases (Looking h) v x owes = absurd owes
debt_cases (Looked h w) v x owes = absurd owes
debt_cases (Climbing h a) v x owes = absurd owes
debt_cases (Swept h a) v x owes = absurd owes
debt_cases (Holding h) v x owes = absurd owes
debt_cases (Leaving h) v x owes = absurd owes
debt_cases (Backing h a) v x owes = absurd owes
debt_cases (Arriving a) v x owes = inl (λ _. owes)
debt_cases (Unmarked a) v x owes = inl (λ _. owes)
debt_cases (Marked a w left right) v x owes = inr (owes.0, owes.1)
debt_cases Retired v x owes = absurd owes

-- a Clear leaves a word in use only where a child is in use or another station owes
clear_owed : {W : ℕ → ℕ} {P : ℕ → Phase} {u : ℕ} {q : Phase} {V : ℕ → ℕ} {Q : ℕ → Phase} (a w : ℕ)
    (left right : Seen)
    → Change W P a (cleared_as_seen w left right) u q V Q
    → Stamped W P
    → Owing W P
    → P u ≡ Marked a w left right
    → 0 < a
    → left ≢ seen.NotYet
    → right ≢ seen.NotYet
    → W a ≡ w
    → IsInUse (cleared_as_seen w left right)
    → (IsOccupied (cleared_as_seen w left right) → ⊥)
    → Owed V Q a
clear_owed {W = W} {P = P} {u = u} {V = V} {Q = Q} a w left right x stamped k is positive l r word used unoccupied = elim (k.owed a positive used_before unoccupied_before) [
  | inl child ↦ inl (subst IsInUse (sym (x.word_else (2 * a) (λ same. omega arith))) child)
  | inr (inl child) ↦ inr (inl (subst IsInUse (sym (x.word_else (2 * a + 1) (λ same. omega arith))) child))
  | inr (inr (t, owes)) ↦ debtor t owes
]
  where
    used_before : IsInUse (W a)
    used_before = subst IsInUse (sym word) (IsInUse-more (cleared_as_seen w left right) w (λ i _ set. cleared-had w (is_seen_free left) (is_seen_free right) i set) used)

    unoccupied_before : IsOccupied (W a) → ⊥
    unoccupied_before occupied = unoccupied ((cleared-occupied w (is_seen_free left) (is_seen_free right)).1 (subst IsOccupied word occupied))

    seen_free : (z : Seen) → z ≢ seen.NotYet → z ≢ seen.Used → z ≡ seen.Free
    seen_free seen.NotYet not_yet not_used = absurd (not_yet refl)
    seen_free seen.Free not_yet not_used = refl
    seen_free seen.Used not_yet not_used = absurd (not_used refl)

    -- the moving station owes only if it has seen both children free, and then the word is free
    not_mover : MustClear (Marked a w left right) a (W a) → ⊥
    not_mover owes = cleared-none w (λ occupied. unoccupied_before (subst IsOccupied (sym word) occupied))
        (subst (λ z. IsInUse (cleared_as_seen w seen.Free z)) (seen_free right r owes.3) (subst (λ z. IsInUse (cleared_as_seen w z right)) (seen_free left l owes.2) used))

    -- and no other station is marked by the word
    debtor : (t : ℕ) → MustClear (P t) a (W a) → Owed V Q a
    debtor t owes = elim (cases_eq t u) [
      | inl same ↦ absurd (not_mover (subst (λ p. MustClear p a (W a)) (ap P same ∙ is) owes))
      | inr other ↦ elim (debt_cases (P t) a (W a) owes) [
        | inl always ↦ inr (inr (t, subst (λ p. MustClear p a (V a)) (sym (x.phase_else t other)) (always (V a))))
        | inr found ↦ absurd (stamped.unlike t u other (subst (λ b. 0 < b) (sym found.0) positive) (found.0 ∙ sym (ap marked_at is)) (found.1 ∙ word ∙ sym (ap marked_word is)))
      ]
    ]

-- after a look at a child a marked station still owes, or the child is in use
pub owing_kept : {n : ℕ} {W : ℕ → ℕ} {P : ℕ → Phase} {p : Phase} {u v y : ℕ} {q : Phase} {V : ℕ → ℕ}
    {Q : ℕ → Phase}
    → Move n u W p v y q
    → P u ≡ p
    → Change W P v y u q V Q
    → Agrees n W P
    → Stamped W P
    → Owing W P
    → Owing V Q
owing_kept (begins_take h i) is x g m k = owing_same x k refl (λ a _. owes_none _ _ a _ is (λ e. e))
owing_kept (begins_release h i) is x g m k = owing_same x k refl (λ a _. owes_none _ _ a _ is (λ e. e))
owing_kept retires is x g m k = owing_by x k (λ positive. absurd (omega arith)) (λ positive. absurd (omega arith)) (λ a _ _. owes_none _ _ a _ is (λ e. e))
owing_kept (looks_free h i f) is x g m k = owing_same x k refl (λ a _. owes_none _ _ a _ is (λ e. e))
owing_kept (looks_used h i) is x g m k = owing_same x k refl (λ a _. owes_none _ _ a _ is (λ e. e))
owing_kept (claims h w q i f e risen) is x g m k = owing_by x k (λ _ _ free. absurd (free refl)) (λ _ _. inl (λ e. omega arith)) (λ a _ _. owes_none _ _ a _ is (λ e. e))
owing_kept (claims_lost h w i) is x g m k = owing_same x k refl (λ a _. owes_none _ _ a _ is (λ e. e))
owing_kept {W = W} (sweeps h a i l o) is x g m k = owing_by x k (λ _ _ _. child_on_way x g h (ap owned is) (ap stop is) l o) (λ _ used. inl ((IsInUse-use_of (W a)).1 used)) (λ b _ _. owes_none _ _ b _ is (λ e. e))
owing_kept {W = W} (raises h a q i l o f risen) is x g m k = owing_by x k (λ _ _ _. child_on_way x g h (ap owned is) (ap stop is) l o) (λ _ _. inl (IsInUse-with_side (side_of (child_towards a h)) (W a))) (λ b _ _. owes_none _ _ b _ is (λ e. e))
owing_kept {W = W} (raises_under h a i l o f) is x g m k = owing_by x k (λ _ _ _. child_on_way x g h (ap owned is) (ap stop is) l o) (λ _ _. inl (IsInUse-with_side (side_of (child_towards a h)) (W a))) (λ b _ _. owes_none _ _ b _ is (λ e. e))
owing_kept (zeroes h q i leaving) is x g m k = owing_by x k (λ _ used. absurd (used refl)) (λ inner _. inr (leaving.owes refl inner)) (λ b _ _. owes_none _ _ b _ is (λ e. e))
owing_kept (zeroes_back h a q i leaving) is x g m k = owing_by x k (λ _ used. absurd (used refl)) (λ inner _. inr (leaving.owes refl inner)) (λ b _ _. owes_none _ _ b _ is (λ e. e))
owing_kept {W = W} {u = u} {V = V} (unmarks a i) is x g m k = owing_by x k (λ _ _ _. inr (inr (u, subst (λ r. MustClear r a (V a)) (sym x.phase_here) refl))) (λ _ used. inl ((IsInUse-use_of (W a)).1 used)) (λ b _ other. owes_none _ _ b _ is (λ owes. other (sym owes)))
owing_kept {W = W} {u = u} {V = V} (marks a i f) is x g m k = owing_by x k (λ _ _ _. inr (inr (u, subst (λ r. MustClear r a (V a)) (sym x.phase_here) (refl, sym x.word_here, not_used, not_used)))) (λ _ used. inl ((IsInUse-with_mark u (W a)).1 used)) (λ b _ other. owes_none _ _ b _ is (λ owes. other (sym owes)))
  where
    not_used : seen.NotYet ≢ seen.Used
    not_used e = cc
owing_kept {W = W} {u = u} (marks_stop a i f) is x g m k = owing_by x k (λ _ _ free. absurd (free ((with_mark-use u (W a) 0 (omega arith)).1 f))) (λ _ used. inl ((IsInUse-with_mark u (W a)).1 used)) (λ b _ other. owes_none _ _ b _ is (λ owes. other (sym owes)))
owing_kept {W = W} (looks_left a w right found i shown) is x g m k = owing_same x k refl (λ b _ owes. turn b (subst (λ r. MustClear r b (W b)) is owes) shown)
  where
    turn : (b : ℕ)
        → MustClear (Marked a w seen.NotYet right) b (W b)
        → ((found ≡ seen.Free) × IsFree (W (2 * a))) ⊎ ((found ≡ seen.Used) × IsInUse (W (2 * a)))
        → IsInUse (W (2 * b)) ⊎ (IsInUse (W (2 * b + 1))
        ⊎ MustClear (Marked a w found right) b (W b))
    turn b owes (inl free) = inr (inr (owes.0, owes.1, λ e. not_used (sym free.0 ∙ e), owes.3))
      where
        not_used : seen.Free ≢ seen.Used
        not_used e = cc
    turn b owes (inr used) = inl (subst (λ c. IsInUse (W (2 * c))) owes.0 used.1)
owing_kept {W = W} (looks_right a w left found i l shown) is x g m k = owing_same x k refl (λ b _ owes. turn b (subst (λ r. MustClear r b (W b)) is owes) shown)
  where
    turn : (b : ℕ)
        → MustClear (Marked a w left seen.NotYet) b (W b)
        → ((found ≡ seen.Free) × IsFree (W (2 * a + 1)))
        ⊎ ((found ≡ seen.Used) × IsInUse (W (2 * a + 1)))
        → IsInUse (W (2 * b)) ⊎ (IsInUse (W (2 * b + 1))
        ⊎ MustClear (Marked a w left found) b (W b))
    turn b owes (inl free) = inr (inr (owes.0, owes.1, owes.2, λ e. not_used (sym free.0 ∙ e)))
      where
        not_used : seen.Free ≢ seen.Used
        not_used e = cc
    turn b owes (inr used) = inr (inl (subst (λ c. IsInUse (W (2 * c + 1))) owes.0 used.1))
owing_kept {W = W} (clears a w left right q i l r e leaving) is x g m k = owing_by x k (λ positive. clear_owed a w left right x m k is positive l r e) above (λ b _ other. owes_none _ _ b _ is (λ owes. other (sym owes.0)))
  where
    above : 0 < a / 2
        → IsInUse (W a)
        → IsInUse (cleared_as_seen w left right) ⊎ ((z : ℕ) → MustClear q (a / 2) z)
    above inner _ = elim (cases_eq (use_of (cleared_as_seen w left right)) 0) [
      | inl free ↦ inr (leaving.owes free inner)
      | inr used ↦ inl used
    ]
owing_kept {W = W} (clears_lost a w left right i e) is x g m k = owing_same x k refl (λ b _. owes_none _ _ b _ is (λ owes. e (ap W owes.0 ∙ sym owes.1)))
