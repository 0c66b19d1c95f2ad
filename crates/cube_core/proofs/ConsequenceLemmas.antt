-- What follows from the current invariant: which stations are engaged, and which words are free at
-- rest. All words are 0 when all stations have retired.
use Rattle.std.proofs.Common.{◌≡◌, ◌≢◌, ℕ, zero, suc, ◌+◌, ◌*◌, ◌/◌, ◌<◌, ◌≤◌, inl, inr, refl, sym, ◌∙◌, ap, subst, arith}
use Rattle.std.specs.Prelude.{◌↔◌}
use Rattle.std.specs.Int.{bit_at}
use Rattle.std.proofs.lemmas.Bool.{cases_eq}
use Rattle.cube_shape.specs.Node.{OnPath}
use Rattle.cube_shape.proofs.PathLemmas.{OnPath-self, OnPath-zero, OnPath-trans, OnPath-parent, parent-left, parent-right}
use Rattle.status_word.specs.Word.{IsFree, IsInUse, use_of}
use Rattle.cube_core.specs.declared.phase.Phase.{Phase}
use Rattle.cube_core.specs.declared.phase.Phase.TheVariants.{Idle, Looking, Looked, Climbing, Swept, Holding, Leaving, Backing, Arriving, Unmarked, Marked, Retired}
use Rattle.cube_core.specs.Phase.{owned, node_held, MustClear, IsAtRest, IsEngagedAt}
use Rattle.cube_core.specs.InnerPhase.{marked_at, to_clear}
use Rattle.cube_core.proofs.HeldLemmas.{holder_is}
use Rattle.cube_core.proofs.SeenFreeLemmas.{used_on_path}
use Rattle.cube_core.proofs.InvariantLemmas.{Invariant}

-- ---- which stations are engaged

debtor_engaged : (p : Phase) (v x : ℕ) → MustClear p v x → to_clear p ≡ v
debtor_engaged Idle v x owes = absurd owes
debtor_engaged (Looking h) v x owes = absurd owes
debtor_engaged (Looked h w) v x owes = absurd owes
debtor_engaged (Climbing h a) v x owes = absurd owes
debtor_engaged (Swept h a) v x owes = absurd owes
debtor_engaged (Holding h) v x owes = absurd owes
debtor_engaged (Leaving h) v x owes = absurd owes
debtor_engaged (Backing h a) v x owes = absurd owes
debtor_engaged (Arriving a) v x owes = owes
debtor_engaged (Unmarked a) v x owes = owes
debtor_engaged (Marked a w left right) v x owes = owes.0
debtor_engaged Retired v x owes = absurd owes

-- the owner of a node is engaged there, and so is a station that is to clear it
owner_engaged : (P : ℕ → Phase) (s v : ℕ) → 0 < v → owned (P s) ≡ v → (t : ℕ) × IsEngagedAt (P t) v
owner_engaged P s v positive at = (s, inl (subst (OnPath v) (sym at) (OnPath-self v positive)))

clearer_engaged : (P : ℕ → Phase) (s v : ℕ)
    → 0 < v
    → to_clear (P s) ≡ v
    → (t : ℕ) × IsEngagedAt (P t) v
clearer_engaged P s v positive at = (s, inr (subst (OnPath v) (sym at) (OnPath-self v positive)))

-- a station that is engaged at a node is engaged at its parent
engaged_below : (P : ℕ → Phase) (v c : ℕ)
    → 0 < v
    → c / 2 ≡ v
    → (s : ℕ) × IsEngagedAt (P s) c
    → (s : ℕ) × IsEngagedAt (P s) v
engaged_below P v c positive node (s, engaged) = (s, elim engaged [ inl on ↦ inl (OnPath-trans v c (owned (P s)) above on) | inr on ↦ inr (OnPath-trans v c (to_clear (P s)) above on) ])
  where
    above : OnPath v c
    above = subst (λ a. OnPath a c) node (OnPath-parent c (subst (λ a. 0 < a) (sym node) positive))

-- by induction from the leaves up: there is nothing below the last level
engaged_from : {n count : ℕ} {W : ℕ → ℕ} {P : ℕ → Phase}
    → Invariant n count W P
    → (nodes : ℕ)
    → ((v : ℕ) → nodes ≤ v → W v ≡ 0)
    → (left v : ℕ)
    → nodes ≤ v + left
    → 0 < v
    → IsInUse (W v)
    → (s : ℕ) × IsEngagedAt (P s) v
engaged_from k nodes outside zero v enough positive used = absurd (used (ap use_of (outside v (omega arith))))
engaged_from {W = W} {P = P} k nodes outside (suc left) v enough positive used = elim (cases_eq (bit_at (W v) 0) 1) [
  | inl occupied ↦ let found = k.agrees.owner v positive occupied in owner_engaged P found.0 v positive found.1
  | inr unoccupied ↦ elim (k.owing.owed v positive used unoccupied) [
    | inl child ↦ engaged_below P v (2 * v) positive (parent-left v) (engaged_from k nodes outside left (2 * v) (omega arith) (omega arith) child)
    | inr (inl child) ↦ engaged_below P v (2 * v + 1) positive (parent-right v) (engaged_from k nodes outside left (2 * v + 1) (omega arith) (omega arith) child)
    | inr (inr (s, owes)) ↦ clearer_engaged P s v positive (debtor_engaged (P s) v (W v) owes)
  ]
]

pub in_use_engaged : {n count : ℕ} {W : ℕ → ℕ} {P : ℕ → Phase}
    → Invariant n count W P
    → (nodes : ℕ)
    → ((v : ℕ) → nodes ≤ v → W v ≡ 0)
    → (v : ℕ)
    → 0 < v
    → IsInUse (W v)
    → (s : ℕ) × IsEngagedAt (P s) v
in_use_engaged k nodes outside v positive used = engaged_from k nodes outside nodes v (omega arith) positive used

-- ---- at rest

-- a station at rest owns the node that it holds, and is to clear none
record IsQuiet (p : Phase) : Type 0 where
  owns : owned p ≡ node_held p
  clears_none : to_clear p ≡ 0

at_rest_quiet : (p : Phase) → IsAtRest p → IsQuiet p
at_rest_quiet Idle rest = record { owns = refl; clears_none = refl }
at_rest_quiet (Looking h) rest = absurd rest
at_rest_quiet (Looked h w) rest = absurd rest
at_rest_quiet (Climbing h a) rest = absurd rest
at_rest_quiet (Swept h a) rest = absurd rest
at_rest_quiet (Holding h) rest = record { owns = refl; clears_none = refl }
at_rest_quiet (Leaving h) rest = absurd rest
at_rest_quiet (Backing h a) rest = absurd rest
at_rest_quiet (Arriving a) rest = absurd rest
at_rest_quiet (Unmarked a) rest = absurd rest
at_rest_quiet (Marked a w left right) rest = absurd rest
at_rest_quiet Retired rest = record { owns = refl; clears_none = refl }

-- so it is engaged only at this node and above it
at_rest_engaged : (p : Phase) (v : ℕ) → IsAtRest p → IsEngagedAt p v → OnPath v (node_held p)
at_rest_engaged p v rest (inl on) = subst (OnPath v) (at_rest_quiet p rest).owns on
at_rest_engaged p v rest (inr on) = absurd (OnPath-zero v (subst (OnPath v) (at_rest_quiet p rest).clears_none on))

pub at_rest_exact : {n count : ℕ} {W : ℕ → ℕ} {P : ℕ → Phase}
    → Invariant n count W P
    → (nodes : ℕ)
    → ((v : ℕ) → nodes ≤ v → W v ≡ 0)
    → ((s : ℕ) → IsAtRest (P s))
    → (v : ℕ)
    → 0 < v
    → IsFree (W v) ↔ ((s : ℕ) → OnPath v (node_held (P s)) → ⊥)
at_rest_exact {n = n} {W = W} {P = P} k nodes outside rest v positive = (λ free s on. held_used s on free, nobody)
  where
    held_used : (s : ℕ) → OnPath v (node_held (P s)) → IsInUse (W v)
    held_used s on =
        let holder = holder_is n (P s) (k.agrees.fit s) (some (node_held (P s)) on) in
        used_on_path k.agrees s v (subst (OnPath v) (sym holder.own) on) (subst (λ a. a < v) (sym holder.past) positive)
      where
        some : (h : ℕ) → OnPath v h → 0 < h
        some zero above = absurd (OnPath-zero v above)
        some (suc h) above = omega arith

    nobody : ((s : ℕ) → OnPath v (node_held (P s)) → ⊥) → IsFree (W v)
    nobody none = elim (cases_eq (use_of (W v)) 0) [
      | inl free ↦ free
      | inr used ↦ let found = in_use_engaged k nodes outside v positive used in absurd (none found.0 (at_rest_engaged (P found.0) v (rest found.0) found.1))
    ]

-- ---- when all have retired

pub retired_zero : {n count : ℕ} {W : ℕ → ℕ} {P : ℕ → Phase}
    → Invariant n count W P
    → (nodes : ℕ)
    → ((v : ℕ) → nodes ≤ v → W v ≡ 0)
    → ((s : ℕ) → P s ≡ Retired)
    → (v : ℕ)
    → 0 < v
    → W v ≡ 0
retired_zero {W = W} {P = P} k nodes outside gone v positive = elim (cases_eq (W v) 0) [
  | inl none ↦ none
  | inr some ↦ absurd (no_witness some)
]
  where
    none_engaged : (p : Phase) → p ≡ Retired → IsEngagedAt p v → ⊥
    none_engaged p is (inl on) = OnPath-zero v (subst (OnPath v) (ap owned is) on)
    none_engaged p is (inr on) = OnPath-zero v (subst (OnPath v) (ap to_clear is) on)

    free : IsFree (W v)
    free = elim (cases_eq (use_of (W v)) 0) [
      | inl is ↦ is
      | inr used ↦ let found = in_use_engaged k nodes outside v positive used in absurd (none_engaged (P found.0) (gone found.0) found.1)
    ]

    no_witness : W v ≢ 0 → ⊥
    no_witness some =
        let found = k.witnessed.witness v positive free some in
        let none : 0 ≡ v = sym (ap marked_at (gone found.0)) ∙ found.1.0 in
        omega (arith, none)
