-- A free word that is not 0 has a witness: a station marked at its node by exactly this word.
use Rattle.std.proofs.Common.{◌≡◌, ◌≢◌, ℕ, ◌<◌, refl, sym, ◌∙◌, ap, subst, arith}
use Rattle.cube_shape.specs.Node.{child_towards}
use Rattle.status_word.specs.Word.{IsFree, use_of, with_mark}
use Rattle.status_word.proofs.WordLemmas.{IsOccupied-in_use}
use Rattle.cube_core.specs.declared.phase.Phase.{Phase}
use Rattle.cube_core.specs.declared.phase.Phase.TheVariants.{Idle, Marked}
use Rattle.cube_core.specs.Phase.{side_of, marked_word, is_seen_free}
use Rattle.cube_core.specs.InnerPhase.{marked_at}
use Rattle.cube_core.proofs.BitLemmas.{use_of-twice, use_of-cleared, IsInUse-with_mark, IsInUse-with_side}
use Rattle.cube_core.proofs.ChangeLemmas.{Change, each, each_word}
use Rattle.cube_core.proofs.MoveLemmas.{Move, begins_take, begins_release, retires, looks_free, looks_used, claims, claims_lost, sweeps, raises, raises_under, zeroes, zeroes_back, unmarks, marks, marks_stop, looks_left, looks_right, clears, clears_lost}

abbrev pub IsWitness : ℕ → ℕ → Phase → Type 0
IsWitness v w p = (marked_at p ≡ v) × (marked_word p ≡ w)

pub record Witnessed (W : ℕ → ℕ) (P : ℕ → Phase) : Type 0 where
  pub witness : (v : ℕ) → 0 < v → IsFree (W v) → W v ≢ 0 → (s : ℕ) × IsWitness v (W v) (P s)

-- ---- every move keeps it

-- with a witness for the written word, and the witness that the moving station is at other nodes
witnessed_by : {W : ℕ → ℕ} {P : ℕ → Phase} {u v y : ℕ} {q : Phase} {V : ℕ → ℕ} {Q : ℕ → Phase}
    → Change W P v y u q V Q
    → Witnessed W P
    → (0 < v → IsFree y → y ≢ 0 → (s : ℕ) × IsWitness v y (Q s))
    → ((a : ℕ) → 0 < a → a ≢ v → IsWitness a (W a) (P u) → IsWitness a (W a) q)
    → Witnessed V Q
witnessed_by {W = W} {P = P} {v = v} {Q = Q} x k here own = record {
  witness = each_word x (λ a w. 0 < a → IsFree w → w ≢ 0 → (s : ℕ) × IsWitness a w (Q s)) here
      (λ a other positive free some. let found = k.witness a positive free some in (found.0, still a positive other found.0 found.1));
}
  where
    still : (a : ℕ) → 0 < a → a ≢ v → (s : ℕ) → IsWitness a (W a) (P s) → IsWitness a (W a) (Q s)
    still a positive other = each x (λ s r. IsWitness a (W a) (P s) → IsWitness a (W a) r) (own a positive other) (λ t _ is. is)

-- if no word of a node changes, and the moving station is a witness as before
witnessed_same : {W : ℕ → ℕ} {P : ℕ → Phase} {u v y : ℕ} {q : Phase} {V : ℕ → ℕ} {Q : ℕ → Phase}
    → Change W P v y u q V Q
    → Witnessed W P
    → (0 < v → y ≡ W v)
    → ((a : ℕ) → 0 < a → IsWitness a (W a) (P u) → IsWitness a (W a) q)
    → Witnessed V Q
witnessed_same {W = W} {P = P} {v = v} {y = y} {Q = Q} x k same own = witnessed_by x k
    (λ positive free some. let is : y ≡ W v = same positive in let found = k.witness v positive (subst IsFree is free) (λ none. some (is ∙ none)) in (found.0, subst (λ w. IsWitness v w (Q found.0)) (sym is) (still v positive found.0 found.1)))
    (λ a positive _. own a positive)
  where
    still : (a : ℕ) → 0 < a → (s : ℕ) → IsWitness a (W a) (P s) → IsWitness a (W a) (Q s)
    still a positive = each x (λ s r. IsWitness a (W a) (P s) → IsWitness a (W a) r) (own a positive) (λ t _ is. is)

-- a moving station that was no witness
no_witness : {A : Type 0} (a w : ℕ) (p r : Phase)
    → 0 < a
    → p ≡ r
    → marked_at r ≡ 0
    → IsWitness a w p
    → A
no_witness a w p r positive is none found = absurd (nothing (marked_at r) none (sym (ap marked_at is) ∙ found.0))
  where
    nothing : (b : ℕ) → b ≡ 0 → b ≡ a → ⊥
    nothing b zero_b at = omega arith

-- a word that has only bits of use is free only if it is 0
only_zero : (w : ℕ) → use_of w ≡ w → IsFree w → w ≢ 0 → ⊥
only_zero w small free some = some (sym small ∙ free)

pub witnessed_kept : {n : ℕ} {W : ℕ → ℕ} {P : ℕ → Phase} {p : Phase} {u v y : ℕ} {q : Phase}
    {V : ℕ → ℕ} {Q : ℕ → Phase}
    → Move n u W p v y q
    → P u ≡ p
    → Change W P v y u q V Q
    → Witnessed W P
    → Witnessed V Q
witnessed_kept (begins_take h i) is x k = witnessed_same x k (λ _. refl) (λ a positive. no_witness a _ _ _ positive is refl)
witnessed_kept (begins_release h i) is x k = witnessed_same x k (λ _. refl) (λ a positive. no_witness a _ _ _ positive is refl)
witnessed_kept retires is x k = witnessed_same x k (λ positive. absurd (omega arith)) (λ a positive. no_witness a _ _ _ positive is refl)
witnessed_kept (looks_free h i f) is x k = witnessed_same x k (λ _. refl) (λ a positive. no_witness a _ _ _ positive is refl)
witnessed_kept (looks_used h i) is x k = witnessed_same x k (λ _. refl) (λ a positive. no_witness a _ _ _ positive is refl)
witnessed_kept (claims h w q i f e risen) is x k = witnessed_by x k (λ _ free. absurd (omega arith)) (λ a positive _. no_witness a _ _ _ positive is refl)
witnessed_kept (claims_lost h w i) is x k = witnessed_same x k (λ _. refl) (λ a positive. no_witness a _ _ _ positive is refl)
witnessed_kept {W = W} (sweeps h a i l o) is x k = witnessed_by x k (λ _ free some. absurd (only_zero (use_of (W a)) (use_of-twice (W a)) free some)) (λ b positive _. no_witness b _ _ _ positive is refl)
witnessed_kept {W = W} (raises h a q i l o f risen) is x k = witnessed_by x k (λ _ free. absurd (IsInUse-with_side (side_of (child_towards a h)) (W a) free)) (λ b positive _. no_witness b _ _ _ positive is refl)
witnessed_kept {W = W} (raises_under h a i l o f) is x k = witnessed_by x k (λ _ free. absurd (IsInUse-with_side (side_of (child_towards a h)) (W a) free)) (λ b positive _. no_witness b _ _ _ positive is refl)
witnessed_kept (zeroes h q i leaving) is x k = witnessed_by x k (λ _ _ some. absurd (some refl)) (λ b positive _. no_witness b _ _ _ positive is refl)
witnessed_kept (zeroes_back h a q i leaving) is x k = witnessed_by x k (λ _ _ some. absurd (some refl)) (λ b positive _. no_witness b _ _ _ positive is refl)
witnessed_kept {W = W} (unmarks a i) is x k = witnessed_by x k (λ _ free some. absurd (only_zero (use_of (W a)) (use_of-twice (W a)) free some)) (λ b positive _. no_witness b _ _ _ positive is refl)
witnessed_kept {W = W} {u = u} {Q = Q} (marks a i f) is x k = witnessed_by x k (λ _ _ _. (u, subst (IsWitness a (with_mark u (W a))) (sym x.phase_here) (refl, refl))) (λ b positive _. no_witness b _ _ _ positive is refl)
witnessed_kept {W = W} {u = u} (marks_stop a i f) is x k = witnessed_by x k (λ _ free. absurd ((IsInUse-with_mark u (W a)).1 (IsOccupied-in_use (W a) f) free)) (λ b positive _. no_witness b _ _ _ positive is refl)
witnessed_kept {W = W} (looks_left a w right found i shown) is x k = witnessed_same x k (λ _. refl) (λ b _. subst (λ r. IsWitness b (W b) r → IsWitness b (W b) (Marked a w found right)) (sym is) (λ same. same))
witnessed_kept {W = W} (looks_right a w left found i l shown) is x k = witnessed_same x k (λ _. refl) (λ b _. subst (λ r. IsWitness b (W b) r → IsWitness b (W b) (Marked a w left found)) (sym is) (λ same. same))
witnessed_kept {W = W} (clears a w left right q i l r e leaving) is x k = witnessed_by x k (λ _ free some. absurd (only_zero _ (use_of-cleared w (is_seen_free left) (is_seen_free right)) free some)) (λ b positive other. subst (λ r. IsWitness b (W b) r → IsWitness b (W b) q) (sym is) (λ found. absurd (other (sym found.0))))
witnessed_kept {W = W} (clears_lost a w left right i e) is x k = witnessed_same x k (λ _. refl) (λ b _. subst (λ r. IsWitness b (W b) r → IsWitness b (W b) Idle) (sym is) (λ found. absurd (e (ap W found.0 ∙ sym found.1))))
