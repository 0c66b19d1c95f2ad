-- The roll: the bit of a station is set in word 0 exactly if the station has retired.
use Rattle.std.proofs.Common.{◌≡◌, ◌≢◌, ℕ, ◌^◌, ◌<◌, inl, inr, bit_or, refl, sym, ◌∙◌, subst, arith}
use Rattle.std.specs.Prelude.{◌↔◌}
use Rattle.std.proofs.lemmas.Nat.Bits.{bit_at-pow_same, bit_at-pow_other}
use Rattle.status_word.specs.Word.{IsSet}
use Rattle.status_word.proofs.WordLemmas.{IsSet-or_left, IsSet-or_right, IsSet-or_cases}
use Rattle.cube_core.specs.declared.phase.Phase.{Phase}
use Rattle.cube_core.specs.declared.phase.Phase.TheVariants.{Retired}
use Rattle.cube_core.proofs.ChangeLemmas.{Change, each, each_word}
use Rattle.cube_core.proofs.MoveLemmas.{Move, begins_take, begins_release, retires, looks_free, looks_used, claims, claims_lost, sweeps, raises, raises_under, zeroes, zeroes_back, unmarks, marks, marks_stop, looks_left, looks_right, clears, clears_lost}

-- the roll of this many stations
pub record Rolled (count : ℕ) (W : ℕ → ℕ) (P : ℕ → Phase) : Type 0 where
  pub roll : (s : ℕ) → s < count → IsSet (W 0) s ↔ (P s ≡ Retired)

-- a move of a station that has not retired, and does not retire, does not change the roll
rolled_same : {count : ℕ} {W : ℕ → ℕ} {P : ℕ → Phase} {u v y : ℕ} {q : Phase} {V : ℕ → ℕ}
    {Q : ℕ → Phase}
    → Change W P v y u q V Q
    → Rolled count W P
    → (v ≡ 0 → y ≡ W v)
    → P u ≢ Retired
    → q ≢ Retired
    → Rolled count V Q
rolled_same {count = count} {W = W} {P = P} {u = u} {v = v} {y = y} {V = V} x k same was_in stays_in = record {
  roll = each x (λ s r. s < count → IsSet (V 0) s ↔ (r ≡ Retired))
      (λ there. (λ set. absurd (was_in ((k.roll u there).0 (subst (λ w. IsSet w u) zero_word set))), λ is. absurd (stays_in is)))
      (λ t _ there. subst (λ w. IsSet w t ↔ (P t ≡ Retired)) (sym zero_word) (k.roll t there));
}
  where
    zero_word : V 0 ≡ W 0
    zero_word = each_word x (λ a w. a ≡ 0 → w ≡ W a) same (λ a _ _. refl) 0 refl

retired_bit : (s u w : ℕ) → s ≢ u → IsSet (bit_or w (2 ^ u)) s → IsSet w s
retired_bit s u w other set = elim (IsSet-or_cases w (2 ^ u) s set) [
  | inl before ↦ before
  | inr new ↦ absurd (omega (arith, bit_at-pow_other u s other, new))
]

rolled_more : {count : ℕ} {W : ℕ → ℕ} {P : ℕ → Phase} {u : ℕ} {V : ℕ → ℕ} {Q : ℕ → Phase}
    → Change W P 0 (bit_or (W 0) (2 ^ u)) u Retired V Q
    → Rolled count W P
    → Rolled count V Q
rolled_more {count = count} {W = W} {P = P} {u = u} {V = V} x k = record {
  roll = each x (λ s r. s < count → IsSet (V 0) s ↔ (r ≡ Retired))
      (λ _. (λ _. refl, λ _. subst (λ w. IsSet w u) (sym x.word_here) (IsSet-or_right (W 0) (2 ^ u) u (bit_at-pow_same u))))
      (λ t other there. (
        λ set. (k.roll t there).0 (retired_bit t u (W 0) other (subst (λ w. IsSet w t) x.word_here set)),
        λ is. subst (λ w. IsSet w t) (sym x.word_here) (IsSet-or_left (W 0) (2 ^ u) t ((k.roll t there).1 is)),
      ));
}

-- for a phase that is given by an equation
from : {p r : Phase} → p ≡ r → r ≢ Retired → p ≢ Retired
from is other retired = other (sym is ∙ retired)

-- a node is not the roll
node_not : (v y w : ℕ) → 0 < v → v ≡ 0 → y ≡ w
node_not v y w positive is = absurd (omega arith)

pub rolled_kept : {n count : ℕ} {W : ℕ → ℕ} {P : ℕ → Phase} {p : Phase} {u v y : ℕ} {q : Phase}
    {V : ℕ → ℕ} {Q : ℕ → Phase}
    → Move n u W p v y q
    → P u ≡ p
    → Change W P v y u q V Q
    → Rolled count W P
    → Rolled count V Q
rolled_kept (begins_take h i) is x k = rolled_same x k (λ _. refl) (from is (λ e. absurd (cc))) (λ e. absurd (cc))
rolled_kept (begins_release h i) is x k = rolled_same x k (λ _. refl) (from is (λ e. absurd (cc))) (λ e. absurd (cc))
rolled_kept retires is x k = rolled_more x k
rolled_kept (looks_free h i f) is x k = rolled_same x k (λ _. refl) (from is (λ e. absurd (cc))) (λ e. absurd (cc))
rolled_kept (looks_used h i) is x k = rolled_same x k (λ _. refl) (from is (λ e. absurd (cc))) (λ e. absurd (cc))
rolled_kept (claims h w q i f e risen) is x k = rolled_same x k (node_not h _ _ i.0) (from is (λ e. absurd (cc))) risen.plain.stays
rolled_kept (claims_lost h w i) is x k = rolled_same x k (λ _. refl) (from is (λ e. absurd (cc))) (λ e. absurd (cc))
rolled_kept (sweeps h a i l o) is x k = rolled_same x k (node_not a _ _ o.0) (from is (λ e. absurd (cc))) (λ e. absurd (cc))
rolled_kept (raises h a q i l o f risen) is x k = rolled_same x k (node_not a _ _ o.0) (from is (λ e. absurd (cc))) risen.plain.stays
rolled_kept (raises_under h a i l o f) is x k = rolled_same x k (node_not a _ _ o.0) (from is (λ e. absurd (cc))) (λ e. absurd (cc))
rolled_kept (zeroes h q i leaving) is x k = rolled_same x k (node_not h _ _ i.0) (from is (λ e. absurd (cc))) leaving.plain.stays
rolled_kept (zeroes_back h a q i leaving) is x k = rolled_same x k (node_not h _ _ i.0) (from is (λ e. absurd (cc))) leaving.plain.stays
rolled_kept (unmarks a i) is x k = rolled_same x k (node_not a _ _ i.0) (from is (λ e. absurd (cc))) (λ e. absurd (cc))
rolled_kept (marks a i f) is x k = rolled_same x k (node_not a _ _ i.0) (from is (λ e. absurd (cc))) (λ e. absurd (cc))
rolled_kept (marks_stop a i f) is x k = rolled_same x k (node_not a _ _ i.0) (from is (λ e. absurd (cc))) (λ e. absurd (cc))
rolled_kept (looks_left a w right found i shown) is x k = rolled_same x k (λ _. refl) (from is (λ e. absurd (cc))) (λ e. absurd (cc))
rolled_kept (looks_right a w left found i l shown) is x k = rolled_same x k (λ _. refl) (from is (λ e. absurd (cc))) (λ e. absurd (cc))
rolled_kept (clears a w left right q i l r e leaving) is x k = rolled_same x k (node_not a _ _ i.0) (from is (λ e. absurd (cc))) leaving.plain.stays
rolled_kept (clears_lost a w left right i e) is x k = rolled_same x k (λ _. refl) (from is (λ e. absurd (cc))) (λ e. absurd (cc))
