-- The invariant, and that every move keeps it.
use Rattle.std.proofs.Common.{◌≡◌, ℕ, ◌<◌, ◌⊎◌, inl, inr, refl, sym, ◌∙◌, ap, subst, arith}
use Rattle.cube_shape.proofs.PathLemmas.{OnPath-zero}
use Rattle.cube_shape.specs.Node.{OnPath}
use Rattle.std.proofs.lemmas.Nat.Bits.{bit_at-zero}
use Rattle.status_word.specs.Word.{IsSet, IsOccupied, use_of}
use Rattle.cube_core.specs.declared.phase.Phase.{Phase}
use Rattle.cube_core.specs.declared.phase.Phase.TheVariants.{Idle, Retired}
use Rattle.cube_core.specs.Phase.{owned, HasPassed}
use Rattle.cube_core.specs.InnerPhase.{marked_at}
use Rattle.cube_core.proofs.ChangeLemmas.{Fit, Agrees, Change}
use Rattle.cube_core.proofs.MoveLemmas.{unmarked_at, word_read, Move}
use Rattle.cube_core.proofs.SeenFreeLemmas.{Shut, shut_kept}
use Rattle.cube_core.proofs.AgreeLemmas.{agrees_kept}
use Rattle.cube_core.proofs.MarkLemmas.{Stamped, stamped_kept}
use Rattle.cube_core.proofs.FreeMarkLemmas.{Witnessed, witnessed_kept}
use Rattle.cube_core.proofs.DebtLemmas.{Owing, owing_kept}
use Rattle.cube_core.proofs.RollLemmas.{Rolled, rolled_kept}
use Rattle.cube_core.proofs.ReadLemmas.{Read, read_kept}

-- the invariant of a machine of dimension n and this many stations
pub record Invariant (n count : ℕ) (W : ℕ → ℕ) (P : ℕ → Phase) : Type 0 where
  pub agrees : Agrees n W P
  pub shut : Shut W P
  pub stamped : Stamped W P
  pub witnessed : Witnessed W P
  pub owing : Owing W P
  pub rolled : Rolled count W P
  pub read : Read P

pub invariant_kept : {n count : ℕ} {W : ℕ → ℕ} {P : ℕ → Phase} {p : Phase} {u v y : ℕ} {q : Phase}
    {V : ℕ → ℕ} {Q : ℕ → Phase}
    → Move n u W p v y q
    → P u ≡ p
    → Change W P v y u q V Q
    → Invariant n count W P
    → Invariant n count V Q
invariant_kept move is x k = record {
  agrees = agrees_kept move is x k.agrees k.shut;
  shut = shut_kept move is x k.agrees k.shut;
  stamped = stamped_kept move is x k.shut k.stamped;
  witnessed = witnessed_kept move is x k.witnessed;
  owing = owing_kept move is x k.agrees k.stamped k.owing;
  rolled = rolled_kept move is x k.rolled;
  read = read_kept move is x k.shut k.witnessed k.read;
}

-- if all words are 0, every station is idle, and those that do not exist read as retired
pub invariant_initial : (n count : ℕ) (W : ℕ → ℕ) (P : ℕ → Phase)
    → ((v : ℕ) → W v ≡ 0)
    → ((s : ℕ) → (P s ≡ Idle) ⊎ (P s ≡ Retired))
    → ((s : ℕ) → s < count → P s ≡ Idle)
    → Invariant n count W P
invariant_initial n count W P zeros idle there = record {
  agrees = record {
    fit = λ s. of_both (Fit n) tt tt s;
    sides = λ s c passed. absurd (none_passed s c passed);
    busy = λ s positive. absurd (let none : 0 < 0 = subst (λ a. 0 < a) (nothing s) positive in omega arith);
    owner = λ v _ is. absurd (no_bit v is);
    alone = λ s _ _ _. nothing s;
    apart = λ s t c _ passed. none_passed t c passed;
  };
  shut = record {
    own_mark = λ s positive. absurd (nowhere s positive);
    shut = λ s t c at _ _ _. nowhere s (subst (λ a. 0 < a) (sym at.1) at.0);
  };
  stamped = record {
    grown = λ s positive. absurd (nowhere s positive);
    fresh = λ s positive _. absurd (let none : 0 < 0 = subst (λ a. 0 < a) (of_both (λ p. unmarked_at p ≡ 0) refl refl s) positive in omega arith);
    unlike = λ s t _ positive _. absurd (nowhere s positive);
  };
  witnessed = record { witness = λ v _ _ some. absurd (some (zeros v)) };
  owing = record { owed = λ v _ used _. absurd (used (ap use_of (zeros v))) };
  rolled = record { roll = λ s here. (λ set. absurd (clear_bit s set), λ retired. absurd (not_retired (sym (there s here) ∙ retired))) };
  read = record { marked = λ s some. absurd (some (of_both (λ p. word_read p ≡ 0) refl refl s)) };
}
  where
    -- what an idle station and one that does not exist have in common
    of_both : (F : Phase → Type 0) → F Idle → F Retired → (s : ℕ) → F (P s)
    of_both F of_idle of_retired s = elim (idle s) [ inl is ↦ subst F (sym is) of_idle | inr is ↦ subst F (sym is) of_retired ]

    no_bit : (v : ℕ) → IsOccupied (W v) → ⊥
    no_bit v is = let bit : IsOccupied 0 = subst IsOccupied (zeros v) is in omega arith

    nothing : (s : ℕ) → owned (P s) ≡ 0
    nothing = of_both (λ p. owned p ≡ 0) refl refl

    none_passed : (s c : ℕ) → HasPassed (P s) c → ⊥
    none_passed s c passed = OnPath-zero c (subst (OnPath c) (nothing s) passed.0)

    clear_bit : (s : ℕ) → IsSet (W 0) s → ⊥
    clear_bit s set = let bit : IsSet 0 s = subst (λ w. IsSet w s) (zeros 0) set in omega (arith, bit_at-zero s, bit)

    not_retired : Idle ≡ Retired → ⊥
    not_retired e = cc

    nowhere : (s : ℕ) → 0 < marked_at (P s) → ⊥
    nowhere s positive = let none : 0 < 0 = subst (λ a. 0 < a) (of_both (λ p. marked_at p ≡ 0) refl refl s) positive in omega arith
