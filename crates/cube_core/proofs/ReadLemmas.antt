-- The word that a station has read of its node, before it claims it, is 0 or has the mark of
-- another station.
use Rattle.std.proofs.Common.{◌≡◌, ◌≢◌, ℕ, ◌<◌, refl, sym, ◌∙◌, ap, subst, arith}
use Rattle.status_word.specs.Word.{IsMarked}
use Rattle.cube_core.specs.declared.phase.Phase.{Phase}
use Rattle.cube_core.specs.declared.phase.Phase.TheVariants.{Looking}
use Rattle.cube_core.specs.Phase.{marked_word}
use Rattle.cube_core.specs.InnerPhase.{marked_at}
use Rattle.cube_core.proofs.ChangeLemmas.{Change, each}
use Rattle.cube_core.proofs.MoveLemmas.{word_read, Move, looks_free, claims, raises, zeroes, zeroes_back, clears}
use Rattle.cube_core.proofs.SeenFreeLemmas.{Shut}
use Rattle.cube_core.proofs.FreeMarkLemmas.{Witnessed}

-- another station than u has a mark in the word
abbrev pub HasOtherMark : ℕ → ℕ → Type 0
HasOtherMark u w = (s : ℕ) × (s ≢ u) × IsMarked s w

pub record Read (P : ℕ → Phase) : Type 0 where
  pub marked : (u : ℕ) → word_read (P u) ≢ 0 → HasOtherMark u (word_read (P u))

-- ---- every move keeps it

-- the mark is that of the station by whose mark the word was made
other_mark : {W : ℕ → ℕ} {P : ℕ → Phase} (u h s : ℕ)
    → Shut W P
    → P u ≡ Looking h
    → 0 < h
    → marked_at (P s) ≡ h
    → marked_word (P s) ≡ W h
    → HasOtherMark u (W h)
other_mark {P = P} u h s shut is positive at by = (s, differs, subst (IsMarked s) by (shut.own_mark s (subst (λ a. 0 < a) (sym at) positive)))
  where
    differs : s ≢ u
    differs same =
        let none : 0 ≡ h = sym (ap marked_at is) ∙ sym (ap (λ i. marked_at (P i)) same) ∙ at in
        omega (arith, none, positive)

-- a move after which the station claims no node, or has just read the word of one
read_here : {n u : ℕ} {W : ℕ → ℕ} {P : ℕ → Phase} {p : Phase} {v y : ℕ} {q : Phase}
    → Move n u W p v y q
    → P u ≡ p
    → Shut W P
    → Witnessed W P
    → word_read q ≢ 0
    → HasOtherMark u (word_read q)
read_here {u = u} (looks_free h i f) is shut witnessed some = let found = witnessed.witness h i.0 f some in other_mark u h found.0 shut is i.0 found.1.0 found.1.1
read_here (claims h w q i f e risen) is shut witnessed some = absurd (some risen.plain.unread)
read_here (raises h a q i l o f risen) is shut witnessed some = absurd (some risen.plain.unread)
read_here (zeroes h q i leaving) is shut witnessed some = absurd (some leaving.plain.unread)
read_here (zeroes_back h a q i leaving) is shut witnessed some = absurd (some leaving.plain.unread)
read_here (clears a w left right q i l r e leaving) is shut witnessed some = absurd (some leaving.plain.unread)
read_here _ is shut witnessed some = absurd (some refl)

pub read_kept : {n : ℕ} {W : ℕ → ℕ} {P : ℕ → Phase} {p : Phase} {u v y : ℕ} {q : Phase} {V : ℕ → ℕ}
    {Q : ℕ → Phase}
    → Move n u W p v y q
    → P u ≡ p
    → Change W P v y u q V Q
    → Shut W P
    → Witnessed W P
    → Read P
    → Read Q
read_kept move is x shut witnessed k = record {
  marked = each x (λ s r. word_read r ≢ 0 → HasOtherMark s (word_read r)) (read_here move is shut witnessed) (λ t _. k.marked t);
}
