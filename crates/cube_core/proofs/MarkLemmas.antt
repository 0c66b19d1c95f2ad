-- Marks at one node. While a mark is set, the word has only grown. A station that is about to mark
-- has no mark there, and no two stations marked the same word.
use Rattle.std.proofs.Common.{◌≡◌, ◌≢◌, ℕ, ◌<◌, refl, sym, ◌∙◌, ap, subst, arith}
use Rattle.status_word.specs.Word.{mark_bit, IsSet, IsMarked, with_mark}
use Rattle.status_word.proofs.WordLemmas.{use_of-unmarked, with_mark-has}
use Rattle.cube_core.specs.declared.phase.Phase.{Phase}
use Rattle.cube_core.specs.declared.phase.Phase.TheVariants.{Unmarked}
use Rattle.cube_core.specs.Phase.{marked_word}
use Rattle.cube_core.specs.InnerPhase.{marked_at}
use Rattle.cube_core.proofs.BitLemmas.{with_mark-other}
use Rattle.cube_core.proofs.ChangeLemmas.{Change, each, each_word}
use Rattle.cube_core.proofs.MoveLemmas.{unmarked_at, Move, claims, raises, zeroes, zeroes_back, unmarks, marks, looks_left, looks_right, clears}
use Rattle.cube_core.proofs.SeenFreeLemmas.{Shut, marks_stood}

pub record Stamped (W : ℕ → ℕ) (P : ℕ → Phase) : Type 0 where
  pub grown : (s : ℕ)
      → 0 < marked_at (P s)
      → IsMarked s (W (marked_at (P s)))
      → (i : ℕ)
      → IsSet (marked_word (P s)) i
      → IsSet (W (marked_at (P s))) i
  pub fresh : (s : ℕ) → 0 < unmarked_at (P s) → IsMarked s (W (unmarked_at (P s))) → ⊥
  pub unlike : (s t : ℕ)
      → s ≢ t
      → 0 < marked_at (P s)
      → marked_at (P s) ≡ marked_at (P t)
      → marked_word (P s) ≢ marked_word (P t)

-- ---- every move keeps it

-- with the mark that the moving station itself has, or is about to set, afterwards
stamped_by : {n : ℕ} {W : ℕ → ℕ} {P : ℕ → Phase} {p : Phase} {u v y : ℕ} {q : Phase} {V : ℕ → ℕ}
    {Q : ℕ → Phase}
    → Move n u W p v y q
    → Change W P v y u q V Q
    → Stamped W P
    → (0 < marked_at q → IsMarked u (V (marked_at q)) → (i : ℕ) → IsSet (marked_word q) i
    → IsSet (V (marked_at q)) i)
    → (0 < unmarked_at q → IsMarked u (V (unmarked_at q)) → ⊥)
    → ((t : ℕ) → t ≢ u → 0 < marked_at q → marked_at q ≡ marked_at (P t)
    → marked_word q ≢ marked_word (P t))
    → Stamped V Q
stamped_by {P = P} {u = u} {q = q} {V = V} {Q = Q} move x k here_grown here_fresh here_unlike = record {
  grown = each x (λ s r. 0 < marked_at r → IsMarked s (V (marked_at r)) → (i : ℕ) → IsSet (marked_word r) i → IsSet (V (marked_at r)) i) here_grown
      (λ t other positive marked i set. let stood = marks_stood move x t (marked_at (P t)) other positive marked in stood.1 i (k.grown t positive stood.0 i set));
  fresh = each x (λ s r. 0 < unmarked_at r → IsMarked s (V (unmarked_at r)) → ⊥) here_fresh
      (λ t other positive marked. k.fresh t positive (marks_stood move x t (unmarked_at (P t)) other positive marked).0);
  unlike = each x (λ s r. (t : ℕ) → s ≢ t → 0 < marked_at r → marked_at r ≡ marked_at (Q t) → marked_word r ≢ marked_word (Q t)) unlike_here unlike_else;
}
  where
    unlike_here : (t : ℕ)
        → u ≢ t
        → 0 < marked_at q
        → marked_at q ≡ marked_at (Q t)
        → marked_word q ≢ marked_word (Q t)
    unlike_here t other = subst (λ r. 0 < marked_at q → marked_at q ≡ marked_at r → marked_word q ≢ marked_word r) (sym (x.phase_else t (λ e. other (sym e)))) (here_unlike t (λ e. other (sym e)))

    unlike_else : (s : ℕ)
        → s ≢ u
        → (t : ℕ)
        → s ≢ t
        → 0 < marked_at (P s)
        → marked_at (P s) ≡ marked_at (Q t)
        → marked_word (P s) ≢ marked_word (Q t)
    unlike_else s other = each x (λ t r. s ≢ t → 0 < marked_at (P s) → marked_at (P s) ≡ marked_at r → marked_word (P s) ≢ marked_word r)
        (λ _ positive same equal. here_unlike s other (subst (λ a. 0 < a) same positive) (sym same) (sym equal))
        (λ t _ differ positive same. k.unlike s t differ positive same)

-- a moving station that is marked nowhere afterwards, and about to mark nowhere
stamped_plain : {n : ℕ} {W : ℕ → ℕ} {P : ℕ → Phase} {p : Phase} {u v y : ℕ} {q : Phase} {V : ℕ → ℕ}
    {Q : ℕ → Phase}
    → Move n u W p v y q
    → Change W P v y u q V Q
    → Stamped W P
    → marked_at q ≡ 0
    → unmarked_at q ≡ 0
    → Stamped V Q
stamped_plain {q = q} move x k no_mark no_unmark = stamped_by move x k (λ positive. absurd (nowhere (marked_at q) no_mark positive)) (λ positive. absurd (nowhere (unmarked_at q) no_unmark positive)) (λ t _ positive. absurd (nowhere (marked_at q) no_mark positive))
  where
    nowhere : (a : ℕ) → a ≡ 0 → 0 < a → ⊥
    nowhere a is_zero positive = omega arith

-- a moving station that is marked at the node by the same word as before, while no word changes
stamped_looks : {n : ℕ} {W : ℕ → ℕ} {P : ℕ → Phase} {p : Phase} {u v y : ℕ} {q : Phase} {V : ℕ → ℕ}
    {Q : ℕ → Phase}
    → Move n u W p v y q
    → P u ≡ p
    → Change W P v y u q V Q
    → Stamped W P
    → y ≡ W v
    → marked_at q ≡ marked_at p
    → marked_word q ≡ marked_word p
    → unmarked_at q ≡ 0
    → Stamped V Q
stamped_looks {W = W} {P = P} {p = p} {u = u} {q = q} {V = V} move is x k word at same none = stamped_by move x k grown_here (λ positive. absurd (nowhere (unmarked_at q) none positive)) unlike_here
  where
    nowhere : (a : ℕ) → a ≡ 0 → 0 < a → ⊥
    nowhere a is_zero positive = omega arith

    words : (b : ℕ) → V b ≡ W b
    words = each_word x (λ b z. z ≡ W b) word (λ b _. refl)

    at_before : marked_at q ≡ marked_at (P u)
    at_before = at ∙ sym (ap marked_at is)

    word_before : marked_word q ≡ marked_word (P u)
    word_before = same ∙ sym (ap marked_word is)

    grown_here : 0 < marked_at q
        → IsMarked u (V (marked_at q))
        → (i : ℕ)
        → IsSet (marked_word q) i
        → IsSet (V (marked_at q)) i
    grown_here positive marked i set =
        let node : V (marked_at q) ≡ W (marked_at (P u)) = words (marked_at q) ∙ ap W at_before in
        subst (λ z. IsSet z i) (sym node) (k.grown u (subst (λ a. 0 < a) at_before positive) (subst (IsMarked u) node marked) i (subst (λ z. IsSet z i) word_before set))

    unlike_here : (t : ℕ)
        → t ≢ u
        → 0 < marked_at q
        → marked_at q ≡ marked_at (P t)
        → marked_word q ≢ marked_word (P t)
    unlike_here t other positive node equal = k.unlike u t (λ e. other (sym e)) (subst (λ a. 0 < a) at_before positive) (sym at_before ∙ node) (sym word_before ∙ equal)

-- the mark of u. No other station is marked there by the new word. Else its mark would be set and
-- the word would have only grown, so u would have had a mark before
mark_is_new : {W : ℕ → ℕ} {P : ℕ → Phase} (u a t : ℕ)
    → Shut W P
    → Stamped W P
    → P u ≡ Unmarked a
    → 0 < a
    → t ≢ u
    → a ≡ marked_at (P t)
    → with_mark u (W a) ≢ marked_word (P t)
mark_is_new {W = W} {P = P} u a t shut k is positive other at equal =
    k.fresh u (subst (λ r. 0 < unmarked_at r) (sym is) positive) (subst (λ b. IsMarked u (W b)) (sym (ap unmarked_at is)) mark_before)
  where
    positive_t : 0 < marked_at (P t)
    positive_t = subst (λ b. 0 < b) at positive

    other_mark : IsMarked t (W (marked_at (P t)))
    other_mark = subst (λ b. IsMarked t (W b)) at (with_mark-other u t (W a) other (subst (IsMarked t) (sym equal) (shut.own_mark t positive_t)))

    mark_before : IsMarked u (W a)
    mark_before = subst (λ b. IsMarked u (W b)) (sym at) (k.grown t positive_t other_mark (mark_bit u) (subst (IsMarked u) equal (with_mark-has u (W a))))

pub stamped_kept : {n : ℕ} {W : ℕ → ℕ} {P : ℕ → Phase} {p : Phase} {u v y : ℕ} {q : Phase}
    {V : ℕ → ℕ} {Q : ℕ → Phase}
    → Move n u W p v y q
    → P u ≡ p
    → Change W P v y u q V Q
    → Shut W P
    → Stamped W P
    → Stamped V Q
stamped_kept (claims h w q i f e risen) is x shut k = stamped_plain (claims h w q i f e risen) x k risen.plain.not_marked risen.plain.not_unmarked
stamped_kept (raises h a q i l o f risen) is x shut k = stamped_plain (raises h a q i l o f risen) x k risen.plain.not_marked risen.plain.not_unmarked
stamped_kept (zeroes h q i leaving) is x shut k = stamped_plain (zeroes h q i leaving) x k leaving.plain.not_marked leaving.plain.not_unmarked
stamped_kept (zeroes_back h a q i leaving) is x shut k = stamped_plain (zeroes_back h a q i leaving) x k leaving.plain.not_marked leaving.plain.not_unmarked
stamped_kept (clears a w left right q i l r e leaving) is x shut k = stamped_plain (clears a w left right q i l r e leaving) x k leaving.plain.not_marked leaving.plain.not_unmarked
stamped_kept {W = W} {u = u} (unmarks a i) is x shut k = stamped_by (unmarks a i) x k (λ positive. absurd (omega arith)) (λ _ marked. use_of-unmarked (W a) u (subst (IsMarked u) x.word_here marked)) (λ t _ positive. absurd (omega arith))
stamped_kept {W = W} {u = u} (marks a i f) is x shut k = stamped_by (marks a i f) x k (λ _ _ j set. subst (λ z. IsSet z j) (sym x.word_here) set) (λ positive. absurd (omega arith)) (λ t other positive at. mark_is_new u a t shut k is i.0 other at)
stamped_kept (looks_left a w right found i shown) is x shut k = stamped_looks (looks_left a w right found i shown) is x k refl refl refl refl
stamped_kept (looks_right a w left found i l shown) is x shut k = stamped_looks (looks_right a w left found i l shown) is x k refl refl refl refl
stamped_kept move is x shut k = stamped_plain move x k refl refl
