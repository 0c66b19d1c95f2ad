-- Words of memory are cut in two, and are room for values that they hold. Assumes `Logic`.
use Rattle.std.proofs.Common.{◌≡◌, ℕ, zero, suc, ◌+◌, ◌-◌, ◌*◌, ◌%◌, ◌≤◌, max, Bool, true, false, [], ◌∷◌, refl, sym, ap, subst, ◌∙◌, arith}
use seplogic.Ra.Ura.{Ura}
use mir.Syntax.{Ty, Tys, w8, w64, tnil, tcons, ty_int, ty_array, ty_struct}
use native.Mathlib.Nat.{mod_self, sub-zero}
use base.Logic.{SProp, ent, sep, wand, id⊢}
use prog.Memory.{size, align, pad, up, end_of}
use prog.Model.{rooms_at}
use prog.Align.{Dv, dv→, dv_zero, dv_one, dv_mul, align_pos}
use types.Logic.{Logic, sem}
use types.Kit.{raw, ◌⊛◌, ◌$◌, ◌∵◌, !, qed, use1, split, rewrite, keep, done}
use denote.RawPtr.{block_ptr, room_for}
use denote.RawPtr.Room.{room_cut, past}
use Rattle.std_alloc.specs.Vec.Ownership.{has_block, owns_if}
use Rattle.fixed_vec.specs.Words.{words_of, chunk_owns}

abbrev word : Ty
word = ty_int w64

past_words : (k o : ℕ) → past word k o ≡ o + k * 8
past_words zero o = omega arith
past_words (suc k) o = past_words k (o + 8) ∙ omega arith

flush : (a n : ℕ) → Dv a n → up a n ≡ n
flush a n d =
    let gone : pad a n ≡ 0 = ap (λ (r : ℕ). (a - r) % a) (dv→ a n d) ∙ ap (λ (r : ℕ). r % a) (sub-zero a) ∙ mod_self a in
    ap (λ (r : ℕ). n + r) gone ∙ omega arith

by_test : {X : Type 1} (t : Bool) → (t ≡ true → X) → (t ≡ false → X) → X
by_test true y n = y refl
by_test false y n = n refl

module _ {M : Type 1} {𝓤 : Ura M} (𝓛 : Logic 𝓤) (b : ℕ) where
  open 𝓛 use {H}

  abbrev words : ℕ → ℕ → SProp 𝓤
  words x n = H.room (words_of n) b x

  pub cuts : (x m n : ℕ) → m ≤ n → ent 𝓤 (words x n) (sep 𝓤 (words x m) (words (x + m * 8) (n - m)))
  cuts x m n less =
      let sum : n ≡ m + (n - m) = omega arith in
      qed 𝓛 (raw (words x n) ∷ []) ∵ rewrite ! 0 (λ (k : ℕ). raw (words x k)) sum refl $
      use1 𝓛 (raw (words x m) ⊛ raw (words (past word m x) (n - m))) (room_cut 𝓛 word m (n - m) b x) $ split ! $
      rewrite ! 1 (λ (d : ℕ). raw (words d (n - m))) (past_words m x) refl $ done !

  -- a chunk of these words, also if there are none
  pub owned : (x n : ℕ) → ent 𝓤 (words x n) (sem 𝓛 (chunk_owns (block_ptr b x) n))
  owned x n = by_test (has_block n)
      (λ t. subst (λ (y : Bool). ent 𝓤 (words x n) (sem 𝓛 (owns_if y (room_for (words_of n) (block_ptr b x))))) (sym t) (id⊢ 𝓤 (words x n)))
      (λ t. subst (λ (y : Bool). ent 𝓤 (words x n) (sem 𝓛 (owns_if y (room_for (words_of n) (block_ptr b x))))) (sym t) (qed 𝓛 (raw (words x n) ∷ []) ∵ keep ! [] $ done !))

  -- words are room for a type that they hold, as a struct of it and the bytes after it
  pub holds : (τ : Ty) (x n : ℕ) → size τ ≤ n * 8 → Dv (align τ) 8 → ent 𝓤 (words x n) (H.room τ b x)
  holds τ x n fits dv =
      let tail : Tys = tcons (ty_array (ty_int w8) (n * 8 - size τ)) tnil in
      let ω : Ty = ty_struct [] (tcons τ tail) in
      let one : max (align τ) 1 ≡ align τ = omega (arith, align_pos τ) in
      let start : up (align τ) 0 ≡ 0 = flush (align τ) 0 (dv_zero (align τ)) in
      let ends : end_of zero (tcons τ tail) ≡ n * 8 = ap (λ (k : ℕ). k + (n * 8 - size τ) * 1) (flush 1 (up (align τ) 0 + size τ) (dv_one (up (align τ) 0 + size τ)) ∙ ap (λ (k : ℕ). k + size τ) start) ∙ omega arith in
      let same : size ω ≡ n * 8 = (λ i. up (one i) (ends i)) ∙ flush (align τ) (n * 8) (dv_mul (align τ) 8 n dv) in
      let first : x + up (align τ) 0 ≡ x = ap (λ (k : ℕ). x + k) start ∙ omega arith in
      let Rest : SProp 𝓤 = rooms_at 𝓤 H tail (up (align τ) 0 + size τ) b x in
      let Head : SProp 𝓤 = H.room τ b (x + up (align τ) 0) in
      subst (λ (d : ℕ). ent 𝓤 (words x n) (H.room τ b d)) first
      (qed 𝓛 (raw (words x n) ∷ []) ∵
      use1 𝓛 (raw (H.room ω b x) ⊛ raw (wand 𝓤 (H.room ω b x) (words x n))) (𝓛.laws.room_as (words_of n) ω b x same (subst (λ (k : ℕ). Dv k 8) (sym one) dv)) $ split ! $
      use1 𝓛 ((raw Head ⊛ raw Rest) ⊛ raw (wand 𝓤 (sep 𝓤 Head Rest) (H.room ω b x))) (𝓛.laws.room_fields [] (tcons τ tail) b x) $ split ! $ split ! $ keep ! (0 ∷ []) $ done !)
