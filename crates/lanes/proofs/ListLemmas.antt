-- Lists of what a function says of each number.
use Rattle.std.proofs.Common.{◌≡◌, ◌≢◌, ℕ, zero, suc, ◌+◌, ◌<◌, ◌≤◌, List, [], ◌∷◌, ◌++◌, get_or, set, map, refl, ap, ◌∙◌, arith}
use Rattle.std.specs.Prelude.{replicate}
use Rattle.ghost_history.specs.Lists.{numbered_from}

module _ {R : Type 0} where
  numbered-same_from : (f g : ℕ → R) (first n : ℕ)
      → ((j : ℕ) → first ≤ j → g j ≡ f j)
      → numbered_from g first n ≡ numbered_from f first n
  numbered-same_from f g first zero same = refl
  numbered-same_from f g first (suc n) same =
      let here : g first ≡ f first = same first (omega arith) in
      let later : numbered_from g (first + 1) n ≡ numbered_from f (first + 1) n = numbered-same_from f g (first + 1) n (λ j low. same j (omega arith)) in
      λ k. here k ∷ later k

  pub numbered-within : (f g : ℕ → R) (first n : ℕ)
      → ((j : ℕ) → first ≤ j → j < first + n → g j ≡ f j)
      → numbered_from g first n ≡ numbered_from f first n
  numbered-within f g first zero same = refl
  numbered-within f g first (suc n) same =
      let here : g first ≡ f first = same first (omega arith) (omega arith) in
      let later : numbered_from g (first + 1) n ≡ numbered_from f (first + 1) n = numbered-within f g (first + 1) n (λ j low high. same j (omega arith) (omega arith)) in
      λ k. here k ∷ later k

  numbered-push_suc : (f : ℕ → R) (first n : ℕ)
      → numbered_from f first (suc n) ≡ numbered_from f first n ++ f (first + n) ∷ []
  numbered-push_suc f first zero = let e : first ≡ first + 0 = omega arith in ap (λ (i : ℕ). f i ∷ []) e
  numbered-push_suc f first (suc n) =
      let e : (first + 1) + n ≡ first + suc n = omega arith in
      ap (λ (xs : List R). f first ∷ xs) (numbered-push_suc f (first + 1) n ∙ ap (λ (i : ℕ). numbered_from f (first + 1) n ++ f i ∷ []) e)

  pub numbered-push : (f : ℕ → R) (first n : ℕ)
      → numbered_from f first (n + 1) ≡ numbered_from f first n ++ f (first + n) ∷ []
  numbered-push f first n = let e : n + 1 ≡ suc n = omega arith in ap (numbered_from f first) e ∙ numbered-push_suc f first n

  pub numbered-cut : (f : ℕ → R) (first m n : ℕ)
      → numbered_from f first (m + n) ≡ numbered_from f first m ++ numbered_from f (first + m) n
  numbered-cut f first zero n =
      let none : 0 + n ≡ n = omega arith in
      let same : first ≡ first + 0 = omega arith in ap (numbered_from f first) none ∙ ap (λ (i : ℕ). numbered_from f i n) same
  numbered-cut f first (suc m) n =
      let e : suc m + n ≡ suc (m + n) = omega arith in
      let at : (first + 1) + m ≡ first + suc m = omega arith in
      ap (numbered_from f first) e ∙ ap (λ (xs : List R). f first ∷ xs) (numbered-cut f (first + 1) m n ∙ ap (λ (i : ℕ). numbered_from f (first + 1) m ++ numbered_from f i n) at)

  pub numbered-same : (f g : ℕ → R) (first n : ℕ)
      → ((j : ℕ) → g j ≡ f j)
      → numbered_from g first n ≡ numbered_from f first n
  numbered-same f g first n same = numbered-same_from f g first n (λ j low. same j)

  -- what the function says of one number changes
  numbered-set_from : (f g : ℕ → R) (first n l : ℕ)
      → l < n
      → ((j : ℕ) → j ≢ first + l → g j ≡ f j)
      → numbered_from g first n ≡ set (numbered_from f first n) l (g (first + l))
  numbered-set_from f g first zero l within others = absurd (omega arith)
  numbered-set_from f g first (suc n) zero within others =
      let at : first ≡ first + 0 = omega arith in
      let here : g first ≡ g (first + 0) = ap g at in
      let later : numbered_from g (first + 1) n ≡ numbered_from f (first + 1) n = numbered-same_from f g (first + 1) n (λ j low. others j (λ e. omega arith)) in
      λ k. here k ∷ later k
  numbered-set_from f g first (suc n) (suc l) within others =
      let at : (first + 1) + l ≡ first + suc l = omega arith in
      let here : g first ≡ f first = others first (λ e. omega arith) in
      let later : numbered_from g (first + 1) n ≡ set (numbered_from f (first + 1) n) l (g (first + suc l)) =
      numbered-set_from f g (first + 1) n l (omega arith) (λ j other. others j (λ e. other (omega arith))) ∙ ap (λ (i : ℕ). set (numbered_from f (first + 1) n) l (g i)) at in
      λ k. here k ∷ later k

  pub numbered-set : (f g : ℕ → R) (n l : ℕ)
      → l < n
      → ((j : ℕ) → j ≢ l → g j ≡ f j)
      → numbered_from g 0 n ≡ set (numbered_from f 0 n) l (g l)
  numbered-set f g n l within others =
      let at : 0 + l ≡ l = omega arith in
      numbered-set_from f g 0 n l within (λ j other. others j (λ e. other (omega arith))) ∙ ap (λ (i : ℕ). set (numbered_from f 0 n) l (g i)) at

  numbered-at_from : (f : ℕ → R) (first n l : ℕ) (d : R)
      → l < n
      → get_or (numbered_from f first n) l d ≡ f (first + l)
  numbered-at_from f first zero l d within = absurd (omega arith)
  numbered-at_from f first (suc n) zero d within = let at : first ≡ first + 0 = omega arith in ap f at
  numbered-at_from f first (suc n) (suc l) d within = let at : (first + 1) + l ≡ first + suc l = omega arith in numbered-at_from f (first + 1) n l d (omega arith) ∙ ap f at

  pub numbered-at : (f : ℕ → R) (n l : ℕ) (d : R)
      → l < n
      → get_or (numbered_from f 0 n) l d ≡ f l
  numbered-at f n l d within = let at : 0 + l ≡ l = omega arith in numbered-at_from f 0 n l d within ∙ ap f at

  -- where all of them are mapped to one value
  pub numbered-map : {S : Type 0} (f : ℕ → R) (g : R → S) (x : S) (first n : ℕ)
      → ((j : ℕ) → g (f j) ≡ x)
      → map g (numbered_from f first n) ≡ replicate n x
  numbered-map f g x first zero same = refl
  numbered-map f g x first (suc n) same = let here = same first in let later = numbered-map f g x (first + 1) n same in λ k. here k ∷ later k
