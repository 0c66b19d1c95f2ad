-- A list without its first members.
use Rattle.std.proofs.Common.{◌≡◌, ℕ, zero, suc, ◌+◌, List, [], ◌∷◌, drop, refl, ap, arith, ◌∙◌}
use Rattle.ghost_history.specs.Lists.{rest_of}

rest_suc : {A : Type 0} (n : ℕ) (xs : List A) → rest_of (drop n xs) ≡ drop (suc n) xs
rest_suc zero [] = refl
rest_suc zero (x ∷ xs) = refl
rest_suc (suc n) [] = refl
rest_suc (suc n) (x ∷ xs) = rest_suc n xs

pub rest_drop : {A : Type 0} (n : ℕ) (xs : List A) → rest_of (drop n xs) ≡ drop (n + 1) xs
rest_drop n xs = let next : suc n ≡ n + 1 = omega arith in rest_suc n xs ∙ ap (λ (i : ℕ). drop i xs) next
