-- A text followed by zeros.
use Rattle.std.proofs.Common.{◌≡◌, ℕ, zero, suc, ◌+◌, ◌-◌, ◌≤◌, true, List, ◌++◌, length, drop, refl, ap, ◌∙◌, arith}
use Rattle.std.proofs.Math.Seq.{take-append_seam, drop-append_seam}
use Rattle.std.proofs.lemmas.List.{length-append}
use Rattle.jobs_csv.specs.Name.{is_name}
use Rattle.jobs_csv.specs.Inner.Name.{IsPadded, zeros}

drop_zeros : (n m : ℕ) → drop n (zeros m) ≡ zeros (m - n)
unfolding zeros
drop_zeros zero m = let e : m ≡ m - 0 = omega arith in ap zeros e
drop_zeros (suc n) zero = let e : 0 ≡ 0 - suc n = omega arith in ap zeros e
drop_zeros (suc n) (suc m) = let e : m - n ≡ suc m - suc n = omega arith in drop_zeros n m ∙ ap zeros e

length_zeros : (n : ℕ) → length (zeros n) ≡ n
unfolding zeros
length_zeros zero = refl
length_zeros (suc n) = ap suc (length_zeros n)

-- a name written over the first of 16 zeros
pub padded : (text : List ℕ)
    → length text ≤ 16
    → is_name text ≡ true
    → IsPadded (length text) (text ++ drop (length text) (zeros 16))
padded text short name =
    let rest = drop_zeros (length text) 16 in
    record {
      size = ap (λ more. length (text ++ more)) rest ∙ length-append text (zeros (16 - length text)) ∙ ap (λ n. length text + n) (length_zeros (16 - length text)) ∙ omega (arith, short);
      within = short;
      name = ap is_name (take-append_seam text (drop (length text) (zeros 16))) ∙ name;
      padding = drop-append_seam text (drop (length text) (zeros 16)) ∙ rest;
    }
