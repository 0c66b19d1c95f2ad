-- Totals of slips: one more slip, and the sums over lanes and over dimensions.
use Rattle.std.proofs.Common.{◌≡◌, ℕ, suc, ◌+◌, ◌<◌, ◌==◌, cond, eq-eqb, ne_eqb, List, [], ◌∷◌, ◌++◌, All, map, take, length, refl, sym, ap, ◌∙◌, arith}
use Rattle.std.specs.Prelude.{get_or}
use Rattle.std.proofs.lemmas.List.{map_more, take_more}
use Rattle.job_types.specs.Reply.{ReplyData}
use Rattle.cube_ledger.specs.declared.slip.Slip.{Slip}
use Rattle.cube_ledger.specs.Ledger.{HasAllSlips, slip_of}
use Rattle.ghost_history.specs.Sums.{total, below}
use Rattle.ghost_history.proofs.SumLemmas.{total-append, total-map, total-push, below-zero, below-plus, below-one_term}

-- One more element.
pub total_more : {A : Type 0} (f : A → ℕ) (xs : List A) (i : ℕ) (d : A)
    → i < length xs
    → total f (take (i + 1) xs) ≡ total f (take i xs) + f (get_or xs i d)
total_more f xs i d within = ap (total f) (take_more xs i d within) ∙ total-push f (take i xs) (get_or xs i d)

-- Sums by a number that each element has. Over all numbers they add up to the sum of all.
module _ {A : Type 0} (number amount : A → ℕ) (n : ℕ) where
  of_one : (x : A) → number x < n → below (λ k. cond (number x == k) (amount x) 0) n ≡ amount x
  of_one x within = below-one_term (λ k. cond (number x == k) (amount x) 0) (number x) n within (λ j other. ap (λ b. cond b (amount x) 0) (ne_eqb (number x) j (λ e. other (sym e)))) ∙ ap (λ b. cond b (amount x) 0) (eq-eqb (number x) (number x) refl)

  pub sums_by_number : (xs : List A)
      → All (λ x. number x < n) xs
      → below (λ k. total (λ x. cond (number x == k) (amount x) 0) xs) n ≡ total amount xs
  sums_by_number [] within = below-zero n
  sums_by_number (x ∷ xs) within = omega (
    arith,
    below-plus (λ k. cond (number x == k) (amount x) 0) (λ k. total (λ x. cond (number x == k) (amount x) 0) xs) n,
    of_one x (within 0 x (omega arith)),
    sums_by_number xs (λ k d lt. within (suc k) d (omega (arith, lt))),
  )

-- ---- the slips of all replies

pub slips-none : HasAllSlips [] [] []
slips-none weight = refl

-- The slips of one more worker's replies.
pub slips_more : {X : Type 0} (items : X → List ReplyData) (workers : List X) (i : ℕ) (d : X)
    (old new : List Slip)
    → i < length workers
    → HasAllSlips (map items (take i workers)) [] old
    → new ≡ old ++ map slip_of (items (get_or workers i d))
    → HasAllSlips (map items (take (i + 1) workers)) [] new
slips_more items workers i d old new within had added weight = omega (
  arith,
  had weight,
  ap (total weight) added,
  total-append weight old (map slip_of (items (get_or workers i d))),
  total-map weight slip_of (items (get_or workers i d)),
  ap (total (total (λ r. weight (slip_of r)))) (map_more items workers i d within),
  total-push (total (λ r. weight (slip_of r))) (map items (take i workers)) (items (get_or workers i d)),
)

-- The slips of the rest.
pub slips_whole : (by_worker : List (List ReplyData)) (rest : List ReplyData) (slips : List Slip)
    → HasAllSlips by_worker [] slips
    → HasAllSlips by_worker rest (slips ++ map slip_of rest)
slips_whole by_worker rest slips had weight = omega (
  arith,
  had weight,
  total-append weight slips (map slip_of rest),
  total-map weight slip_of rest,
)
