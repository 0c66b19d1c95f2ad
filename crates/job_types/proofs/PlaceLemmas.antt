-- Items put at places, and numbers read from them.
use Rattle.std.proofs.Common.{◌≡◌, ℕ, suc, ◌+◌, ◌-◌, ◌<◌, ◌≤◌, ◌^◌, List, [], ◌∷◌, ◌++◌, set, take, length, get_or, replicate, sym, ap, ◌∙◌, append_assoc, arith}
use Rattle.std.proofs.lemmas.List.{length-take, set-append_right, take_more, take_more_set, take-replicate}
use Rattle.std.proofs.Math.Pow.{pow_mono}
use Rattle.cube_shape.specs.declared.limits.TheConstants.{MAX_DIM}
use Rattle.job_types.specs.declared.arrays.TheConstants.{TINY_DIM, SMALL_DIM, MIDDLE_DIM, LARGE_DIM, TINY_PLACES, SMALL_PLACES, MIDDLE_PLACES, LARGE_PLACES, MOST_PLACES}

-- one item more before the units
put_first : (front : List ℕ) (n rank u x : ℕ) → length front ≡ rank → rank < n
    → set (front ++ replicate (n - rank) u) rank x ≡ front ++ x ∷ [] ++ replicate (n - (rank + 1)) u
put_first front n rank u x long within =
    let more : n - rank ≡ suc (n - (rank + 1)) = omega arith in
    let here : rank - rank ≡ 0 = omega arith in
    ap (λ (count : ℕ). set (front ++ replicate count u) rank x) more
    ∙ set-append_right front (u ∷ replicate (n - (rank + 1)) u) rank rank x long (omega arith)
    ∙ ap (λ (i : ℕ). front ++ set (u ∷ replicate (n - (rank + 1)) u) i x) here
    ∙ sym (append_assoc front (x ∷ []) (replicate (n - (rank + 1)) u))

-- the number of places of each size of array is large enough for its dimensions
pub tiny_fit : (k : ℕ) → k ≤ TINY_DIM → 2 ^ k ≤ TINY_PLACES
tiny_fit k within = pow_mono within

pub small_fit : (k : ℕ) → k ≤ SMALL_DIM → 2 ^ k ≤ SMALL_PLACES
small_fit k within = pow_mono within

pub middle_fit : (k : ℕ) → k ≤ MIDDLE_DIM → 2 ^ k ≤ MIDDLE_PLACES
middle_fit k within = pow_mono within

pub large_fit : (k : ℕ) → k ≤ LARGE_DIM → 2 ^ k ≤ LARGE_PLACES
large_fit k within = pow_mono within

pub all_fit : (k : ℕ) → k ≤ MAX_DIM → 2 ^ k ≤ MOST_PLACES
all_fit k within = pow_mono within

-- the first of places that hold the unit hold it
pub units_in_front : {M : Type 0} (unit : M) (places : List M) (m n : ℕ)
    → places ≡ replicate (length places) unit
    → n ≤ length places
    → m ≡ n
    → take m places ≡ replicate n unit
units_in_front unit places m n all within same =
    ap (λ (count : ℕ). take count places) same ∙ ap (take n) all ∙ take-replicate n (length places) unit within

-- no place has its item yet
pub units_put : (u n : ℕ) (places : List ℕ) → places ≡ replicate n u → places ≡ replicate (n - 0) u
units_put u n places all = let none : n ≡ n - 0 = omega arith in all ∙ ap (λ (count : ℕ). replicate count u) none

-- the next place has its item
pub item_put : (u n rank : ℕ) (items places : List ℕ) (x : ℕ)
    → rank < length items → length items ≤ n
    → x ≡ get_or items rank 0 → places ≡ take rank items ++ replicate (n - rank) u
    → set places rank x ≡ take (rank + 1) items ++ replicate (n - (rank + 1)) u
item_put u n rank items places x within fits same so_far =
    let long : length (take rank items) ≡ rank = omega (arith, length-take rank items) in
    ap (λ (numbers : List ℕ). set numbers rank x) so_far
    ∙ put_first (take rank items) n rank u x long (omega (arith, within, fits))
    ∙ ap (λ (y : ℕ). take rank items ++ y ∷ [] ++ replicate (n - (rank + 1)) u) same
    ∙ ap (λ (front : List ℕ). front ++ replicate (n - (rank + 1)) u) (sym (take_more items rank 0 within))

-- the next number is that of its place
pub number_copied : (places numbers : List ℕ) (i x m : ℕ) → i < length numbers → i < length places
    → x ≡ get_or places i m → take i numbers ≡ take i places
    → take (i + 1) (set numbers i x) ≡ take (i + 1) places
number_copied places numbers i x m room within same so_far =
    take_more_set numbers i x room
    ∙ ap (λ (front : List ℕ). front ++ x ∷ []) so_far
    ∙ ap (λ (y : ℕ). take i places ++ y ∷ []) same
    ∙ sym (take_more places i m within)
