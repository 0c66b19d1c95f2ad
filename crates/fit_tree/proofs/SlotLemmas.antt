-- The slots of the bases, and the finite map of pairs that they represent.
use Rattle.std.proofs.Common.{◌≡◌, ◌≢◌, ℕ, zero, suc, ◌+◌, ◌<◌, true, false, cond, List, [], ◌∷◌, Option, Some, None, refl, sym, ◌∙◌, ap, arith, add-zero}
use Rattle.std.proofs.lemmas.Bool.{eq-eqb, ne_eqb}
use Rattle.std.specs.Ordering.{nat_cmp, eq_by_cmp}
use Rattle.std.specs.FinMap.{get, get-from_entries}
use Rattle.std.specs.FinMap.Entries.{find}
use Rattle.std.specs.Cmp.{unsigned_tied}
use Rattle.std.proofs.lemmas.Cmp.{nat_cmp_total}
use Rattle.std.specs.Prelude.{slice_index_or}
use Rattle.cube_shape.specs.declared.region.Region.{Region}
use Rattle.fit_tree.specs.InnerFit.{pairs_from, pairs_of}

same_key : (a b : ℕ) → a ≡ b → eq_by_cmp nat_cmp a b ≡ true
same_key a b same = unsigned_tied a b ∙ eq-eqb a b same

other_key : (a b : ℕ) → a ≢ b → eq_by_cmp nat_cmp a b ≡ false
other_key a b other = unsigned_tied a b ∙ ne_eqb a b other

-- the pairs of the slots from a station on have no station before it
find-before : (first station : ℕ) (slots : List (Option Region))
    → station < first
    → find nat_cmp station (pairs_from first slots) ≡ None
find-before first station [] before = refl
find-before first station (None ∷ slots) before = find-before (suc first) station slots (omega arith)
find-before first station (Some r ∷ slots) before =
    let other : station ≢ first = λ same. omega arith in
    ap (λ b. cond b (Some r) (find nat_cmp station (pairs_from (suc first) slots))) (other_key station first other)
    ∙ find-before (suc first) station slots (omega arith)

-- and have each station that has a region, with it
find-pairs_from : (first station : ℕ) (slots : List (Option Region))
    → find nat_cmp (first + station) (pairs_from first slots) ≡ slice_index_or slots station None
find-pairs_from first station [] = refl
find-pairs_from first zero (None ∷ slots) = find-before (suc first) (first + 0) slots (omega arith)
find-pairs_from first (suc station) (None ∷ slots) =
    let next : first + suc station ≡ suc first + station = omega arith in
    ap (λ s. find nat_cmp s (pairs_from (suc first) slots)) next ∙ find-pairs_from (suc first) station slots
find-pairs_from first zero (Some r ∷ slots) =
    ap (λ b. cond b (Some r) (find nat_cmp (first + 0) (pairs_from (suc first) slots))) (same_key (first + 0) first (add-zero first))
find-pairs_from first (suc station) (Some r ∷ slots) =
    let next : first + suc station ≡ suc first + station = omega arith in
    let other : first + suc station ≢ first = λ same. omega arith in
    ap (λ b. cond b (Some r) (find nat_cmp (first + suc station) (pairs_from (suc first) slots))) (other_key (first + suc station) first other)
    ∙ ap (λ s. find nat_cmp s (pairs_from (suc first) slots)) next ∙ find-pairs_from (suc first) station slots

-- the finite set of pairs gives what the slots hold
pub get-pairs_of : (slots : List (Option Region)) (station : ℕ)
    → get (pairs_of slots) station ≡ slice_index_or slots station None
unfolding pairs_of
get-pairs_of slots station =
    let from_zero : 0 + station ≡ station = omega arith in
    get-from_entries nat_cmp_total (pairs_from 0 slots) station
    ∙ ap (λ s. find nat_cmp s (pairs_from 0 slots)) (sym from_zero) ∙ find-pairs_from 0 station slots
