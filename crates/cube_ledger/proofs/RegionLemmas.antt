-- Counts of the nodes of a level, and the machine in which all are free.
use Rattle.std.proofs.Common.{◌≡◌, ℕ, zero, suc, ◌+◌, ◌-◌, ◌*◌, ◌/◌, ◌^◌, ◌<◌, ◌≤◌, ◌==◌, Bool, false, true, not, ◌&&◌, ◌||◌, cond, List, length, ◌⊎◌, inl, inr, Option, Some, None, slice_index, slice_set, refl, sym, ap, ◌∙◌, arith}
use Rattle.std.proofs.lemmas.Bool.{cases_order}
use Rattle.std.proofs.Math.Nat.{mul-le-mul_right, one-le-pow, pow-le-pow_right}
use Rattle.std.proofs.lemmas.Nat.{pow-add}
use Rattle.std.specs.Int.{bit_at}
use Rattle.cube_ledger.specs.declared.regions.Occupancy.{Occupancy}
use Rattle.ghost_history.specs.Sums.{below}
use Rattle.ghost_history.proofs.SumLemmas.{below-same, below-zero, below-ones}
use Rattle.status_word.specs.Word.{use_of}
use Rattle.std.proofs.lemmas.List.{get_or_past, get_or-set_other, get_or-set_same}
use Rattle.cube_ledger.specs.InnerOccupancy.Largest.{IsLargestBelow}
use Rattle.cube_ledger.specs.Occupancy.{IsEmptyMachine, IsLargestFree, free_regions, has_occupied_above, held_processors, held_regions, is_free_node, is_free_word, is_held_node, is_occupied_word}

pub below-next : (f : ℕ → ℕ) (m : ℕ) → below f (m + 1) ≡ below f m + f m
below-next f m = let e : m + 1 ≡ suc m = omega arith in ap (below f) e

-- the levels down to those of a dimension are within those of the machine
pub level_fits : (n k : ℕ) → k ≤ n → 2 ^ (n - k + 1) ≤ 2 ^ (n + 1)
level_fits n k le = pow-le-pow_right (omega arith) (omega arith)

-- the held regions of a dimension have no more processors than the machine
pub held_few : (n k held : ℕ) → k ≤ n → held ≤ 2 ^ (n - k) → held * 2 ^ k ≤ 2 ^ n
held_few n k held within few =
    let whole : 2 ^ (n - k) * 2 ^ k ≡ 2 ^ n = sym (pow-add 2 (n - k) k) ∙ ap (λ e. 2 ^ e) (omega arith) in
    let most : held * 2 ^ k ≤ 2 ^ (n - k) * 2 ^ k = mul-le-mul_right (2 ^ k) few in
    omega (arith, whole, most)

-- the counts of one dimension more
pub set_counted : (f : ℕ → ℕ) (xs : List ℕ) (i x : ℕ)
    → i < length xs
    → x ≡ f i
    → ((k : ℕ) → k < i → slice_index xs k ≡ f k)
    → (k : ℕ)
    → k < i + 1
    → slice_index (slice_set xs i x) k ≡ f k
set_counted f xs i x within here before k lt = by_order (cases_order k i)
  where
    by_order : (k ≡ i) ⊎ ((k < i) ⊎ (i < k)) → slice_index (slice_set xs i x) k ≡ f k
    by_order (inl e) = ap (slice_index (slice_set xs i x)) e ∙ (get_or-set_same xs i x 0 within ∙ (here ∙ ap f (sym e)))
    by_order (inr (inl less)) = get_or-set_other xs i k x 0 (λ e. omega arith) ∙ before k less
    by_order (inr (inr more)) = absurd (omega arith)

pub set_others : (xs : List ℕ) (i x : ℕ)
    → ((k : ℕ) → i ≤ k → slice_index xs k ≡ 0)
    → (k : ℕ)
    → i + 1 ≤ k
    → slice_index (slice_set xs i x) k ≡ 0
set_others xs i x others k le = get_or-set_other xs i k x 0 (λ e. omega arith) ∙ others k (omega arith)

pub none_of_no_levels : (words : List ℕ) (node levels : ℕ)
    → levels ≡ 0
    → has_occupied_above words node levels ≡ false
unfolding has_occupied_above
none_of_no_levels words node zero none = refl
none_of_no_levels words node (suc levels) none = absurd (omega arith)

-- the next node above, and those above it
pub above-step : (words : List ℕ) (node levels : ℕ)
    → 0 < levels
    → has_occupied_above words node levels
    ≡ (is_occupied_word words (node / 2) || has_occupied_above words (node / 2) (levels - 1))
unfolding has_occupied_above
above-step words node zero some = absurd (omega arith)
above-step words node (suc levels) some =
    let e : levels ≡ suc levels - 1 = omega arith in
    ap (λ l. is_occupied_word words (node / 2) || has_occupied_above words (node / 2) l) e

-- ---- a machine that is wholly free

pub half : (levels node : ℕ) → 2 ^ suc levels ≤ node → 2 ^ levels ≤ node / 2
half levels node deep = let e : 2 ^ suc levels ≡ 2 * 2 ^ levels = omega (arith, pow-add 2 1 levels) in omega arith

abbrev as_number : Bool → ℕ
as_number b = cond b 1 0

module _ (words : List ℕ) (nodes : (node : ℕ) → 0 < node → slice_index words node ≡ 0) where
  not_occupied : (node : ℕ) → 0 < node → is_occupied_word words node ≡ false
  not_occupied node is = ap (λ w. bit_at w 0 == 1) (nodes node is)

  free_word : (node : ℕ) → 0 < node → is_free_word words node ≡ true
  free_word node is = ap (λ w. use_of w == 0) (nodes node is)

  none_above : (levels node : ℕ) → 2 ^ levels ≤ node → has_occupied_above words node levels ≡ false
  unfolding has_occupied_above
  none_above zero node deep = refl
  none_above (suc levels) node deep =
      let up : 2 ^ levels ≤ node / 2 = half levels node deep in
      let some : 0 < 2 ^ levels = one-le-pow levels 2 (omega arith) in
      ap (λ b. b || has_occupied_above words (node / 2) levels) (not_occupied (node / 2) (omega (arith, up, some))) ∙ none_above levels (node / 2) up

  all_free : (levels : ℕ) → free_regions words levels ≡ 2 ^ levels
  all_free levels = below-same _ (λ _. 1) (2 ^ levels) (λ m lt. one (2 ^ levels + m) (omega arith) (omega arith)) ∙ below-ones (2 ^ levels)
    where
      one : (node : ℕ)
          → 0 < node
          → 2 ^ levels ≤ node
          → as_number (is_free_node words node levels) ≡ 1
      one node is deep =
          let opened : as_number (is_free_node words node levels) ≡ as_number (not (has_occupied_above words node levels)) = ap (λ b. as_number (b && not (has_occupied_above words node levels))) (free_word node is) in
          opened ∙ ap (λ b. as_number (not b)) (none_above levels node deep)

  none_held : (levels : ℕ) → held_regions words levels ≡ 0
  none_held levels = below-same _ (λ _. 0) (2 ^ levels) (λ m lt. none (2 ^ levels + m) (omega arith)) ∙ below-zero (2 ^ levels)
    where
      none : (node : ℕ) → 0 < node → as_number (is_held_node words node levels) ≡ 0
      none node is = ap (λ b. as_number (b && not (has_occupied_above words node levels))) (not_occupied node is)

  no_processors : (n bound : ℕ) → below (λ k. held_regions words (n - k) * 2 ^ k) bound ≡ 0
  no_processors n bound = below-same _ (λ _. 0) bound (λ k lt. nothing k (none_held (n - k))) ∙ below-zero bound
    where
      nothing : (k : ℕ) → held_regions words (n - k) ≡ 0 → held_regions words (n - k) * 2 ^ k ≡ 0
      nothing k none = let e : held_regions words (n - k) * 2 ^ k ≡ 0 * 2 ^ k = ap (λ (held : ℕ). held * 2 ^ k) none in omega (arith, e)

-- the largest dimension of a free region is the machine's
largest_is : (n : ℕ) (free : List ℕ) (largest : Option ℕ)
    → 0 < slice_index free n
    → ((k : ℕ) → n < k → slice_index free k ≡ 0)
    → IsLargestFree free largest
    → largest ≡ Some n
largest_is n free None some above is = absurd (omega (arith, is n))
largest_is n free (Some k) some above is = by_order (cases_order n k)
  where
    by_order : (n ≡ k) ⊎ ((n < k) ⊎ (k < n)) → ◌≡◌ {A = Option ℕ} (Some k) (Some n)
    by_order (inl e) = ap Some (sym e)
    by_order (inr (inl lt)) = absurd (omega (arith, above k lt, is.0))
    by_order (inr (inr lt)) = absurd (omega (arith, is.1 n lt, some))

pub empty_machine : (n : ℕ) (words : List ℕ) (occupancy : Occupancy)
    → ((k : ℕ) → k ≤ n → slice_index occupancy.free k ≡ free_regions words (n - k))
    → ((k : ℕ) → n < k → slice_index occupancy.free k ≡ 0)
    → occupancy.held ≡ held_processors n words
    → IsLargestFree occupancy.free occupancy.largest
    → ((node : ℕ) → 0 < node → slice_index words node ≡ 0)
    → IsEmptyMachine n occupancy
empty_machine n words occupancy free no_higher held largest nodes =
    let some : 1 ≤ 2 ^ (n - n) = one-le-pow (n - n) 2 (omega arith) in record {
      free = all;
      held = held ∙ no_processors words nodes n (n + 1);
      largest = largest_is n occupancy.free occupancy.largest (omega (arith, all n (omega arith), some)) no_higher largest;
    }
  where
    all : (k : ℕ) → k ≤ n → slice_index occupancy.free k ≡ 2 ^ (n - k)
    all k le = free k le ∙ all_free words nodes (n - k)

-- ---- the largest dimension of a free region

pub largest_found : (dim : ℕ) (free : List ℕ)
    → 0 < slice_index free dim
    → IsLargestBelow (dim + 1) free (Some dim)
largest_found dim free some = (omega arith, some, λ j after before. absurd (omega arith))

pub largest_kept : (dim : ℕ) (free : List ℕ) (largest : Option ℕ)
    → slice_index free dim ≡ 0
    → IsLargestBelow dim free largest
    → IsLargestBelow (dim + 1) free largest
largest_kept dim free None none is = each
  where
    each : (j : ℕ) → j < dim + 1 → slice_index free j ≡ 0
    each j before = by_order (cases_order j dim)
      where
        by_order : (j ≡ dim) ⊎ ((j < dim) ⊎ (dim < j)) → slice_index free j ≡ 0
        by_order (inl e) = ap (slice_index free) e ∙ none
        by_order (inr (inl lt)) = is j lt
        by_order (inr (inr lt)) = absurd (omega arith)
largest_kept dim free (Some k) none is = (omega (arith, is.0), is.1, later)
  where
    later : (j : ℕ) → k < j → j < dim + 1 → slice_index free j ≡ 0
    later j after before = by_order (cases_order j dim)
      where
        by_order : (j ≡ dim) ⊎ ((j < dim) ⊎ (dim < j)) → slice_index free j ≡ 0
        by_order (inl e) = ap (slice_index free) e ∙ none
        by_order (inr (inl lt)) = is.2 j after lt
        by_order (inr (inr lt)) = absurd (omega arith)

pub largest_whole : (free : List ℕ) (largest : Option ℕ)
    → IsLargestBelow (length free) free largest
    → IsLargestFree free largest
largest_whole free None is = each
  where
    each : (j : ℕ) → slice_index free j ≡ 0
    each j = by_order (cases_order j (length free))
      where
        by_order : (j ≡ length free) ⊎ ((j < length free) ⊎ (length free < j))
            → slice_index free j ≡ 0
        by_order (inl e) = get_or_past free j 0 (omega arith)
        by_order (inr (inl lt)) = is j lt
        by_order (inr (inr lt)) = get_or_past free j 0 (omega arith)
largest_whole free (Some k) is = (is.1, later)
  where
    later : (j : ℕ) → k < j → slice_index free j ≡ 0
    later j after = by_order (cases_order j (length free))
      where
        by_order : (j ≡ length free) ⊎ ((j < length free) ⊎ (length free < j))
            → slice_index free j ≡ 0
        by_order (inl e) = get_or_past free j 0 (omega arith)
        by_order (inr (inl lt)) = is.2 j after lt
        by_order (inr (inr lt)) = get_or_past free j 0 (omega arith)
