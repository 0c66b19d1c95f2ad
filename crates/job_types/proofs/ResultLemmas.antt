-- What the rounds make of a job's places, stated of its items and of its operation.
use Rattle.std.proofs.Common.{◌≡◌, ℕ, ◌+◌, ◌-◌, ◌^◌, ◌<◌, ◌≤◌, inl, inr, List, ◌++◌, length, take, refl, sym, ap, subst, ◌∙◌, arith}
use Rattle.std.specs.Prelude.{replicate, Some, All, slice_get, ◌==◌, if◌then◌else◌}
use Rattle.std.proofs.lemmas.Bool.{cases_Bool}
use Rattle.std.proofs.lemmas.List.{get_or_append_left, length-append}
use Rattle.std.proofs.lemmas.List.Elements.{All-take}
use Rattle.std.proofs.Math.Seq.{take-append_seam}
use Rattle.std.proofs.lemmas.Option.{slice_get-get_or}
use Rattle.collectives.specs.Laws.{MonoidLaws}
use Rattle.collectives.specs.Operations.{IsU64}
use Rattle.collectives.specs.Places.{Holds, padded, total, prefix_total}
use Rattle.collectives.proofs.PadLemmas.{total_padded, prefix_padded}
use Rattle.job_types.specs.declared.kind.Op.{Op}
use Rattle.job_types.specs.declared.kind.Op.TheVariants.{Add}
use Rattle.job_types.specs.declared.kind.Kind.TheVariants.{Broadcast, Reduce, AllReduce, Scan, ExScan}
use Rattle.job_types.specs.Collective.{join, unit_of, total_of, prefix_of}
use Rattle.job_types.specs.Inner.Collective.{MakesResult}
use Rattle.job_types.proofs.RefusalLemmas.{root_below}

-- an item is at its own place, whatever comes after the items
item_in_front : (items after : List ℕ) (place : ℕ) → place < length items
    → slice_get (items ++ after) place ≡ slice_get items place
item_in_front items after place within =
    let front : place < length (items ++ after) = omega (arith, length-append items after) in
    slice_get-get_or (items ++ after) place 0 front ∙ ap Some (get_or_append_left items after 0 place within) ∙ sym (slice_get-get_or items place 0 within)

module _ (op : Op) {unit : ℕ} {joined : ℕ → ℕ → ℕ}
    (is_unit : unit ≡ unit_of op) (is_join : joined ≡ join op)
    (laws : MonoidLaws IsU64 unit joined) where
  total-is : (items : List ℕ) → total joined unit items ≡ total_of op items
  total-is items =
      ap (λ (f : ℕ → ℕ → ℕ). total f unit items) is_join ∙ ap (λ (n : ℕ). total (join op) n items) is_unit

  -- the items of a job whose places are these
  module _ (k : ℕ) (old items : List ℕ) (values : All IsU64 old)
      (are : old ≡ padded (unit_of op) k items) where
    places : old ≡ padded unit k items
    places = are ∙ ap (λ (n : ℕ). padded n k items) (sym is_unit)

    item_values : All IsU64 items
    item_values =
        subst (All IsU64) (take-append_seam items (replicate (2 ^ k - length items) unit))
        (All-take IsU64 (length items) (padded unit k items) (subst (All IsU64) places values))

    -- the total of all places is that of the items
    total_shown : total joined unit old ≡ total_of op items
    total_shown = ap (total joined unit) places ∙ total_padded laws k items item_values ∙ total-is items

    -- and that of the first places is that of the items at these
    prefix_shown : (count : ℕ) → count ≤ length items
        → prefix_total joined unit old count ≡ prefix_of op items count
    prefix_shown count within =
        ap (λ (numbers : List ℕ). prefix_total joined unit numbers count) places
        ∙ prefix_padded joined unit k items count within
        ∙ total-is (take count items)

  -- the places before and after the rounds
  module _ (k : ℕ) (old new : List ℕ) (values : All IsU64 old) where
    pub reduce_result : (root : ℕ)
        → Holds new k (λ rank. if rank == root then total joined unit old else unit)
        → MakesResult (Reduce op root) k old new
    reduce_result root holds items are place within = elim (cases_Bool (place == root)) [
      | inl here ↦ (
          let held = holds place (omega (arith, within, are.fits)) in
          let value : slice_get new place ≡ Some (total joined unit old) = rw here at held in
          rw here (value ∙ ap Some (total_shown k old items values are.padded)))
      | inr elsewhere ↦ rw elsewhere refl
    ]

    pub all_reduce_result : Holds new k (λ rank. total joined unit old)
        → MakesResult (AllReduce op) k old new
    all_reduce_result holds items are place within =
        holds place (omega (arith, within, are.fits)) ∙ ap Some (total_shown k old items values are.padded)

    -- the first items at each place, as many as `count` says, which depends on the place
    prefix_held : (count : ℕ → ℕ) → Holds new k (λ rank. prefix_total joined unit old (count rank))
        → (items : List ℕ) → length items ≤ 2 ^ k → old ≡ padded (unit_of op) k items
        → (place : ℕ) → place < length items → count place ≤ length items
        → slice_get new place ≡ Some (prefix_of op items (count place))
    prefix_held count holds items fits are place within counted =
        holds place (omega (arith, within, fits))
        ∙ ap Some (prefix_shown k old items values are (count place) counted)

    pub scan_result : Holds new k (λ rank. prefix_total joined unit old (rank + 1))
        → MakesResult (Scan op) k old new
    scan_result holds items are place within =
        prefix_held (λ rank. rank + 1) holds items are.fits are.padded place within (omega (arith, within))

    pub exscan_result : Holds new k (λ rank. prefix_total joined unit old rank)
        → MakesResult (ExScan op) k old new
    exscan_result holds items are place within =
        prefix_held (λ rank. rank) holds items are.fits are.padded place within (omega (arith, within))

-- every place has the item of the root
pub broadcast_result : (k root : ℕ) (old new : List ℕ)
    → ((rank : ℕ) → rank < 2 ^ k → slice_get new rank ≡ slice_get old root)
    → MakesResult (Broadcast root) k old new
broadcast_result k root old new held items are place within =
    let inside : place < 2 ^ k = omega (arith, within, are.fits) in
    let below = root_below root (length items) are.rooted in
    held place inside
    ∙ ap (λ (numbers : List ℕ). slice_get numbers root) are.padded
    ∙ item_in_front items (replicate (2 ^ k - length items) (unit_of Add)) root below
