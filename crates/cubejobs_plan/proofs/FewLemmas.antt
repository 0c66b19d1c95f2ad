-- There are at most as many jobs as slots.
use Rattle.std.proofs.Common.{◌≡◌, ℕ, zero, suc, ◌<◌, ◌≤◌, inl, inr, List, [], ◌∷◌, ◌++◌, length, sym, ◌∙◌, subst, arith}
use Rattle.std.proofs.lemmas.List.{length-append}
use Rattle.alloc_bits.specs.Count.{IsCount}
use Rattle.sched_jobs.specs.Lists.{Has, IsRising}
use Rattle.sched_jobs.specs.Nodes.{key_of}
use Rattle.sched_jobs.specs.declared.nodes.TheConstants.{MAX_SLOTS}
use Rattle.sched_jobs.proofs.ListLemmas.{has_cases, rising_append, rising_few}
use Rattle.sched_law.specs.State.{Sched}
use Rattle.sched_jobs.specs.Slots.{IsPresent}
use Rattle.sched_jobs.proofs.SlotLemmas.{inside_table}
use Rattle.sched_core.specs.declared.scheduler.Core.{Core}
use Rattle.sched_core.specs.Shows.{ShowsCore}

module _ (w : Sched) (core : Core) (k : ShowsCore w core) (P : ℕ → Type 0) (present : (i : ℕ) → P i → IsPresent (w.place i)) where
  -- the slots of the jobs below a number, in the order of their numbers
  slots_below : (n count : ℕ) → IsCount P n count
      → (xs : List ℕ) × (length xs ≡ count) × IsRising core.jobs.lines.nodes.items xs
      × ((u : ℕ) → Has xs u → (u < length core.jobs.slots.items) × (key_of core.jobs.lines.nodes.items u < n))
  slots_below zero count is = ([], sym is, tt, λ u has. absurd has)
  slots_below (suc m) count (inl (has, (before, is, counted))) =
      let nodes = core.jobs.lines.nodes.items in
      let rest = slots_below m before counted in
      let slot = k.jobs.1.slot m (present m has) in
      let inside : slot.0 < length core.jobs.slots.items = inside_table core.jobs.slots.items slot.0 slot.1 in
      let key : key_of nodes slot.0 ≡ m = slot.2 in (
        rest.0 ++ (slot.0 ∷ []),
        length-append rest.0 (slot.0 ∷ []) ∙ omega (arith, rest.1, is),
        rising_append nodes rest.0 (slot.0 ∷ []) rest.2 ((λ u none. absurd none), tt) (λ u v has_u has_v. elim has_v [
          | inl same ↦ let less = (rest.3 u has_u).1 in subst (λ (x : ℕ). key_of nodes u < key_of nodes x) (sym same) (omega (arith, less, key))
          | inr none ↦ absurd none
        ]),
        λ u has_u. elim (has_cases rest.0 (slot.0 ∷ []) u has_u) [
          | inl before_it ↦ let both = rest.3 u before_it in let less = both.1 in (both.0, omega (arith, less))
          | inr one ↦ elim one [
            | inl same ↦ subst (λ (x : ℕ). (x < length core.jobs.slots.items) × (key_of nodes x < suc m)) (sym same) (inside, omega (arith, key))
            | inr none ↦ absurd none
          ]
        ],
      )
  slots_below (suc m) count (inr (none, counted)) =
      let rest = slots_below m count counted in
      (rest.0, rest.1, rest.2, λ u has. (let both = rest.3 u has in let less = both.1 in (both.0, omega (arith, less))))

  pub jobs_few : (n count : ℕ) → IsCount P n count → count ≤ MAX_SLOTS
  jobs_few n count is =
      let found = slots_below n count is in
      let most = rising_few core.jobs.lines.nodes.items found.0 (length core.jobs.slots.items) found.2 (λ u has. (found.3 u has).0) in
      omega (arith, found.1, most, k.jobs.1.limit)
