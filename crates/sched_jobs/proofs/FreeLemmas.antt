-- The list of free slots.
use Rattle.std.proofs.Common.{◌≡◌, ◌≢◌, ℕ, zero, suc, ◌+◌, ◌<◌, ◌≤◌, inl, inr, List, [], ◌∷◌, length, replicate, refl, sym, ◌∙◌, ap, subst, arith}
use Rattle.std.proofs.lemmas.Bool.{cases_eq}
use Rattle.std.proofs.lemmas.List.{get_or-replicate}
use Rattle.sched_jobs.specs.declared.nodes.QueueNode.{QueueNode as NodeData}
use Rattle.sched_jobs.specs.Nodes.{estimate_of, key_of}
use Rattle.sched_law.specs.declared.job.Place.{Place}
use Rattle.sched_law.specs.declared.job.Place.TheVariants.{Absent}
use Rattle.sched_jobs.specs.declared.slots.TheConstants.{MAX_GENERATION}
use Rattle.sched_jobs.specs.declared.slots.Slot.{Slot}
use Rattle.sched_jobs.specs.Slots.{before_of, generation_in, next_after, place_in, slot_in, unused}
use Rattle.sched_jobs.specs.Shows.{AreFree, HasBack, IsIn}
use Rattle.sched_jobs.specs.Inner.Put.{HasKey, HasPut}
use Rattle.sched_jobs.proofs.SlotLemmas.{generation_else, place_else}

-- the first free slot is at most the number of slots
pub first_inside : (slots : List Slot) (nodes : List NodeData) (first : ℕ) (list : List ℕ) → AreFree slots nodes first list → first ≤ length slots
first_inside slots nodes first [] is = omega (arith, is)
first_inside slots nodes first (u ∷ rest) is = omega (arith, is.0, is.1)

-- a slot of the list has no job
pub free_absent : (slots : List Slot) (nodes : List NodeData) (first : ℕ) (list : List ℕ) (u : ℕ) → AreFree slots nodes first list → IsIn u list → place_in slots u ≡ Absent
free_absent slots nodes first [] u is has = absurd has
free_absent slots nodes first (v ∷ rest) u is (inl same) = ap (place_in slots) same ∙ is.2
free_absent slots nodes first (v ∷ rest) u is (inr later) = free_absent slots nodes (next_after v (key_of nodes v)) rest u is.5 later

-- and is one of the table
pub free_inside : (slots : List Slot) (nodes : List NodeData) (first : ℕ) (list : List ℕ) (u : ℕ) → AreFree slots nodes first list → IsIn u list → u < length slots
free_inside slots nodes first [] u is has = absurd has
free_inside slots nodes first (v ∷ rest) u is (inl same) = subst (λ (x : ℕ). x < length slots) (sym same) is.1
free_inside slots nodes first (v ∷ rest) u is (inr later) = free_inside slots nodes (next_after v (key_of nodes v)) rest u is.5 later

-- the slot after one of the list is at most the number of slots
pub link_inside : (slots : List Slot) (nodes : List NodeData) (first : ℕ) (list : List ℕ) (u : ℕ) → AreFree slots nodes first list → IsIn u list
    → next_after u (key_of nodes u) ≤ length slots
link_inside slots nodes first [] u is has = absurd has
link_inside slots nodes first (v ∷ rest) u is (inl same) =
    subst (λ (x : ℕ). next_after x (key_of nodes x) ≤ length slots) (sym same) (first_inside slots nodes (next_after v (key_of nodes v)) rest is.5)
link_inside slots nodes first (v ∷ rest) u is (inr later) = link_inside slots nodes (next_after v (key_of nodes v)) rest u is.5 later

-- the first slot of a list has no job
pub first_free : (slots : List Slot) (nodes : List NodeData) (first : ℕ) (list : List ℕ) → AreFree slots nodes first list → first < length slots → place_in slots first ≡ Absent
first_free slots nodes first [] is inside = absurd (omega (arith, is, inside))
first_free slots nodes first (u ∷ rest) is inside = ap (place_in slots) is.0 ∙ is.2

-- the slot after one of the list has no job
pub link_absent : (slots : List Slot) (nodes : List NodeData) (first : ℕ) (list : List ℕ) (u : ℕ) → AreFree slots nodes first list → IsIn u list
    → next_after u (key_of nodes u) < length slots → place_in slots (next_after u (key_of nodes u)) ≡ Absent
link_absent slots nodes first [] u is has inside = absurd has
link_absent slots nodes first (v ∷ rest) u is (inl same) inside = first_free slots nodes (next_after u (key_of nodes u)) rest
    (subst (λ (x : ℕ). AreFree slots nodes (next_after x (key_of nodes x)) rest) (sym same) is.5) inside
link_absent slots nodes first (v ∷ rest) u is (inr later) inside = link_absent slots nodes (next_after v (key_of nodes v)) rest u is.5 later inside

-- a back link that stays
pub back_stays : (before after : List NodeData) (u : ℕ) (rest : List ℕ) → ((v : ℕ) → IsIn v rest → estimate_of after v ≡ estimate_of before v) → HasBack before u rest
    → HasBack after u rest
back_stays before after u [] same is = tt
back_stays before after u (v ∷ rest) same is = ap (before_of v) (same v (inl refl)) ∙ is

-- a list whose slots and links stay; no slot looks at the back link of the first one
pub free_stays : (old new : List Slot) (before after : List NodeData) → length new ≡ length old → (first : ℕ) (list : List ℕ)
    → ((u : ℕ) → IsIn u list → (place_in new u ≡ place_in old u) × (generation_in new u ≡ generation_in old u) × (key_of after u ≡ key_of before u))
    → ((u : ℕ) → IsIn u list → u ≢ first → estimate_of after u ≡ estimate_of before u) → AreFree old before first list → AreFree new after first list
free_stays old new before after len first [] same backs is = is ∙ sym len
free_stays old new before after len first (u ∷ rest) same backs is =
    let mine = same u (inl refl) in
    let later : (v : ℕ) → IsIn v rest → estimate_of after v ≡ estimate_of before v =
    λ v has. backs v (inr has) (λ one. is.4 (subst (λ (x : ℕ). IsIn x rest) (one ∙ is.0) has)) in (
      is.0,
      omega (arith, len, is.1),
      mine.0 ∙ is.2,
      subst (λ (g : ℕ). g < MAX_GENERATION) (sym mine.1) is.3,
      is.4,
      subst (λ (x : ℕ). AreFree new after (next_after u x) rest) (sym mine.2)
          (free_stays old new before after len (next_after u (key_of before u)) rest (λ v has. same v (inr has)) (λ v has _. later v has) is.5),
      back_stays before after u rest later is.6,
    )

-- a write of another slot keeps the list
pub free_kept : (old new : List Slot) (before after : List NodeData) (at c generation : ℕ) (p : Place) (first : ℕ) (list : List ℕ) → HasPut old new at generation p
    → HasKey before after at c → ((u : ℕ) → u ≢ at → estimate_of after u ≡ estimate_of before u) → (IsIn at list → ⊥) → AreFree old before first list → AreFree new after first list
free_kept old new before after at c generation p first list put key backs none is =
    free_stays old new before after put.len first list
    (λ u has. (place_else old new at generation p put u (other u has), generation_else old new at generation p put u (other u has), key.others u (other u has)))
    (λ u has _. backs u (other u has)) is
  where
    other : (u : ℕ) → IsIn u list → u ≢ at
    other u has same = none (subst (λ (x : ℕ). IsIn x list) same has)

-- as many slots from one on
pub run : ℕ → ℕ → List ℕ
run zero s = []
run (suc m) s = s ∷ run m (s + 1)

pub run_from : (m s u : ℕ) → IsIn u (run m s) → s ≤ u
unfolding run
run_from zero s u has = absurd has
run_from (suc m) s u (inl same) = omega (arith, same)
run_from (suc m) s u (inr later) = omega (arith, run_from m (s + 1) u later)

pub run_has : (m s u : ℕ) → s ≤ u → u < s + m → IsIn u (run m s)
unfolding run
run_has zero s u from below = absurd (omega (arith, from, below))
run_has (suc m) s u from below = elim (cases_eq u s) [
  | inl same ↦ inl same
  | inr other ↦ inr (run_has m (s + 1) u (omega (arith, from, other)) (omega (arith, below)))
]

pub all_unused : (n u : ℕ) → u < n → slot_in (replicate n unused) u ≡ unused
all_unused n u within = get_or-replicate n u unused unused within

-- without back links the slot before is that before
run_back : (nodes : List NodeData) (m s : ℕ) → ((u : ℕ) → estimate_of nodes u ≡ 0) → HasBack nodes s (run m (s + 1))
unfolding run
run_back nodes zero s backs = tt
run_back nodes (suc m) s backs = ap (before_of (s + 1)) (backs (s + 1)) ∙ one_less s
  where
    one_less : (u : ℕ) → before_of (u + 1) 0 ≡ u
    one_less u = omega arith

pub run_free : (slots : List Slot) (nodes : List NodeData) (m s : ℕ) → s + m ≡ length slots
    → ((u : ℕ) → place_in slots u ≡ Absent) → ((u : ℕ) → generation_in slots u ≡ 0) → ((u : ℕ) → key_of nodes u ≡ 0) → ((u : ℕ) → estimate_of nodes u ≡ 0)
    → AreFree slots nodes s (run m s)
unfolding run
run_free slots nodes zero s end absent fresh links backs = omega (arith, end)
run_free slots nodes (suc m) s end absent fresh links backs =
    let inside : s < length slots = omega (arith, end) in
    let none : generation_in slots s ≡ 0 = fresh s in (
      refl,
      inside,
      absent s,
      omega (arith, none),
      λ has. absurd (omega (arith, run_from m (s + 1) s has)),
      subst (λ (x : ℕ). AreFree slots nodes (next_after s x) (run m (s + 1))) (sym (links s)) (run_free slots nodes m (s + 1) (omega (arith, end)) absent fresh links backs),
      run_back nodes m s backs,
    )
