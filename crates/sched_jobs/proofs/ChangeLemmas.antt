-- What a change of one slot does to the table.
use Rattle.std.proofs.Common.{◌≡◌, ◌≢◌, ℕ, ◌+◌, ◌<◌, ◌≤◌, ◌⊎◌, inl, inr, List, [], ◌∷◌, length, replicate, refl, sym, ◌∙◌, ap, subst, arith}
use Rattle.std.proofs.lemmas.Bool.{cases_eq, cases_lt}
use Rattle.std.proofs.lemmas.List.{get_or_past}
use Rattle.sched_jobs.specs.declared.nodes.TheConstants.{MAX_SLOTS}
use Rattle.sched_jobs.specs.declared.nodes.QueueNode.{QueueNode as NodeData}
use Rattle.sched_jobs.specs.Nodes.{estimate_of, key_of}
use Rattle.sched_law.specs.declared.job.Place.{Place}
use Rattle.sched_law.specs.declared.job.Place.TheVariants.{Absent}
use Rattle.sched_law.specs.State.{set}
use Rattle.sched_law.proofs.SetLemmas.{set_else, set_here}
use Rattle.sched_jobs.specs.declared.slots.TheConstants.{MAX_GENERATION}
use Rattle.sched_jobs.specs.declared.slots.Slot.{Slot}
use Rattle.sched_jobs.specs.Slots.{IsPresent, before_of, generation_in, next_after, place_by, place_in, slot_in, unused}
use Rattle.sched_jobs.specs.Shows.{AreFree, IsIn, ShowsSlots}
use Rattle.sched_jobs.specs.Inner.Put.{HasKey, HasLink, HasPut}
use Rattle.sched_jobs.proofs.SlotLemmas.{absent_or_present, generation_else, generation_here, inside_table, not_both, place_else, place_here}
use Rattle.sched_jobs.proofs.FreeLemmas.{all_unused, first_inside, free_absent, free_inside, free_kept, link_absent, link_inside, run, run_free, run_has}
use Rattle.sched_jobs.proofs.LinkLemmas.{before_in, pushed, unlinked}

module _ (f : ℕ → Place) (next first : ℕ) (slots new : List Slot) (nodes after : List NodeData) (at a c generation : ℕ) (p : Place)
    (k : ShowsSlots f next first slots nodes) (put : HasPut slots new at generation p) (key : HasKey nodes after at c) (mine : IsPresent p → c ≡ a)
    (few : generation ≤ MAX_GENERATION) (some : IsPresent p → 0 < generation)
    (still : (u : ℕ) → IsPresent (place_in slots u) → u ≡ at → key_of nodes u ≡ a)
    (apart : (u : ℕ) → u ≢ at → IsPresent (place_in slots u) → key_of nodes u ≢ a) where
  here : (u : ℕ) → u ≡ at → IsPresent (place_in new u) → IsPresent p
  here u same present = subst IsPresent (place_here slots new at generation p put u same) present

  else : (u : ℕ) → u ≢ at → IsPresent (place_in new u) → IsPresent (place_in slots u)
  else u other present = subst IsPresent (place_else slots new at generation p put u other) present

  key_here : (u : ℕ) → u ≡ at → key_of after u ≡ c
  key_here u same = ap (key_of after) same ∙ key.here

  number : (u : ℕ) → u ≡ at → IsPresent (place_in new u) → key_of after u ≡ a
  number u same present = key_here u same ∙ mine (here u same present)

  pub now_generations : (u : ℕ) → generation_in new u ≤ MAX_GENERATION
  now_generations u = elim (cases_eq u at) [
    | inl same ↦ subst (λ (g : ℕ). g ≤ MAX_GENERATION) (sym (generation_here slots new at generation p put u same)) few
    | inr other ↦ subst (λ (g : ℕ). g ≤ MAX_GENERATION) (sym (generation_else slots new at generation p put u other)) (k.generations u)
  ]

  pub now_used : (u : ℕ) → IsPresent (place_in new u) → 0 < generation_in new u
  now_used u present = elim (cases_eq u at) [
    | inl same ↦ subst (λ (g : ℕ). 0 < g) (sym (generation_here slots new at generation p put u same)) (some (here u same present))
    | inr other ↦ subst (λ (g : ℕ). 0 < g) (sym (generation_else slots new at generation p put u other)) (k.used u (else u other present))
  ]

  pub now_holds : (u : ℕ) → IsPresent (place_in new u) → set f a p (key_of after u) ≡ place_in new u
  now_holds u present = elim (cases_eq u at) [
    | inl same ↦ ap (set f a p) (number u same present) ∙ set_here f a p ∙ sym (place_here slots new at generation p put u same)
    | inr other ↦
        let old = else u other present in
        ap (set f a p) (key.others u other) ∙ set_else f a p (key_of nodes u) (apart u other old)
        ∙ k.holds u old ∙ sym (place_else slots new at generation p put u other)
  ]

  pub now_before : (next2 : ℕ) → next ≤ next2 → (IsPresent p → a < next2) → (u : ℕ) → IsPresent (place_in new u) → key_of after u < next2
  now_before next2 more own u present = elim (cases_eq u at) [
    | inl same ↦ subst (λ (x : ℕ). x < next2) (sym (number u same present)) (own (here u same present))
    | inr other ↦
        let old : key_of nodes u < next = k.before u (else u other present) in
        let less : key_of nodes u < next2 = omega (arith, old, more) in
        subst (λ (x : ℕ). x < next2) (sym (key.others u other)) less
  ]

  pub now_slot : (b : ℕ) → IsPresent (set f a p b) → (u : ℕ) × IsPresent (place_in new u) × (key_of after u ≡ b)
  now_slot b present = elim (cases_eq b a) [
    | inl same ↦
        let own : IsPresent p = subst IsPresent (ap (set f a p) same ∙ set_here f a p) present in
        (at, subst IsPresent (sym (place_here slots new at generation p put at refl)) own, key_here at refl ∙ mine own ∙ sym same)
    | inr other ↦
        let found = k.slot b (subst IsPresent (set_else f a p b other) present) in
        let away : found.0 ≢ at = λ same. other (sym found.2 ∙ still found.0 found.1 same) in
        (found.0, subst IsPresent (sym (place_else slots new at generation p put found.0 away)) found.1, key.others found.0 away ∙ found.2)
  ]

  pub now_once : (u v : ℕ) → IsPresent (place_in new u) → IsPresent (place_in new v) → key_of after u ≡ key_of after v → u ≡ v
  now_once u v pu pv one = elim (cases_eq u at) [
    | inl u_at ↦ elim (cases_eq v at) [
      | inl v_at ↦ u_at ∙ sym v_at
      | inr v_not ↦ absurd (apart v v_not (else v v_not pv) (sym (key.others v v_not) ∙ sym one ∙ number u u_at pu))
    ]
    | inr u_not ↦ elim (cases_eq v at) [
      | inl v_at ↦ absurd (apart u u_not (else u u_not pu) (sym (key.others u u_not) ∙ one ∙ number v v_at pv))
      | inr v_not ↦ k.once u v (else u u_not pu) (else v v_not pv) (sym (key.others u u_not) ∙ one ∙ key.others v v_not)
    ]
  ]

  pub changed : (next2 first2 : ℕ) (list : List ℕ) → next ≤ next2 → (IsPresent p → a < next2) → AreFree new after first2 list
      → ((u : ℕ) → u < length new → place_in new u ≡ Absent → IsIn u list ⊎ (generation_in new u ≡ MAX_GENERATION)) → ShowsSlots (set f a p) next2 first2 new after
  changed next2 first2 list more own free all = record {
    limit = subst (λ n. n ≤ MAX_SLOTS) (sym put.len) k.limit;
    generations = now_generations;
    used = now_used;
    holds = now_holds;
    before = now_before next2 more own;
    slot = now_slot;
    once = now_once;
    list = list;
    free = free;
    all = all;
  }

-- another slot without a job is free or retired as before
pub all_else : (f : ℕ → Place) (next first : ℕ) (slots new : List Slot) (nodes : List NodeData) (at generation : ℕ) (p : Place)
    → (k : ShowsSlots f next first slots nodes) → HasPut slots new at generation p → (u : ℕ) → u ≢ at
    → u < length new → place_in new u ≡ Absent → IsIn u k.list ⊎ (generation_in new u ≡ MAX_GENERATION)
all_else f next first slots new nodes at generation p k put u other within absent =
    elim (k.all u (subst (λ (n : ℕ). u < n) put.len within) (sym (place_else slots new at generation p put u other) ∙ absent)) [
      | inl has ↦ inl has
      | inr retired ↦ inr (generation_else slots new at generation p put u other ∙ retired)
    ]

-- the first slot of a table that is not full
pub has_free : (slots : List Slot) (nodes : List NodeData) (first : ℕ) (list : List ℕ) → AreFree slots nodes first list → first < length slots
    → (rest : List ℕ) × (list ≡ first ∷ rest) × AreFree slots nodes first (first ∷ rest)
has_free slots nodes first [] is inside = absurd (omega (arith, is, inside))
has_free slots nodes first (u ∷ rest) is inside =
    (rest, ap (λ (x : ℕ). x ∷ rest) (sym is.0), subst (λ (x : ℕ). AreFree slots nodes first (x ∷ rest)) (sym is.0) is)

module _ (f : ℕ → Place) (next first : ℕ) (slots : List Slot) (nodes : List NodeData) (k : ShowsSlots f next first slots nodes) (inside : first < length slots) where
  pub first_absent : place_in slots first ≡ Absent
  first_absent = (has_free slots nodes first k.list k.free inside).2.2

  pub first_is_free : generation_in slots first < MAX_GENERATION
  first_is_free = (has_free slots nodes first k.list k.free inside).2.3

  pub after_inside : next_after first (key_of nodes first) ≤ MAX_SLOTS
  after_inside =
      let found = has_free slots nodes first k.list k.free inside in
      let within : next_after first (key_of nodes first) ≤ length slots = first_inside slots nodes (next_after first (key_of nodes first)) found.0 found.2.5 in
      omega (arith, within, k.limit)

-- the first free slot gets a new job
pub submit_shows : (f : ℕ → Place) (next first : ℕ) (slots new : List Slot) (nodes after : List NodeData) (generation : ℕ) (p : Place) → ShowsSlots f next first slots nodes
    → first < length slots → IsPresent p → generation ≡ generation_in slots first + 1 → HasPut slots new first generation p → HasKey nodes after first next
    → ((u : ℕ) → u ≢ first → estimate_of after u ≡ estimate_of nodes u)
    → ShowsSlots (set f next p) (next + 1) (next_after first (key_of nodes first)) new after
submit_shows f next first slots new nodes after generation p k inside present one_more put key backs =
    let found = has_free slots nodes first k.list k.free inside in
    let absent : place_in slots first ≡ Absent = found.2.2 in
    let fewer : generation_in slots first < MAX_GENERATION = found.2.3 in
    changed f next first slots new nodes after first next next generation p k put key (λ _. refl) (omega (arith, fewer, one_more)) (λ _. omega (arith, one_more))
    (λ u is same. absurd (not_both (place_in slots u) (ap (place_in slots) same ∙ absent) is))
    (λ u other is one. (let less : key_of nodes u < next = k.before u is in absurd (omega (arith, less, one))))
    (next + 1) (next_after first (key_of nodes first)) found.0 (omega arith) (λ _. omega arith)
    (free_kept slots new nodes after first next generation p (next_after first (key_of nodes first)) found.0 put key backs found.2.4 found.2.5)
    (λ u within none. elim (cases_eq u first) [
      | inl same ↦ absurd (not_both (place_in new u) none (subst IsPresent (sym (place_here slots new first generation p put u same)) present))
      | inr other ↦
          elim (all_else f next first slots new nodes first generation p k put u other within none) [
            | inl has ↦ elim (subst (IsIn u) found.1 has) [ inl same ↦ absurd (other same) | inr later ↦ inl later ]
            | inr retired ↦ inr retired
          ]
    ])

-- a slot of another job has another number
pub other_number : (f : ℕ → Place) (next first : ℕ) (slots : List Slot) (nodes : List NodeData) (at : ℕ) → ShowsSlots f next first slots nodes → IsPresent (place_in slots at)
    → (u : ℕ) → u ≢ at → IsPresent (place_in slots u) → key_of nodes u ≢ key_of nodes at
other_number f next first slots nodes at k present u other is one = other (k.once u at is present one)

-- a job has another place
pub replace_shows : (f : ℕ → Place) (next first : ℕ) (slots new : List Slot) (nodes after : List NodeData) (at generation : ℕ) (p : Place) → ShowsSlots f next first slots nodes
    → IsPresent (place_in slots at) → IsPresent p → generation ≡ generation_in slots at → HasPut slots new at generation p → HasKey nodes after at (key_of nodes at)
    → ((u : ℕ) → u ≢ at → estimate_of after u ≡ estimate_of nodes u)
    → ShowsSlots (set f (key_of nodes at) p) next first new after
replace_shows f next first slots new nodes after at generation p k was present same_one put key backs =
    let c = key_of nodes at in
    let none : IsIn at k.list → ⊥ = λ has. not_both (place_in slots at) (free_absent slots nodes first k.list at k.free has) was in
    changed f next first slots new nodes after at c c generation p k put key (λ _. refl)
    (subst (λ (g : ℕ). g ≤ MAX_GENERATION) (sym same_one) (k.generations at)) (λ _. subst (λ (g : ℕ). 0 < g) (sym same_one) (k.used at was))
    (λ u is same. ap (key_of nodes) same)
    (other_number f next first slots nodes at k was) next first k.list (omega arith) (λ _. k.before at was)
    (free_kept slots new nodes after at c generation p first k.list put key backs none k.free)
    (λ u within absent. elim (cases_eq u at) [
      | inl same ↦ absurd (not_both (place_in new u) absent (subst IsPresent (sym (place_here slots new at generation p put u same)) present))
      | inr other ↦ all_else f next first slots new nodes at generation p k put u other within absent
    ])

-- a job leaves its slot for ever
pub retire_shows : (f : ℕ → Place) (next first : ℕ) (slots new : List Slot) (nodes : List NodeData) (at generation : ℕ) → ShowsSlots f next first slots nodes
    → IsPresent (place_in slots at) → generation ≡ generation_in slots at → MAX_GENERATION ≤ generation → HasPut slots new at generation Absent
    → ShowsSlots (set f (key_of nodes at) Absent) next first new nodes
retire_shows f next first slots new nodes at generation k was same_one last put =
    let c = key_of nodes at in
    let few : generation ≤ MAX_GENERATION = subst (λ (g : ℕ). g ≤ MAX_GENERATION) (sym same_one) (k.generations at) in
    let none : IsIn at k.list → ⊥ = λ has. not_both (place_in slots at) (free_absent slots nodes first k.list at k.free has) was in
    let key : HasKey nodes nodes at c = record { here = refl; others = λ u other. refl } in
    changed f next first slots new nodes nodes at c c generation Absent k put key (λ _. refl) few (λ is. absurd is)
    (λ u is same. ap (key_of nodes) same)
    (other_number f next first slots nodes at k was) next first k.list (omega arith) (λ is. absurd is)
    (free_kept slots new nodes nodes at c generation Absent first k.list put key (λ u other. refl) none k.free)
    (λ u within absent. elim (cases_eq u at) [
      | inl same ↦ inr (generation_here slots new at generation Absent put u same ∙ omega (arith, few, last))
      | inr other ↦ all_else f next first slots new nodes at generation Absent k put u other within absent
    ])

-- a job leaves its slot, which is free now
pub clear_shows : (f : ℕ → Place) (next first : ℕ) (slots new : List Slot) (nodes after : List NodeData) (at generation : ℕ) → ShowsSlots f next first slots nodes → at < length slots
    → length nodes ≡ length slots → IsPresent (place_in slots at) → generation ≡ generation_in slots at → generation < MAX_GENERATION → HasPut slots new at generation Absent
    → HasLink nodes after at first → ShowsSlots (set f (key_of nodes at) Absent) next at new after
clear_shows f next first slots new nodes after at generation k inside count was same_one fewer put link =
    let none : IsIn at k.list → ⊥ = λ has. not_both (place_in slots at) (free_absent slots nodes first k.list at k.free has) was in
    let still : HasKey nodes nodes at (key_of nodes at) = record { here = refl; others = λ u other. refl } in
    let kept : AreFree new nodes first k.list = free_kept slots new nodes nodes at (key_of nodes at) generation Absent first k.list put still (λ u other. refl) none k.free in
    let key : HasKey nodes after at (first + 1) = record { here = link.here; others = link.others } in
    changed f next first slots new nodes after at (key_of nodes at) (first + 1) generation Absent k put key (λ is. absurd is) (omega (arith, fewer)) (λ is. absurd is)
    (λ u is same. ap (key_of nodes) same)
    (other_number f next first slots nodes at k was) next at (at ∷ k.list) (omega arith) (λ is. absurd is)
    (pushed new nodes after at first k.list (count ∙ sym put.len) (subst (λ (n : ℕ). at < n) (sym put.len) inside) (place_here slots new at generation Absent put at refl)
    (subst (λ (g : ℕ). g < MAX_GENERATION) (sym (generation_here slots new at generation Absent put at refl)) fewer) none link kept)
    (λ u within absent. elim (cases_eq u at) [
      | inl same ↦ inl (inl same)
      | inr other ↦ elim (all_else f next first slots new nodes at generation Absent k put u other within absent) [
        | inl has ↦ inl (inr has)
        | inr retired ↦ inr retired
      ]
    ])

-- a job is in no slot without one
pub job_apart : (slots : List Slot) (v u : ℕ) → (v < length slots → place_in slots v ≡ Absent) → IsPresent (place_in slots u) → u ≢ v
job_apart slots v u absent present same =
    let within : v < length slots = subst (λ (x : ℕ). x < length slots) same (inside_table slots u present) in
    not_both (place_in slots u) (ap (place_in slots) same ∙ absent within) present

-- the list of free slots changes, and no number of a job
pub relinked_shows : (f : ℕ → Place) (next first to : ℕ) (slots : List Slot) (nodes after : List NodeData) (list : List ℕ) → (k : ShowsSlots f next first slots nodes)
    → ((u : ℕ) → IsPresent (place_in slots u) → key_of after u ≡ key_of nodes u) → AreFree slots after to list → ((u : ℕ) → IsIn u k.list → IsIn u list)
    → ShowsSlots f next to slots after
relinked_shows f next first to slots nodes after list k keys free more = record {
  limit = k.limit;
  generations = k.generations;
  used = k.used;
  holds = λ u present. ap f (keys u present) ∙ k.holds u present;
  before = λ u present. subst (λ (x : ℕ). x < next) (sym (keys u present)) (k.before u present);
  slot = λ a present. (let found = k.slot a present in (found.0, found.1, keys found.0 found.1 ∙ found.2));
  once = λ u v pu pv one. k.once u v pu pv (sym (keys u pu) ∙ one ∙ keys v pv);
  list = list;
  free = free;
  all = λ u within absent. elim (k.all u within absent) [ inl has ↦ inl (more u has) | inr retired ↦ inr retired ];
}

-- a free slot that is not the first
module _ (f : ℕ → Place) (next first : ℕ) (slots : List Slot) (nodes : List NodeData) (slot : ℕ) (k : ShowsSlots f next first slots nodes) (inside : slot < length slots)
    (absent : place_in slots slot ≡ Absent) (fewer : generation_in slots slot < MAX_GENERATION) where
  pub free_listed : IsIn slot k.list
  free_listed = elim (k.all slot inside absent) [ inl has ↦ has | inr retired ↦ absurd (omega (arith, fewer, retired)) ]

  pub before_listed : slot ≢ first → IsIn (before_of slot (estimate_of nodes slot)) k.list
  before_listed away = before_in slots nodes first k.list slot k.free free_listed away

  pub before_inside : slot ≢ first → before_of slot (estimate_of nodes slot) < length slots
  before_inside away = free_inside slots nodes first k.list (before_of slot (estimate_of nodes slot)) k.free (before_listed away)

  pub before_absent : slot ≢ first → place_in slots (before_of slot (estimate_of nodes slot)) ≡ Absent
  before_absent away = free_absent slots nodes first k.list (before_of slot (estimate_of nodes slot)) k.free (before_listed away)

  pub after_within : next_after slot (key_of nodes slot) ≤ length slots
  after_within = link_inside slots nodes first k.list slot k.free free_listed

  pub after_absent : next_after slot (key_of nodes slot) < length slots → place_in slots (next_after slot (key_of nodes slot)) ≡ Absent
  after_absent less = link_absent slots nodes first k.list slot k.free free_listed less

  module _ (mid after : List NodeData) (before next_slot : ℕ) (away : slot ≢ first) (is_before : before ≡ before_of slot (estimate_of nodes slot))
      (is_next : next_slot ≡ next_after slot (key_of nodes slot)) (unlink : HasLink nodes mid before next_slot) (link : HasLink mid after slot first) where
    -- jobs keep their numbers and their ranks
    pub forward_keys : (u : ℕ) → IsPresent (place_in slots u) → key_of after u ≡ key_of nodes u
    forward_keys u present =
        link.others u (job_apart slots slot u (λ _. absent) present)
        ∙ unlink.others u (job_apart slots before u (λ _. ap (place_in slots) is_before ∙ before_absent away) present)

    pub forward_ranks : (u : ℕ) → IsPresent (place_in slots u) → estimate_of after u ≡ estimate_of nodes u
    forward_ranks u present =
        link.backs u (job_apart slots first u (λ within. first_absent f next first slots nodes k within) present)
        ∙ unlink.backs u (job_apart slots next_slot u (λ within. ap (place_in slots) is_next ∙ after_absent (subst (λ (x : ℕ). x < length slots) is_next within)) present)

    -- it becomes the first
    pub forward_shows : length nodes ≡ length slots → ShowsSlots f next slot slots after
    forward_shows count =
        let got = unlinked slots nodes mid slot before next_slot count unlink is_before is_next first k.list k.free free_listed away in
        relinked_shows f next first slot slots nodes after (slot ∷ got.left) k forward_keys
        (pushed slots mid after slot first got.left (unlink.len ∙ count) inside absent fewer got.none link got.free)
        (λ u has. elim (cases_eq u slot) [ inl same ↦ inl same | inr other ↦ inr (got.others u other has) ])

-- each slot of a full table has a job or is retired
pub full_has : (f : ℕ → Place) (next first : ℕ) (slots : List Slot) (nodes : List NodeData) → ShowsSlots f next first slots nodes → length slots ≤ first → (u : ℕ) → u < length slots
    → IsPresent (place_in slots u) ⊎ ((place_in slots u ≡ Absent) × (generation_in slots u ≡ MAX_GENERATION))
full_has f next first slots nodes k full u within = elim (absent_or_present (place_in slots u)) [
  | inl absent ↦ elim (k.all u within absent) [ inl has ↦ absurd (none_in k.list k.free has) | inr retired ↦ inr (absent, retired) ]
  | inr present ↦ inl present
]
  where
    none_in : (list : List ℕ) → AreFree slots nodes first list → IsIn u list → ⊥
    none_in [] is has = has
    none_in (v ∷ rest) is has = omega (arith, is.0, is.1, full)

-- a table without a job
pub initial_shows : (slots : List Slot) (nodes : List NodeData) (n : ℕ) → n ≤ MAX_SLOTS → slots ≡ replicate n unused → length slots ≡ n
    → ((u : ℕ) → key_of nodes u ≡ 0) → ((u : ℕ) → estimate_of nodes u ≡ 0) → ShowsSlots (λ j. Absent) 0 0 slots nodes
initial_shows slots nodes n limit is len links backs = record {
  limit = omega (arith, limit, len);
  generations = λ u. (let none : generation_in slots u ≡ 0 = ap (λ (s : Slot). s.generation) (at_first u) in omega (arith, none));
  used = λ u present. absurd (never u present);
  holds = λ u present. absurd (never u present);
  before = λ u present. absurd (never u present);
  slot = λ a present. absurd present;
  once = λ u v pu pv one. absurd (never u pu);
  list = run n 0;
  free = run_free slots nodes n 0 (omega (arith, len)) absent (λ u. ap (λ (s : Slot). s.generation) (at_first u)) links backs;
  all = λ u within none. inl (run_has n 0 u (omega arith) (omega (arith, within, len)));
}
  where
    at_first : (u : ℕ) → slot_in slots u ≡ unused
    at_first u = elim (cases_lt u (length slots)) [
      | inl within ↦ ap (λ (xs : List Slot). slot_in xs u) is ∙ all_unused n u (omega (arith, within, len))
      | inr past ↦ get_or_past slots u unused past
    ]

    absent : (u : ℕ) → place_in slots u ≡ Absent
    absent u = ap (λ (s : Slot). place_by s s.phase) (at_first u)

    never : (u : ℕ) → IsPresent (place_in slots u) → ⊥
    never u present = not_both (place_in slots u) (absent u) present
