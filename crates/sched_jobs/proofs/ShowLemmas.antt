-- The queues of the waiting jobs after a change of one slot.
use Rattle.std.proofs.Common.{◌≡◌, ◌≢◌, ℕ, ◌<◌, ◌≤◌, inl, inr, List, Option, None, length, replicate, refl, sym, ◌∙◌, ap, subst, arith}
use Rattle.std.proofs.lemmas.Bool.{cases_eq, cases_lt}
use Rattle.std.proofs.lemmas.List.{get_or_past}
use Rattle.sched_jobs.specs.declared.nodes.QueueNode.{QueueNode as NodeData}
use Rattle.sched_jobs.specs.Nodes.{estimate_of, key_of}
use Rattle.cube_shape.specs.declared.limits.TheConstants.{MAX_BITMAP_DIM}
use Rattle.sched_law.specs.declared.job.Place.{Place}
use Rattle.sched_law.specs.declared.job.Place.TheVariants.{Absent, Waiting}
use Rattle.sched_law.specs.declared.job.SchedWait.{SchedWait}
use Rattle.sched_law.specs.State.{set}
use Rattle.sched_law.proofs.SetLemmas.{absent_waits, set_else, set_here, wait_is}
use Rattle.sched_jobs.specs.declared.lines.TheConstants.{CLASSES}
use Rattle.sched_jobs.specs.declared.slots.Slot.{Slot}
use Rattle.sched_jobs.specs.declared.line_table.LineTable.{LineTable}
use Rattle.sched_jobs.specs.Slots.{IsPresent, line_of, place_by, place_in, rank_of, slot_in, unused}
use Rattle.sched_jobs.specs.Lines.{HasLines, rank_in, slots_of}
use Rattle.sched_jobs.specs.Inner.Joins.{MayJoin}
use Rattle.sched_jobs.specs.Shows.{ShowsSlots, ShowsWaiting}
use Rattle.sched_jobs.specs.Inner.Put.{HasPut}
use Rattle.sched_jobs.proofs.SlotLemmas.{in_line_present, place_else, place_here}
use Rattle.sched_jobs.proofs.FreeLemmas.{all_unused, free_stays}
use Rattle.sched_jobs.proofs.ChangeLemmas.{first_absent, relinked_shows}
use Rattle.sched_jobs.proofs.AlikeLemmas.{shown_alike}

-- one slot has another place, and the queues follow
pub waiting_changed : (slots new : List Slot) (lines after : LineTable) (at generation : ℕ) (p : Place) → ShowsWaiting slots lines → HasPut slots new at generation p
    → slots_of after ≡ slots_of lines → HasLines after (set (λ u. line_of (place_in slots u)) at (line_of p))
    → ((u : ℕ) → u ≢ at → IsPresent (place_in slots u) → rank_in after u ≡ rank_in lines u)
    → ((wait : SchedWait) → p ≡ Waiting wait → (rank_in after at ≡ rank_of wait.job.estimate) × (wait.job.class < CLASSES) × (wait.job.dim ≤ MAX_BITMAP_DIM))
    → ShowsWaiting new after
waiting_changed slots new lines after at generation p k put count shown ranks own = record {
  shown = shown_alike after.nodes.items after.queues.items after.counts.items (set (λ u. line_of (place_in slots u)) at (line_of p)) (λ u. line_of (place_in new u)) shown alike_at;
  count = count ∙ k.count ∙ sym put.len;
  rank = λ u wait waits. elim (cases_eq u at) [
    | inl one ↦ ap (rank_in after) one ∙ (own wait (mine u one wait waits)).0
    | inr other ↦ ranks u other (subst IsPresent (sym (old u other wait waits)) tt) ∙ k.rank u wait (old u other wait waits)
  ];
  class = λ u wait waits. elim (cases_eq u at) [ inl one ↦ (own wait (mine u one wait waits)).1 | inr other ↦ k.class u wait (old u other wait waits) ];
  dim = λ u wait waits. elim (cases_eq u at) [ inl one ↦ (own wait (mine u one wait waits)).2 | inr other ↦ k.dim u wait (old u other wait waits) ];
}
  where
    mine : (u : ℕ) → u ≡ at → (wait : SchedWait) → place_in new u ≡ Waiting wait → p ≡ Waiting wait
    mine u one wait waits = sym (place_here slots new at generation p put u one) ∙ waits

    old : (u : ℕ) → u ≢ at → (wait : SchedWait) → place_in new u ≡ Waiting wait → place_in slots u ≡ Waiting wait
    old u other wait waits = sym (place_else slots new at generation p put u other) ∙ waits

    alike_at : (u : ℕ) → line_of (place_in new u) ≡ set (λ u. line_of (place_in slots u)) at (line_of p) u
    alike_at u = elim (cases_eq u at) [
      | inl one ↦ ap line_of (place_here slots new at generation p put u one) ∙ sym (ap (set (λ u. line_of (place_in slots u)) at (line_of p)) one ∙ set_here (λ u. line_of (place_in slots u)) at (line_of p))
      | inr other ↦ ap line_of (place_else slots new at generation p put u other) ∙ sym (set_else (λ u. line_of (place_in slots u)) at (line_of p) u other)
    ]

-- a slot whose line stays
pub set_same : (slots : List Slot) (lines : LineTable) (line : ℕ → Option ℕ) (at : ℕ) (to : Option ℕ) → HasLines lines line → line at ≡ to → HasLines lines (set line at to)
set_same slots lines line at to shown is = shown_alike lines.nodes.items lines.queues.items lines.counts.items line (set line at to) shown (λ u. elim (cases_eq u at) [
  | inl one ↦ ap (set line at to) one ∙ set_here line at to ∙ sym is ∙ sym (ap line one)
  | inr other ↦ set_else line at to u other
])

-- a free slot may join each line with the next number
pub may_join : (f : ℕ → Place) (next first : ℕ) (slots : List Slot) (lines : LineTable) (at slot : ℕ) → ShowsSlots f next first slots lines.nodes.items → ShowsWaiting slots lines
    → place_in slots slot ≡ Absent → MayJoin lines (λ u. line_of (place_in slots u)) at slot next
may_join f next first slots lines at slot k waiting absent = record {
  shown = waiting.shown;
  free = ap line_of absent;
  above = λ u on. k.before u (in_line_present (place_in slots u) at on);
}

-- no job waits at first
pub initial_waiting : (slots : List Slot) (lines : LineTable) (n : ℕ) → slots ≡ replicate n unused → length slots ≡ n
    → slots_of lines ≡ n → HasLines lines (λ u. None) → ShowsWaiting slots lines
initial_waiting slots lines n are len count shown = record {
  shown = shown_alike lines.nodes.items lines.queues.items lines.counts.items (λ u. None) (λ u. line_of (place_in slots u)) shown (λ u. ap line_of (absent u));
  count = count ∙ sym len;
  rank = λ u wait waits. absurd (absent_waits (sym (absent u) ∙ waits));
  class = λ u wait waits. absurd (absent_waits (sym (absent u) ∙ waits));
  dim = λ u wait waits. absurd (absent_waits (sym (absent u) ∙ waits));
}
  where
    absent : (u : ℕ) → place_in slots u ≡ Absent
    absent u = ap (λ (s : Slot). place_by s s.phase) (elim (cases_lt u (length slots)) [
      | inl within ↦ ap (λ (xs : List Slot). slot_in xs u) are ∙ all_unused n u (omega (arith, within, len))
      | inr past ↦ get_or_past slots u unused past
    ])

-- what the queues say of a waiting job
pub own_of : (rank : ℕ) (mine : SchedWait) → rank ≡ rank_of mine.job.estimate → mine.job.class < CLASSES → mine.job.dim ≤ MAX_BITMAP_DIM
    → (wait : SchedWait) → Waiting mine ≡ Waiting wait → (rank ≡ rank_of wait.job.estimate) × (wait.job.class < CLASSES) × (wait.job.dim ≤ MAX_BITMAP_DIM)
own_of rank mine is within low wait one =
    let same : mine ≡ wait = wait_is one in
    subst (λ (x : SchedWait). (rank ≡ rank_of x.job.estimate) × (x.job.class < CLASSES) × (x.job.dim ≤ MAX_BITMAP_DIM)) same (is, within, low)

-- a table whose keys and ranks stay
pub slots_alike : (f : ℕ → Place) (next first : ℕ) (slots : List Slot) (nodes after : List NodeData) → ((u : ℕ) → key_of after u ≡ key_of nodes u)
    → ((u : ℕ) → estimate_of after u ≡ estimate_of nodes u) → ShowsSlots f next first slots nodes → ShowsSlots f next first slots after
slots_alike f next first slots nodes after keys ranks k =
    relinked_shows f next first first slots nodes after k.list k (λ u _. keys u)
    (free_stays slots slots nodes after refl first k.list (λ u has. (refl, refl, keys u)) (λ u has _. ranks u) k.free) (λ u has. has)

-- the queues after a change of free slots
pub waiting_relinked : (slots : List Slot) (lines after : LineTable) → ShowsWaiting slots lines → slots_of after ≡ slots_of lines
    → HasLines after (λ u. line_of (place_in slots u)) → ((u : ℕ) → IsPresent (place_in slots u) → rank_in after u ≡ rank_in lines u) → ShowsWaiting slots after
waiting_relinked slots lines after k count shown ranks = record {
  shown = shown;
  count = count ∙ k.count;
  rank = λ u wait waits. ranks u (subst IsPresent (sym waits) tt) ∙ k.rank u wait waits;
  class = k.class;
  dim = k.dim;
}

-- the first free slot is in no line
pub free_line : (f : ℕ → Place) (next first : ℕ) (slots : List Slot) (nodes : List NodeData) → ShowsSlots f next first slots nodes → first < length slots
    → line_of (place_in slots first) ≡ None
free_line f next first slots nodes k inside = ap line_of (first_absent f next first slots nodes k inside)

pub set_none : (line : ℕ → Option ℕ) (at u : ℕ) → line u ≡ None → set line at None u ≡ None
set_none line at u none = elim (cases_eq u at) [
  | inl one ↦ ap (set line at None) one ∙ set_here line at None
  | inr other ↦ set_else line at None u other ∙ none
]
