-- Counts of slots are counts of jobs.
use Rattle.std.proofs.Common.{◌≡◌, ◌≢◌, ℕ, ◌+◌, ◌*◌, ◌<◌, ◌≤◌, ◌⊎◌, inl, inr, Some, None, sym, ◌∙◌, ap, subst, arith}
use Rattle.cube_shape.specs.declared.limits.TheConstants.{MAX_BITMAP_DIM}
use Rattle.alloc_bits.specs.Count.{IsCount}
use Rattle.sched_jobs.specs.Nodes.{key_of}
use Rattle.sched_law.specs.declared.job.Place.TheVariants.{Waiting}
use Rattle.sched_law.specs.declared.job.SchedWait.{SchedWait}
use Rattle.std.proofs.lemmas.Bool.{cases_lt}
use Rattle.sched_law.specs.Policy.{Precedes}
use Rattle.sched_law.specs.State.{Sched}
use Rattle.sched_law.proofs.SetLemmas.{wait_is}
use Rattle.sched_jobs.specs.declared.lines.TheConstants.{CLASSES}
use Rattle.sched_jobs.specs.declared.jobs.Jobs.{Jobs}
use Rattle.sched_jobs.specs.Slots.{IsPresent, line_at, line_of, place_in}
use Rattle.sched_jobs.specs.Shows.{ShowsJobs}
use Rattle.sched_jobs.specs.Counts.{DoesWait, WaitsBefore, WaitsUpTo}
use Rattle.sched_jobs.specs.Inner.Numbers.{HasKeyFrom, HasNumbers}
use Rattle.sched_jobs.proofs.SlotLemmas.{in_line, in_line_present}
use Rattle.sched_jobs.proofs.NumberLemmas.{count_alike, count_both, count_without}

module _ (w : Sched) (jobs : Jobs) (shows : ShowsJobs w jobs) where
  -- the numbers of waiting jobs
  pub numbers : HasNumbers jobs.lines.nodes.items (λ u. line_of (place_in jobs.slots.items u)) jobs.next
  numbers = record {
    before = λ u q on. shows.1.before u (in_line_present (place_in jobs.slots.items u) q on);
    once = λ u v q r one other same. shows.1.once u v (in_line_present (place_in jobs.slots.items u) q one) (in_line_present (place_in jobs.slots.items v) r other) same;
  }

  -- a slot in a line has a waiting job
  job_of : (u q i : ℕ) → line_of (place_in jobs.slots.items u) ≡ Some q → key_of jobs.lines.nodes.items u ≡ i
      → (other : SchedWait) × (w.place i ≡ Waiting other) × (line_at other.job.class other.job.dim ≡ q) × (other.job.class < CLASSES) × (other.job.dim ≤ MAX_BITMAP_DIM)
  job_of u q i on number =
      let found = in_line (place_in jobs.slots.items u) q on in
      let present : IsPresent (place_in jobs.slots.items u) = subst IsPresent (sym found.1) tt in
      (found.0, ap w.place (sym number) ∙ shows.1.holds u present ∙ found.1, found.2, shows.2.class u found.0 found.1, shows.2.dim u found.0 found.1)

  -- a waiting job has a slot in its line
  slot_of : (i : ℕ) (other : SchedWait) → w.place i ≡ Waiting other
      → (u : ℕ) × (line_of (place_in jobs.slots.items u) ≡ Some (line_at other.job.class other.job.dim)) × (key_of jobs.lines.nodes.items u ≡ i) × (other.job.class < CLASSES) × (other.job.dim ≤ MAX_BITMAP_DIM)
  slot_of i other waits =
      let found = shows.1.slot i (subst IsPresent (sym waits) tt) in
      let at : place_in jobs.slots.items found.0 ≡ Waiting other = sym (shows.1.holds found.0 found.1) ∙ ap w.place found.2 ∙ waits in
      (found.0, ap line_of at, found.2, shows.2.class found.0 other at, shows.2.dim found.0 other at)

  pub waiting_counted : (count : ℕ) → IsCount (HasKeyFrom jobs.lines.nodes.items (λ u. line_of (place_in jobs.slots.items u)) 0 (CLASSES * (MAX_BITMAP_DIM + 1)) None) jobs.next count
      → IsCount (DoesWait w) w.next count
  waiting_counted count is =
      subst (λ (n : ℕ). IsCount (DoesWait w) n count) (sym shows.0)
      (count_alike (HasKeyFrom jobs.lines.nodes.items (λ u. line_of (place_in jobs.slots.items u)) 0 (CLASSES * (MAX_BITMAP_DIM + 1)) None) (DoesWait w) jobs.next count to from is)
    where
      to : (i : ℕ) → HasKeyFrom jobs.lines.nodes.items (λ u. line_of (place_in jobs.slots.items u)) 0 (CLASSES * (MAX_BITMAP_DIM + 1)) None i → DoesWait w i
      to i has = (let job = job_of has.3.0 has.0 i has.3.1 has.3.2 in (job.0, job.1))

      from : (i : ℕ) → DoesWait w i → HasKeyFrom jobs.lines.nodes.items (λ u. line_of (place_in jobs.slots.items u)) 0 (CLASSES * (MAX_BITMAP_DIM + 1)) None i
      from i has =
          let at = slot_of i has.0 has.1 in
          let within : has.0.job.class < CLASSES = at.3 in
          let low : has.0.job.dim ≤ MAX_BITMAP_DIM = at.4 in
          (line_at has.0.job.class has.0.job.dim, omega arith, omega (arith, within, low), (at.0, at.1, at.2, tt))

  module _ (slot : ℕ) (wait : SchedWait) (waits : place_in jobs.slots.items slot ≡ Waiting wait) (lower own sum : ℕ) (total : lower + own ≡ sum)
      (lows : IsCount (HasKeyFrom jobs.lines.nodes.items (λ u. line_of (place_in jobs.slots.items u)) 0 (wait.job.class * (MAX_BITMAP_DIM + 1)) None) jobs.next lower)
      (owns : IsCount (HasKeyFrom jobs.lines.nodes.items (λ u. line_of (place_in jobs.slots.items u)) (wait.job.class * (MAX_BITMAP_DIM + 1)) (wait.job.class * (MAX_BITMAP_DIM + 1) + (MAX_BITMAP_DIM + 1))
      (Some (key_of jobs.lines.nodes.items slot))) jobs.next own) where
    -- the lines of lower classes
    abbrev IsLow : ℕ → Type 0
    IsLow i = HasKeyFrom jobs.lines.nodes.items (λ u. line_of (place_in jobs.slots.items u)) 0 (wait.job.class * (MAX_BITMAP_DIM + 1)) None i

    -- the lines of the class itself
    abbrev IsOwn : ℕ → Type 0
    IsOwn i = HasKeyFrom jobs.lines.nodes.items (λ u. line_of (place_in jobs.slots.items u)) (wait.job.class * (MAX_BITMAP_DIM + 1)) (wait.job.class * (MAX_BITMAP_DIM + 1) + (MAX_BITMAP_DIM + 1)) (Some (key_of jobs.lines.nodes.items slot)) i

    low_apart : (i : ℕ) → IsLow i → IsOwn i → ⊥
    low_apart i low mine =
        let one : low.3.0 ≡ mine.3.0 = numbers.once low.3.0 mine.3.0 low.0 mine.0 low.3.1 mine.3.1 (low.3.2 ∙ sym mine.3.2) in
        let here = job_of low.3.0 low.0 i low.3.1 low.3.2 in
        let there = job_of mine.3.0 mine.0 i mine.3.1 mine.3.2 in
        let less : low.0 < wait.job.class * (MAX_BITMAP_DIM + 1) = low.2 in
        let more : wait.job.class * (MAX_BITMAP_DIM + 1) ≤ mine.0 = mine.1 in
        let first : line_at here.0.job.class here.0.job.dim ≡ low.0 = here.2 in
        let second : line_at here.0.job.class here.0.job.dim ≡ mine.0 = ap (λ (x : SchedWait). line_at x.job.class x.job.dim) (one_wait here.0 there.0 here.1 there.1) ∙ there.2 in
        omega (arith, less, more, first, second)
      where
        one_wait : (a b : SchedWait) → w.place i ≡ Waiting a → w.place i ≡ Waiting b → a ≡ b
        one_wait a b is also = wait_is (sym is ∙ also)

    to : (i : ℕ) → IsLow i ⊎ IsOwn i → WaitsBefore w (key_of jobs.lines.nodes.items slot) wait.job i
    to i (inl low) =
        let job = job_of low.3.0 low.0 i low.3.1 low.3.2 in
        let less : low.0 < wait.job.class * (MAX_BITMAP_DIM + 1) = low.2 in
        let at : line_at job.0.job.class job.0.job.dim ≡ low.0 = job.2 in
        (job.0, job.1, inl (omega (arith, less, at)))
    to i (inr mine) =
        let job = job_of mine.3.0 mine.0 i mine.3.1 mine.3.2 in
        let more : wait.job.class * (MAX_BITMAP_DIM + 1) ≤ mine.0 = mine.1 in
        let less : mine.0 < wait.job.class * (MAX_BITMAP_DIM + 1) + (MAX_BITMAP_DIM + 1) = mine.2 in
        let at : line_at job.0.job.class job.0.job.dim ≡ mine.0 = job.2 in
        let low : job.0.job.dim ≤ MAX_BITMAP_DIM = job.4 in
        (job.0, job.1, inr (omega (arith, less, more, at, low), mine.3.3))

    from : (i : ℕ) → WaitsBefore w (key_of jobs.lines.nodes.items slot) wait.job i → IsLow i ⊎ IsOwn i
    from i has =
        let at = slot_of i has.0 has.1 in
        let low : has.0.job.dim ≤ MAX_BITMAP_DIM = at.4 in
        elim has.2 [
          | inl less ↦ inl (line_at has.0.job.class has.0.job.dim, omega arith, omega (arith, less, low), (at.0, at.1, at.2, tt))
          | inr same ↦
              let class : has.0.job.class ≡ wait.job.class = same.0 in
              inr (line_at has.0.job.class has.0.job.dim, omega (arith, class), omega (arith, class, low), (at.0, at.1, at.2, same.1))
        ]

    pub before_counted : IsCount (WaitsBefore w (key_of jobs.lines.nodes.items slot) wait.job) w.next sum
    before_counted =
        subst (λ (n : ℕ). IsCount (WaitsBefore w (key_of jobs.lines.nodes.items slot) wait.job) n sum) (sym shows.0)
        (count_alike (λ i. IsLow i ⊎ IsOwn i) (WaitsBefore w (key_of jobs.lines.nodes.items slot) wait.job) jobs.next sum to from
        (count_both IsLow IsOwn jobs.next lower own sum low_apart total lows owns))

  -- the lines up to a class have the waiting jobs up to it
  pub up_to_counted : (class count : ℕ) → IsCount (HasKeyFrom jobs.lines.nodes.items (λ u. line_of (place_in jobs.slots.items u)) 0 ((class + 1) * (MAX_BITMAP_DIM + 1)) None) jobs.next count
      → IsCount (WaitsUpTo w class) w.next count
  up_to_counted class count is =
      subst (λ (n : ℕ). IsCount (WaitsUpTo w class) n count) (sym shows.0)
      (count_alike (HasKeyFrom jobs.lines.nodes.items (λ u. line_of (place_in jobs.slots.items u)) 0 ((class + 1) * (MAX_BITMAP_DIM + 1)) None) (WaitsUpTo w class) jobs.next count
      (λ i has.
      let job = job_of has.3.0 has.0 i has.3.1 has.3.2 in
      let less : has.0 < (class + 1) * (MAX_BITMAP_DIM + 1) = has.2 in
      let at : line_at job.0.job.class job.0.job.dim ≡ has.0 = job.2 in
      (job.0, job.1, omega (arith, less, at)))
      (λ i has.
      let at = slot_of i has.0 has.1 in
      let few : has.0.job.class ≤ class = has.2 in
      let low : has.0.job.dim ≤ MAX_BITMAP_DIM = at.4 in
      (line_at has.0.job.class has.0.job.dim, omega arith, omega (arith, few, low), (at.0, at.1, at.2, tt)))
      is)

  -- the job that was submitted last is not before itself
  pub last_counted : (slot : ℕ) (wait : SchedWait) (count : ℕ) → place_in jobs.slots.items slot ≡ Waiting wait → key_of jobs.lines.nodes.items slot + 1 ≡ jobs.next
      → IsCount (WaitsUpTo w wait.job.class) w.next count → (before : ℕ) × (count ≡ before + 1) × IsCount (WaitsBefore w (key_of jobs.lines.nodes.items slot) wait.job) w.next before
  last_counted slot wait count waits last is =
      let present : IsPresent (place_in jobs.slots.items slot) = subst IsPresent (sym waits) tt in
      let next = shows.0 in
      let mine : w.place (key_of jobs.lines.nodes.items slot) ≡ Waiting wait = shows.1.holds slot present ∙ waits in
      let less = count_without (WaitsUpTo w wait.job.class) (key_of jobs.lines.nodes.items slot) w.next count (omega (arith, last, next)) (wait, mine, omega arith) is in (
        less.0,
        less.1,
        count_alike (λ i. WaitsUpTo w wait.job.class i × (i ≢ key_of jobs.lines.nodes.items slot)) (WaitsBefore w (key_of jobs.lines.nodes.items slot) wait.job) w.next less.0
            (λ i has. (has.0.0, has.0.1, before i has))
            (λ i has. elim has.2 [
              | inl lower ↦ (
                (has.0, has.1, omega (arith, lower)),
                λ same. (
                    let one : has.0 ≡ wait = wait_is (sym has.1 ∙ ap w.place same ∙ mine) in
                    let class : has.0.job.class ≡ wait.job.class = ap (λ (x : SchedWait). x.job.class) one in
                    omega (arith, lower, class)),
              )
              | inr equal ↦ (let class : has.0.job.class ≡ wait.job.class = equal.0 in let earlier : i < key_of jobs.lines.nodes.items slot = equal.1 in
                  ((has.0, has.1, omega (arith, class)), λ same. omega (arith, earlier, same)))
            ])
            less.2,
      )
    where
      before : (i : ℕ) → (has : WaitsUpTo w wait.job.class i × (i ≢ key_of jobs.lines.nodes.items slot)) → Precedes i has.0.0.job (key_of jobs.lines.nodes.items slot) wait.job
      before i has =
          let found = slot_of i has.0.0 has.0.1 in
          let number : key_of jobs.lines.nodes.items found.0 ≡ i = found.2 in
          let inside : key_of jobs.lines.nodes.items found.0 < jobs.next = numbers.before found.0 (line_at has.0.0.job.class has.0.0.job.dim) found.1 in
          let few : has.0.0.job.class ≤ wait.job.class = has.0.2 in
          let other = has.1 in
          elim (cases_lt has.0.0.job.class wait.job.class) [
            | inl lower ↦ inl lower
            | inr same ↦ inr (omega (arith, few, same), omega (arith, number, inside, last, other))
          ]
