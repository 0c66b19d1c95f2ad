-- Each call and each decision keeps the state safe.
use Rattle.std.proofs.Common.{◌≡◌, ◌≢◌, ℕ, ◌+◌, ◌^◌, ◌<◌, ◌≤◌, ◌⊎◌, inl, inr, min, Option, Some, None, refl, sym, ◌∙◌, ap, subst, arith}
use Rattle.std.proofs.lemmas.Bool.{cases_eq, cases_lt}
use Rattle.cube_shape.specs.declared.region.Region.{Region}
use Rattle.cube_shape.specs.Region.{AreApart, IsAligned, block}
use Rattle.cube_shape.specs.Machine.{IsLawful, Gives}
use Rattle.cube_shape.proofs.RegionLemmas.{AreApart-sym}
use Rattle.cube_shape.proofs.MachineLemmas.{IsLawful-none, IsLawful-gives}
use Rattle.sched_law.specs.declared.job.TheConstants.{NEVER}
use Rattle.sched_law.specs.declared.job.SchedJob.{SchedJob}
use Rattle.sched_law.specs.declared.job.SchedWait.{SchedWait}
use Rattle.sched_law.specs.declared.job.SchedRun.{SchedRun}
use Rattle.sched_law.specs.declared.job.Place.{Place}
use Rattle.sched_law.specs.declared.job.Place.TheVariants.{Absent, Waiting, Running}
use Rattle.sched_law.specs.declared.job.Reservation.{Reservation}
use Rattle.sched_law.specs.State.{Sched, Runs, Waits, IsUsable, IsVacant, at, beside, block_of, cancel, end_after, finish, held, initial, occupy, pass, reserve, set, start, submit, vacate, without}
use Rattle.sched_law.specs.Policy.{Decides, IsBlocked, IsFirst, IsHead, IsHeadBy, IsServable, Precedes, Prepares, IsPassBlock, IsPassBlockBy, HasUsable}
use Rattle.sched_law.specs.Policy as policy
use Rattle.sched_law.specs.Law.{IsSafe, IsSound}
use Rattle.sched_law.proofs.SetLemmas.{absent_runs, absent_waits, beside_some, held_run, look, none_is_some, run_is, runs_waits, same, set_else, set_here, wait_is, without_some}
use Rattle.sched_law.proofs.BlockLemmas.{apart_of, first_aligned}
use Rattle.sched_law.proofs.PolicyLemmas.{chosen, end_some, head_waits, one_wait, usable_narrower}

-- ---- nothing new is held

-- The job waited before, or it is new.
abbrev pub WaitedOr : Sched → ℕ → SchedWait → Type 0
WaitedOr w j wait =
    ((old : SchedWait) × Waits w j old × (old.job ≡ wait.job)) ⊎ (IsSound w.dim wait.job × (w.next ≤ j))

-- The reservation was there before, and its job still waits.
abbrev pub IsKeptFrom : Sched → Sched → Reservation → Type 0
IsKeptFrom w v reserved =
    (w.reserved ≡ Some reserved)
    × ((old : SchedWait) → Waits w reserved.job old → (wait : SchedWait) × Waits v reserved.job wait × (old.job ≡ wait.job))

-- one job that waits is known
waits_below : (w : Sched) (j : ℕ) (wait : SchedWait) → IsSafe w → Waits w j wait → j < w.next
waits_below w j wait k is = elim (cases_lt j w.next) [
  | inl below ↦ below
  | inr past ↦ absurd (absent_waits (sym (k.absent j past) ∙ is))
]

module _ (w v : Sched) (k : IsSafe w) (dims : v.dim ≡ w.dim) (runs : (j : ℕ) (run : SchedRun) → Runs v j run → Runs w j run)
    (waits : (j : ℕ) (wait : SchedWait) → Waits v j wait → WaitedOr w j wait) (absent : (j : ℕ) → v.next ≤ j → v.place j ≡ Absent)
    (out : (b : ℕ) (r : Region) → v.occupied b ≡ Some r → w.occupied b ≡ Some r)
    (kept : (reserved : Reservation) → v.reserved ≡ Some reserved → IsKeptFrom w v reserved) where
  held_before : (j : ℕ) (r : Region) → held v j ≡ Some r → held w j ≡ Some r
  held_before j r is =
      let found = held_run v.place j r is in
      ap block_of (runs j found.0 found.1) ∙ ap (λ (x : Region). Some x) found.2

  -- the reserved job waited, and its wait is of the same job
  kept_wait : (reserved : Reservation) (wait : SchedWait) → v.reserved ≡ Some reserved → Waits v reserved.job wait → (old : SchedWait) × Waits w reserved.job old × (old.job ≡ wait.job)
  kept_wait reserved wait is waiting =
      let from = kept reserved is in
      let old = k.kept_for reserved from.0 in
      let now = from.1 old.0 old.1 in
      (old.0, old.1, now.2 ∙ ap (λ (x : SchedWait). x.job) (one_wait v reserved.job now.0 wait now.1 waiting))

  pub safe_less : IsSafe v
  safe_less = record {
    lawful = record {
      aligned = λ s a is. subst (λ n. IsAligned n a) (sym dims) (k.lawful.aligned s a (held_before s a is));
      apart = λ s t a b other is_a is_b. k.lawful.apart s t a b other (held_before s a is_a) (held_before t b is_b);
    };
    out = record {
      aligned = λ s a is. subst (λ n. IsAligned n a) (sym dims) (k.out.aligned s a (out s a is));
      apart = λ s t a b other is_a is_b. k.out.apart s t a b other (out s a is_a) (out t b is_b);
    };
    base = λ b r is. k.base b r (out b r is);
    apart = λ j b r s is_r is_s. k.apart j b r s (held_before j r is_r) (out b s is_s);
    waiting = λ j wait is. subst (λ n. IsSound n wait.job) (sym dims) (elim (waits j wait is) [
      | inl (old, was, job) ↦ subst (IsSound w.dim) job (k.waiting j old was)
      | inr (sound, new) ↦ sound
    ]);
    running = λ j run is. subst (λ n. IsSound n run.job) (sym dims) (k.running j run (runs j run is));
    sized = λ j run is. k.sized j run (runs j run is);
    ends = λ j run is. k.ends j run (runs j run is);
    absent = absent;
    kept_for = λ reserved is.
        let from = kept reserved is in
        let old = k.kept_for reserved from.0 in
        let now = from.1 old.0 old.1 in
        (now.0, now.1, old.2 ∙ ap (λ (x : SchedJob). x.dim) now.2);
    kept = λ reserved is.
        let old = k.kept reserved (kept reserved is).0 in
        (subst (λ n. IsAligned n reserved.block) (sym dims) old.0, λ b a is_a. old.1 b a (out b a is_a));
    order = λ reserved i wait other is waiting other_waits before.
        let old = kept_wait reserved wait is waiting in
        elim (waits i other other_waits) [
          | inl (was, was_waiting, job) ↦
              subst (λ (x : SchedJob). (x.class < other.job.class) ⊎ (x.dim < other.job.dim)) old.2
              (subst (λ (x : SchedJob). (old.0.job.class < x.class) ⊎ (old.0.job.dim < x.dim)) job (k.order reserved i old.0 was (kept reserved is).0 old.1 was_waiting before))
          | inr (sound, new) ↦ absurd (omega (arith, before, new, waits_below w reserved.job old.0 k old.1))
        ];
  }

-- ---- calls

pub initial_safe : (n patience : ℕ) → IsSafe (initial n patience)
initial_safe n patience = record {
  lawful = IsLawful-none n (held (initial n patience)) (λ s. refl);
  out = IsLawful-none n (λ b. None) (λ s. refl);
  base = λ b r is. absurd (none_is_some is);
  apart = λ j b r s is_r is_s. absurd (none_is_some is_r);
  waiting = λ j wait is. absurd (absent_waits is);
  running = λ j run is. absurd (absent_runs is);
  sized = λ j run is. absurd (absent_runs is);
  ends = λ j run is. absurd (absent_runs is);
  absent = λ j from. refl;
  kept_for = λ reserved is. absurd (none_is_some is);
  kept = λ reserved is. absurd (none_is_some is);
  order = λ reserved i wait other is waiting other_waits before. absurd (none_is_some is);
}

pub at_safe : (w : Sched) (t : ℕ) → IsSafe w → IsSafe (at t w)
at_safe w t k =
    safe_less w (at t w) k refl (λ j run is. is) (λ j wait is. inl (wait, is, refl)) k.absent (λ b r is. is)
    (λ reserved is. (is, λ old was. (old, was, refl)))

pub submit_safe : (w : Sched) (job : SchedJob) → IsSafe w → IsSound w.dim job → IsSafe (submit job w)
submit_safe w job k sound = safe_less w (submit job w) k refl runs waits absent (λ b r is. is) kept
  where
    new : Place
    new = Waiting (record { job = job; passed = 0 })

    runs : (j : ℕ) (run : SchedRun) → Runs (submit job w) j run → Runs w j run
    runs j run is = elim (look w.place w.next new j (Running run) is) [
      | inl (here, other) ↦ absurd (runs_waits (sym other))
      | inr (other, was) ↦ was
    ]

    waits : (j : ℕ) (wait : SchedWait) → Waits (submit job w) j wait → WaitedOr w j wait
    waits j wait is = elim (look w.place w.next new j (Waiting wait) is) [
      | inl (here, it) ↦
          inr (subst (λ (x : SchedWait). IsSound w.dim x.job) (wait_is it) sound, omega (arith, here))
      | inr (other, was) ↦ inl (wait, was, refl)
    ]

    absent : (j : ℕ) → w.next + 1 ≤ j → set w.place w.next new j ≡ Absent
    absent j from = set_else w.place w.next new j (λ here. omega (arith, from, here)) ∙ k.absent j (omega (arith, from))

    kept : (reserved : Reservation) → w.reserved ≡ Some reserved → IsKeptFrom w (submit job w) reserved
    kept reserved is = (
      is,
      λ old was. (
        old,
        set_else w.place w.next new reserved.job (λ here. omega (arith, here, waits_below w reserved.job old k was)) ∙ was,
        refl,
      ),
    )

-- a job is over
module _ (w : Sched) (j : ℕ) (o : Option Reservation) (k : IsSafe w)
    (stays : (reserved : Reservation) → o ≡ Some reserved → (w.reserved ≡ Some reserved) × (reserved.job ≢ j)) where
  abbrev over : Sched
  over = record w { place = set w.place j Absent; reserved = o }

  over_safe : IsSafe over
  over_safe = safe_less w over k refl runs waits absent (λ b r is. is) kept
    where
      runs : (i : ℕ) (run : SchedRun) → Runs over i run → Runs w i run
      runs i run is = elim (look w.place j Absent i (Running run) is) [
        | inl (here, other) ↦ absurd (absent_runs other)
        | inr (other, was) ↦ was
      ]

      waits : (i : ℕ) (wait : SchedWait) → Waits over i wait → WaitedOr w i wait
      waits i wait is = elim (look w.place j Absent i (Waiting wait) is) [
        | inl (here, other) ↦ absurd (absent_waits other)
        | inr (other, was) ↦ inl (wait, was, refl)
      ]

      absent : (i : ℕ) → w.next ≤ i → set w.place j Absent i ≡ Absent
      absent i from = elim (cases_eq i j) [
        | inl here ↦ ap (set w.place j Absent) here ∙ set_here w.place j Absent
        | inr other ↦ set_else w.place j Absent i other ∙ k.absent i from
      ]

      kept : (reserved : Reservation) → o ≡ Some reserved → IsKeptFrom w over reserved
      kept reserved is =
          let was = stays reserved is in
          (was.0, λ old waiting. (old, set_else w.place j Absent reserved.job was.1 ∙ waiting, refl))

pub cancel_safe : (w : Sched) (j : ℕ) → IsSafe w → IsSafe (cancel j w)
cancel_safe w j k = over_safe w j (without j w.reserved) k (λ reserved is. without_some j w.reserved reserved is)

pub finish_safe : (w : Sched) (j : ℕ) (run : SchedRun) → IsSafe w → Runs w j run → IsSafe (finish j w)
finish_safe w j run k runs = over_safe w j w.reserved k (λ reserved is. (is, other reserved is))
  where
    other : (reserved : Reservation) → w.reserved ≡ Some reserved → reserved.job ≢ j
    other reserved is here =
        let old = k.kept_for reserved is in
        runs_waits (sym (ap w.place here ∙ runs) ∙ old.1)

pub vacate_safe : (w : Sched) (r : Region) → IsSafe w → IsSafe (vacate r w)
vacate_safe w r k =
    safe_less w (vacate r w) k refl (λ j run is. is) (λ j wait is. inl (wait, is, refl)) k.absent out
    (λ reserved is. (is, λ old was. (old, was, refl)))
  where
    out : (b : ℕ) (s : Region) → set w.occupied r.base None b ≡ Some s → w.occupied b ≡ Some s
    out b s is = elim (look w.occupied r.base None b (Some s) is) [
      | inl (here, none) ↦ absurd (none_is_some none)
      | inr (other, was) ↦ was
    ]

-- the reservation ends, or stays
drop_safe : (w : Sched) (o : Option Reservation) → IsSafe w → ((reserved : Reservation) → o ≡ Some reserved → w.reserved ≡ Some reserved) → IsSafe (record w { reserved = o })
drop_safe w o k stays =
    safe_less w (record w { reserved = o }) k refl (λ j run is. is) (λ j wait is. inl (wait, is, refl)) k.absent (λ b r is. is)
    (λ reserved is. (stays reserved is, λ old was. (old, was, refl)))

-- a vacant block goes out of service
module _ (w : Sched) (r : Region) (k : IsSafe w) (aligned : IsAligned w.dim r) (vacant : IsVacant w r)
    (clear : (reserved : Reservation) → w.reserved ≡ Some reserved → AreApart r reserved.block) where
  out_look : (b : ℕ) (s : Region) → set w.occupied r.base (Some r) b ≡ Some s → ((b ≡ r.base) × (r ≡ s)) ⊎ ((b ≢ r.base) × (w.occupied b ≡ Some s))
  out_look b s is = elim (look w.occupied r.base (Some r) b (Some s) is) [
    | inl (here, new) ↦ inl (here, same new)
    | inr old ↦ inr old
  ]

  out_lawful : IsLawful w.dim (set w.occupied r.base (Some r))
  out_lawful = record {
    aligned = λ b s is. elim (out_look b s is) [
      | inl (here, new) ↦ subst (IsAligned w.dim) new aligned
      | inr (other, was) ↦ k.out.aligned b s was
    ];
    apart = λ b c s t other is_s is_t. elim (out_look b s is_s) [
      | inl (here, new) ↦ elim (out_look c t is_t) [
        | inl (there, _) ↦ absurd (other (here ∙ sym there))
        | inr (_, was) ↦ subst (λ x. AreApart x t) new (AreApart-sym t r (vacant.1 c t was))
      ]
      | inr (_, was_s) ↦ elim (out_look c t is_t) [
        | inl (there, new) ↦ subst (AreApart s) new (vacant.1 b s was_s)
        | inr (_, was_t) ↦ k.out.apart b c s t other was_s was_t
      ]
    ];
  }

  out_safe : IsSafe (record w { occupied = set w.occupied r.base (Some r) })
  out_safe = record {
    lawful = k.lawful;
    out = out_lawful;
    base = λ b s is. elim (out_look b s is) [
      | inl (here, new) ↦ ap (λ (x : Region). x.base) (sym new) ∙ sym here
      | inr (other, was) ↦ k.base b s was
    ];
    apart = λ j b a s is_a is_s. elim (out_look b s is_s) [
      | inl (here, new) ↦ subst (AreApart a) new (vacant.0 j a is_a)
      | inr (other, was) ↦ k.apart j b a s is_a was
    ];
    waiting = k.waiting;
    running = k.running;
    sized = k.sized;
    ends = k.ends;
    absent = k.absent;
    kept_for = k.kept_for;
    kept = λ reserved is.
        let old = k.kept reserved is in (
          old.0,
          λ b a is_a. elim (out_look b a is_a) [
            | inl (here, new) ↦ subst (λ x. AreApart x reserved.block) new (clear reserved is)
            | inr (other, was) ↦ old.1 b a was
          ],
        );
    order = k.order;
  }

pub occupy_safe : (w : Sched) (r : Region) → IsSafe w → IsAligned w.dim r → IsVacant w r → IsSafe (occupy r w)
occupy_safe w r k aligned vacant =
    let less : IsSafe (record w { reserved = beside r w.reserved }) = drop_safe w (beside r w.reserved) k (λ reserved is. (beside_some r w.reserved reserved is).0) in
    out_safe (record w { reserved = beside r w.reserved }) r less aligned vacant (λ reserved is. apart_of r reserved.block (beside_some r w.reserved reserved is).1)

-- ---- decisions

pub pass_safe : (w : Sched) (h : ℕ) (head : SchedWait) (d : ℕ) → IsSafe w → Waits w h head → IsSafe (pass h head d w)
pass_safe w h head d k waiting = safe_less w (pass h head d w) k refl runs waits absent (λ b r is. is) kept
  where
    new : SchedWait
    new = record { job = head.job; passed = min (head.passed + 2 ^ d) NEVER }

    runs : (j : ℕ) (run : SchedRun) → Runs (pass h head d w) j run → Runs w j run
    runs j run is = elim (look w.place h (Waiting new) j (Running run) is) [
      | inl (here, other) ↦ absurd (runs_waits (sym other))
      | inr (other, was) ↦ was
    ]

    waits : (j : ℕ) (wait : SchedWait) → Waits (pass h head d w) j wait → WaitedOr w j wait
    waits j wait is = elim (look w.place h (Waiting new) j (Waiting wait) is) [
      | inl (here, it) ↦ inl (head, ap w.place here ∙ waiting, ap (λ (x : SchedWait). x.job) (wait_is it))
      | inr (other, was) ↦ inl (wait, was, refl)
    ]

    absent : (j : ℕ) → w.next ≤ j → set w.place h (Waiting new) j ≡ Absent
    absent j from = set_else w.place h (Waiting new) j (λ here. omega (arith, from, here, waits_below w h head k waiting)) ∙ k.absent j from

    kept : (reserved : Reservation) → w.reserved ≡ Some reserved → IsKeptFrom w (pass h head d w) reserved
    kept reserved is = (
      is,
      λ old was. elim (cases_eq reserved.job h) [
        | inl here ↦ (
          new,
          ap (set w.place h (Waiting new)) here ∙ set_here w.place h (Waiting new),
          ap (λ (x : SchedWait). x.job) (one_wait w h old head (sym (ap w.place here) ∙ was) waiting),
        )
        | inr other ↦ (old, set_else w.place h (Waiting new) reserved.job other ∙ was, refl)
      ],
    )

module _ (w : Sched) (j : ℕ) (wait : SchedWait) (r : Region) (k : IsSafe w) (waiting : Waits w j wait) (aligned : IsAligned w.dim r) (dim : r.dim ≡ wait.job.dim)
    (vacant : IsVacant w r) where
  abbrev run : SchedRun
  run = record { job = wait.job; block = r; end = end_after w.now wait.job.estimate }

  abbrev v : Sched
  v = start j wait.job r w

  gives : Gives w.dim j r.dim (held w) (held v) r
  gives = record {
    idle = ap block_of waiting;
    aligned = aligned;
    dimension = refl;
    apart = vacant.0;
    held = ap block_of (set_here w.place j (Running run));
    others = λ t other. ap block_of (set_else w.place j (Running run) t other);
  }

  run_look : (i : ℕ) (x : SchedRun) → Runs v i x → ((i ≡ j) × (run ≡ x)) ⊎ ((i ≢ j) × Runs w i x)
  run_look i x is = elim (look w.place j (Running run) i (Running x) is) [
    | inl (here, new) ↦ inl (here, run_is new)
    | inr old ↦ inr old
  ]

  wait_look : (i : ℕ) (x : SchedWait) → Waits v i x → (i ≢ j) × Waits w i x
  wait_look i x is = elim (look w.place j (Running run) i (Waiting x) is) [
    | inl (here, new) ↦ absurd (runs_waits new)
    | inr old ↦ old
  ]

  pub start_safe : IsSafe v
  start_safe = record {
    lawful = IsLawful-gives w.dim j r.dim (held w) (held v) r k.lawful gives;
    out = k.out;
    base = k.base;
    apart = λ i b a s is_a is_s.
        let found = held_run v.place i a is_a in
        elim (run_look i found.0 found.1) [
          | inl (here, new) ↦
              subst (λ x. AreApart x s) (ap (λ (x : SchedRun). x.block) new ∙ found.2) (AreApart-sym s r (vacant.1 b s is_s))
          | inr (other, was) ↦ k.apart i b a s (ap block_of was ∙ ap (λ (x : Region). Some x) found.2) is_s
        ];
    waiting = λ i x is. k.waiting i x (wait_look i x is).1;
    running = λ i x is. elim (run_look i x is) [
      | inl (here, new) ↦ subst (λ (y : SchedRun). IsSound w.dim y.job) new (k.waiting j wait waiting)
      | inr (other, was) ↦ k.running i x was
    ];
    sized = λ i x is. elim (run_look i x is) [
      | inl (here, new) ↦ subst (λ (y : SchedRun). y.block.dim ≡ y.job.dim) new dim
      | inr (other, was) ↦ k.sized i x was
    ];
    ends = λ i x is. elim (run_look i x is) [
      | inl (here, new) ↦ subst (λ (y : SchedRun). (0 < y.end) × (y.end ≤ NEVER)) new (end_some w.now wait.job.estimate)
      | inr (other, was) ↦ k.ends i x was
    ];
    absent = λ i from. set_else w.place j (Running run) i (λ here. omega (arith, from, here, waits_below w j wait k waiting)) ∙ k.absent i from;
    kept_for = λ reserved is.
        let old = without_some j w.reserved reserved is in
        let was = k.kept_for reserved old.0 in
        (was.0, set_else w.place j (Running run) reserved.job old.1 ∙ was.1, was.2);
    kept = λ reserved is. k.kept reserved (without_some j w.reserved reserved is).0;
    order = λ reserved i x other is x_waits other_waits before.
        k.order reserved i x other (without_some j w.reserved reserved is).0 (wait_look reserved.job x x_waits).1 (wait_look i other other_waits).1 before;
  }

-- the head gets a reservation
pub reserve_safe : (w : Sched) (h : ℕ) (head : SchedWait) (r : Region) → IsSafe w → IsServable w h head
    → ((i : ℕ) (other : SchedWait) → IsServable w i other → Precedes i other.job h head.job → ⊥)
    → IsAligned w.dim r → r.dim ≡ head.job.dim → IsUsable w r → IsSafe (reserve h r w)
reserve_safe w h head r k servable first aligned dim usable = record {
  lawful = k.lawful;
  out = k.out;
  base = k.base;
  apart = k.apart;
  waiting = k.waiting;
  running = k.running;
  sized = k.sized;
  ends = k.ends;
  absent = k.absent;
  kept_for = λ reserved is.
      subst (λ (x : Reservation). (wait : SchedWait) × Waits w x.job wait × (x.block.dim ≡ wait.job.dim)) (same is) (head, servable.0, dim);
  kept = λ reserved is. subst (λ (x : Reservation). IsAligned w.dim x.block × IsUsable w x.block) (same is) (aligned, usable);
  order = λ reserved i wait other is waiting other_waits before.
      let here : h ≡ reserved.job = ap (λ (x : Reservation). x.job) (same is) in
      let it : head ≡ wait = one_wait w reserved.job head wait (sym (ap w.place here) ∙ servable.0) waiting in
      subst (λ (x : SchedWait). (x.job.class < other.job.class) ⊎ (x.job.dim < other.job.dim)) it
      (elim (cases_lt head.job.class other.job.class) [
        | inl higher ↦ inl higher
        | inr class ↦ elim (cases_lt head.job.dim other.job.dim) [
          | inl wider ↦ inr wider
          | inr narrow ↦
              absurd (first i other (other_waits, usable_narrower w head.job.dim other.job.dim narrow servable.1) (elim (cases_eq other.job.class head.job.class) [
                | inl equal ↦ inr (equal, omega (arith, before, here))
                | inr unlike ↦ inl (omega (arith, class, unlike))
              ]))
        ]
      ]);
}

pub head_by : (w : Sched) (h : ℕ) (head : SchedWait) → w.reserved ≡ None → IsHead w h head
    → IsServable w h head × ((i : ℕ) (other : SchedWait) → IsServable w i other → Precedes i other.job h head.job → ⊥)
head_by w h head none is = subst (λ o. IsHeadBy o w h head) none is

pub prepare_safe : (w v : Sched) (h : ℕ) (head : SchedWait) → IsSafe w → IsHead w h head → Prepares w h head v → IsSafe v
prepare_safe w _ h head k is (policy.keeps reserved stands) = k
prepare_safe w _ h head k is (policy.defers r none chooses latest few) = k
prepare_safe w _ h head k is (policy.reserves r t none chooses latest enough) =
    let first = head_by w h head none is in
    let found = chosen w head.job.dim r first.0.1 chooses in
    reserve_safe w h head r k first.0 first.1 found.0 found.1 found.2

-- a preparation changes the reservation alone
pub prepare_same : (w v : Sched) (h : ℕ) (head : SchedWait) → Prepares w h head v
    → (v.place ≡ w.place) × (v.occupied ≡ w.occupied) × (v.dim ≡ w.dim) × (v.now ≡ w.now) × (v.next ≡ w.next) × (v.patience ≡ w.patience)
prepare_same w _ h head (policy.keeps reserved stands) = (refl, refl, refl, refl, refl, refl)
prepare_same w _ h head (policy.defers r none chooses latest few) = (refl, refl, refl, refl, refl, refl)
prepare_same w _ h head (policy.reserves r t none chooses latest enough) = (refl, refl, refl, refl, refl, refl)

-- the block of a job that passes is vacant
pub pass_block : (w : Sched) (job : SchedJob) (m : ℕ) → job.dim ≤ w.dim → IsPassBlock w job m → IsAligned w.dim (block job.dim m) × IsVacant w (block job.dim m)
pass_block w job m fits is = by w.reserved is
  where
    by : (o : Option Reservation) → IsPassBlockBy o w job m → IsAligned w.dim (block job.dim m) × IsVacant w (block job.dim m)
    by None first = (first_aligned w.dim job.dim m (IsVacant w) fits first, first.right)
    by (Some reserved) (inl first) = (first_aligned w.dim job.dim m (policy.IsVacantBeside w reserved.block) fits first, first.right.0)
    by (Some reserved) (inr brief) = (first_aligned w.dim job.dim m (IsVacant w) fits brief.2, brief.2.right)

pub decide_safe : (w v : Sched) (answer : Option ℕ) → IsSafe w → Decides w answer v → IsSafe v
decide_safe w _ _ k (policy.idles none) = k
decide_safe w _ _ k (policy.starts h m head is first) =
    let waiting = head_waits w h head is in
    let sound = k.waiting h head waiting in
    start_safe w h head (block head.job.dim m) k waiting (first_aligned w.dim head.job.dim m (IsVacant w) sound.fits first) refl first.right
decide_safe w _ _ k (policy.passes h j m head wait v blocked prepares may first block_is) =
    let prepared = prepare_safe w v h head k blocked.0 prepares in
    let sound = prepared.waiting j wait may.1 in
    let found = pass_block v wait.job m sound.fits block_is in
    let passed = pass_safe v h head wait.job.dim prepared (subst (λ (p : ℕ → Place). p h ≡ Waiting head) (sym (prepare_same w v h head prepares).0) (head_waits w h head blocked.0)) in
    start_safe (pass h head wait.job.dim v) j wait (block wait.job.dim m) passed (set_else v.place h (Waiting (record { job = head.job; passed = min (head.passed + 2 ^ wait.job.dim) NEVER })) j may.0 ∙ may.1)
    found.0 refl (pass_vacant v h head wait.job.dim (block wait.job.dim m) found.1)
  where
    pass_vacant : (w : Sched) (h : ℕ) (head : SchedWait) (d : ℕ) (r : Region) → IsVacant w r → IsVacant (pass h head d w) r
    pass_vacant w h head d r vacant = (λ t a is. vacant.0 t a (back t a is), vacant.1)
      where
        new : SchedWait
        new = record { job = head.job; passed = min (head.passed + 2 ^ d) NEVER }

        back : (t : ℕ) (a : Region) → held (pass h head d w) t ≡ Some a → held w t ≡ Some a
        back t a is =
            let found = held_run (set w.place h (Waiting new)) t a is in
            elim (look w.place h (Waiting new) t (Running found.0) found.1) [
              | inl (here, other) ↦ absurd (runs_waits (sym other))
              | inr (other, was) ↦ ap block_of was ∙ ap (λ (x : Region). Some x) found.2
            ]
decide_safe w v _ k (policy.waits h head _ blocked prepares none) = prepare_safe w v h head k blocked.0 prepares
