-- The laws of a decision and of a settled state.
use Rattle.std.proofs.Common.{◌≡◌, ◌≢◌, ℕ, suc, ◌+◌, ◌-◌, ◌*◌, ◌^◌, ◌<◌, ◌≤◌, ◌⊎◌, inl, inr, min, Option, Some, None, refl, sym, ◌∙◌, ap, subst, arith}
use Rattle.std.proofs.lemmas.Bool.{cases_eq, cases_lt}
use Rattle.std.proofs.lemmas.Nat.{mul-le, pow_pos, pow-add}
use Rattle.cube_shape.specs.declared.region.Region.{Region}
use Rattle.cube_shape.specs.Region.{AreApart, Covers, IsAligned, block}
use Rattle.cube_shape.proofs.RegionLemmas.{AreApart-sym}
use Rattle.sched_law.specs.declared.job.TheConstants.{NEVER}
use Rattle.sched_law.specs.declared.job.SchedJob.{SchedJob}
use Rattle.sched_law.specs.declared.job.SchedWait.{SchedWait}
use Rattle.sched_law.specs.declared.job.SchedRun.{SchedRun}
use Rattle.sched_law.specs.declared.job.Place.{Place}
use Rattle.sched_law.specs.declared.job.Place.TheVariants.{Waiting, Running}
use Rattle.sched_law.specs.declared.job.Reservation.{Reservation}
use Rattle.sched_law.specs.State.{Sched, Runs, Waits, IsUsable, IsVacant, at, end_after, pass, set, start, without}
use Rattle.sched_law.specs.Policy.{AllEndBy, Decides, HasNone, HasUsable, IsBlocked, IsBrief, IsFirst, IsHead, IsHeadBy, IsLatest, IsPassBlock, IsPassBlockBy, IsServable, IsSettled, IsVacantBeside, MayPass, Precedes, Prepares, RunsIn}
use Rattle.sched_law.specs.Policy as policy
use Rattle.sched_law.specs.Law.{IsLate, IsNoLarger, IsPunctual, IsSafe}
use Rattle.sched_law.proofs.SetLemmas.{held_run, look, none_is_some, run_is, runs_waits, same, set_else, set_here, wait_is, without_none, without_some}
use Rattle.sched_law.proofs.BlockLemmas.{inner, no_block, no_first}
use Rattle.sched_law.proofs.PolicyLemmas.{end_later, end_longer, first_is_head, head_waits, latest_least, narrower, none_servable, one_head, one_wait, precedes, reserved_is_head, rests, unheld, usable_narrower, vacant_inside}
use Rattle.sched_law.proofs.SafeLemmas.{head_by, pass_block, prepare_same, prepare_safe}

-- ---- a settled state

-- a block that may be had by a job that passes
module _ (w : Sched) (wait : SchedWait) (cannot : (m : ℕ) → IsPassBlock w wait.job m → ⊥) (r : Region) (aligned : IsAligned w.dim r) (dim : r.dim ≡ wait.job.dim)
    (vacant : IsVacant w r) where
  pub unreserved_passes : w.reserved ≡ None → ⊥
  unreserved_passes none =
      no_block w.dim wait.job.dim (IsVacant w) (no_first w.dim wait.job.dim (IsVacant w) (λ m first. cannot m (subst (λ o. IsPassBlockBy o w wait.job m) (sym none) first))) r
      aligned dim vacant

  module _ (reserved : Reservation) (is : w.reserved ≡ Some reserved) where
    none_beside : HasNone w.dim wait.job.dim (IsVacantBeside w reserved.block)
    none_beside =
        no_first w.dim wait.job.dim (IsVacantBeside w reserved.block) (λ m first. cannot m (subst (λ o. IsPassBlockBy o w wait.job m) (sym is) (inl first)))

    pub beside_passes : AreApart reserved.block r → ⊥
    beside_passes apart = no_block w.dim wait.job.dim (IsVacantBeside w reserved.block) none_beside r aligned dim (vacant, apart)

    pub brief_passes : IsBrief w wait.job reserved.block → ⊥
    brief_passes brief =
        no_block w.dim wait.job.dim (IsVacant w)
        (no_first w.dim wait.job.dim (IsVacant w) (λ m first. cannot m (subst (λ o. IsPassBlockBy o w wait.job m) (sym is) (inr (none_beside, brief, first)))))
        r aligned dim vacant

module _ (w : Sched) (settled : IsSettled w) where
  pub head_has_none : (h : ℕ) (head : SchedWait) → IsHead w h head → HasNone w.dim head.job.dim (IsVacant w)
  head_has_none h head is = elim (rests w w None settled refl) [
    | inl (none, _) ↦ absurd (none h head is)
    | inr (i, other, blocked, prepares, nobody) ↦
        let here : i ≡ h = one_head w i h other head blocked.0 is in
        let it : other ≡ head = one_wait w h other head (subst (λ x. Waits w x other) here (head_waits w i other blocked.0)) (head_waits w h head is) in
        subst (λ (x : SchedWait). HasNone w.dim x.job.dim (IsVacant w)) it blocked.1
  ]

  -- a job that is not the head may not pass it
  module _ (k : IsSafe w) (j : ℕ) (wait : SchedWait) (waits : Waits w j wait) (not_head : IsHead w j wait → ⊥) (r : Region) (aligned : IsAligned w.dim r)
      (dim : r.dim ≡ wait.job.dim) (vacant : IsVacant w r) where
    -- there is a head, which is another job, and no block lets this one pass
    cannot_pass : (m : ℕ) → IsPassBlock w wait.job m → ⊥
    cannot_pass m passes = elim (rests w w None settled refl) [
      | inr (h, head, blocked, prepares, nobody) ↦
          nobody j wait ((λ here. not_head (subst (λ x. IsHead w x wait) (sym here) (subst (IsHead w h) (one_wait w h head wait (head_waits w h head blocked.0) (sym (ap w.place here) ∙ waits)) blocked.0))), waits, (m, passes))
      | inl (none, _) ↦ absurd (no_head none w.reserved refl)
    ]
      where
        no_head : ((i : ℕ) (other : SchedWait) → IsHead w i other → ⊥) → (o : Option Reservation) → w.reserved ≡ o → ⊥
        no_head none None is =
            none_servable w (λ i other servable first. none i other (first_is_head w i other is servable first)) j wait (waits, (r, aligned, dim, vacant.1))
        no_head none (Some reserved) is =
            let kept = k.kept_for reserved is in
            none reserved.job kept.0 (reserved_is_head w kept.0 reserved is kept.1)

    pub is_reserved : (reserved : Reservation) × (w.reserved ≡ Some reserved)
    is_reserved = by w.reserved refl
      where
        by : (o : Option Reservation) → w.reserved ≡ o → (reserved : Reservation) × (w.reserved ≡ Some reserved)
        by None is = absurd (unreserved_passes w wait cannot_pass r aligned dim vacant is)
        by (Some reserved) is = (reserved, is)

    pub meets : (reserved : Reservation) → w.reserved ≡ Some reserved → AreApart reserved.block r → ⊥
    meets reserved is = beside_passes w wait cannot_pass r aligned dim vacant reserved is

    pub is_late : (reserved : Reservation) → w.reserved ≡ Some reserved → IsLate w wait.job reserved.block
    is_late reserved is t latest = elim (cases_lt t NEVER) [
      | inr unknown ↦ inl unknown
      | inl known ↦ elim (cases_lt t (end_after w.now wait.job.estimate)) [
        | inl late ↦ inr late
        | inr in_time ↦
            absurd (brief_passes w wait cannot_pass r aligned dim vacant reserved is (t, latest, known, in_time))
      ]
    ]

  -- a head has a usable block
  head_usable : (k : IsSafe w) (h : ℕ) (head : SchedWait) → IsHead w h head → (r : Region) × IsAligned w.dim r × (r.dim ≡ head.job.dim) × IsUsable w r
  head_usable k h head is = by w.reserved refl
    where
      by : (o : Option Reservation) → w.reserved ≡ o → (r : Region) × IsAligned w.dim r × (r.dim ≡ head.job.dim) × IsUsable w r
      by None none = (head_by w h head none is).0.1
      by (Some reserved) stands =
          let at : (reserved.job ≡ h) × Waits w h head = subst (λ o. IsHeadBy o w h head) stands is in
          let kept = k.kept_for reserved stands in
          let it : kept.0 ≡ head = one_wait w h kept.0 head (subst (λ x. Waits w x kept.0) at.0 kept.1) at.1 in
          let block_is = k.kept reserved stands in
          (reserved.block, block_is.0, kept.2 ∙ ap (λ (x : SchedWait). x.job.dim) it, block_is.1)

  pub usable_start : IsSafe w → ((i : ℕ) (run : SchedRun) → Runs w i run → ⊥) → (j : ℕ) (wait : SchedWait) → IsServable w j wait → ⊥
  usable_start k idle j wait servable = elim (rests w w None settled refl) [
    | inr (h, head, blocked, prepares, nobody) ↦
        let usable = head_usable k h head blocked.0 in
        no_block w.dim head.job.dim (IsVacant w) blocked.1 usable.0 usable.1 usable.2
        (λ t a is. let found = held_run w.place t a is in absurd (idle t found.0 found.1), usable.3)
    | inl (none, _) ↦ no_head none w.reserved refl
  ]
    where
      no_head : ((i : ℕ) (other : SchedWait) → IsHead w i other → ⊥) → (o : Option Reservation) → w.reserved ≡ o → ⊥
      no_head none None is = none_servable w (λ i other can first. none i other (first_is_head w i other is can first)) j wait servable
      no_head none (Some reserved) is =
          let kept = k.kept_for reserved is in
          none reserved.job kept.0 (reserved_is_head w kept.0 reserved is kept.1)

  pub promise_kept : IsSafe w → (reserved : Reservation) (t : ℕ) → w.reserved ≡ Some reserved → IsPunctual w → AllEndBy w reserved.block t → w.now ≤ t
  promise_kept k reserved t is punctual all = elim (cases_lt t w.now) [
    | inr from ↦ from
    | inl past ↦
        let kept = k.kept_for reserved is in
        let block_is = k.kept reserved is in
        let idle : (j : ℕ) (run : SchedRun) → RunsIn w reserved.block j run → ⊥ = λ j run inside. omega (arith, past, punctual j run inside.0, all j run inside) in
        absurd (no_block w.dim kept.0.job.dim (IsVacant w) (head_has_none reserved.job kept.0 (reserved_is_head w kept.0 reserved is kept.1)) reserved.block block_is.0 kept.2
        (unheld w reserved.block idle (λ j a e. held_run w.place j a e), block_is.1))
  ]

-- ---- a job that passes the head

-- the block in which it starts meets the reserved one only if it ends in time
pub met_is_brief : (v : Sched) (job : SchedJob) (m : ℕ) (reserved : Reservation) → v.reserved ≡ Some reserved → IsPassBlock v job m → (AreApart (block job.dim m) reserved.block → ⊥)
    → IsBrief v job reserved.block
met_is_brief v job m reserved is block_is meets = by (subst (λ o. IsPassBlockBy o v job m) is block_is)
  where
    by : IsPassBlockBy (Some reserved) v job m → IsBrief v job reserved.block
    by (inl first) = absurd (meets (AreApart-sym reserved.block (block job.dim m) first.right.1))
    by (inr brief) = brief.1

-- a job that is not the head starts
pub record IsPassage (w : Sched) (j : ℕ) (v : Sched) : Type 0 where
  pub h : ℕ
  pub m : ℕ
  pub head : SchedWait
  pub wait : SchedWait
  pub u : Sched
  pub blocked : IsBlocked w h head
  pub prepares : Prepares w h head u
  pub may : MayPass u h j wait
  pub first : (i : ℕ) (other : SchedWait) → MayPass u h i other → Precedes i other.job j wait.job → ⊥
  pub block_is : IsPassBlock u wait.job m
  pub is : start j wait.job (block wait.job.dim m) (pass h head wait.job.dim u) ≡ v

-- the head starts
pub record IsHeadStart (w : Sched) (j : ℕ) (v : Sched) : Type 0 where
  pub m : ℕ
  pub head : SchedWait
  pub head_is : IsHead w j head
  pub first : IsFirst w.dim head.job.dim (IsVacant w) m
  pub is : start j head.job (block head.job.dim m) w ≡ v

pub starts_by : (w v : Sched) (answer : Option ℕ) (j : ℕ) → Decides w answer v → answer ≡ Some j → IsHeadStart w j v ⊎ IsPassage w j v
starts_by w _ _ j (policy.idles none) is = absurd (none_is_some is)
starts_by w _ _ j (policy.starts h m head head_is first) is =
    inl (subst (λ x. IsHeadStart w x (start h head.job (block head.job.dim m) w)) (same is) (record { m = m; head = head; head_is = head_is; first = first; is = refl }))
starts_by w _ _ j (policy.passes h i m head wait u blocked prepares may first block_is) is =
    inr (subst (λ x. IsPassage w x (start i wait.job (block wait.job.dim m) (pass h head wait.job.dim u))) (same is)
    (record { h = h; m = m; head = head; wait = wait; u = u; blocked = blocked; prepares = prepares; may = may; first = first; block_is = block_is; is = refl }))
starts_by w v _ j (policy.waits h head _ blocked prepares none) is = absurd (none_is_some is)

-- what a preparation leaves as it was
pub prepared_runs : (w u : Sched) (h : ℕ) (head : SchedWait) → Prepares w h head u → (i : ℕ) (run : SchedRun) → Runs u i run → Runs w i run
prepared_runs w _ h head (policy.keeps reserved stands) i run is = is
prepared_runs w _ h head (policy.defers r none chooses latest few) i run is = is
prepared_runs w _ h head (policy.reserves r t none chooses latest enough) i run is = is

pub prepared_waits : (w u : Sched) (h : ℕ) (head : SchedWait) → Prepares w h head u → (i : ℕ) (wait : SchedWait) → (Waits u i wait → Waits w i wait) × (Waits w i wait → Waits u i wait)
prepared_waits w _ h head (policy.keeps reserved stands) i wait = (λ is. is, λ is. is)
prepared_waits w _ h head (policy.defers r none chooses latest few) i wait = (λ is. is, λ is. is)
prepared_waits w _ h head (policy.reserves r t none chooses latest enough) i wait = (λ is. is, λ is. is)

prepared_vacant : (w u : Sched) (h : ℕ) (head : SchedWait) → Prepares w h head u → (r : Region) → IsVacant u r → IsVacant w r
prepared_vacant w _ h head (policy.keeps reserved stands) r is = is
prepared_vacant w _ h head (policy.defers s none chooses latest few) r is = is
prepared_vacant w _ h head (policy.reserves s t none chooses latest enough) r is = is

-- the jobs that run after a passage
passage_runs : (u : Sched) (h j m : ℕ) (head wait : SchedWait) (i : ℕ) (run : SchedRun) → Runs (start j wait.job (block wait.job.dim m) (pass h head wait.job.dim u)) i run
    → ((i ≡ j) × ((record { job = wait.job; block = block wait.job.dim m; end = end_after u.now wait.job.estimate }) ≡ run)) ⊎ Runs u i run
passage_runs u h j m head wait i run is =
    elim (look (pass h head wait.job.dim u).place j (Running (record { job = wait.job; block = block wait.job.dim m; end = end_after u.now wait.job.estimate })) i (Running run) is) [
      | inl (here, new) ↦ inl (here, run_is new)
      | inr (other, old) ↦ elim (look u.place h (Waiting (record { job = head.job; passed = min (head.passed + 2 ^ wait.job.dim) NEVER })) i (Running run) old) [
        | inl (there, waits) ↦ absurd (runs_waits (sym waits))
        | inr (_, was) ↦ inr was
      ]
    ]

-- a head that starts leaves no reservation
head_frees : (w v : Sched) (j : ℕ) (reserved : Reservation) → IsHeadStart w j v → v.reserved ≡ Some reserved → ⊥
head_frees w v j reserved starts is =
    let here : without j w.reserved ≡ Some reserved = subst (λ (x : Sched). x.reserved ≡ Some reserved) (sym starts.is) is in
    let was = without_some j w.reserved reserved here in
    let at : (reserved.job ≡ j) × Waits w j starts.head = subst (λ o. IsHeadBy o w j starts.head) was.0 starts.head_is in
    was.1 at.0

module _ (w v : Sched) (j : ℕ) (p : IsPassage w j v) (reserved : Reservation) (stands : v.reserved ≡ Some reserved) where
  passage_reserved : ((p.u).reserved ≡ Some reserved) × (reserved.job ≢ j)
  passage_reserved = without_some j (p.u).reserved reserved (subst (λ (x : Sched). x.reserved ≡ Some reserved) (sym p.is) stands)

  -- a run after it is the new one, or was there
  passage_look : (i : ℕ) (run : SchedRun) → Runs v i run
      → ((i ≡ j) × ((record { job = p.wait.job; block = block p.wait.job.dim p.m; end = end_after p.u.now p.wait.job.estimate }) ≡ run)) ⊎ Runs p.u i run
  passage_look i run is = passage_runs p.u p.h j p.m p.head p.wait i run (subst (λ (x : Sched). Runs x i run) (sym p.is) is)

  -- the job that starts in the reserved block is brief
  new_is_brief : (run : SchedRun) → RunsIn v reserved.block j run → (run.end ≡ end_after p.u.now p.wait.job.estimate) × IsBrief p.u p.wait.job reserved.block
  new_is_brief run inside = elim (passage_look j run inside.0) [
    | inl (here, new) ↦ (
      ap (λ (x : SchedRun). x.end) (sym new),
      met_is_brief p.u p.wait.job p.m reserved passage_reserved.0 p.block_is (λ apart. inside.1 (subst (λ (x : SchedRun). AreApart x.block reserved.block) new apart)),
    )
    | inr was ↦ absurd (runs_waits (sym was ∙ p.may.1))
  ]

  all_end : (t : ℕ) → AllEndBy w reserved.block t → AllEndBy p.u reserved.block t
  all_end t all i run inside = all i run (prepared_runs w p.u p.h p.head p.prepares i run inside.0, inside.1)

  pub passage_drains : (run : SchedRun) → RunsIn v reserved.block j run → run.end < NEVER
  passage_drains run inside =
      let found = new_is_brief run inside in
      let brief = found.1 in
      omega (arith, found.0, brief.2, brief.3)

  pub passage_early : (run : SchedRun) (t : ℕ) → RunsIn v reserved.block j run → AllEndBy w reserved.block t → p.u.now < t
  passage_early run t inside all =
      let found = new_is_brief run inside in
      let brief = found.1 in
      let least = latest_least p.u reserved.block brief.0 t brief.1 (all_end t all) in
      let later = end_later p.u.now p.wait.job.estimate (omega (arith, brief.2, brief.3)) in
      omega (arith, least, later, brief.3)

  pub passage_all : (t : ℕ) → AllEndBy w reserved.block t → AllEndBy v reserved.block t
  passage_all t all i run inside = elim (passage_look i run inside.0) [
    | inr was ↦ all_end t all i run (was, inside.1)
    | inl (here, new) ↦
        let found = new_is_brief run (subst (λ x. Runs v x run) here inside.0, inside.1) in
        let brief = found.1 in
        let least = latest_least p.u reserved.block brief.0 t brief.1 (all_end t all) in
        omega (arith, found.0, least, brief.3)
  ]

-- ---- the order

-- the latest end that is needed for a job that is no longer
sooner : (u : Sched) (first second : SchedJob) (r : Region) → end_after 0 first.estimate ≤ end_after 0 second.estimate → IsBrief u second r → IsBrief u first r
sooner u first second r short brief = (brief.0, brief.1, brief.2, omega (arith, brief.3, end_longer u.now first.estimate second.estimate short))

module _ (w v : Sched) (i j : ℕ) (older wait : SchedWait) (k : IsSafe w) (waits : Waits w j wait) (before : i < j) (older_waits : Waits w i older)
    (smaller : IsNoLarger older.job wait.job) where
  narrow : older.job.dim ≤ wait.job.dim
  narrow = narrower w.dim older.job wait.job (k.waiting i older older_waits) (k.waiting j wait waits) smaller.narrow

  head_is_first : IsHead w j wait → ⊥
  head_is_first is = by w.reserved refl
    where
      by : (o : Option Reservation) → w.reserved ≡ o → ⊥
      by None none =
          let first = head_by w j wait none is in
          first.1 i older (older_waits, usable_narrower w wait.job.dim older.job.dim narrow first.0.1) (precedes i j older.job wait.job smaller.class before)
      by (Some reserved) stands =
          let at : (reserved.job ≡ j) × Waits w j wait = subst (λ o. IsHeadBy o w j wait) stands is in
          elim (k.order reserved i wait older stands (subst (λ x. Waits w x wait) (sym at.0) waits) older_waits (omega (arith, before, at.0))) [
            | inl class ↦ omega (arith, class, smaller.class)
            | inr wide ↦ omega (arith, wide, narrow)
          ]

  passage_in_order : IsPassage w j v → ⊥
  passage_in_order p = elim (cases_eq i p.h) [
    | inl here ↦
        let it : p.head ≡ older = one_wait w i p.head older (subst (λ x. Waits w x p.head) (sym here) (head_waits w p.h p.head (p.blocked).0)) older_waits in
        let none : HasNone w.dim older.job.dim (IsVacant w) = subst (λ (x : SchedWait). HasNone w.dim x.job.dim (IsVacant w)) it (p.blocked).1 in
        no_block w.dim older.job.dim (IsVacant w) none part.0 part_aligned part.2 (prepared_vacant w p.u p.h p.head p.prepares part.0 part_vacant)
    | inr other ↦ by other (p.u).reserved refl
  ]
    where
      it_waits : wait ≡ p.wait
      it_waits = one_wait w j wait p.wait waits ((prepared_waits w p.u p.h p.head p.prepares j p.wait).0 (p.may).1)

      safe : IsSafe p.u
      safe = prepare_safe w p.u p.h p.head k (p.blocked).0 p.prepares

      found : IsAligned (p.u).dim (block p.wait.job.dim p.m) × IsVacant p.u (block p.wait.job.dim p.m)
      found = pass_block p.u p.wait.job p.m (safe.waiting j p.wait (p.may).1).fits p.block_is

      less : older.job.dim ≤ p.wait.job.dim
      less = subst (λ (x : SchedWait). older.job.dim ≤ x.job.dim) it_waits narrow

      part : (s : Region) × IsAligned (p.u).dim s × (s.dim ≡ older.job.dim) × ((q : ℕ) → Covers s q → Covers (block p.wait.job.dim p.m) q)
      part = inner (p.u).dim older.job.dim (block p.wait.job.dim p.m) found.0 less

      part_aligned : IsAligned w.dim part.0
      part_aligned = subst (λ n. IsAligned n part.0) (prepare_same w p.u p.h p.head p.prepares).2 part.1

      part_vacant : IsVacant p.u part.0
      part_vacant = vacant_inside p.u (block p.wait.job.dim p.m) part.0 part.3 found.1

      by : i ≢ p.h → (o : Option Reservation) → (p.u).reserved ≡ o → ⊥
      by other o stands = at o stands
        where
          cannot : (m : ℕ) → IsPassBlock p.u older.job m → ⊥
          cannot m is =
              p.first i older (other, (prepared_waits w p.u p.h p.head p.prepares i older).1 older_waits, (m, is))
              (subst (λ (x : SchedWait). Precedes i older.job j x.job) it_waits (precedes i j older.job wait.job smaller.class before))

          at : (o : Option Reservation) → (p.u).reserved ≡ o → ⊥
          at None none = unreserved_passes p.u older cannot part.0 part.1 part.2 part_vacant none
          at (Some reserved) is = elim (subst (λ o. IsPassBlockBy o p.u p.wait.job p.m) is p.block_is) [
            | inl first ↦
                beside_passes p.u older cannot part.0 part.1 part.2 part_vacant reserved is (λ q in_r in_s. first.right.1 q in_r (part.3 q in_s))
            | inr brief ↦
                brief_passes p.u older cannot part.0 part.1 part.2 part_vacant reserved is
                (sooner p.u older.job p.wait.job reserved.block (subst (λ (x : SchedWait). end_after 0 older.job.estimate ≤ end_after 0 x.job.estimate) it_waits smaller.short) brief.1)
          ]

  pub in_order : Decides w (Some j) v → ⊥
  in_order decides = elim (starts_by w v (Some j) j decides refl) [
    | inl starts ↦
        head_is_first (subst (IsHead w j) (one_wait w j starts.head wait (head_waits w j starts.head starts.head_is) waits) starts.head_is)
    | inr passage ↦ passage_in_order passage
  ]

-- ---- few pass

double : (p x : ℕ) → (2 * p + 1) * x ≡ 2 * (p * x) + x
double p x = grind arith

pub few : (w v : Sched) (h j : ℕ) (head after : SchedWait) → IsSafe w → Decides w (Some j) v → v.reserved ≡ None → IsHead w h head → j ≢ h → Waits v h after
    → 2 * after.passed < (2 * w.patience + 1) * 2 ^ w.dim
few w v h j head after k decides none is other waits = elim (starts_by w v (Some j) j decides refl) [
  | inl starts ↦ absurd (other (one_head w j h starts.head head starts.head_is is))
  | inr p ↦ passage p
]
  where
    passage : IsPassage w j v → 2 * after.passed < (2 * w.patience + 1) * 2 ^ w.dim
    passage p = omega (arith, double w.patience (2 ^ w.dim), passed, limit, sizes)
      where
        here : p.h ≡ h
        here = one_head w p.h h p.head head (p.blocked).0 is

        free : without j (p.u).reserved ≡ None
        free = subst (λ (x : Sched). x.reserved ≡ None) (sym p.is) none

        unreserved : (reserved : Reservation) → (p.u).reserved ≡ Some reserved → reserved.job ≡ p.h → ⊥
        unreserved reserved stands at = other (sym (without_none j (p.u).reserved reserved stands free) ∙ at ∙ here)

        limit : p.head.passed < w.patience * 2 ^ w.dim
        limit = by p.u p.prepares unreserved
          where
            by : (u : Sched) → Prepares w p.h p.head u → ((reserved : Reservation) → u.reserved ≡ Some reserved → reserved.job ≡ p.h → ⊥) → p.head.passed < w.patience * 2 ^ w.dim
            by _ (policy.keeps reserved stands) free_of =
                let at : (reserved.job ≡ p.h) × Waits w p.h p.head = subst (λ o. IsHeadBy o w p.h p.head) stands (p.blocked).0 in
                absurd (free_of reserved stands at.0)
            by _ (policy.defers r empty chooses latest small) free_of = small
            by _ (policy.reserves r t empty chooses latest enough) free_of = absurd (free_of (record { job = p.h; block = r }) refl refl)

        new : SchedWait
        new = record { job = p.head.job; passed = min (p.head.passed + 2 ^ p.wait.job.dim) NEVER }

        it : new ≡ after
        it =
            let now : Waits v p.h after = subst (λ x. Waits v x after) (sym here) waits in
            let at : set (set (p.u).place p.h (Waiting new)) j (Running (record { job = p.wait.job; block = block p.wait.job.dim p.m; end = end_after (p.u).now p.wait.job.estimate })) p.h ≡ Waiting after =
            subst (λ (x : Sched). x.place p.h ≡ Waiting after) (sym p.is) now in
            wait_is (sym (set_here (p.u).place p.h (Waiting new)) ∙ sym (set_else (set (p.u).place p.h (Waiting new)) j (Running (record { job = p.wait.job; block = block p.wait.job.dim p.m; end = end_after (p.u).now p.wait.job.estimate })) p.h (λ e. other (sym e ∙ here))) ∙ at)

        passed : after.passed ≤ p.head.passed + 2 ^ p.wait.job.dim
        passed = subst (λ (x : SchedWait). x.passed ≤ p.head.passed + 2 ^ p.wait.job.dim) it (grind arith)

        safe : IsSafe p.u
        safe = prepare_safe w p.u p.h p.head k (p.blocked).0 p.prepares

        sound : p.wait.job.dim ≤ w.dim
        sound = subst (λ n. p.wait.job.dim ≤ n) (prepare_same w p.u p.h p.head p.prepares).2 ((safe.waiting j p.wait (p.may).1).fits)

        -- the job that passes has less than the machine: else the head would fit
        part_of : p.wait.job.dim < w.dim
        part_of = elim (cases_lt p.wait.job.dim w.dim) [
          | inl less ↦ less
          | inr all ↦
              let found = pass_block p.u p.wait.job p.m (safe.waiting j p.wait (p.may).1).fits p.block_is in
              let head_fits = (k.waiting p.h p.head (head_waits w p.h p.head (p.blocked).0)).fits in
              let part = inner (p.u).dim p.head.job.dim (block p.wait.job.dim p.m) found.0 (omega (arith, all, head_fits)) in
              absurd (no_block w.dim p.head.job.dim (IsVacant w) (p.blocked).1 part.0 (subst (λ n. IsAligned n part.0) (prepare_same w p.u p.h p.head p.prepares).2 part.1) part.2
              (prepared_vacant w p.u p.h p.head p.prepares part.0 (vacant_inside p.u (block p.wait.job.dim p.m) part.0 part.3 found.1)))
        ]

        sizes : 2 * 2 ^ p.wait.job.dim ≤ 2 ^ w.dim
        sizes =
            let parts : suc p.wait.job.dim + (w.dim - suc p.wait.job.dim) ≡ w.dim = omega (arith, part_of) in
            let all : 2 ^ w.dim ≡ 2 ^ suc p.wait.job.dim * 2 ^ (w.dim - suc p.wait.job.dim) = ap (λ x. 2 ^ x) (sym parts) ∙ pow-add 2 (suc p.wait.job.dim) (w.dim - suc p.wait.job.dim) in
            let some : 0 < 2 ^ (w.dim - suc p.wait.job.dim) = pow_pos (w.dim - suc p.wait.job.dim) in
            let grown : 2 ^ suc p.wait.job.dim * 1 ≤ 2 ^ suc p.wait.job.dim * 2 ^ (w.dim - suc p.wait.job.dim) = mul-le (2 ^ suc p.wait.job.dim) 1 (2 ^ suc p.wait.job.dim) (2 ^ (w.dim - suc p.wait.job.dim)) (omega arith) (omega (arith, some)) in
            omega (arith, all, grown)

-- ---- promises

pub decided_all : (w v : Sched) (answer : Option ℕ) (reserved : Reservation) (t : ℕ) → Decides w answer v → w.reserved ≡ Some reserved → v.reserved ≡ Some reserved
    → AllEndBy w reserved.block t → AllEndBy v reserved.block t
decided_all w v None reserved t decides was is all = elim (rests w v None decides refl) [
  | inl (none, same_state) ↦ subst (λ (x : Sched). AllEndBy x reserved.block t) same_state all
  | inr (h, head, blocked, prepares, nobody) ↦ λ i run inside. all i run (prepared_runs w v h head prepares i run inside.0, inside.1)
]
decided_all w v (Some j) reserved t decides was is all = elim (starts_by w v (Some j) j decides refl) [
  | inl starts ↦ absurd (head_frees w v j reserved starts is)
  | inr p ↦ passage_all w v j p reserved is t all
]

pub decided_drains : (w v : Sched) (j : ℕ) (run : SchedRun) (reserved : Reservation) → Decides w (Some j) v → v.reserved ≡ Some reserved → RunsIn v reserved.block j run → run.end < NEVER
decided_drains w v j run reserved decides is inside = elim (starts_by w v (Some j) j decides refl) [
  | inl starts ↦ absurd (head_frees w v j reserved starts is)
  | inr p ↦ passage_drains w v j p reserved is run inside
]

pub decided_early : (w v : Sched) (j : ℕ) (run : SchedRun) (reserved : Reservation) (t : ℕ) → Decides w (Some j) v → v.reserved ≡ Some reserved → RunsIn v reserved.block j run
    → AllEndBy w reserved.block t → w.now < t
decided_early w v j run reserved t decides is inside all = elim (starts_by w v (Some j) j decides refl) [
  | inl starts ↦ absurd (head_frees w v j reserved starts is)
  | inr p ↦ subst (λ x. x < t) (prepare_same w p.u p.h p.head p.prepares).3 (passage_early w v j p reserved is run t inside all)
]

-- what is over, or was there, ended by then
pub all_less : (w : Sched) (place : ℕ → Place) (r : Region) (t : ℕ) → ((i : ℕ) (run : SchedRun) → place i ≡ Running run → w.place i ≡ Running run) → AllEndBy w r t
    → AllEndBy (record w { place = place }) r t
all_less w place r t back all i run inside = all i run (back i run inside.0, inside.1)

pub over_runs : (place : ℕ → Place) (j : ℕ) (q : Place) → ((run : SchedRun) → q ≡ Running run → ⊥) → (i : ℕ) (run : SchedRun) → set place j q i ≡ Running run → place i ≡ Running run
over_runs place j q none i run is = elim (look place j q i (Running run) is) [
  | inl (here, new) ↦ absurd (none run new)
  | inr (other, was) ↦ was
]
