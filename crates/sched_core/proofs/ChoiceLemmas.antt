-- The head, and the first job with a block beside the reservation.
use Rattle.std.proofs.Common.{◌≡◌, ℕ, ◌<◌, ◌≤◌, ◌⊎◌, inl, inr, Option, Some, None, sym, ◌∙◌, ap, subst, arith}
use Rattle.std.specs.Prelude.{◌↔◌, IfSome, IfNone}
use Rattle.std.proofs.lemmas.Bool.{cases_lt}
use Rattle.cube_shape.specs.declared.region.Region.{Region}
use Rattle.cube_shape.specs.Region.{block}
use Rattle.sched_law.specs.declared.job.TheConstants.{NEVER}
use Rattle.sched_law.specs.declared.job.SchedJob.{SchedJob}
use Rattle.sched_law.specs.declared.job.SchedWait.{SchedWait}
use Rattle.sched_law.specs.declared.job.Place.TheVariants.{Waiting}
use Rattle.sched_law.specs.declared.job.Reservation.{Reservation}
use Rattle.sched_law.specs.State.{Sched, IsVacant, Waits, end_after}
use Rattle.sched_law.specs.Policy.{HasNone, HasUsable, IsBrief, IsFirst, IsHead, IsLatest, IsPassBlockBy, IsVacantBeside, Precedes}
use Rattle.sched_law.proofs.SetLemmas.{wait_is}
use Rattle.sched_law.proofs.PolicyLemmas.{first_is_head, latest_least, reserved_is_head}
use Rattle.sched_law.proofs.SafeLemmas.{head_by}
use Rattle.sched_jobs.specs.Select.{IsWanted, IsWithin}
use Rattle.sched_jobs.specs.Shows.{HasNoneWaiting, IsFirstWaiting, arrival_of, place_of}
use Rattle.sched_core.specs.declared.assigned.Assigned.{Assigned}
use Rattle.sched_core.specs.declared.scheduler.Core.{Core}
use Rattle.sched_core.specs.Shows.{ShowsCore, ShowsKept}
use Rattle.sched_core.specs.Inner.{HasNonePassing, IsBriefLimit, IsHeadSlot, IsLargestVacant, IsPassing}
use Rattle.sched_core.proofs.JobLemmas.{slot_waits}
use Rattle.sched_core.proofs.CoreLemmas.{core_safe}

-- ---- the head

module _ (w : Sched) (core : Core) (k : ShowsCore w core) where
  pub head_kept : (it : Assigned) → core.reserved ≡ Some it → IsHeadSlot w core.jobs it.slot
  head_kept it is =
      let shown : ShowsKept w.reserved core.jobs (Some it) = subst (ShowsKept w.reserved core.jobs) is k.kept in
      record {
        inside = shown.0;
        head = shown.1.0;
        at = shown.1.1;
        is_head = reserved_is_head w shown.1.0 (record { job = arrival_of core.jobs it.slot; block = it.block }) shown.2 (slot_waits w core.jobs k.jobs it.slot shown.1.0 shown.1.1);
      }

  -- the reservation of the state is that of this slot
  pub kept_is : (it : Assigned) (slot : ℕ) → core.reserved ≡ Some it → it.slot ≡ slot → w.reserved ≡ Some (record { job = arrival_of core.jobs slot; block = it.block })
  kept_is it slot is here =
      let shown : ShowsKept w.reserved core.jobs (Some it) = subst (ShowsKept w.reserved core.jobs) is k.kept in
      shown.2 ∙ ap (λ (u : ℕ). Some (record { job = arrival_of core.jobs u; block = it.block })) here

  pub kept_none : core.reserved ≡ None → w.reserved ≡ None
  kept_none is = subst (ShowsKept w.reserved core.jobs) is k.kept

  module _ (none : core.reserved ≡ None) where
    pub head_unusable : ((d : ℕ) → HasUsable w d → ⊥) → (j : ℕ) (wait : SchedWait) → IsHead w j wait → ⊥
    head_unusable nothing j wait is = nothing wait.job.dim (head_by w j wait (kept_none none) is).0.1

    module _ (largest : ℕ) (usable : (d : ℕ) → HasUsable w d ↔ (d ≤ largest)) where
      pub head_first : (slot : ℕ) → IsFirstWaiting (Some largest) None 0 w core.jobs slot → IsHeadSlot w core.jobs slot
      head_first slot first =
          let within : first.wait.job.dim ≤ largest = elim first.wanted [ inl within ↦ within | inr other ↦ absurd other.0 ] in
          record {
            inside = first.inside;
            head = first.wait;
            at = first.at;
            is_head = first_is_head w (arrival_of core.jobs slot) first.wait (kept_none none) (first.waits, (usable first.wait.job.dim).1 within)
                (λ i other is before. first.first i other is.0 (inl ((usable other.job.dim).0 is.1)) before);
          }

      pub head_none : HasNoneWaiting (Some largest) None 0 w → (j : ℕ) (wait : SchedWait) → IsHead w j wait → ⊥
      head_none nobody j wait is =
          let first = head_by w j wait (kept_none none) is in
          nobody j wait first.0.0 (inl ((usable wait.job.dim).0 first.0.1))

      pub heads : (o : Option ℕ) → IfSome o (IsFirstWaiting (Some largest) None 0 w core.jobs) → IfSome o (IsHeadSlot w core.jobs)
      heads None first = tt
      heads (Some slot) first = head_first slot first

      pub no_heads : (o : Option ℕ) → IfNone o (HasNoneWaiting (Some largest) None 0 w) → IfNone o ((j : ℕ) (wait : SchedWait) → IsHead w j wait → ⊥)
      no_heads None nobody = head_none nobody
      no_heads (Some slot) nobody = tt

-- ---- blocks of a largest dimension

-- the first vacant block, where none is apart from the one to be avoided
pub around_or : (w : Sched) (d : ℕ) (avoid : Region) → HasNone w.dim d (IsVacantBeside w avoid) → (o : Option Region)
    → IfSome o (λ r. (m : ℕ) × (r ≡ block d m) × IsFirst w.dim d (IsVacant w) m)
    → IfSome o (λ r. (m : ℕ) × (r ≡ block d m) × (IsFirst w.dim d (IsVacantBeside w avoid) m ⊎ (HasNone w.dim d (IsVacantBeside w avoid) × IsFirst w.dim d (IsVacant w) m)))
around_or w d avoid none None first = tt
around_or w d avoid none (Some r) first = (first.0, first.1, inr (none, first.2))

module _ (n : ℕ) (P : Region → Type 0) where
  -- The largest dimension with a block that is so.
  abbrev pub IsLargest : Option ℕ → Type 0
  IsLargest o = IfSome o (λ l. (d : ℕ) → d ≤ n → HasNone n d P ↔ (l < d)) × IfNone o ((d : ℕ) → d ≤ n → HasNone n d P)

  pub has_within : (o : Option ℕ) → IsLargest o → (job : SchedJob) → job.dim ≤ n → (HasNone n job.dim P → ⊥) → IsWithin o job
  has_within None is job fits has = absurd (has (is.1 job.dim fits))
  has_within (Some l) is job fits has = elim (cases_lt l job.dim) [
    | inl less ↦ absurd (has ((is.0 job.dim fits).1 less))
    | inr upto ↦ upto
  ]

  pub within_has : (o : Option ℕ) → IsLargest o → (job : SchedJob) → job.dim ≤ n → IsWithin o job → HasNone n job.dim P → ⊥
  within_has None is job fits within none = within
  within_has (Some l) is job fits within none = let less : l < job.dim = (is.0 job.dim fits).0 none in omega (arith, less, within)

-- ---- the first that may pass

-- a job that may pass has a vacant block
pub pass_some : (o : Option Reservation) (w : Sched) (job : SchedJob) (m : ℕ) → IsPassBlockBy o w job m → HasNone w.dim job.dim (IsVacant w) → ⊥
pass_some None w job m first none = none m first.in_cube first.right
pass_some (Some reserved) w job m (inl first) none = none m first.in_cube first.right.0
pass_some (Some reserved) w job m (inr both) none = none m both.2.in_cube both.2.right

module _ (w : Sched) (core : Core) (k : ShowsCore w core) where
  fits : (i : ℕ) (other : SchedWait) → Waits w i other → other.job.dim ≤ w.dim
  fits i other waits = ((core_safe w core k).waiting i other waits).fits

  -- with no vacant block none may pass
  pub none_vacant : (o : Option Reservation) → ((d : ℕ) → d ≤ w.dim → HasNone w.dim d (IsVacant w)) → HasNonePassing o w
  none_vacant o none i other waits m free = pass_some o w other.job m free (none other.job.dim (fits i other waits))

  -- what is first of the jobs that are wanted is first of those that have a block
  module _ (o : Option Reservation) (any most : Option ℕ) (limit : ℕ)
      (wanted : (i : ℕ) (other : SchedWait) → Waits w i other → (m : ℕ) → IsPassBlockBy o w other.job m → IsWanted any most limit other.job) where
    pub none_passing : HasNoneWaiting any most limit w → HasNonePassing o w
    none_passing nobody i other waits m free = nobody i other waits (wanted i other waits m free)

    pub first_passing : (it : Assigned) (wait : SchedWait) (m : ℕ) → IsFirstWaiting any most limit w core.jobs it.slot → place_of core.jobs it.slot ≡ Waiting wait
        → it.block ≡ block wait.job.dim m → IsPassBlockBy o w wait.job m → IsPassing o w core.jobs it
    first_passing it wait m is at place free = record {
      inside = is.inside;
      wait = wait;
      at = at;
      waits = slot_waits w core.jobs k.jobs it.slot wait at;
      m = m;
      free = free;
      place = place;
      first = λ i other waits n has before.
          is.first i other waits (wanted i other waits n has) (subst (λ (x : SchedWait). Precedes i other.job (arrival_of core.jobs it.slot) x.job) (wait_is (sym at ∙ is.at)) before);
    }

  -- the job that is found is wanted
  pub found_wanted : (any most : Option ℕ) (limit slot : ℕ) (wait : SchedWait) → IsFirstWaiting any most limit w core.jobs slot → place_of core.jobs slot ≡ Waiting wait
      → IsWanted any most limit wait.job
  found_wanted any most limit slot wait is at = subst (λ (x : SchedWait). IsWanted any most limit x.job) (wait_is (sym is.at ∙ at)) is.wanted

  -- with no reservation
  module _ (most : ℕ) (largest : IsLargestVacant w most) where
    pub any_wanted : (i : ℕ) (other : SchedWait) → Waits w i other → (m : ℕ) → IsFirst w.dim other.job.dim (IsVacant w) m → IsWanted (Some most) None 0 other.job
    any_wanted i other waits m first =
        inl (has_within w.dim (IsVacant w) (Some most) (largest, tt) other.job (fits i other waits) (λ none. none m first.in_cube first.right))

    pub any_found : (slot : ℕ) (wait : SchedWait) → IsFirstWaiting (Some most) None 0 w core.jobs slot → place_of core.jobs slot ≡ Waiting wait
        → HasNone w.dim wait.job.dim (IsVacant w) → ⊥
    any_found slot wait is at none = elim (found_wanted (Some most) None 0 slot wait is at) [
      | inl within ↦
          within_has w.dim (IsVacant w) (Some most) (largest, tt) wait.job (fits (arrival_of core.jobs slot) wait (slot_waits w core.jobs k.jobs slot wait at)) within none
      | inr other ↦ other.0
    ]

  -- what the slack of a reserved block says of jobs
  module _ (avoid : Region) (limit latest : ℕ) (is_latest : IsLatest w avoid latest)
      (brief : (estimate : ℕ) → ((0 < estimate) × (estimate ≤ limit)) ↔ ((latest < NEVER) × (end_after core.time estimate ≤ latest))) where
    brief_short : (job : SchedJob) → IsBrief w job avoid → (0 < job.estimate) × (job.estimate ≤ limit)
    brief_short job (t, is, known, early) =
        let low : t ≤ latest = latest_least w avoid t latest is is_latest.all in
        let high : latest ≤ t = latest_least w avoid latest t is_latest is.all in
        let now : end_after core.time job.estimate ≤ t = subst (λ s. end_after s job.estimate ≤ t) k.time early in
        (brief job.estimate).1 (omega (arith, high, known), omega (arith, now, low))

    short_brief : (job : SchedJob) → (0 < job.estimate) × (job.estimate ≤ limit) → IsBrief w job avoid
    short_brief job short =
        let is = (brief job.estimate).0 short in
        (latest, is_latest, is.0, subst (λ s. end_after s job.estimate ≤ latest) (sym k.time) is.1)

    pub brief_limit : IsBriefLimit w avoid limit
    brief_limit job = (brief_short job, short_brief job)

  -- around a reserved block
  module _ (number : ℕ) (avoid : Region) (any : Option ℕ) (most limit : ℕ) (besides : IsLargest w.dim (IsVacantBeside w avoid) any)
      (largest : IsLargestVacant w most) (limited : (any ≡ Some most) ⊎ IsBriefLimit w avoid limit) where
    abbrev kept : Reservation
    kept = record { job = number; block = avoid }

    pub around_wanted : (i : ℕ) (other : SchedWait) → Waits w i other → (m : ℕ) → IsPassBlockBy (Some kept) w other.job m → IsWanted any (Some most) limit other.job
    around_wanted i other waits m free = elim free [
      | inl first ↦
          inl (has_within w.dim (IsVacantBeside w avoid) any besides other.job (fits i other waits) (λ none. none m first.in_cube first.right))
      | inr both ↦
          let within = has_within w.dim (IsVacant w) (Some most) (largest, tt) other.job (fits i other waits) (λ none. none m both.2.in_cube both.2.right) in
          elim limited [
            | inl same ↦ inl (subst (λ (o : Option ℕ). IsWithin o other.job) (sym same) within)
            | inr limits ↦ let short = (limits other.job).0 both.1 in inr (within, short.0, short.1)
          ]
    ]

    module _ (slot : ℕ) (wait : SchedWait) (is : IsFirstWaiting any (Some most) limit w core.jobs slot) (at : place_of core.jobs slot ≡ Waiting wait) where
      narrow : wait.job.dim ≤ w.dim
      narrow = fits (arrival_of core.jobs slot) wait (slot_waits w core.jobs k.jobs slot wait at)

      pub around_free : (m : ℕ) → IsFirst w.dim wait.job.dim (IsVacantBeside w avoid) m ⊎ (HasNone w.dim wait.job.dim (IsVacantBeside w avoid) × IsFirst w.dim wait.job.dim (IsVacant w) m)
          → IsPassBlockBy (Some kept) w wait.job m
      around_free m found = elim found [
        | inl first ↦ inl first
        | inr (none, first) ↦ elim (found_wanted any (Some most) limit slot wait is at) [
          | inl within ↦ absurd (within_has w.dim (IsVacantBeside w avoid) any besides wait.job narrow within none)
          | inr (within, some, short) ↦ elim limited [
            | inl same ↦
                absurd (within_has w.dim (IsVacantBeside w avoid) any besides wait.job narrow (subst (λ (o : Option ℕ). IsWithin o wait.job) (sym same) within) none)
            | inr limits ↦ inr (none, (limits wait.job).1 (some, short), first)
          ]
        ]
      ]

      pub around_found : HasNone w.dim wait.job.dim (IsVacant w) → ⊥
      around_found none = elim (found_wanted any (Some most) limit slot wait is at) [
        | inl within ↦
            within_has w.dim (IsVacantBeside w avoid) any besides wait.job narrow within (λ m inside right. none m inside right.0)
        | inr (within, _, _) ↦ within_has w.dim (IsVacant w) (Some most) (largest, tt) wait.job narrow within none
      ]
