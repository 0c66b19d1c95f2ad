-- What is decided, and its start.
use Rattle.std.proofs.Common.{◌≡◌, ◌≢◌, ℕ, ◌+◌, ◌*◌, ◌^◌, ◌<◌, ◌≤◌, ◌⊎◌, inl, inr, min, Bool, true, false, not, IsTrue, Option, Some, None, refl, sym, ◌∙◌, ap, subst}
use Rattle.std.specs.Prelude.{◌↔◌}
use Rattle.std.proofs.lemmas.Bool.{false≢true}
use Rattle.cube_shape.specs.declared.region.Region.{Region}
use Rattle.cube_shape.specs.Region.{IsAligned, block}
use Rattle.sched_law.specs.declared.job.TheConstants.{NEVER}
use Rattle.sched_law.specs.declared.job.SchedWait.{SchedWait}
use Rattle.sched_law.specs.declared.job.Place.TheVariants.{Waiting, Running}
use Rattle.sched_law.specs.State.{Sched, IsVacant, at, block_of, end_after, held, pass, reserve, set, start}
use Rattle.sched_law.specs.Policy.{Chooses, Decides, HasNone, HasUsable, IsBlocked, IsFirst, IsLatest, IsPassBlockBy, MayPass, Prepares}
use Rattle.sched_law.specs.Policy as policy
use Rattle.sched_law.proofs.SetLemmas.{held_run, look, runs_waits, set_here, wait_is}
use Rattle.sched_law.proofs.BlockLemmas.{first_aligned}
use Rattle.sched_law.proofs.PolicyLemmas.{head_waits, rests}
use Rattle.sched_law.proofs.SafeLemmas.{head_by, pass_block, prepare_same}
use Rattle.sched_law.proofs.EndLemmas.{settled_after}
use Rattle.sched_law.proofs.OneLemmas.{decide_one}
use Rattle.sched_blocks.proofs.SameLemmas.{prepare_shows}
use Rattle.sched_jobs.specs.declared.jobs.Jobs.{Jobs}
use Rattle.sched_jobs.specs.Counts.{HasKnownEnd}
use Rattle.sched_jobs.specs.Shows.{arrival_of, capacity_of, place_of}
use Rattle.sched_core.specs.declared.assigned.Assigned.{Assigned}
use Rattle.sched_core.specs.declared.assigned.Decision.{Decision}
use Rattle.sched_core.specs.declared.scheduler.Core.{Core}
use Rattle.sched_core.specs.Shows.{ShowsCore, ShowsKept}
use Rattle.sched_core.specs.Answers.{IsAnnounced, IsPrepared, answer_of, slot_of}
use Rattle.sched_core.specs.Inner.{HasNonePassing, IsHeadSlot, IsPassing, IsPick, PassesHead, StartsHead}
use Rattle.sched_core.proofs.JobLemmas.{slot_once, slot_waits, waiting_present}
use Rattle.sched_core.proofs.CoreLemmas.{core_safe}
use Rattle.sched_core.proofs.ChoiceLemmas.{kept_none, pass_some}
use Rattle.sched_blocks.proofs.ExistLemmas.{latest_never, some_chosen}

-- ---- preparations

-- the blocks are those before it
pub prepared_none : (w v : Sched) (h : ℕ) (head : SchedWait) (d : ℕ) → Prepares w h head v → HasNone w.dim d (IsVacant w) → HasNone v.dim d (IsVacant v)
prepared_none w _ h head d (policy.keeps reserved stands) none = none
prepared_none w _ h head d (policy.defers r is chooses latest few) none = none
prepared_none w _ h head d (policy.reserves r t is chooses latest enough) none = none

prepared_stays : (w v : Sched) (h : ℕ) (head : SchedWait) → IsBlocked w h head → Prepares w h head v → IsBlocked v h head × Prepares v h head v
prepared_stays w _ h head blocked (policy.keeps reserved stands) = (blocked, policy.keeps reserved stands)
prepared_stays w _ h head blocked (policy.defers r none chooses latest few) = (blocked, policy.defers r none chooses latest few)
prepared_stays w _ h head blocked (policy.reserves r t none chooses latest enough) =
    (((refl, head_waits w h head blocked.0), blocked.1), policy.keeps (record { job = h; block = r }) refl)

-- what has passed is compared with the patience
pub few_by : (w : Sched) (core : Core) (passed d : ℕ) → ShowsCore w core → d ≡ core.blocks.dim → passed < core.patience * 2 ^ d → passed < w.patience * 2 ^ w.dim
few_by w core passed d k dims few =
    let exponents : d ≡ w.dim = dims ∙ sym k.machine.dim in
    subst (λ p. passed < p * 2 ^ w.dim) (sym k.patience) (subst (λ i. passed < core.patience * 2 ^ i) exponents few)

pub many_by : (w : Sched) (core : Core) (passed d : ℕ) → ShowsCore w core → d ≡ core.blocks.dim → core.patience * 2 ^ d ≤ passed → w.patience * 2 ^ w.dim ≤ passed
many_by w core passed d k dims many =
    let exponents : d ≡ w.dim = dims ∙ sym k.machine.dim in
    subst (λ p. p * 2 ^ w.dim ≤ passed) (sym k.patience) (subst (λ i. core.patience * 2 ^ i ≤ passed) exponents many)

-- the opposite of a test
pub none_of : (r : Bool) (P : Type 0) → IsTrue r ↔ P → IsTrue (not r) ↔ (P → ⊥)
none_of true P test = (λ no. absurd (false≢true no), λ none. absurd (none (test.0 refl)))
none_of false P test = (λ _ is. false≢true (test.1 is), λ _. refl)

module _ (w : Sched) (core : Core) (k : ShowsCore w core) (slot : ℕ) (head : IsHeadSlot w core.jobs slot) where
  abbrev number : ℕ
  number = arrival_of core.jobs slot

  pub prepare_keeps : (core.reserved ≡ None → ⊥) → Prepares w number head.head w
  prepare_keeps other = by core.reserved k.kept other
    where
      by : (o : Option Assigned) → ShowsKept w.reserved core.jobs o → (o ≡ None → ⊥) → Prepares w number head.head w
      by None shown other = absurd (other refl)
      by (Some it) shown other = policy.keeps (record { job = arrival_of core.jobs it.slot; block = it.block }) shown.2

  -- while no end is known, the head waits for a reservation if no block is free for it
  pub prepare_waits : core.reserved ≡ None → (wait : SchedWait) → place_of core.jobs slot ≡ Waiting wait → (HasKnownEnd w → ⊥) → wait.passed < w.patience * 2 ^ w.dim
      → HasNone w.dim head.head.job.dim (IsVacant w) → Prepares w number head.head w
  prepare_waits none wait at unknown few blocked =
      let is : wait ≡ head.head = wait_is (sym at ∙ head.at) in
      let has = (head_by w number head.head (kept_none w core k none) head.is_head).0.1 in
      let found = some_chosen w core.blocks k.machine head.head.job.dim has in
      let latest = latest_never w core.blocks k.machine (λ j run runs known. unknown (j, run, runs, known)) head.head.job.dim found.0 has blocked found.1 in
      policy.defers found.0 (kept_none w core k none) found.1 latest (subst (λ (x : SchedWait). x.passed < w.patience * 2 ^ w.dim) is few)

  module _ (none : core.reserved ≡ None) (wait : SchedWait) (at : place_of core.jobs slot ≡ Waiting wait) (r : Region)
      (chosen : HasUsable w wait.job.dim → Chooses w wait.job.dim (block w.dim 0) r) where
    same : wait ≡ head.head
    same = wait_is (sym at ∙ head.at)

    chooses : Chooses w head.head.job.dim (block w.dim 0) r
    chooses =
        subst (λ (x : SchedWait). HasUsable w x.job.dim → Chooses w x.job.dim (block w.dim 0) r) same chosen
        (head_by w number head.head (kept_none w core k none) head.is_head).0.1

    pub prepare_defers : IsLatest w r NEVER → wait.passed < w.patience * 2 ^ w.dim → Prepares w number head.head w
    prepare_defers latest few =
        policy.defers r (kept_none w core k none) chooses latest (subst (λ (x : SchedWait). x.passed < w.patience * 2 ^ w.dim) same few)

    module _ (t : ℕ) (latest : IsLatest w r t) (enough : (t < NEVER) ⊎ (w.patience * 2 ^ w.dim ≤ wait.passed)) where
      pub prepare_reserves : Prepares w number head.head (reserve (arrival_of core.jobs slot) r w)
      prepare_reserves =
          policy.reserves r t (kept_none w core k none) chooses latest (subst (λ (x : SchedWait). (t < NEVER) ⊎ (w.patience * 2 ^ w.dim ≤ x.passed)) same enough)

      pub reserve_core : ShowsCore (reserve (arrival_of core.jobs slot) r w) (record core { reserved = Some (record { slot = slot; block = r }) })
      reserve_core = record {
        limit = k.limit;
        machine = prepare_shows w (reserve number r w) core.blocks k.machine number head.head head.is_head prepare_reserves;
        jobs = k.jobs;
        time = k.time;
        patience = k.patience;
        kept = (head.inside, (wait, at), refl);
      }

-- ---- what is picked

pub pick_waits : (w v : Sched) (jobs : Jobs) (slot : ℕ) (head : IsHeadSlot w jobs slot) → HasNone w.dim head.head.job.dim (IsVacant w)
    → Prepares w (arrival_of jobs slot) head.head v → HasNonePassing v.reserved v → Decides w None v
pick_waits w v jobs slot head none prepares nobody =
    policy.waits (arrival_of jobs slot) head.head v (head.is_head, none) prepares (λ j wait may. nobody j wait may.1 may.2.0 may.2.1)

pub pick_passes : (w v : Sched) (jobs : Jobs) (slot : ℕ) (it : Assigned) (head : IsHeadSlot w jobs slot) → HasNone w.dim head.head.job.dim (IsVacant w)
    → Prepares w (arrival_of jobs slot) head.head v → IsPassing v.reserved v jobs it → PassesHead w v jobs (record { slot = it.slot; head = slot; block = it.block })
pick_passes w v jobs slot it head none prepares passing = record {
  other = λ same.
      let waits : head.head ≡ passing.wait = wait_is (sym head.at ∙ ap (place_of jobs) same ∙ passing.at) in
      pass_some v.reserved v passing.wait.job passing.m passing.free
      (subst (λ (x : SchedWait). HasNone v.dim x.job.dim (IsVacant v)) waits (prepared_none w v (arrival_of jobs slot) head.head head.head.job.dim prepares none));
  slot = head;
  blocked = none;
  prepares = prepares;
  passing = passing;
}

-- the same, over a table that stayed
pub moved_passes : (w v : Sched) (old new : Jobs) (slot : ℕ) (it : Assigned) → new ≡ old → (head : IsHeadSlot w old slot) → HasNone w.dim head.head.job.dim (IsVacant w)
    → Prepares w (arrival_of old slot) head.head v → IsPassing v.reserved v new it → PassesHead w v new (record { slot = it.slot; head = slot; block = it.block })
moved_passes w v old new slot it same head none prepares =
    subst (λ (x : Jobs). IsPassing v.reserved v x it → PassesHead w v x (record { slot = it.slot; head = slot; block = it.block })) (sym same) (pick_passes w v old slot it head none prepares)

module _ (w : Sched) (jobs : Jobs) (slot : ℕ) (head : IsHeadSlot w jobs slot) (wait : SchedWait) (at : place_of jobs slot ≡ Waiting wait) where
  pub head_blocked : HasNone w.dim wait.job.dim (IsVacant w) → HasNone w.dim head.head.job.dim (IsVacant w)
  head_blocked none = subst (λ (x : SchedWait). HasNone w.dim x.job.dim (IsVacant w)) (wait_is (sym at ∙ head.at)) none

  pub pick_starts : (r : Region) (m : ℕ) → r ≡ block wait.job.dim m → IsFirst w.dim wait.job.dim (IsVacant w) m → StartsHead w w jobs (record { slot = slot; head = slot; block = r })
  pick_starts r m place first = record {
    same = refl;
    alone = refl;
    slot = head;
    m = m;
    first = subst (λ (x : SchedWait). IsFirst w.dim x.job.dim (IsVacant w) m) (wait_is (sym at ∙ head.at)) first;
    place = subst (λ (x : SchedWait). r ≡ block x.job.dim m) (wait_is (sym at ∙ head.at)) place;
  }

pub pick_inside : (w v : Sched) (jobs : Jobs) (it : Decision) → IsPick w v jobs (Some it) → it.slot < capacity_of jobs
pick_inside w v jobs it picks = elim picks [ inl p ↦ p.slot.inside | inr p ↦ p.passing.inside ]

-- ---- the start of the head

module _ (w v : Sched) (core : Core) (it : Decision) (k : ShowsCore v core) (p : StartsHead w v core.jobs it) where
  -- what the start leaves
  abbrev pub started : Sched
  started = start (arrival_of core.jobs it.slot) p.slot.head.job it.block v

  head_fits : p.slot.head.job.dim ≤ v.dim
  head_fits = ((core_safe v core k).waiting (arrival_of core.jobs it.slot) p.slot.head (slot_waits v core.jobs k.jobs it.slot p.slot.head p.slot.at)).fits

  first_in : IsFirst v.dim p.slot.head.job.dim (IsVacant v) p.m
  first_in = subst (λ (x : Sched). IsFirst x.dim p.slot.head.job.dim (IsVacant x) p.m) (sym p.same) p.first

  pub start_vacant : IsVacant v it.block
  start_vacant = subst (IsVacant v) (sym p.place) first_in.right

  pub start_aligned : IsAligned core.blocks.dim it.block
  start_aligned =
      subst (λ n. IsAligned n it.block) k.machine.dim (subst (IsAligned v.dim) (sym p.place) (first_aligned v.dim p.slot.head.job.dim p.m (IsVacant v) head_fits first_in))

  pub start_sized : it.block.dim ≡ p.slot.head.job.dim
  start_sized = ap (λ (r : Region). r.dim) p.place

  pub start_decides : Decides w (Some (arrival_of core.jobs it.slot)) started
  start_decides =
      subst (λ (x : Sched). Decides w (Some (arrival_of core.jobs it.slot)) (start (arrival_of core.jobs it.slot) p.slot.head.job it.block x)) (sym p.same)
      (subst (λ (r : Region). Decides w (Some (arrival_of core.jobs it.slot)) (start (arrival_of core.jobs it.slot) p.slot.head.job r w)) (sym p.place)
      (policy.starts (arrival_of core.jobs it.slot) p.m p.slot.head p.slot.is_head p.first))

-- ---- the start of another job

-- a count changes no block
counted_vacant : (w : Sched) (h : ℕ) (head : SchedWait) (d : ℕ) (r : Region) → IsVacant w r → IsVacant (pass h head d w) r
counted_vacant w h head d r vacant = (λ t a is. vacant.0 t a (back t a is), vacant.1)
  where
    new : SchedWait
    new = record { job = head.job; passed = min (head.passed + 2 ^ d) NEVER }

    back : (t : ℕ) (a : Region) → held (pass h head d w) t ≡ Some a → held w t ≡ Some a
    back t a is =
        let found = held_run (set w.place h (Waiting new)) t a is in
        elim (look w.place h (Waiting new) t (Running found.0) found.1) [
          | inl (here, other) ↦ absurd (runs_waits (sym other))
          | inr (other, was) ↦ ap block_of was ∙ ap (λ (x : Region). Some x) found.2
        ]

module _ (w v : Sched) (core : Core) (it : Decision) (k : ShowsCore v core) (p : PassesHead w v core.jobs it) where
  abbrev h : ℕ
  h = arrival_of core.jobs it.head

  abbrev j : ℕ
  j = arrival_of core.jobs it.slot

  -- what the count leaves, and then the start
  abbrev pub counted : Sched
  counted = pass (arrival_of core.jobs it.head) p.slot.head it.block.dim v

  abbrev pub passed : Sched
  passed = start (arrival_of core.jobs it.slot) p.passing.wait.job it.block counted

  wait_fits : p.passing.wait.job.dim ≤ v.dim
  wait_fits = ((core_safe v core k).waiting j p.passing.wait p.passing.waits).fits

  found : IsAligned v.dim (block p.passing.wait.job.dim p.passing.m) × IsVacant v (block p.passing.wait.job.dim p.passing.m)
  found = pass_block v p.passing.wait.job p.passing.m wait_fits p.passing.free

  pub pass_sized : it.block.dim ≡ p.passing.wait.job.dim
  pass_sized = ap (λ (r : Region). r.dim) p.passing.place

  pub pass_vacant : IsVacant counted it.block
  pass_vacant = counted_vacant v h p.slot.head it.block.dim it.block (subst (IsVacant v) (sym p.passing.place) found.1)

  pub pass_aligned : IsAligned core.blocks.dim it.block
  pass_aligned = subst (λ n. IsAligned n it.block) k.machine.dim (subst (IsAligned v.dim) (sym p.passing.place) found.0)

  apart : j ≢ h
  apart same =
      p.other (sym (slot_once v core.jobs k.jobs it.slot it.head (waiting_present (place_of core.jobs it.slot) p.passing.wait p.passing.at) (waiting_present (place_of core.jobs it.head) p.slot.head p.slot.at) same))

  -- the same, from any state with this head
  decides_from : (u : Sched) → IsBlocked u h p.slot.head → Prepares u h p.slot.head v → Decides u (Some j) passed
  decides_from u blocked prepares =
      subst (λ (d : ℕ). Decides u (Some j) (start j p.passing.wait.job it.block (pass h p.slot.head d v))) (sym pass_sized)
      (subst (λ (r : Region). Decides u (Some j) (start j p.passing.wait.job r (pass h p.slot.head p.passing.wait.job.dim v))) (sym p.passing.place)
      (policy.passes h j p.passing.m p.slot.head p.passing.wait v blocked prepares (apart, p.passing.waits, (p.passing.m, p.passing.free))
      (λ i other may before. p.passing.first i other may.1 may.2.0 may.2.1 before) p.passing.free))

  pub pass_decides : Decides w (Some (arrival_of core.jobs it.slot)) passed
  pass_decides = decides_from w (p.slot.is_head, p.blocked) p.prepares

  pub pass_again : Decides v (Some (arrival_of core.jobs it.slot)) passed
  pass_again = let again = prepared_stays w v h p.slot.head (p.slot.is_head, p.blocked) p.prepares in decides_from v again.0 again.1

-- ---- what is announced

-- the time stays in a preparation
prepared_now : (t : ℕ) (w v : Sched) → IsPrepared (at t w) v → v.now ≡ t
prepared_now t w v is = elim is [
  | inl same ↦ ap (λ (x : Sched). x.now) same
  | inr (h, head, blocked, prepares) ↦ (prepare_same (at t w) v h head prepares).3
]

pub announced_starts : (t : ℕ) (w v u after : Sched) (core : Core) (answer : Option Assigned) (started : Option ℕ) → IsAnnounced (at t w) v u core answer
    → Decides (at t v) started after → (started ≡ answer_of core (slot_of answer)) × (after ≡ u)
announced_starts t w v u after core answer started is decides =
    let same : at t v ≡ v = ap (λ (n : ℕ). record v { now = n }) (sym (prepared_now t w v is.prepared)) in
    decide_one v after u started (answer_of core (slot_of answer)) (subst (λ (x : Sched). Decides x started after) same decides) is.again

pub announce_none : (w v : Sched) (core : Core) → Decides w None v → IsAnnounced w v v core None
announce_none w v core decides = record {
  prepared = elim (rests w v None decides refl) [
    | inl (_, same) ↦ inl (sym same)
    | inr (h, head, blocked, prepares, _) ↦ inr (h, head, blocked, prepares)
  ];
  decides = decides;
  again = settled_after w v decides;
  block = tt;
}

pub announce_some : (w v : Sched) (core : Core) (it : Decision) → ShowsCore v core → IsPick w v core.jobs (Some it)
    → (u : Sched) × IsAnnounced w v u core (Some (record { slot = it.slot; block = it.block }))
announce_some w v core it k picks = elim picks [
  | inl p ↦ (
    started w v core it k p,
    record {
      prepared = inl p.same;
      decides = start_decides w v core it k p;
      again = subst (λ (x : Sched). Decides x (Some (arrival_of core.jobs it.slot)) (started w v core it k p)) (sym p.same) (start_decides w v core it k p);
      block = (
        record { job = p.slot.head.job; block = it.block; end = end_after v.now p.slot.head.job.estimate },
        set_here v.place (arrival_of core.jobs it.slot) (Running (record { job = p.slot.head.job; block = it.block; end = end_after v.now p.slot.head.job.estimate })),
        refl,
      );
    },
  )
  | inr p ↦ (
    passed w v core it k p,
    record {
      prepared = inr (arrival_of core.jobs it.head, p.slot.head, (p.slot.is_head, p.blocked), p.prepares);
      decides = pass_decides w v core it k p;
      again = pass_again w v core it k p;
      block = (
        record { job = p.passing.wait.job; block = it.block; end = end_after v.now p.passing.wait.job.estimate },
        set_here (counted w v core it k p).place (arrival_of core.jobs it.slot) (Running (record { job = p.passing.wait.job; block = it.block; end = end_after v.now p.passing.wait.job.estimate })),
        refl,
      );
    },
  )
]
