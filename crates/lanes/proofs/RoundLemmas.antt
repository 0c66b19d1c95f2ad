-- A round of all lanes, lane by lane.
use Rattle.std.proofs.Common.{◌≡◌, ◌≢◌, ℕ, ◌+◌, ◌-◌, ◌<◌, ◌≤◌, ◌⊎◌, inl, inr, ⊎_elim, Bool, true, false, cond, length, sym, refl, ap, ◌∙◌, subst, arith}
use Rattle.std.proofs.lemmas.Bool.{true≢false, lt-ltb, le-ltb, cases_lt}
use Rattle.std.proofs.lemmas.List.{length-set, get_or-set_other}
use mathlib.Core.Logic.{dite}
use native.Mathlib.Decide.{ℕ_discrete}
use Rattle.lanes.specs.declared.takes.Taken.TheVariants.{Job, Empty, Lost, Ended}
use Rattle.lanes.specs.declared.rounds.TakenAny.TheVariants.{AnyJob, NoJob, AllEnded}
use Rattle.lanes.specs.declared.record.LaneJob.{LaneJob}
use Rattle.lanes.specs.declared.record.TakeRecord.{TakeRecord}
use Rattle.lanes.specs.declared.record.WorkerRecord.{WorkerRecord}
use Rattle.lanes.specs.Record.{fresh_take, take_of}
use Rattle.lanes.specs.Lanes.{Takes, ChangesOnly, Passes, TakesAny, TakeAnyKeeps, distance, call_steps}
use Rattle.lanes.specs.Inner.Round.{next_lane, Passing, Round}

-- ---- distances

-- The distance, by the two cases of its definition.
data At (lanes from k : ℕ) : Type 0 where
  before : k < from → distance lanes from k ≡ (k + lanes) - from → At lanes from k
  after : from ≤ k → distance lanes from k ≡ k - from → At lanes from k

at : (lanes from k : ℕ) → At lanes from k
at lanes from k = ⊎_elim
    (λ (low : k < from). before low (ap (λ b. cond b ((k + lanes) - from) (k - from)) (lt-ltb k from low)))
    (λ (high : from ≤ k). after high (ap (λ b. cond b ((k + lanes) - from) (k - from)) (le-ltb k from high)))
    (cases_lt k from)

distance_low : (lanes from k : ℕ) → from < lanes → k < lanes → distance lanes from k < lanes
distance_low lanes from k first low = elim (at lanes from k) [ before p is ↦ omega (arith, is, p) | after p is ↦ omega (arith, is, p) ]

pub one_distance : (lanes from k m : ℕ)
    → from < lanes
    → k < lanes
    → m < lanes
    → distance lanes from k ≡ distance lanes from m
    → k ≡ m
one_distance lanes from k m first low_k low_m same =
    elim (at lanes from k) [
      | before p is ↦ elim (at lanes from m) [ before q at_m ↦ omega (arith, is, at_m, same, p, q) | after q at_m ↦ omega (arith, is, at_m, same, p, q) ]
      | after p is ↦ elim (at lanes from m) [ before q at_m ↦ omega (arith, is, at_m, same, p, q) | after q at_m ↦ omega (arith, is, at_m, same, p, q) ]
    ]

pub first_distance : (lanes from : ℕ) → distance lanes from from ≡ 0
first_distance lanes from = elim (at lanes from from) [ before p is ↦ absurd (omega (arith, p)) | after p is ↦ omega (arith, is) ]

next_low : (lanes lane : ℕ)
    → lane < lanes
    → (next_lane lanes lane < lanes)
    × ((lane + 1 < lanes) × (next_lane lanes lane ≡ lane + 1) ⊎ (lanes ≡ lane + 1) × (next_lane lanes lane ≡ 0))
next_low lanes lane low = ⊎_elim
    (λ (more : lane + 1 < lanes). let is : next_lane lanes lane ≡ lane + 1 = ap (λ b. cond b (lane + 1) 0) (lt-ltb (lane + 1) lanes more) in (omega (arith, is, more), inl (more, is)))
    (λ (last : lanes ≤ lane + 1). let is : next_lane lanes lane ≡ 0 = ap (λ b. cond b (lane + 1) 0) (le-ltb (lane + 1) lanes last) in (omega (arith, is, low), inr (omega arith, is)))
    (cases_lt (lane + 1) lanes)

next_distance : (lanes from lane : ℕ)
    → from < lanes
    → lane < lanes
    → distance lanes from lane + 1 < lanes
    → distance lanes from (next_lane lanes lane) ≡ distance lanes from lane + 1
next_distance lanes from lane first low more =
    let next = next_lane lanes lane in
    elim (at lanes from lane) [
      | before p is ↦ elim (at lanes from next) [
        | before q at_n ↦ ⊎_elim (λ (t : (lane + 1 < lanes) × (next ≡ lane + 1)). omega (arith, is, at_n, t.1, p, q, more)) (λ (t : (lanes ≡ lane + 1) × (next ≡ 0)). omega (arith, is, at_n, t.0, t.1, p, q, more)) (next_low lanes lane low).1
        | after q at_n ↦ ⊎_elim (λ (t : (lane + 1 < lanes) × (next ≡ lane + 1)). omega (arith, is, at_n, t.1, p, q, more)) (λ (t : (lanes ≡ lane + 1) × (next ≡ 0)). omega (arith, is, at_n, t.0, t.1, p, q, more)) (next_low lanes lane low).1
      ]
      | after p is ↦ elim (at lanes from next) [
        | before q at_n ↦ ⊎_elim (λ (t : (lane + 1 < lanes) × (next ≡ lane + 1)). omega (arith, is, at_n, t.1, p, q, more)) (λ (t : (lanes ≡ lane + 1) × (next ≡ 0)). omega (arith, is, at_n, t.0, t.1, p, q, more)) (next_low lanes lane low).1
        | after q at_n ↦ ⊎_elim (λ (t : (lane + 1 < lanes) × (next ≡ lane + 1)). omega (arith, is, at_n, t.1, p, q, more)) (λ (t : (lanes ≡ lane + 1) × (next ≡ 0)). omega (arith, is, at_n, t.0, t.1, p, q, more)) (next_low lanes lane low).1
      ]
    ]

-- ---- the round

-- where the round is: at which lane, and what it did so far
pub record IsAt (lanes from lane turn : ℕ) (all_ended : Bool) (old now : WorkerRecord)
    : Type 0 where
  pub low : lane < lanes
  pub here : turn < lanes → distance lanes from lane ≡ turn
  pub round : Round lanes from turn all_ended old now

pub round_begins : (lanes from : ℕ) (w : WorkerRecord)
    → from < lanes
    → IsAt lanes from from 0 true w w
round_begins lanes from w first = record {
  low = first;
  here = λ some. first_distance lanes from;
  round = record {
    number = refl;
    plan = refl;
    long = refl;
    steps = λ k low. omega arith;
    passed = λ k low near. absurd (omega (arith, near));
    ended = λ all k low near. absurd (omega (arith, near));
    other = λ e. absurd (true≢false e);
    rest = λ k low far. refl;
  };
}

-- what the call in one lane leaves in the others
pub others_stay : (lane k : ℕ) (mid now : WorkerRecord)
    → ChangesOnly lane mid now
    → k ≢ lane
    → take_of k now ≡ take_of k mid
others_stay lane k mid now only other = ap (take_of k) only ∙ get_or-set_other mid.lanes lane k (take_of lane now) fresh_take other

module _ (lanes from lane turn : ℕ) (before_it : Bool) (old mid now : WorkerRecord)
    (first : from < lanes) (is : IsAt lanes from lane turn before_it old mid) (more : turn < lanes)
    (only : ChangesOnly lane mid now) where
  abbrev r : Round lanes from turn before_it old mid
  r = is.round

  at_lane : distance lanes from lane ≡ turn
  at_lane = is.here more

  fresh : take_of lane mid ≡ take_of lane old
  fresh = r.rest lane is.low (omega (arith, at_lane))

  not_here : (k : ℕ) → distance lanes from k ≢ turn → k ≢ lane
  not_here k other e = other (ap (distance lanes from) e ∙ at_lane)

  long_now : length now.lanes ≡ length old.lanes
  long_now = ap (λ (w : WorkerRecord). length w.lanes) only ∙ (length-set mid.lanes lane (take_of lane now) ∙ r.long)

  number_now : now.number ≡ old.number
  number_now = ap (λ (w : WorkerRecord). w.number) only ∙ r.number

  plan_now : now.plan ≡ old.plan
  plan_now = ap (λ (w : WorkerRecord). w.plan) only ∙ r.plan

  module _ (few : (take_of lane now).steps ≤ (take_of lane mid).steps + call_steps) where
    steps_now : (k : ℕ) → k < lanes → (take_of k now).steps ≤ (take_of k old).steps + call_steps
    steps_now k low =
        dite (ℕ_discrete k lane)
        (λ e. subst (λ (j : ℕ). (take_of j now).steps ≤ (take_of j old).steps + call_steps) (sym e) (omega (arith, few, ap (λ (t : TakeRecord). t.steps) fresh)))
        (λ ne. omega (arith, r.steps k low, ap (λ (t : TakeRecord). t.steps) (others_stay lane k mid now only ne)))

    -- a lane that was visited earlier, or is visited now
    visited : (P : TakeRecord → TakeRecord → Type 0)
        → ((k : ℕ) → k < lanes → distance lanes from k < turn → P (take_of k old) (take_of k mid))
        → P (take_of lane mid) (take_of lane now)
        → (k : ℕ)
        → k < lanes
        → distance lanes from k < turn + 1
        → P (take_of k old) (take_of k now)
    visited P earlier here k low near =
        dite (ℕ_discrete k lane)
        (λ e. subst (λ (j : ℕ). P (take_of j old) (take_of j now)) (sym e) (subst (λ (t : TakeRecord). P t (take_of lane now)) fresh here))
        (λ ne. let apart : distance lanes from k ≢ turn = λ e. ne (one_distance lanes from k lane first low is.low (e ∙ sym at_lane)) in subst (P (take_of k old)) (sym (others_stay lane k mid now only ne)) (earlier k low (omega (arith, near, apart))))

    passes_of : (b c : Bool)
        → Passing b c (take_of lane mid) (take_of lane now)
        → Passes (take_of lane mid) (take_of lane now)
    passes_of b c passing = ⊎_elim (λ (p : (c ≡ b) × Takes (take_of lane mid) Ended (take_of lane now)). inr (inr p.1)) (λ (p : (c ≡ false) × (Takes (take_of lane mid) Empty (take_of lane now) ⊎ Takes (take_of lane mid) Lost (take_of lane now))). ⊎_elim (λ e. inl e) (λ l. inr (inl l)) p.1) passing

    pub round_goes_on : (after_it : Bool)
        → Passing before_it after_it (take_of lane mid) (take_of lane now)
        → IsAt lanes from (next_lane lanes lane) (turn + 1) after_it old now
    round_goes_on after_it passing =
        let AnyOther : TakeRecord → TakeRecord → Type 0 = λ a b. Takes a Empty b ⊎ Takes a Lost b in
        record {
          low = (next_low lanes lane is.low).0;
          here = λ some. next_distance lanes from lane first is.low (omega (arith, some, at_lane)) ∙ ap (λ (n : ℕ). n + 1) at_lane;
          round = record {
            number = number_now;
            plan = plan_now;
            long = long_now;
            steps = steps_now;
            passed = visited Passes r.passed (passes_of before_it after_it passing);
            ended = λ all. ⊎_elim
                (λ (p : (after_it ≡ before_it) × Takes (take_of lane mid) Ended (take_of lane now)). visited (λ a b. Takes a Ended b) (r.ended (sym p.0 ∙ all)) p.1)
                (λ (p : (after_it ≡ false) × AnyOther (take_of lane mid) (take_of lane now)). absurd (true≢false (sym all ∙ p.0)))
                passing;
            other = λ not_all. ⊎_elim
                (λ (p : (after_it ≡ before_it) × Takes (take_of lane mid) Ended (take_of lane now)).
                let one = r.other (sym p.0 ∙ not_all) in
                (one.0, one.1, omega (arith, one.2), subst (AnyOther (take_of one.0 old)) (sym (others_stay lane one.0 mid now only (not_here one.0 (λ e. omega (arith, e, one.2))))) one.3))
                (λ (p : (after_it ≡ false) × AnyOther (take_of lane mid) (take_of lane now)). (lane, is.low, omega (arith, at_lane), subst (λ (t : TakeRecord). AnyOther t (take_of lane now)) fresh p.1))
                passing;
            rest = λ k low far. others_stay lane k mid now only (not_here k (λ e. omega (arith, e, far))) ∙ r.rest k low (omega (arith, far));
          };
        }

    -- the round ends at a job
    pub round_has_job : (job : LaneJob) (left : ℕ)
        → Takes (take_of lane mid) (Job job left) (take_of lane now)
        → TakesAny lanes from old (AnyJob lane job left) now × TakeAnyKeeps lanes old now
    round_has_job job left takes = (
      (
        is.low,
        subst (λ (t : TakeRecord). Takes t (Job job left) (take_of lane now)) fresh takes,
        (λ k low near. subst (Passes (take_of k old)) (sym (others_stay lane k mid now only (not_here k (λ e. omega (arith, e, near, at_lane))))) (r.passed k low (omega (arith, near, at_lane)))),
        (λ k low far. others_stay lane k mid now only (not_here k (λ e. omega (arith, e, far, at_lane))) ∙ r.rest k low (omega (arith, far, at_lane))),
      ),
      record { number = number_now; plan = plan_now; long = long_now; steps = steps_now },
    )

module _ (lanes from lane turn : ℕ) (all_ended : Bool) (old now : WorkerRecord)
    (first : from < lanes) (is : IsAt lanes from lane turn all_ended old now) (done : lanes ≤ turn)
  where
    pub round_keeps : TakeAnyKeeps lanes old now
    round_keeps = let r = is.round in record { number = r.number; plan = r.plan; long = r.long; steps = r.steps }

    pub round_ends : all_ended ≡ true → TakesAny lanes from old AllEnded now
    round_ends all k low = is.round.ended all k low (omega (arith, done, distance_low lanes from k first low))

    pub round_has_none : all_ended ≡ false → TakesAny lanes from old NoJob now
    round_has_none not_all =
        let one = is.round.other not_all in
        ((λ k low. is.round.passed k low (omega (arith, done, distance_low lanes from k first low))), (one.0, one.1, one.3))
