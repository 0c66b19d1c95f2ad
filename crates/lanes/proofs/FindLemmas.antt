-- What rounds of a worker that may sleep leave in its record.
use Rattle.std.proofs.Common.{◌≡◌, ◌≢◌, false, Option, Some, None, ℕ, ◌+◌, ◌-◌, ◌<◌, ◌≤◌, ◌⊎◌, ⊎_elim, List, [], ◌∷◌, ◌++◌, length, refl, sym, ap, ◌∙◌, subst, arith}
use Rattle.std.specs.Prelude.{if◌then◌else◌}
use Rattle.std.proofs.lemmas.Bool.{lt-ltb, le-ltb, cases_lt}
use mathlib.Core.Logic.{dite}
use native.Mathlib.Decide.{ℕ_discrete}
use Rattle.wake_pool.specs.declared.phase.WakePhase.TheVariants.{Idle, Looking, Resting, Reading}
use Rattle.wake_pool.specs.Schedule.{looking, resting}
use Rattle.lanes.specs.declared.record.LaneJob.{LaneJob}
use Rattle.lanes.specs.declared.record.TakeRecord.{TakeRecord}
use Rattle.lanes.specs.declared.record.WorkerRecord.{WorkerRecord}
use Rattle.lanes.specs.declared.takes.Taken.TheVariants.{Empty, Lost, Ended}
use Rattle.lanes.specs.declared.rounds.Looked.{Looked}
use Rattle.lanes.specs.declared.rounds.Looked.TheVariants.{Jobs, NoneLeft, AllTaken}
use Rattle.lanes.specs.declared.rounds.TakenAny.TheVariants.{AnyJob, NoJob, AllEnded}
use Rattle.lanes.specs.declared.finder.Found.{Found}
use Rattle.lanes.specs.declared.finder.Found.TheVariants.{Job, Ended as FoundEnd, Park, Again}
use Rattle.wake_calls.specs.declared.deed.WakeDeed.{WakeDeed}
use Rattle.lanes.specs.Deeds.{given_in, has_call, after_gift, and_given}
use Rattle.lanes.specs.Record.{take_of, after_head, after_tail}
use Rattle.lanes.specs.Lanes.{Looks, Takes, Passes, TakesAny, TakeAnyKeeps, TakesNothing, ChangesOnly, distance, call_steps, look_steps}
use Rattle.lanes.specs.Sleep.{FindsNone, FindsOne, Finds, SawEnd, SawOpen, IsNone}
use Rattle.lanes.specs.Inner.Find.{LooksTo}
use Rattle.lanes.proofs.RoundLemmas.{others_stay, one_distance}

-- a read of the count of taken jobs, and one of the count of accepted jobs
pub looks_once : (head : ℕ) (a b c : TakeRecord)
    → b ≡ after_head head a
    → TakesNothing 1 b c
    → TakesNothing look_steps a c
looks_once head a b c reads look = (look.0 ∙ ap (λ (t : TakeRecord). t.taken) reads, let steps = ap (λ (t : TakeRecord). t.steps) reads in omega (arith, look.1, steps))

-- a look at a lane takes nothing
pub looks_nothing : (a b : TakeRecord) (result : Looked) → Looks a result b → TakesNothing look_steps a b
looks_nothing a b (Jobs n) look = ⊎_elim
    (λ (e : b ≡ after_head b.head a). (ap (λ (t : TakeRecord). t.taken) e, let steps = ap (λ (t : TakeRecord). t.steps) e in omega (arith, steps)))
    (λ (e : b ≡ after_tail b.tail (after_head b.head a)). (ap (λ (t : TakeRecord). t.taken) e, let steps = ap (λ (t : TakeRecord). t.steps) e in omega (arith, steps)))
    look.2
looks_nothing a b NoneLeft look = (ap (λ (t : TakeRecord). t.taken) look, let steps = ap (λ (t : TakeRecord). t.steps) look in omega (arith, steps))
looks_nothing a b AllTaken look = (ap (λ (t : TakeRecord). t.taken) look, let steps = ap (λ (t : TakeRecord). t.steps) look in omega (arith, steps))

-- a lane that was found open
pub saw_open : (a b : TakeRecord) → Looks a NoneLeft b → SawOpen b
saw_open a b look = (a.empties, b.head, ap (λ (t : TakeRecord). t.empties) look)

-- ---- phases

pub under_resting : (lanes l : ℕ) → l < lanes → resting lanes l ≡ Resting l
under_resting lanes l low = ap (λ b. if b then Resting l else Reading) (lt-ltb l lanes low)

pub over_resting : (lanes l : ℕ) → lanes ≤ l → resting lanes l ≡ Reading
over_resting lanes l high = ap (λ b. if b then Resting l else Reading) (le-ltb l lanes high)

pub under_looking : (lanes l : ℕ) → l < lanes → looking lanes l ≡ Looking l
under_looking lanes l low = ap (λ b. if b then Looking l else Idle) (lt-ltb l lanes low)

pub over_looking : (lanes l : ℕ) → lanes ≤ l → looking lanes l ≡ Idle
over_looking lanes l high = ap (λ b. if b then Looking l else Idle) (le-ltb l lanes high)

-- ---- looks at all lanes

pub looks_begin : (lanes : ℕ) (w : WorkerRecord) → LooksTo lanes 0 w w
looks_begin lanes w = record {
  number = refl;
  plan = refl;
  long = refl;
  seen = λ k low near. absurd (omega (arith, near));
  rest = λ k low far. refl;
}

pub looks_on : (lanes lane : ℕ) (old mid now : WorkerRecord)
    → LooksTo lanes lane old mid
    → lane < lanes
    → ChangesOnly lane mid now
    → TakesNothing look_steps (take_of lane mid) (take_of lane now)
    → length now.lanes ≡ length mid.lanes
    → LooksTo lanes (lane + 1) old now
looks_on lanes lane old mid now r within only here long = record {
  number = ap (λ (w : WorkerRecord). w.number) only ∙ r.number;
  plan = ap (λ (w : WorkerRecord). w.plan) only ∙ r.plan;
  long = long ∙ r.long;
  seen = λ k low near. dite (ℕ_discrete k lane)
      (λ e. subst (λ (j : ℕ). TakesNothing look_steps (take_of j old) (take_of j now)) (sym e) (subst (λ (t : TakeRecord). TakesNothing look_steps t (take_of lane now)) (r.rest lane within (omega arith)) here))
      (λ ne. subst (TakesNothing look_steps (take_of k old)) (sym (others_stay lane k mid now only ne)) (r.seen k low (omega (arith, near, ne))));
  rest = λ k low far. others_stay lane k mid now only (λ e. omega (arith, e, far)) ∙ r.rest k low (omega (arith, far));
}

-- no step was made
nothing_same : (n : ℕ) (a b : TakeRecord) → b ≡ a → TakesNothing n a b
nothing_same n a b same = (ap (λ (t : TakeRecord). t.taken) same, let steps = ap (λ (t : TakeRecord). t.steps) same in omega (arith, steps))

pub looks_end : (lanes lane : ℕ) (old now : WorkerRecord)
    → LooksTo lanes lane old now
    → FindsNone lanes look_steps old now
looks_end lanes lane old now r = record {
  number = r.number;
  plan = r.plan;
  long = r.long;
  nothing = λ k low. ⊎_elim (λ (near : k < lane). r.seen k low near) (λ (far : lane ≤ k). nothing_same look_steps (take_of k old) (take_of k now) (r.rest k low far)) (cases_lt k lane);
}

-- ---- what a round leaves

passes_taken : (a b : TakeRecord) → Passes a b → b.taken ≡ a.taken
passes_taken a b passes = ⊎_elim (λ (e : Takes a Empty b). e.1) (λ (p : Takes a Lost b ⊎ Takes a Ended b). ⊎_elim (λ (l : Takes a Lost b). l.1) (λ (e : Takes a Ended b). e.1) p) passes

pub none_same : (lanes n : ℕ) (old new : WorkerRecord) → new ≡ old → FindsNone lanes n old new
none_same lanes n old new same = record {
  number = ap (λ (w : WorkerRecord). w.number) same;
  plan = ap (λ (w : WorkerRecord). w.plan) same;
  long = ap (λ (w : WorkerRecord). length w.lanes) same;
  nothing = λ k low. nothing_same n (take_of k old) (take_of k new) (ap (take_of k) same);
}

module _ (lanes from : ℕ) (old new : WorkerRecord) (keeps : TakeAnyKeeps lanes old new) where
  pub round_none : TakesAny lanes from old NoJob new → FindsNone lanes call_steps old new
  round_none takes = record {
    number = keeps.number;
    plan = keeps.plan;
    long = keeps.long;
    nothing = λ k low. (passes_taken (take_of k old) (take_of k new) (takes.0 k low), keeps.steps k low);
  }

  pub round_ended : TakesAny lanes from old AllEnded new
      → FindsNone lanes call_steps old new × ((k : ℕ) → k < lanes → SawEnd (take_of k new))
  round_ended takes = (
    record {
      number = keeps.number;
      plan = keeps.plan;
      long = keeps.long;
      nothing = λ k low. ((takes k low).1, keeps.steps k low);
    },
    λ k low. ((take_of k old).empties, (takes k low).0, (takes k low).3),
  )

  pub round_one : (lane : ℕ) (job : LaneJob) (left : ℕ)
      → from < lanes
      → TakesAny lanes from old (AnyJob lane job left) new
      → FindsOne lanes from call_steps lane job left old new
  round_one lane job left first takes = record {
    number = keeps.number;
    plan = keeps.plan;
    long = keeps.long;
    low = takes.0;
    taken = takes.1.0;
    left_is = omega (arith, takes.1.1);
    others = λ k low other. ⊎_elim
        (λ (near : distance lanes from k < distance lanes from lane). passes_taken (take_of k old) (take_of k new) (takes.2 k low near))
        (λ (far : distance lanes from lane ≤ distance lanes from k). ap (λ (t : TakeRecord). t.taken) (takes.3 k low (let apart : distance lanes from k ≢ distance lanes from lane = λ e. other (one_distance lanes from k lane first low takes.0 e) in omega (arith, far, apart))))
        (cases_lt (distance lanes from k) (distance lanes from lane));
    few = keeps.steps;
    in_round = record {
      before = old;
      after = new;
      left = left;
      first = none_same lanes call_steps old old refl;
      round = takes;
      last = none_same lanes call_steps new new refl;
    };
  }

-- ---- rounds one after another

pub none_then : (lanes a b n : ℕ) (old mid new : WorkerRecord)
    → FindsNone lanes a old mid
    → FindsNone lanes b mid new
    → a + b ≤ n
    → FindsNone lanes n old new
none_then lanes a b n old mid new first second few = record {
  number = second.number ∙ first.number;
  plan = second.plan ∙ first.plan;
  long = second.long ∙ first.long;
  nothing = λ k low. ((second.nothing k low).0 ∙ (first.nothing k low).0, omega (arith, (second.nothing k low).1, (first.nothing k low).1, few));
}

-- the worker looks once more after it has taken a job
pub one_then : (lanes from a b n lane : ℕ) (job : LaneJob) (left now : ℕ) (old mid new : WorkerRecord)
    → FindsOne lanes from a lane job left old mid
    → FindsNone lanes b mid new
    → a + b ≤ n
    → now ≡ (take_of lane new).tail - (job.seq + 1)
    → FindsOne lanes from n lane job now old new
one_then lanes from a b n lane job left now old mid new first second few left_is = record {
  number = second.number ∙ first.number;
  plan = second.plan ∙ first.plan;
  long = second.long ∙ first.long;
  low = first.low;
  taken = (second.nothing lane first.low).0 ∙ first.taken;
  left_is = left_is;
  others = λ k low other. (second.nothing k low).0 ∙ first.others k low other;
  few = λ k low. omega (arith, (second.nothing k low).1, first.few k low, few);
  in_round = record {
    before = first.in_round.before;
    after = first.in_round.after;
    left = first.in_round.left;
    first = none_then lanes a 0 n old first.in_round.before first.in_round.before first.in_round.first (none_same lanes 0 first.in_round.before first.in_round.before refl) (omega (arith, few));
    round = first.in_round.round;
    last = none_then lanes a b n first.in_round.after mid new first.in_round.last second few;
  };
}

pub then_one : (lanes from a b n lane : ℕ) (job : LaneJob) (left : ℕ) (old mid new : WorkerRecord)
    → FindsNone lanes a old mid
    → FindsOne lanes from b lane job left mid new
    → a + b ≤ n
    → FindsOne lanes from n lane job left old new
then_one lanes from a b n lane job left old mid new first second few = record {
  number = second.number ∙ first.number;
  plan = second.plan ∙ first.plan;
  long = second.long ∙ first.long;
  low = second.low;
  taken = second.taken ∙ ap (λ (js : List LaneJob). js ++ job ∷ []) (first.nothing lane second.low).0;
  left_is = second.left_is;
  others = λ k low other. second.others k low other ∙ (first.nothing k low).0;
  few = λ k low. omega (arith, second.few k low, (first.nothing k low).1, few);
  in_round = record {
    before = second.in_round.before;
    after = second.in_round.after;
    left = second.in_round.left;
    first = none_then lanes a b n old mid second.in_round.before first second.in_round.first few;
    round = second.in_round.round;
    last = none_then lanes b 0 n second.in_round.after new new second.in_round.last (none_same lanes 0 new new refl) (omega (arith, few));
  };
}

pub then_finds : (lanes from a b n : ℕ) (old mid : WorkerRecord) (found : Found) (new : WorkerRecord)
    → FindsNone lanes a old mid
    → Finds lanes from b mid found new
    → a + b ≤ n
    → Finds lanes from n old found new
then_finds lanes from a b n old mid (Job lane job left) new first second few = then_one lanes from a b n lane job left old mid new first second few
then_finds lanes from a b n old mid FoundEnd new first second few = (none_then lanes a b n old mid new first second.0 few, second.1)
then_finds lanes from a b n old mid Park new first second few = none_then lanes a b n old mid new first second few
then_finds lanes from a b n old mid Again new first second few = none_then lanes a b n old mid new first second few

pub finds_none : (lanes from n : ℕ) (old : WorkerRecord) (found : Found) (new : WorkerRecord)
    → IsNone found
    → FindsNone lanes n old new
    → Finds lanes from n old found new
finds_none lanes from n old (Job lane job left) new none is = absurd none
finds_none lanes from n old FoundEnd new none is = absurd none
finds_none lanes from n old Park new none is = is
finds_none lanes from n old Again new none is = is

pub none_found : (lanes from n : ℕ) (old : WorkerRecord) (found : Found) (new : WorkerRecord)
    → found ≡ Again
    → Finds lanes from n old found new
    → FindsNone lanes n old new
none_found lanes from n old found new again finds = subst (λ (f : Found). Finds lanes from n old f new) again finds

-- ---- deeds

-- a worker that was woken was given its token
pub gift_given : (woken : Option ℕ) (old new : List WakeDeed)
    → new ≡ after_gift woken old
    → given_in new ≡ and_given woken (given_in old)
gift_given (Some x) old new is = ap given_in is
gift_given None old new is = ap given_in is

-- a token is no call
pub gift_calls : (woken : Option ℕ) (old new : List WakeDeed)
    → new ≡ after_gift woken old
    → has_call old ≡ false
    → has_call new ≡ false
gift_calls (Some x) old new is none = ap has_call is ∙ none
gift_calls None old new is none = ap has_call is ∙ none
