-- When each lane has submitted all of its jobs.
use Rattle.std.proofs.Common.{◌≡◌, ◌≢◌, ℕ, zero, suc, Bool, true, false, not, ◌||◌, List, [], ◌∷◌, Some, map, length, take, get_or, refl, sym, ap, subst, ◌∙◌, arith}
use Rattle.std.specs.List.{All, list_any}
use Rattle.std.proofs.lemmas.Bool.{true≢false}
use Rattle.std.proofs.lemmas.List.Folds.{list_any_none}
use Rattle.std.proofs.lemmas.List.{length-map, length-drop, take_all}
use Rattle.std.proofs.lemmas.List.Elements.{All-nil, All-cons, All-head, All-tail, All-weaker}
use Rattle.std.proofs.lemmas.Grind.{same_number_lists}
use mathlib.Core.Logic.{dite}
use native.Mathlib.Decide.{ℕ_discrete}
use Rattle.ghost_history.specs.Sums.{times}
use Rattle.ghost_history.proofs.SumLemmas.{is_at-other}
use Rattle.job_types.specs.Job.{JobData}
use Rattle.dispatcher.specs.declared.feeding.FeedStop.TheVariants.{Done}
use Rattle.dispatcher.specs.declared.stop.Stop.{Stop}
use Rattle.dispatcher.specs.declared.stop.Stop.TheVariants.{Ended, OutOfMemory, NotRun, Enough}
use Rattle.dispatcher.specs.Answers.{AnswersAll}
use Rattle.dispatcher_threads.specs.declared.running.LaneEnd.{LaneEnd}
use Rattle.dispatcher_threads.specs.declared.running.RunEnd.{RunEnd}
use Rattle.dispatcher_threads.specs.Done.{is_idle}
use Rattle.dispatcher_threads.specs.Run.{unfed_jobs, IsStopOf, IsLaneEnd, accepted_of, by_worker_of, IsRun}

-- ---- each worker ran

or_parts : (a b : Bool) → (a || b) ≡ false → (a ≡ false) × (b ≡ false)
or_parts true b none = absurd (true≢false none)
or_parts false b none = (refl, none)

pub not_true : (b : Bool) → not b ≡ true → b ≡ false
not_true true e = absurd (true≢false (sym e))
not_true false e = refl

was_run : (stop : Stop) → is_idle stop ≡ false → stop ≢ NotRun
was_run Ended not_idle = λ e. cc (e)
was_run OutOfMemory not_idle = λ e. cc (e)
was_run NotRun not_idle = absurd (true≢false not_idle)
was_run Enough not_idle = λ e. cc (e)

not_idle : (stop : Stop) → stop ≢ NotRun → is_idle stop ≡ false
not_idle Ended run = refl
not_idle OutOfMemory run = refl
not_idle NotRun run = absurd (run refl)
not_idle Enough run = refl

pub all_run : (stops : List Stop)
    → list_any is_idle stops ≡ false
    → All (λ (stop : Stop). stop ≢ NotRun) stops
all_run [] none = All-nil (λ (stop : Stop). stop ≢ NotRun)
all_run (s ∷ stops) none =
    let parts = or_parts (is_idle s) (list_any is_idle stops) none in
    All-cons (λ (stop : Stop). stop ≢ NotRun) s stops (was_run s parts.0) (all_run stops parts.1)

pub none_idle : (stops : List Stop)
    → All (λ (stop : Stop). stop ≢ NotRun) stops
    → list_any is_idle stops ≡ false
none_idle stops run = list_any_none is_idle stops (All-weaker (λ (stop : Stop). stop ≢ NotRun) (λ stop. is_idle stop ≡ false) not_idle stops run)

-- ---- each lane is done

abbrev pub HasDone : LaneEnd → Type 0
HasDone l = l.stop ≡ Some Done

map_at : (lists : List (List JobData)) (k : ℕ)
    → get_or (map length lists) k 0 ≡ length (get_or lists k [])
map_at [] k = refl
map_at (list ∷ lists) zero = refl
map_at (list ∷ lists) (suc k) = map_at lists k

module _ (jobs : List (List JobData)) (counts : List ℕ) (close_number : ℕ) where
  -- A lane that is done has accepted its whole list.
  one_done : (l : LaneEnd)
      → IsLaneEnd jobs counts close_number l
      → HasDone l
      → get_or counts l.lane 0 ≡ length (get_or jobs l.lane [])
  one_done l is done =
      let none : unfed_jobs l ≡ [] = subst (IsStopOf close_number l) done is.stopped in
      omega (arith, is.counted, is.within, ap length none, ap length is.unfed, length-drop l.accepted (get_or jobs l.lane []))

  of_lane : (k : ℕ) (ls : List LaneEnd)
      → All (IsLaneEnd jobs counts close_number) ls
      → All HasDone ls
      → times k (map (λ l. l.lane) ls) ≡ 1
      → get_or counts k 0 ≡ length (get_or jobs k [])
  of_lane k [] ends done once = absurd (omega (arith, once))
  of_lane k (l ∷ ls) ends done once = dite (ℕ_discrete l.lane k)
      (λ same. subst (λ (i : ℕ). get_or counts i 0 ≡ length (get_or jobs i [])) same (one_done l (All-head (IsLaneEnd jobs counts close_number) l ls ends) (All-head HasDone l ls done)))
      (λ other. of_lane k ls (All-tail (IsLaneEnd jobs counts close_number) l ls ends) (All-tail HasDone l ls done) (omega (arith, once, is_at-other k l.lane other)))

-- The counts are the lengths of the lists.
pub counts_all : {M : Type 0} (words_of : M → List ℕ) (n : ℕ) (jobs : List (List JobData))
    (end : RunEnd M)
    → IsRun words_of n jobs end
    → All HasDone end.lanes.items
    → end.finished.accepted.items ≡ map length jobs
counts_all words_of n jobs end run done =
    let counts : List ℕ = end.finished.accepted.items in
    same_number_lists counts (map length jobs) (run.counts ∙ sym (length-map jobs length))
    (λ k within. of_lane jobs counts end.close_number k end.lanes.items run.ends done (run.lanes k (omega (arith, within, run.counts))) ∙ sym (map_at jobs k))

-- All jobs are accepted.
all_of : (jobs : List (List JobData)) → accepted_of jobs (map length jobs) ≡ jobs
all_of [] = refl
all_of (js ∷ jobs) =
    ap (λ (ls : List (List JobData)). take (length js) js ∷ ls) (all_of jobs)
    ∙ ap (λ (first : List JobData). first ∷ jobs) (take_all (length js) js (omega arith))

pub answers_jobs : {M : Type 0} (words_of : M → List ℕ) (n : ℕ) (jobs : List (List JobData))
    (end : RunEnd M)
    → IsRun words_of n jobs end
    → All HasDone end.lanes.items
    → AnswersAll n jobs (by_worker_of end) end.finished.rest.items
answers_jobs words_of n jobs end run done =
    subst (λ lists. AnswersAll n lists (by_worker_of end) end.finished.rest.items) (ap (accepted_of jobs) (counts_all words_of n jobs end run done) ∙ all_of jobs) run.answers
