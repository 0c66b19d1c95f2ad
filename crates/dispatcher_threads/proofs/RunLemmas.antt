-- What the members of a run say together.
use Rattle.std.proofs.Common.{◌≡◌, ℕ, zero, suc, ◌<◌, ◌≤◌, ◌++◌, ◌∷◌, [], List, Option, Some, None, map, length, take, drop, get_or, length-append, append_assoc, refl, sym, ap, subst, ◌∙◌, arith}
use Rattle.std.specs.List.{All, AllByRecursion, AllZip}
use Rattle.std.proofs.Math.Seq.{take-append_seam, drop-append_seam}
use Rattle.std.proofs.lemmas.List.{length-map}
use Rattle.std.proofs.lemmas.List.Elements.{All-nil, All-cons, All-head, All-tail}
use Rattle.ghost_history.specs.Sums.{total, times}
use Rattle.ghost_history.proofs.SumLemmas.{total-map}
use Rattle.cube_shape.specs.declared.region.Region.{Region}
use Rattle.job_types.specs.Job.{JobData}
use Rattle.job_types.specs.Reply.{ReplyData}
use Rattle.job_queue.specs.declared.record.Entry.{Entry}
use Rattle.job_queue.specs.declared.record.QueuedJob.{QueuedJob}
use Rattle.job_queue.specs.declared.record.LaneRecord.{LaneRecord}
use Rattle.job_queue.specs.Record.{fresh_lane, fresh_lanes, accepted_with, accepted, job_of, accepted_jobs}
use Rattle.dispatcher.specs.declared.feeding.FeedStop.{FeedStop}
use Rattle.dispatcher.specs.declared.feeding.FeedStop.TheVariants.{Done, Closed, LaneSpent, Turns}
use Rattle.dispatcher.specs.declared.stop.Stop.{Stop}
use Rattle.dispatcher.specs.declared.stop.Stop.TheVariants.{NotRun}
use Rattle.dispatcher.specs.Stop.{given_back}
use Rattle.dispatcher.specs.Finished.{FinishedRun, outcome}
use Rattle.dispatcher.proofs.OpenLemmas.{map_twice}
use Rattle.dispatcher_threads.specs.declared.running.LaneEnd.{LaneEnd}
use Rattle.dispatcher_threads.specs.declared.running.RunEnd.{RunEnd}
use Rattle.dispatcher_threads.specs.InnerStop.{StopsBy}
use Rattle.dispatcher_threads.specs.InnerEnd.{HasEnded}
use Rattle.dispatcher_threads.specs.Run.{unfed_jobs, IsStopOf, IsLaneEnd, accepted_of, by_worker_of, IsRun}
use Rattle.dispatcher_threads.proofs.AnswerLemmas.{IsFed, answers_all}

pub lanes_count : (count : ℕ) → length (fresh_lanes count) ≡ count
lanes_count zero = refl
lanes_count (suc count) = length-append (fresh_lanes count) (fresh_lane count ∷ []) ∙ omega (arith, lanes_count count)

-- ---- one lane

-- A lane has at most as many jobs as entries.
one_more : (job : Option QueuedJob) (jobs : List QueuedJob) (bound : ℕ)
    → length jobs ≤ bound
    → length (accepted_with job jobs) ≤ suc bound
one_more None jobs bound few = omega (arith, few)
one_more (Some job) jobs bound few = omega (arith, few)

few_accepted : (entries : List Entry) → length (accepted entries) ≤ length entries
few_accepted [] = omega arith
few_accepted (e ∷ entries) = one_more e.job (accepted entries) (length entries) (few_accepted entries)

-- What holds of each element holds of the last one.
of_last : (P : ℕ → Type 0) (xs before : List ℕ) (x : ℕ)
    → xs ≡ before ++ x ∷ []
    → AllByRecursion P xs
    → P x
of_last P xs before x ends all = last before (subst (AllByRecursion P) ends all)
  where
    last : (before : List ℕ) → AllByRecursion P (before ++ x ∷ []) → P x
    last [] all = all.0
    last (y ∷ before) all = last before all.1

-- Why a feed has stopped, by the record of its lane and by the values of its end.
stop_as : (close_number : ℕ) (lane : LaneRecord) (end : LaneEnd) (stop : Option FeedStop)
    → end.entries ≡ length lane.entries
    → AllByRecursion (λ count. close_number ≤ count) lane.seen
    → StopsBy lane end.back end.left.items stop
    → IsStopOf close_number end stop
stop_as close_number lane end None entries seen by = (entries ∙ ap length by.0, by.1)
stop_as close_number lane end (Some Done) entries seen by = by
stop_as close_number lane end (Some (Closed count)) entries seen by = (by.0, of_last (λ c. close_number ≤ c) lane.seen by.1.0 count by.1.1 seen)
stop_as close_number lane end (Some LaneSpent) entries seen by = (by.0, omega (arith, by.1, entries))
stop_as close_number lane end (Some Turns) entries seen by = absurd by

-- ---- all lanes

module _ {A : Type 0} (record_of : A → LaneRecord) (end_of : A → LaneEnd) (counts : List ℕ) where
  abbrev pub IsEnd : (ℕ → List JobData) → A → Type 0
  IsEnd jobs x = HasEnded jobs (record_of x) (end_of x)

  abbrev pub Counted : LaneRecord → Type 0
  Counted l = get_or counts l.number 0 ≡ length (accepted l.entries)

  abbrev pub Seen : ℕ → LaneRecord → Type 0
  Seen close_number l = AllByRecursion (λ count. close_number ≤ count) l.seen

  counted_jobs : (x : A)
      → Counted (record_of x)
      → get_or counts (record_of x).number 0 ≡ length (accepted_jobs (record_of x))
  counted_jobs x counted = counted ∙ sym (length-map (accepted (record_of x).entries) job_of)

  one_end : (jobs : List (List JobData)) (close_number : ℕ) (x : A)
      → IsEnd (λ k. get_or jobs k []) x → Counted (record_of x) → Seen close_number (record_of x)
      → IsLaneEnd jobs counts close_number (end_of x)
  one_end jobs close_number x is counted seen =
      let l : LaneRecord = record_of x in
      let end : LaneEnd = end_of x in
      let own : List JobData = accepted_jobs l in
      let others : List JobData = unfed_jobs end in
      let list : List JobData = get_or jobs l.number [] in
      let whole : own ++ others ≡ list = sym (append_assoc own (given_back end.back) end.left.items) ∙ is.all_jobs in
      let same : get_or jobs end.lane [] ≡ list = ap (λ (k : ℕ). get_or jobs k []) is.number in
      record {
        counted = is.accepted ∙ (sym (counted_jobs x counted) ∙ sym (ap (λ (k : ℕ). get_or counts k 0) is.number));
        within = omega (arith, is.accepted, ap length whole, ap length same, length-append own others);
        unfed = sym (drop-append_seam own others) ∙ (ap (drop (length own)) (whole ∙ sym same) ∙ ap (λ (k : ℕ). drop k (get_or jobs end.lane [])) (sym is.accepted));
        entries = omega (arith, is.accepted, is.entries, length-map (accepted l.entries) job_of, few_accepted l.entries);
        stopped = stop_as close_number l end end.stop is.entries seen is.stopped;
      }

  all_ends : (jobs : List (List JobData)) (close_number : ℕ) (xs : List A)
      → All (IsEnd (λ k. get_or jobs k [])) xs → AllByRecursion Counted (map record_of xs)
      → AllByRecursion (Seen close_number) (map record_of xs)
      → All (IsLaneEnd jobs counts close_number) (map end_of xs)
  all_ends jobs close_number [] are counted seen = All-nil (IsLaneEnd jobs counts close_number)
  all_ends jobs close_number (x ∷ xs) are counted seen =
      All-cons (IsLaneEnd jobs counts close_number) (end_of x) (map end_of xs)
      (one_end jobs close_number x (All-head (IsEnd (λ k. get_or jobs k [])) x xs are) counted.0 seen.0)
      (all_ends jobs close_number xs (All-tail (IsEnd (λ k. get_or jobs k [])) x xs are) counted.1 seen.1)

  -- The accepted jobs of each lane are the first ones of its list.
  accepted_at : (jobs : List (List JobData)) (ns : List ℕ) (k : ℕ)
      → length ns ≡ length jobs
      → get_or (accepted_of jobs ns) k [] ≡ take (get_or ns k 0) (get_or jobs k [])
  accepted_at [] [] k same = refl
  accepted_at [] (n ∷ ns) k same = absurd (omega (arith, same))
  accepted_at (js ∷ jobs) [] k same = absurd (omega (arith, same))
  accepted_at (js ∷ jobs) (n ∷ ns) zero same = refl
  accepted_at (js ∷ jobs) (n ∷ ns) (suc k) same = accepted_at jobs ns k (omega (arith, same))

  accepted_count : (jobs : List (List JobData)) (ns : List ℕ)
      → length ns ≡ length jobs
      → length (accepted_of jobs ns) ≡ length jobs
  accepted_count [] ns same = refl
  accepted_count (js ∷ jobs) [] same = absurd (omega (arith, same))
  accepted_count (js ∷ jobs) (n ∷ ns) same = omega (arith, accepted_count jobs ns (omega (arith, same)))

  all_accepted : (jobs : List (List JobData)) (xs : List A) → length counts ≡ length jobs
      → All (IsEnd (λ k. get_or jobs k [])) xs → AllByRecursion Counted (map record_of xs)
      → AllByRecursion (IsFed (accepted_of jobs counts)) (map record_of xs)
  all_accepted jobs [] same are counted = tt
  all_accepted jobs (x ∷ xs) same are counted =
      let l : LaneRecord = record_of x in
      let own : List JobData = accepted_jobs l in
      let others : List JobData = unfed_jobs (end_of x) in
      let is = All-head (IsEnd (λ k. get_or jobs k [])) x xs are in
      let whole : own ++ others ≡ get_or jobs l.number [] = sym (append_assoc own (given_back (end_of x).back) (end_of x).left.items) ∙ is.all_jobs in (
        sym (take-append_seam own others)
            ∙ (ap (take (length own)) whole
            ∙ (ap (λ (k : ℕ). take k (get_or jobs l.number [])) (sym (counted_jobs x counted.0)) ∙ sym (accepted_at jobs counts l.number same))),
        all_accepted jobs xs same (All-tail (IsEnd (λ k. get_or jobs k [])) x xs are) counted.1,
      )

-- There is a reason for each worker's stop.
pub all_stopped : {E : Type 0} (stop : E → Stop) (replies : E → List ReplyData)
    → ((e : E) → stop e ≡ NotRun → replies e ≡ [])
    → (es : List E)
    → AllZip (λ s rs. s ≡ NotRun → rs ≡ []) (map stop es) (map replies es)
all_stopped stop replies own [] = tt
all_stopped stop replies own (e ∷ es) = (own e, all_stopped stop replies own es)

-- A part of each end is that part of its lane.
pub parts_are : {A N V : Type 0} (P : A → Type 0) (lane_of : A → N) (of_lane : N → V)
    (end_of : A → LaneEnd) (of_end : LaneEnd → V)
    → ((x : A) → P x → of_end (end_of x) ≡ of_lane (lane_of x))
    → (xs : List A) (lanes : List N) (ends : List LaneEnd)
    → lanes ≡ map lane_of xs → ends ≡ map end_of xs → All P xs
    → map of_end ends ≡ map of_lane lanes
parts_are {A} {N} {V} P lane_of of_lane end_of of_end same xs lanes ends are told all =
    ap (map of_end) told ∙ (map_twice end_of of_end xs ∙ (each xs all ∙ (sym (map_twice lane_of of_lane xs) ∙ sym (ap (map of_lane) are))))
  where
    each : (xs : List A)
        → All P xs
        → map (λ x. of_end (end_of x)) xs ≡ map (λ x. of_lane (lane_of x)) xs
    each [] all = refl
    each (x ∷ xs) all =
        ap (λ (v : V). v ∷ map (λ y. of_end (end_of y)) xs) (same x (All-head P x xs all))
        ∙ ap (λ (vs : List V). of_lane (lane_of x) ∷ vs) (each xs (All-tail P x xs all))

-- What the values of a run say together, from the theorem of its dispatcher.
pub run_of : {A M : Type 0} (record_of : A → LaneRecord) (end_of : A → LaneEnd)
    (words_of : M → List ℕ) (n : ℕ) (jobs : List (List JobData)) (xs : List A)
    (grants : List (List Region)) (note : ℕ) (end : RunEnd M)
    → FinishedRun n (map record_of xs) grants note (outcome words_of end.finished)
    → end.lanes.items ≡ map end_of xs
    → end.close_number ≡ note
    → All (λ x. HasEnded (λ k. get_or jobs k []) (record_of x) (end_of x)) xs
    → ((k : ℕ) → k < length jobs → times k (map (λ l. l.number) (map record_of xs)) ≡ 1)
    → length xs ≡ length jobs → length end.finished.accepted.items ≡ length jobs
    → AllZip (λ s rs. s ≡ NotRun → rs ≡ []) end.stops.items (by_worker_of end)
    → IsRun words_of n jobs end
run_of {A} record_of end_of words_of n jobs xs grants note end finished lanes close are numbers size count stops =
    let counts : List ℕ = end.finished.accepted.items in
    let records : List LaneRecord = map record_of xs in
    let IsEnd : A → Type 0 = λ x. HasEnded (λ k. get_or jobs k []) (record_of x) (end_of x) in
    let entries : map (λ (l : LaneEnd). l.entries) end.lanes.items ≡ map (λ (l : LaneRecord). length l.entries) records =
    parts_are IsEnd record_of (λ (l : LaneRecord). length l.entries) end_of (λ (l : LaneEnd). l.entries) (λ x is. is.entries) xs records end.lanes.items refl lanes are in
    let sums : total (λ (l : LaneEnd). l.entries) end.lanes.items ≡ total (λ (l : LaneRecord). length l.entries) records =
    sym (total-map (λ (k : ℕ). k) (λ (l : LaneEnd). l.entries) end.lanes.items)
    ∙ (ap (total (λ (k : ℕ). k)) entries ∙ total-map (λ (k : ℕ). k) (λ (l : LaneRecord). length l.entries) records) in
    let names : map (λ (l : LaneEnd). l.lane) end.lanes.items ≡ map (λ (l : LaneRecord). l.number) records =
    parts_are IsEnd record_of (λ (l : LaneRecord). l.number) end_of (λ (l : LaneEnd). l.lane) (λ x is. is.number) xs records end.lanes.items refl lanes are in
    record {
      lane_count = ap length lanes ∙ (length-map xs end_of ∙ size);
      lanes = λ k below. ap (times k) names ∙ numbers k below;
      counts = count;
      ends = subst (All (IsLaneEnd jobs counts end.close_number)) (sym lanes)
          (subst (λ (c : ℕ). All (IsLaneEnd jobs counts c) (map end_of xs)) (sym close)
          (all_ends record_of end_of counts jobs note xs are finished.counts finished.seen));
      close_number = close ∙ (finished.close_number ∙ sym sums);
      answers = answers_all n (accepted_of jobs counts) records grants note (outcome words_of end.finished) finished (all_accepted record_of end_of counts jobs xs count are finished.counts)
          (λ k below. numbers k (omega (arith, below, accepted_count record_of end_of counts jobs counts count)));
      rises = finished.rises;
      rest_rises = finished.rest_rises;
      stops = stops;
      free = finished.free;
    }
