-- From a run of the jobs of a file to the rows that are written.
use Rattle.std.proofs.Common.{◌≡◌, ◌⊎◌, inl, ℕ, ◌≤◌, Bool, true, false, not, ◌&&◌, true≢false, List, Option, Some, None, IfSome, IfErr, Result, Ok, Err, Vec, Global, length, map, refl, sym, ap, subst, ◌∙◌, if◌then◌else◌}
use Rattle.std.specs.Prelude.{Any}
use Rattle.std.specs.Bool.{⊤}
use Rattle.std.specs.List.Sorted.{IsPermutation}
use Rattle.std.proofs.lemmas.List.{length-map}
use Rattle.std.proofs.lemmas.List.Folds.{Any-from_list_any}
use Rattle.std.proofs.lemmas.List.Sorted.{All-permutation, IsPermutation-map, IsPermutation-trans}
use Rattle.cube_shape.specs.declared.limits.TheConstants.{MAX_ENTRIES}
use Rattle.std.specs.declared.collections.VecDeque.{VecDeque}
use Rattle.job_types.specs.Job.{JobData}
use Rattle.job_types.specs.Reply.{ReplyData}
use Rattle.dispatcher.specs.Answers.{AnswersAll}
use Rattle.dispatcher.specs.Order.{AreSorted}
use Rattle.dispatcher.specs.Reply.{answered, IsRight}
use Rattle.dispatcher.specs.declared.feeding.FeedStop.{FeedStop}
use Rattle.dispatcher.specs.declared.feeding.FeedStop.TheVariants.{Done, Closed, LaneSpent, Turns}
use Rattle.dispatcher.specs.declared.finishing.Finished.{Finished}
use Rattle.dispatcher.specs.declared.opening.ShopSizes.{ShopSizes}
use Rattle.dispatcher_threads.specs.Batch.{IsUnfinishedBatch}
use Rattle.dispatcher_threads.specs.Done.{is_spent, reason_of}
use Rattle.dispatcher_threads.specs.Run.{by_worker_of, IsLaneEnd, IsRun, IsStopOf}
use Rattle.dispatcher_threads.specs.RunError.{MatchRunError}
use Rattle.dispatcher_threads.specs.declared.answering.StopReason.{StopReason}
use Rattle.dispatcher_threads.specs.declared.answering.StopReason.TheVariants as why
use Rattle.dispatcher_threads.specs.declared.answering.RunError.{RunError}
use Rattle.dispatcher_threads.specs.declared.answering.RunError.TheVariants as stopped
use Rattle.dispatcher_threads.specs.declared.running.LaneEnd.{LaneEnd}
use Rattle.dispatcher_threads.specs.declared.running.RunEnd.{RunEnd}
use Rattle.jobs_csv.specs.declared.fault.Fault.{Fault}
use Rattle.jobs_csv.specs.declared.fault.FaultKind.TheVariants as what
use Rattle.jobs_csv.specs.Fault.{attribute, has_failed, is_refusal}
use Rattle.jobs_csv.specs.Jobs.{parse_jobs}
use Rattle.jobs_csv.specs.Lanes.{AreLanes, ReturnsLanes}
use Rattle.cli_commands.specs.FileRun.{HasSpentLane, ReturnsRun}
use Rattle.cli_commands.specs.Inner.Shop.{kind_of_reason, error_of}
use Rattle.cli_commands.specs.OpenLanes.{AreOpenLanes, IsLaneCount}
use Rattle.cli_commands.specs.Replies.{AnswersJobs, AreReplies, replies_in}
use Rattle.cli_commands.proofs.OrderLemmas.{all_jobs}

-- as many counts as lists
pub as_many : {A : Type 0} (f : A → ℕ) (g : A → List JobData) (counts : List ℕ) (xs : List A)
    → counts ≡ map f xs
    → length counts ≡ length (map g xs)
as_many f g counts xs same = ap length same ∙ length-map xs f ∙ sym (length-map xs g)

-- what holds for the bytes that are read, if they are known
pub where_known : (read : Option (List ℕ)) (P Q : List ℕ → Type 0)
    → ((bytes : List ℕ) → P bytes → Q bytes)
    → IfSome read P
    → IfSome read Q
where_known None P Q gives is = tt
where_known (Some bytes) P Q gives is = gives bytes is

-- ---- what is returned for a file

-- a fault of the file instead of a run
pub fault_unanswered : {M : Type 0} (words_of : M → List ℕ) (n : ℕ) (read : Option (List ℕ))
    (fault : Fault)
    → IfSome read (λ bytes. ReturnsLanes (parse_jobs n bytes) (Err fault))
    → IfSome read (λ bytes. ReturnsRun words_of n (parse_jobs n bytes)
    (Err (record { fault = fault; end = None })))
fault_unanswered words_of n None fault parsed = tt
fault_unanswered words_of n (Some bytes) fault parsed = (parsed, tt)

-- if the open lanes of a good file were run and answered, so was the file
pub file_answered : {M : Type 0} (words_of : M → List ℕ) (n : ℕ)
    (parse : Result (List JobData) Fault) (lanes : Vec (VecDeque JobData Global) Global)
    (lists : List (List JobData)) (end : RunEnd M)
    → ReturnsLanes parse (Ok lanes)
    → ((jobs : List JobData) → AreLanes lanes.items jobs → AreOpenLanes lists jobs)
    → IsRun words_of n lists end
    → AnswersAll n lists (by_worker_of end) end.finished.rest.items
    → length end.finished.accepted.items ≡ length lists
    → ReturnsRun words_of n parse (Ok end)
file_answered words_of n parse lanes lists end (jobs, good, are) opens run all count = (
  jobs,
  good,
  record { lanes = lists; open_lanes = opens jobs are; run = run },
  record {
    open_lanes = subst (IsLaneCount jobs) (sym count) (opens jobs are).count;
    same = IsPermutation-trans _ _ _ (all_jobs lists jobs (opens jobs are)) all.answers;
    right = all.right;
  },
)

reason_refuses_nothing : (why : StopReason) → is_refusal (kind_of_reason why) ≡ true → ⊥
reason_refuses_nothing why.OutOfMemory refused = true≢false (sym refused)
reason_refuses_nothing why.Spent refused = true≢false (sym refused)

-- a run of a good file that was not finished
pub file_unanswered : {M : Type 0} (words_of : M → List ℕ) (sizes : ShopSizes)
    (parse : Result (List JobData) Fault) (lanes lists : Vec (VecDeque JobData Global) Global)
    (s : RunError M)
    → ReturnsLanes parse (Ok lanes)
    → ((jobs : List JobData) → AreLanes lanes.items jobs
    → AreOpenLanes (map (λ list. list.items) lists.items) jobs)
    → MatchRunError s (λ why back. ⊤) (IsUnfinishedBatch words_of sizes lists.items)
    → ReturnsRun words_of sizes.dim parse (Err (error_of s))
file_unanswered words_of sizes parse lanes lists (stopped.Refused why back) parsed opens unfinished = (λ refused. absurd (true≢false (sym refused)), tt)
file_unanswered words_of sizes parse lanes lists (stopped.Unfinished why end) (jobs, good, are) opens unfinished = (
  λ refused. absurd (reason_refuses_nothing why refused),
  (jobs, good, record { lanes = map (λ list. list.items) lists.items; open_lanes = opens jobs are; run = unfinished.run }),
)

-- ---- a lane that is spent

spent_first : (a b c : Bool)
    → why.Spent ≡ (if a && not b && not c then why.Spent else why.OutOfMemory)
    → a ≡ true
spent_first true b c is = refl
spent_first false b c is = cc

entries_of_spent : (close_number : ℕ) (end : LaneEnd) (stop : Option FeedStop)
    → is_spent stop ≡ true
    → IsStopOf close_number end stop
    → MAX_ENTRIES ≤ end.entries
entries_of_spent close_number end None spent is = absurd (true≢false (sym spent))
entries_of_spent close_number end (Some Done) spent is = absurd (true≢false (sym spent))
entries_of_spent close_number end (Some (Closed seen)) spent is = absurd (true≢false (sym spent))
entries_of_spent close_number end (Some LaneSpent) spent is = is.1
entries_of_spent close_number end (Some Turns) spent is = absurd (true≢false (sym spent))

some_spent : {M : Type 0} (words_of : M → List ℕ) (n : ℕ) (lists : List (List JobData))
    (end : RunEnd M)
    → why.Spent ≡ reason_of end
    → IsRun words_of n lists end
    → HasSpentLane (Some end)
some_spent words_of n lists end is run =
    let any : Any (λ (l : LaneEnd). is_spent l.stop ≡ true) end.lanes.items = Any-from_list_any (λ (l : LaneEnd). is_spent l.stop) end.lanes.items (spent_first _ _ _ is) in
    let (k, l, within, at, spent) = any in
    let is_end : IsLaneEnd lists end.finished.accepted.items end.close_number l = subst (IsLaneEnd lists end.finished.accepted.items end.close_number) at (run.ends k l within) in
    (k, l, within, at, entries_of_spent end.close_number l l.stop spent is_end.stopped)

-- a dispatcher that stopped for a spent lane has one
pub spent_lane : {M : Type 0} (words_of : M → List ℕ) (sizes : ShopSizes)
    (lists : Vec (VecDeque JobData Global) Global) (s : RunError M)
    → MatchRunError s (λ why back. ⊤) (IsUnfinishedBatch words_of sizes lists.items)
    → (error_of s).fault.what ≡ what.Spent
    → HasSpentLane (error_of s).end
spent_lane words_of sizes lists (stopped.Refused why back) unfinished is = absurd (cc)
spent_lane words_of sizes lists (stopped.Unfinished why.OutOfMemory end) unfinished is = absurd (cc)
spent_lane words_of sizes lists (stopped.Unfinished why.Spent end) unfinished is = some_spent words_of sizes.dim (map (λ list. list.items) lists.items) end unfinished.reason unfinished.run

-- ---- what is made of a run, and written

-- a fault of writing refuses no input
no_refusal : (failed : Bool)
    → is_refusal (if failed then what.Write else what.OutOfMemory) ≡ true
    → ⊥
no_refusal true e = cc
no_refusal false e = cc

pub write_refuses_nothing : (fault : Fault) (before after : ℕ)
    → fault ≡ attribute what.Write before after
    → is_refusal fault.what ≡ true
    → ⊥
write_refuses_nothing fault before after is refused = no_refusal (has_failed before after) (ap (λ (f : Fault). is_refusal f.what) (sym is) ∙ refused)

-- the sorted replies of a run of a file are the replies to it
pub are_replies : {M : Type 0} (n : ℕ) (jobs : List JobData) (finished : Finished M)
    (replies : List ReplyData)
    → AnswersJobs n jobs finished
    → IsPermutation (replies_in finished) replies
    → AreSorted replies
    → AreReplies n jobs replies
are_replies n jobs finished replies answers same sorted = record {
  same = IsPermutation-trans _ _ _ answers.same (IsPermutation-map answered _ _ same);
  right = All-permutation (IsRight n) _ _ same answers.right;
  sorted = sorted;
}

-- a fault of writing, or of making what is written
pub write_failed : (before after : ℕ) (result : Result (Unit {0}) Fault)
    → IfErr result (λ fault. fault ≡ attribute what.Write before after)
    → IfErr result (λ fault. (fault ≡ attribute what.Write before after)
    ⊎ (fault ≡ record { row = 0; what = what.OutOfMemory }))
write_failed before after (Ok done) failed = tt
write_failed before after (Err fault) failed = inl failed
