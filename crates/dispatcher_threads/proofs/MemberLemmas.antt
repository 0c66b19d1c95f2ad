-- What a lane's feed and a worker keep.
use Rattle.std.proofs.Common.{◌≡◌, ◌≢◌, ℕ, false, ◌≤◌, length, ◌++◌, ◌∷◌, [], List, Option, Some, None, rules, refl, ap, sym, subst, ◌∙◌, append_assoc}
use Rattle.std.specs.Option.{MatchOption}
use Rattle.std.proofs.lemmas.Bool.{true≢false}
use Rattle.std.proofs.lemmas.List.{append-nil}
use Rattle.std.proofs.lemmas.Option.{none-some, same_Some}
use Rattle.job_types.specs.Job.{JobData}
use Rattle.cube_shape.specs.declared.limits.TheConstants.{MAX_ENTRIES}
use Rattle.job_queue.specs.Record.{accepted_jobs}
use Rattle.job_queue.specs.Line.{GainsEntry, GainsRefusal}
use Rattle.job_queue.specs.declared.record.LaneRecord.{LaneRecord}
use Rattle.job_queue.specs.declared.record.QueuedJob.{QueuedJob}
use Rattle.job_queue.specs.declared.job_line.Refused.{Refused}
use Rattle.job_queue.specs.declared.job_line.Refused.TheVariants as refused
use Rattle.job_queue.proofs.FeedLemmas.{fed_one, fed_none}
use Rattle.dispatcher.specs.declared.feeding.FeedStop.{FeedStop}
use Rattle.dispatcher.specs.declared.feeding.FeedStop.TheVariants.{Closed, LaneSpent}
use Rattle.dispatcher.specs.Stop.{given_back}
use Rattle.dispatcher_threads.specs.declared.member.Progress.{Progress}
use Rattle.dispatcher_threads.specs.declared.member.Progress.TheVariants.{NotRun, UnderWay, Stopped}
use Rattle.dispatcher_threads.specs.InnerStop.{HasCome, StopsBy, IsTakenBack, is_under_way, stop_in}

-- A feed that has not stopped has no job that came back.
pub none_back : (lane : LaneRecord) (back : Option JobData) (left : List JobData)
    (progress : Progress)
    → HasCome lane back left progress
    → ((stop : FeedStop) → progress ≢ Stopped stop)
    → back ≡ None
none_back lane back left NotRun has goes_on = has.1
none_back lane back left UnderWay has goes_on = has
none_back lane back left (Stopped stop) has goes_on = absurd (goes_on stop refl)

-- A feed that is not under way has stopped, and its progress says why.
pub stops_by : (lane : LaneRecord) (back : Option JobData) (left : List JobData)
    (progress : Progress)
    → HasCome lane back left progress
    → is_under_way progress ≡ false
    → StopsBy lane back left (stop_in progress)
stops_by lane back left NotRun has ended = has
stops_by lane back left UnderWay has ended = absurd (true≢false ended)
stops_by lane back left (Stopped stop) has ended = has

-- If no job came back, a lane's jobs are those accepted and those left.
without : (js : List JobData) (back : Option JobData) (xs : List JobData)
    → back ≡ None
    → js ++ given_back back ++ xs ≡ js ++ xs
without js back xs none = ap (λ (b : Option JobData). js ++ given_back b ++ xs) none ∙ ap (λ (ys : List JobData). ys ++ xs) (append-nil js)

-- The next job is accepted.
pub one_more : (old new : LaneRecord) (number : ℕ) (q : QueuedJob) (back : Option JobData)
    (left rest : List JobData) (jobs : ℕ → List JobData)
    → back ≡ None
    → GainsEntry old number (Some q) new
    → left ≡ q.job ∷ rest
    → accepted_jobs old ++ given_back back ++ left ≡ jobs old.number
    → accepted_jobs new ++ given_back back ++ rest ≡ jobs new.number
one_more old new number q back left rest jobs none gains items all =
    without (accepted_jobs new) back rest none
    ∙ (fed_one old new number q rest gains
    ∙ (ap (λ (xs : List JobData). accepted_jobs old ++ xs) (sym items)
    ∙ (sym (without (accepted_jobs old) back left none)
    ∙ (all ∙ ap (λ (r : LaneRecord). jobs r.number) (sym gains)))))

-- The queue is full, and the job is back in its place.
pub as_before : (old new : LaneRecord) (number : ℕ) (back : Option JobData)
    (left again : List JobData) (jobs : ℕ → List JobData)
    → GainsEntry old number None new
    → again ≡ left
    → accepted_jobs old ++ given_back back ++ left ≡ jobs old.number
    → accepted_jobs new ++ given_back back ++ again ≡ jobs new.number
as_before old new number back left again jobs gains items all =
    ap (λ (js : List JobData). js ++ given_back back ++ again) (fed_none old new number gains)
    ∙ (ap (λ (xs : List JobData). accepted_jobs old ++ given_back back ++ xs) items
    ∙ (all ∙ ap (λ (r : LaneRecord). jobs r.number) (sym gains)))

-- No refusal brings a job.
accepts_none : (old new : LaneRecord) (why : Refused)
    → GainsRefusal old why new
    → accepted_jobs new ≡ accepted_jobs old
accepts_none old new (refused.Closed seen) gains = ap accepted_jobs gains
accepts_none old new refused.Full gains = fed_none old new gains.0 gains.1
accepts_none old new refused.LaneSpent gains = ap accepted_jobs gains

-- The job is refused for good.
pub given_up : (old new : LaneRecord) (why : Refused) (job : JobData) (before back : Option JobData)
    (left rest : List JobData) (jobs : ℕ → List JobData)
    → GainsRefusal old why new
    → before ≡ None
    → back ≡ Some job
    → job ∷ rest ≡ left
    → accepted_jobs old ++ given_back before ++ left ≡ jobs old.number
    → new.number ≡ old.number
    → accepted_jobs new ++ given_back back ++ rest ≡ jobs new.number
given_up old new why job before back left rest jobs gains none some items all number =
    ap (λ (b : Option JobData). accepted_jobs new ++ given_back b ++ rest) some
    ∙ (append_assoc (accepted_jobs new) (job ∷ []) rest
    ∙ (ap (λ (js : List JobData). js ++ job ∷ rest) (accepts_none old new why gains)
    ∙ (ap (λ (xs : List JobData). accepted_jobs old ++ xs) items
    ∙ (sym (without (accepted_jobs old) before left none)
    ∙ (all ∙ ap jobs (sym number))))))

-- The job is the next one again.
pub is_again : (why : Refused) (job : JobData) (left again : List JobData)
    (back after : Option JobData) (stop : Option FeedStop)
    → IsTakenBack job left again back after why stop
    → stop ≡ None
    → (why ≡ refused.Full) × (again ≡ job ∷ left) × (after ≡ back)
is_again (refused.Closed seen) job left again back after stop taken none = absurd (none-some _ (sym none ∙ taken.2))
is_again refused.Full job left again back after stop taken none = (refl, taken.0, taken.1)
is_again refused.LaneSpent job left again back after stop taken none = absurd (none-some _ (sym none ∙ taken.2))

-- The feed stops for this refusal.
abbrev pub StopsAt : Refused → FeedStop → Type 0
StopsAt (refused.Closed seen) stop = stop ≡ Closed seen
StopsAt refused.Full stop = ⊥
StopsAt refused.LaneSpent stop = stop ≡ LaneSpent

pub is_back : (why : Refused) (job : JobData) (left again : List JobData)
    (back after : Option JobData) (found : Option FeedStop) (stop : FeedStop)
    → IsTakenBack job left again back after why found
    → found ≡ Some stop
    → StopsAt why stop × (again ≡ left) × (after ≡ Some job)
is_back (refused.Closed seen) job left again back after found stop taken some = (same_Some stop _ (sym some ∙ taken.2), taken.0, taken.1)
is_back refused.Full job left again back after found stop taken some = absurd (none-some stop (sym taken.2 ∙ some))
is_back refused.LaneSpent job left again back after found stop taken some = (same_Some stop _ (sym some ∙ taken.2), taken.0, taken.1)

pub stop_of : (old new : LaneRecord) (why : Refused) (job : JobData) (back : Option JobData)
    (rest : List JobData) (stop : FeedStop)
    → GainsRefusal old why new
    → (why ≡ refused.LaneSpent → MAX_ENTRIES ≤ length old.entries)
    → back ≡ Some job
    → StopsAt why stop
    → StopsBy new back rest (Some stop)
stop_of old new (refused.Closed seen) job back rest stop gains spent some is =
    subst (λ (s : FeedStop). StopsBy new back rest (Some s)) (sym is) (subst (λ (b : Option JobData). StopsBy new b rest (Some (Closed seen))) (sym some) (search rules, (old.seen, ap (λ (r : LaneRecord). r.seen) gains)))
stop_of old new refused.LaneSpent job back rest stop gains spent some is =
    subst (λ (s : FeedStop). StopsBy new back rest (Some s)) (sym is) (subst (λ (b : Option JobData). StopsBy new b rest (Some LaneSpent)) (sym some) (search rules, subst (λ (r : LaneRecord). MAX_ENTRIES ≤ length r.entries) (sym gains) (spent refl)))
stop_of old new refused.Full job back rest stop gains spent some is = absurd is

-- A worker that is known to have ended is that one.
pub ended : {W E : Type 0} (worker : Option W) (end : Option E) (e : E) (IsEnd : E → Type 0)
    (IsWorker : W → Type 0)
    → worker ≡ None
    → end ≡ Some e
    → IsEnd e
    → MatchOption worker (MatchOption end ⊥ IsEnd) IsWorker
ended {W} {E} worker end e IsEnd IsWorker none some is = subst (λ (w : Option W). MatchOption w (MatchOption end ⊥ IsEnd) IsWorker) (sym none) (subst (λ (x : Option E). MatchOption x ⊥ IsEnd) (sym some) is)
