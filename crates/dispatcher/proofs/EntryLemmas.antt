-- What a lane's record gains in a feed.
use Rattle.std.proofs.Common.{rules, ◌≡◌, ℕ, ◌+◌, ◌-◌, ◌^◌, ◌<◌, ◌≤◌, min, ⊎_elim, List, [], ◌∷◌, ◌++◌, None, Some, map, length, drop, is_some, cond, Option, refl, sym, ap, subst, ◌∙◌, append_assoc, arith}
use Rattle.std.specs.Option.{IfSome}
use Rattle.std.proofs.lemmas.Bool.{cases_lt}
use Rattle.std.proofs.lemmas.List.{append-nil, drop_at, drop_all, map-append}
use Rattle.ghost_history.specs.Sums.{total}
use Rattle.ghost_history.proofs.SumLemmas.{total-append}
use Rattle.cube_shape.specs.declared.limits.TheConstants.{MAX_ENTRIES}
use Rattle.job_types.specs.Job.{JobData}
use Rattle.job_queue.specs.declared.record.QueuedJob.{QueuedJob}
use Rattle.job_queue.specs.declared.record.Entry.{Entry}
use Rattle.job_queue.specs.declared.record.LaneRecord.{LaneRecord}
use Rattle.job_queue.specs.Record.{entry, accepted, job_of, accepted_jobs}
use Rattle.job_queue.specs.declared.job_line.Refused.{Refused}
use Rattle.job_queue.specs.declared.job_line.Refused.TheVariants as refused
use Rattle.job_queue.specs.Line.{GainsEntry, GainsRefusal}
use Rattle.job_queue.proofs.AcceptedLemmas.{accepted-append, accepted-push, accepted-full}
use Rattle.dispatcher.specs.declared.feeding.FeedStop.{FeedStop}
use Rattle.dispatcher.specs.declared.feeding.FeedStop.TheVariants.{Done, Closed, LaneSpent, Turns}
use Rattle.dispatcher.specs.Feed.{entries_since, full_since, seen_at, HandsIn}
use Rattle.dispatcher.specs.InnerFeed.{stop_at}
use Rattle.dispatcher.specs.Stop.{EndsWith}

-- The first of these jobs are accepted, the others are left, and the feed goes on.
pub record SoFar (jobs left : List JobData) (before now : LaneRecord) : Type 0 where
  pub gains : now ≡ record before { entries = before.entries ++ entries_since before now }
  pub brings : map job_of (accepted (entries_since before now)) ++ left ≡ jobs

none_since : (lane : LaneRecord) → entries_since lane lane ≡ []
none_since lane = drop_all (length lane.entries) lane.entries (omega arith)

pub none_full : (lane : LaneRecord) → full_since lane lane ≡ 0
none_full lane = ap (total (λ (e : Entry). cond (is_some e.job) 0 1)) (none_since lane)

pub none_yet : (jobs : List JobData) (lane : LaneRecord) → SoFar jobs jobs lane lane
none_yet jobs lane = record {
  gains = ap (λ (es : List Entry). record lane { entries = es }) (sym (ap (λ (made : List Entry). lane.entries ++ made) (none_since lane) ∙ append-nil lane.entries));
  brings = ap (λ (made : List Entry). map job_of (accepted made) ++ jobs) (none_since lane);
}

-- ---- one more entry

module _ (before now next : LaneRecord) (e : Entry)
    (so_far : now ≡ record before { entries = before.entries ++ entries_since before now })
    (gains : next ≡ record now { entries = now.entries ++ e ∷ [] }) where
  since_more : entries_since before next ≡ entries_since before now ++ e ∷ []
  since_more =
      let count : ℕ = length before.entries in
      ap (λ (r : LaneRecord). drop count r.entries) gains
      ∙ (ap (λ (r : LaneRecord). drop count (r.entries ++ e ∷ [])) so_far
      ∙ (ap (drop count) (append_assoc before.entries (entries_since before now) (e ∷ []))
      ∙ drop_at before.entries (entries_since before now ++ e ∷ []) count refl))

  gains_more : next ≡ record before { entries = before.entries ++ entries_since before next }
  gains_more =
      gains
      ∙ (ap (λ (r : LaneRecord). record r { entries = r.entries ++ e ∷ [] }) so_far
      ∙ ap (λ (es : List Entry). record before { entries = es }) (append_assoc before.entries (entries_since before now) (e ∷ []) ∙ ap (λ (made : List Entry). before.entries ++ made) (sym since_more)))

  full_since_more : full_since before next ≡ full_since before now + cond (is_some e.job) 0 1
  full_since_more =
      let weight : Entry → ℕ = λ x. cond (is_some x.job) 0 1 in
      omega (arith, ap (total weight) since_more, total-append weight (entries_since before now) (e ∷ []))

pub one_accepted : (jobs left : List JobData) (before now next : LaneRecord) (number : ℕ)
    (q : QueuedJob)
    → SoFar jobs (q.job ∷ left) before now
    → GainsEntry now number (Some q) next
    → SoFar jobs left before next
one_accepted jobs left before now next number q so_far gains =
    let made : List Entry = entries_since before now in
    record {
      gains = gains_more before now next (entry number (Some q)) so_far.gains gains;
      brings =
          ap (λ (es : List Entry). map job_of (accepted es) ++ left) (since_more before now next (entry number (Some q)) so_far.gains gains)
          ∙ (ap (λ (qs : List QueuedJob). map job_of qs ++ left) (accepted-push made number q)
          ∙ (ap (λ (js : List JobData). js ++ left) (map-append job_of (accepted made) (q ∷ [])) ∙ (append_assoc (map job_of (accepted made)) (q.job ∷ []) left ∙ so_far.brings)));
    }

pub one_full : (jobs left : List JobData) (before now next : LaneRecord) (number : ℕ)
    → SoFar jobs left before now
    → GainsEntry now number None next
    → SoFar jobs left before next
one_full jobs left before now next number so_far gains =
    let made : List Entry = entries_since before now in
    record {
      gains = gains_more before now next (entry number None) so_far.gains gains;
      brings =
          ap (λ (es : List Entry). map job_of (accepted es) ++ left) (since_more before now next (entry number None) so_far.gains gains)
          ∙ (ap (λ (qs : List QueuedJob). map job_of qs ++ left) (accepted-full made number) ∙ so_far.brings);
    }

pub full_same : (jobs left : List JobData) (before now next : LaneRecord) (number : ℕ)
    (q : QueuedJob)
    → SoFar jobs left before now
    → GainsEntry now number (Some q) next
    → full_since before next ≡ full_since before now
full_same jobs left before now next number q so_far gains = omega (arith, full_since_more before now next (entry number (Some q)) so_far.gains gains)

pub full_more : (jobs left : List JobData) (before now next : LaneRecord) (number : ℕ)
    → SoFar jobs left before now
    → GainsEntry now number None next
    → full_since before next ≡ full_since before now + 1
full_more jobs left before now next number so_far gains = full_since_more before now next (entry number None) so_far.gains gains

-- ---- the end

-- The feed stops, and the record gains what it found then.
pub stops : (jobs left : List JobData) (stop : FeedStop) (before now after : LaneRecord)
    → SoFar jobs left before now
    → after ≡ record now { seen = now.seen ++ seen_at stop }
    → HandsIn jobs left stop before after
stops jobs left stop before now after so_far found =
    let same : entries_since before after ≡ entries_since before now = ap (λ (r : LaneRecord). drop (length before.entries) r.entries) found in
    record {
      gains = found
          ∙ (ap (λ (r : LaneRecord). record r { seen = r.seen ++ seen_at stop }) so_far.gains
          ∙ ap (λ (made : List Entry). record before { entries = before.entries ++ made; seen = before.seen ++ seen_at stop }) (sym same));
      brings = ap (λ (made : List Entry). map job_of (accepted made) ++ left) same ∙ so_far.brings;
    }

-- The feed stops, and the record gains nothing more.
pub stops_as_is : (jobs left : List JobData) (stop : FeedStop) (before now : LaneRecord)
    → SoFar jobs left before now
    → seen_at stop ≡ []
    → HandsIn jobs left stop before now
stops_as_is jobs left stop before now so_far nothing =
    stops jobs left stop before now now so_far (ap (λ (seen : List ℕ). record now { seen = seen }) (sym (ap (λ (more : List ℕ). now.seen ++ more) nothing ∙ append-nil now.seen)))

-- The job of the refusal is the first one that is left.
pub at_refusal : (jobs left : List JobData) (before now after : LaneRecord) (why : Refused)
    (stop : FeedStop)
    → SoFar jobs left before now
    → GainsRefusal now why after
    → stop ≡ stop_at why
    → HandsIn jobs left stop before after
at_refusal jobs left before now after (refused.Closed seen) stop so_far gains is =
    subst (λ (s : FeedStop). HandsIn jobs left s before after) (sym is) (stops jobs left (Closed seen) before now after so_far gains)
at_refusal jobs left before now after refused.Full stop so_far gains is =
    subst (λ (s : FeedStop). HandsIn jobs left s before after) (sym is) (stops_as_is jobs left Turns before after (one_full jobs left before now after gains.0 so_far gains.1) refl)
at_refusal jobs left before now after refused.LaneSpent stop so_far gains is =
    subst (λ (s : FeedStop). HandsIn jobs left s before after) (sym is) (subst (λ (r : LaneRecord). HandsIn jobs left LaneSpent before r) (sym gains) (stops_as_is jobs left LaneSpent before now so_far refl))

turns_not_spent : Turns ≡ LaneSpent → ⊥
turns_not_spent is = search rules

turns_not_closed : (count : ℕ) → Turns ≡ Closed count → ⊥
turns_not_closed count is = search rules

spent_not_closed : (count : ℕ) → LaneSpent ≡ Closed count → ⊥
spent_not_closed count is = search rules

-- A feed that stops at a refusal is not done.
pub not_done_at : (why : Refused) (stop : FeedStop) → stop ≡ stop_at why → stop ≡ Done → ⊥
not_done_at (refused.Closed seen) stop is done = search rules
not_done_at refused.Full stop is done = search rules
not_done_at refused.LaneSpent stop is done = search rules

-- Two stops at a closed queue that are the same saw the same count.
same_count : (a b : ℕ) → Closed a ≡ Closed b → a ≡ b
same_count a b same = search rules

pub closed_at : (now after : LaneRecord) (why : Refused) (stop : FeedStop) (count : ℕ)
    → GainsRefusal now why after
    → stop ≡ stop_at why
    → stop ≡ Closed count
    → EndsWith after.seen count
closed_at now after (refused.Closed seen) stop count gains is closed =
    (now.seen, ap (λ (r : LaneRecord). r.seen) gains ∙ ap (λ (s : ℕ). now.seen ++ s ∷ []) (same_count seen count (sym is ∙ closed)))
closed_at now after refused.Full stop count gains is closed = absurd (turns_not_closed count (sym is ∙ closed))
closed_at now after refused.LaneSpent stop count gains is closed = absurd (spent_not_closed count (sym is ∙ closed))

-- A feed stops with `Turns` only at a full queue.
pub turns_at : (why : Refused) (stop : FeedStop)
    → stop ≡ stop_at why
    → stop ≡ Turns
    → why ≡ refused.Full
turns_at (refused.Closed seen) stop is turns = absurd (turns_not_closed seen (sym turns ∙ is))
turns_at refused.Full stop is turns = refl
turns_at refused.LaneSpent stop is turns = absurd (turns_not_spent (sym turns ∙ is))

-- A lane that is spent was so before the refusal.
pub spent_at : (now after : LaneRecord) (why : Refused) (stop : FeedStop)
    → GainsRefusal now why after
    → (why ≡ refused.LaneSpent → MAX_ENTRIES ≤ length now.entries)
    → stop ≡ stop_at why
    → stop ≡ LaneSpent
    → MAX_ENTRIES ≤ length after.entries
spent_at now after (refused.Closed seen) stop gains only is spent = absurd (spent_not_closed seen (sym spent ∙ is))
spent_at now after refused.Full stop gains only is spent = absurd (turns_not_spent (sym is ∙ spent))
spent_at now after refused.LaneSpent stop gains only is spent = subst (λ (r : LaneRecord). MAX_ENTRIES ≤ length r.entries) (sym gains) (only refl)

-- The jobs that the lane has accepted, the one that came back and those left are all jobs.
pub fed_by : (jobs back left : List JobData) (stop : FeedStop) (before after : LaneRecord)
    → HandsIn jobs (back ++ left) stop before after
    → accepted_jobs after ++ back ++ left ≡ accepted_jobs before ++ jobs
fed_by jobs back left stop before after hands =
    let made : List Entry = entries_since before after in
    append_assoc (accepted_jobs after) back left
    ∙ (ap (λ (r : LaneRecord). accepted_jobs r ++ (back ++ left)) hands.gains
    ∙ (ap (λ (qs : List QueuedJob). map job_of qs ++ (back ++ left)) (accepted-append before.entries made)
    ∙ (ap (λ (js : List JobData). js ++ (back ++ left)) (map-append job_of (accepted before.entries) (accepted made))
    ∙ (append_assoc (accepted_jobs before) (map job_of (accepted made)) (back ++ left) ∙ ap (λ (js : List JobData). accepted_jobs before ++ js) hands.brings))))

-- ---- the count of tries that found the queue full

-- The count grows by one, and is not the limit.
pub goes_on : (limit : Option ℕ) (full next since now turns : ℕ)
    → IfSome limit (λ most. most < 2 ^ 32)
    → next ≡ min (full + 1) (2 ^ 64 - 1)
    → now ≡ since + 1
    → (limit ≡ Some next → ⊥)
    → limit ≡ Some turns
    → (full ≡ since) × (full < turns)
    → (next ≡ now) × (next < turns)
goes_on limit full next since now turns word grows more other is so_far =
    let small : turns < 2 ^ 32 = subst (λ (l : Option ℕ). IfSome l (λ most. most < 2 ^ 32)) is word in
    let one : next ≡ full + 1 = omega (arith, grows, small, so_far.1) in (
      omega (arith, one, more, so_far.0),
      ⊎_elim
          (λ (lt : next < turns). lt)
          (λ (ge : turns ≤ next). absurd (other (is ∙ ap Some (omega (arith, one, ge, so_far.1)))))
          (cases_lt next turns),
    )

-- The count grows by one, and is the limit.
pub is_last : (limit : Option ℕ) (full next since now : ℕ)
    → next ≡ min (full + 1) (2 ^ 64 - 1)
    → now ≡ since + 1
    → limit ≡ Some next
    → (full ≡ since) × (full < next)
    → limit ≡ Some now
is_last limit full next since now grows more is so_far = is ∙ ap Some (omega (arith, grows, more, so_far.0, so_far.1))

-- The feed stops for another reason, and the count is below the limit.
pub fewer_at : (before now after : LaneRecord) (why : Refused) (stop : FeedStop) (full turns : ℕ)
    → GainsRefusal now why after
    → stop ≡ stop_at why
    → (stop ≡ Turns → ⊥)
    → (full ≡ full_since before now) × (full < turns)
    → full_since before after < turns
fewer_at before now after (refused.Closed seen) stop full turns gains is other so_far =
    let same : full_since before after ≡ full_since before now = ap (λ (r : LaneRecord). full_since before r) gains in
    omega (arith, same, so_far.0, so_far.1)
fewer_at before now after refused.Full stop full turns gains is other so_far = absurd (other is)
fewer_at before now after refused.LaneSpent stop full turns gains is other so_far =
    let same : full_since before after ≡ full_since before now = ap (λ (r : LaneRecord). full_since before r) gains in
    omega (arith, same, so_far.0, so_far.1)

-- The count at a limit is the limit.
pub limit_is : (most count : ℕ) → Some most ≡ Some count → count ≡ most
limit_is most count same = search rules
