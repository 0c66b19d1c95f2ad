-- From what the queue says at its end to what the replies say.
use Rattle.std.proofs.Common.{◌≡◌, ◌<◌, ◌∷◌, [], ◌++◌, List, length, map, ℕ, refl, sym, ap, subst, ◌∙◌, arith}
use Rattle.std.specs.List.{All, AllByRecursion}
use Rattle.std.proofs.lemmas.List.{map-append}
use Rattle.std.proofs.lemmas.List.Elements.{All-head, All-tail}
use Rattle.floors.specs.Floor.{IsWhollyFree}
use Rattle.cube_shape.specs.declared.region.Region.{Region}
use Rattle.ghost_history.specs.Sums.{total, below, times}
use Rattle.ghost_history.proofs.SumLemmas.{total-map, total-same, below-ones}
use Rattle.ghost_history.proofs.ViewLemmas.{all_weaker}
use Rattle.job_types.specs.Reply.{ReplyData}
use Rattle.job_queue.specs.declared.record.QueuedJob.{QueuedJob}
use Rattle.job_queue.specs.declared.record.LaneRecord.{LaneRecord}
use Rattle.job_queue.specs.declared.record.Entry.{Entry}
use Rattle.job_queue.specs.declared.record.PassRecord.{PassRecord}
use Rattle.job_queue.specs.Record.{Rises}
use Rattle.job_queue.specs.Run.{WholeRun}
use Rattle.dispatcher.specs.Reply.{answered, region_of, IsRight}
use Rattle.dispatcher.specs.Finished.{Outcome, weight_of, with_last, FinishedRun}
use Rattle.dispatcher.proofs.OnceLemmas.{Balance, Counts, answered_once, no_other}

-- What holds of each element, by recursion over the list.
pub each_of : {A : Type 0} (P : A → Type 0) (xs : List A) → All P xs → AllByRecursion P xs
each_of P [] all = tt
each_of P (x ∷ xs) all = (All-head P x xs all, each_of P xs (All-tail P x xs all))

each_part : {A B : Type 0} (P : B → Type 0) (f : A → B) (xs : List A)
    → AllByRecursion (λ x. P (f x)) xs
    → AllByRecursion P (map f xs)
each_part P f [] all = tt
each_part P f (x ∷ xs) all = (all.0, each_part P f xs all.1)

of_each_part : {A B : Type 0} (P : B → Type 0) (f : A → B) (xs : List A)
    → AllByRecursion P (map f xs)
    → AllByRecursion (λ x. P (f x)) xs
of_each_part P f [] all = tt
of_each_part P f (x ∷ xs) all = (all.0, of_each_part P f xs all.1)

module _ {E P V : Type 0} (pass_of : E → P) (record_of : P → PassRecord) (replies_of : E → V)
    (items_of : V → List ReplyData) where
  -- Each worker has replied to what its pass took, so all have.
  pub taken_answered : ((e : E) → (record_of (pass_of e)).taken
      ≡ map answered (items_of (replies_of e)))
      → (es : List E)
      → map (λ p. p.taken) (map record_of (map pass_of es))
      ≡ map (map answered) (map items_of (map replies_of es))
  taken_answered own [] = refl
  taken_answered own (e ∷ es) =
      let rest : List (List QueuedJob) = map (map answered) (map items_of (map replies_of es)) in
      ap (λ (ts : List (List QueuedJob)). (record_of (pass_of e)).taken ∷ ts) (taken_answered own es)
      ∙ ap (λ (t : List QueuedJob). t ∷ rest) (own e)

  pub replies_right : (n : ℕ) (es : List E)
      → All (λ e. All (IsRight n) (items_of (replies_of e))) es
      → AllByRecursion (AllByRecursion (IsRight n)) (map items_of (map replies_of es))
  replies_right n [] all = tt
  replies_right n (e ∷ es) all =
      let Own : E → Type 0 = λ x. All (IsRight n) (items_of (replies_of x)) in
      (each_of (IsRight n) (items_of (replies_of e)) (All-head Own e es all), replies_right n es (All-tail Own e es all))

-- The numbers of all entries are those below the close number, so that is their count.
all_entries : (lanes : List LaneRecord) (note : ℕ)
    → ((weight : ℕ → ℕ) → total (λ l. total (λ e. weight e.number) l.entries) lanes
    ≡ below weight note)
    → note ≡ total (λ l. length l.entries) lanes
all_entries lanes note entries =
    let ones : (es : List Entry) → total (λ e. 1) es ≡ length es = total-each_one in
    sym (below-ones note) ∙ (sym (entries (λ k. 1)) ∙ total-same (λ (l : LaneRecord). total (λ (e : Entry). 1) l.entries) (λ l. length l.entries) (λ l. ones l.entries) lanes)
  where
    total-each_one : (es : List Entry) → total (λ (e : Entry). 1) es ≡ length es
    total-each_one [] = refl
    total-each_one (e ∷ es) = omega (arith, total-each_one es)

-- The theorem of a finished dispatcher, from the whole run of its queue.
pub finished : (n count : ℕ) (lanes : List LaneRecord) (passes : List PassRecord)
    (jobs : List QueuedJob) (grants : List (List Region)) (note : ℕ) (o : Outcome)
    → WholeRun lanes passes jobs note
    → map (λ p. p.taken) passes ≡ map (map answered) o.by_worker
    → map answered o.rest ≡ jobs
    → AllByRecursion (AllByRecursion (IsRight n)) o.by_worker
    → AllByRecursion (IsRight n) o.rest
    → length o.accepted ≡ count
    → ((k : ℕ) → k < count → times k (map (λ l. l.number) lanes) ≡ 1)
    → Counts lanes o
    → grants ≡ with_last (map (map region_of) o.by_worker) (map region_of o.rest)
    → IsWhollyFree n o.words
    → FinishedRun n lanes grants note o
finished n count lanes passes jobs grants note o run taken left right rest_right size numbers counts granted free =
    let together : (rs : List ReplyData) → map answered rs ++ jobs ≡ map answered (rs ++ o.rest) = λ rs. ap (λ (js : List QueuedJob). map answered rs ++ js) (sym left) ∙ sym (map-append answered rs o.rest) in
    let balance : Balance lanes o = λ weight.
    let passes_weigh : total (λ (p : PassRecord). total weight p.taken) passes ≡ total (weight_of weight) o.by_worker =
    sym (total-map (total weight) (λ (p : PassRecord). p.taken) passes) ∙ (ap (total (total weight)) taken ∙ total-map (total weight) (map answered) o.by_worker) in
    omega (arith, run.balance weight, passes_weigh, ap (total weight) left) in
    record {
      balance = balance;
      seqs = run.seqs;
      counts = counts;
      answered_once = λ lane seq within. answered_once lane seq count lanes o balance run.seqs size numbers counts within;
      no_other = λ lane seq past. no_other lane seq lanes o balance run.seqs counts past;
      rises = all_weaker (λ (rs : List ReplyData). Rises (map answered rs ++ jobs)) (λ rs. Rises (map answered (rs ++ o.rest))) (λ rs risen. subst Rises (together rs) risen) o.by_worker
          (of_each_part (λ (ts : List QueuedJob). Rises (ts ++ jobs)) (map answered) o.by_worker
          (subst (AllByRecursion (λ (ts : List QueuedJob). Rises (ts ++ jobs))) taken
          (each_part (λ (ts : List QueuedJob). Rises (ts ++ jobs)) (λ (p : PassRecord). p.taken) passes run.rises)));
      rest_rises = subst Rises (sym left) run.rest_rises;
      entered_before = run.entered_before;
      close_number = all_entries lanes note run.entries;
      seen = run.seen;
      granted = granted;
      right = right;
      rest_right = rest_right;
      free = free;
    }
