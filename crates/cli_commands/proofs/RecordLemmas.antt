-- A run, its events, and the file that holds them.
use Rattle.std.proofs.Common.{◌≡◌, ◌⊎◌, inl, inr, ℕ, Bool, true, false, true≢false, List, [], Option, None, Some, Result, Ok, Err, IfErr, IfOk, IfSome, OnOk, refl, sym, ap, subst, ◌∙◌, if◌then◌else◌}
use Rattle.std.specs.Io.KnownBytes.{Appends}
use Rattle.job_types.specs.Job.{JobData}
use Rattle.job_events.specs.Events.{AreEvents, event_fields}
use Rattle.job_events.specs.declared.event.JobEvent.{JobEvent}
use Rattle.dispatcher_threads.specs.declared.running.RunEnd.{RunEnd}
use Rattle.jobs_csv.specs.declared.fault.Fault.{Fault}
use Rattle.jobs_csv.specs.declared.fault.FaultKind.TheVariants as what
use Rattle.jobs_csv.specs.Fault.{attribute, has_failed, is_refusal}
use Rattle.jobs_csv.specs.PlaceRows.{place_columns}
use Rattle.jobs_csv.specs.Text.{file_text}
use Rattle.cli_args.specs.declared.invocation.Invocation.{Invocation}
use Rattle.cli_args.specs.declared.invocation.Invocation.TheVariants.{Run, RunLong, Report, Place, Replay}
use Rattle.cli_commands.specs.Answer.{IsAnswer, IsMetBeforeWriting}
use Rattle.cli_commands.specs.Events.{AreEventsOf, HasEvents, IsSunk, WritesEvents, run_in}
use Rattle.cli_commands.specs.FileRun.{ReturnsRun}
use Rattle.cli_commands.specs.Inner.Files.{IsSettled}
use Rattle.cli_commands.specs.Inner.Recording.{IfRan, IsFaultBeside}
use Rattle.cli_commands.specs.Program.{IsAnswerTo, IsFaultOf}
use Rattle.cli_commands.specs.Replies.{AnswersJobs, replies_in}
use Rattle.cli_commands.specs.declared.files.CommandError.{CommandError}
use Rattle.cli_commands.specs.declared.files.CommandError.TheVariants as error
use Rattle.cli_commands.specs.declared.file_run.FileRun.{FileRun}
use Rattle.cli_commands.specs.declared.shop.AnswerError.{AnswerError}
use Rattle.atomic_file.specs.Store.{held_by}
use Rattle.cli_commands.proofs.RunLemmas.{write_refuses_nothing}

-- ---- a run whose events are not listed

-- memory was refused before the run
pub no_run : {M : Type 0} (words_of : M → List ℕ) (n : ℕ) (parse : Result (List JobData) Fault)
    (fault : Fault)
    → fault ≡ record { row = 0; what = what.OutOfMemory }
    → ReturnsRun words_of n parse (Err (record { fault = fault; end = None }))
no_run words_of n parse fault is = (λ refused. absurd (true≢false (sym refused ∙ ap (λ (f : Fault). is_refusal f.what) is)), tt)

-- or after it
pub run_without_events : {M : Type 0} (words_of : M → List ℕ) (n : ℕ)
    (parse : Result (List JobData) Fault) (fault : Fault) (end : RunEnd M)
    → fault ≡ record { row = 0; what = what.OutOfMemory }
    → ReturnsRun words_of n parse (Ok end)
    → ReturnsRun words_of n parse (Err (record { fault = fault; end = Some end }))
run_without_events words_of n parse fault end is (jobs, good, run, answers) = (λ refused. absurd (true≢false (sym refused ∙ ap (λ (f : Fault). is_refusal f.what) is)), (jobs, good, run))

-- ---- the events of a file

pub events_written : {M : Type 0} (has_file : Bool) (words_of : M → List ℕ) (n : ℕ)
    (read : Option (List ℕ)) (parse : List ℕ → Result (List JobData) Fault)
    (ran : Result (FileRun M) (AnswerError M)) (result : Result (Unit {0}) Fault)
    (writes : List JobEvent → Type 0)
    → (has_file ≡ true → IfOk ran (λ run. AreEvents (replies_in run.end.finished) run.events.items))
    → (has_file ≡ true → OnOk result (IfRan ran (λ run. writes run.events.items)))
    → IfSome read (λ bytes. ReturnsRun words_of n (parse bytes) (run_in ran))
    → OnOk result (IfSome read (λ bytes. has_file ≡ true → (events : List JobEvent)
    × AreEventsOf n (parse bytes) events × writes events))
events_written has_file words_of n read parse ran (Err fault) writes are wrote returns = tt
events_written has_file words_of n None parse ran (Ok done) writes are wrote returns = tt
events_written has_file words_of n (Some bytes) parse (Err error) (Ok done) writes are wrote returns = λ has. absurd (wrote has)
events_written has_file words_of n (Some bytes) parse (Ok run) (Ok done) writes are wrote (jobs, good, filed, answers) = λ has. (
  run.events.items,
  record {
    jobs = jobs;
    replies = replies_in run.end.finished;
    good = good;
    same = answers.same;
    right = answers.right;
    are_events = are has;
  },
  wrote has,
)

-- the rows and the events of a run are written, or its fault is passed on
pub run_answer : {M Row : Type 0} (words_of : M → List ℕ) (n : ℕ)
    (parse : Result (List JobData) Fault) (answers : List JobData → List Row → Type 0)
    (text : List Row → List ℕ) (old new : Option (List ℕ)) (wb wa : ℕ) (has_file : Bool)
    (kb ka : ℕ) (ran : Result (FileRun M) (AnswerError M)) (run : FileRun M)
    (result : Result (Unit {0}) Fault)
    → ran ≡ Ok run
    → ReturnsRun words_of n parse (run_in ran)
    → ((jobs : List JobData) → AnswersJobs n jobs run.end.finished
    → OnOk result ((rows : List Row) × answers jobs rows × Appends old new (text rows)))
    → IfErr result (λ fault. (fault ≡ attribute what.Write wb wa)
    ⊎ (has_file ≡ true × (fault ≡ attribute what.Write kb ka))
    ⊎ (fault ≡ record { row = 0; what = what.OutOfMemory }))
    → IsAnswer parse answers text old new result
run_answer {M = M} {Row = Row} words_of n parse answers text old new wb wa has_file kb ka ran run (Ok done) same is written failed =
    let (jobs, good, ended, all) = subst (λ (r : Result (FileRun M) (AnswerError M)). ReturnsRun words_of n parse (run_in r)) same is in
    let (rows, are, out) = written jobs all in
    record { things = jobs; rows = rows; good = good; answered = are; written = out }
run_answer words_of n parse answers text old new wb wa has_file kb ka ran run (Err fault) same is written (inl rows) = λ refused. absurd (write_refuses_nothing fault wb wa rows refused)
run_answer words_of n parse answers text old new wb wa has_file kb ka ran run (Err fault) same is written (inr (inl (has, events))) = λ refused. absurd (write_refuses_nothing fault kb ka events refused)
run_answer words_of n parse answers text old new wb wa has_file kb ka ran run (Err fault) same is written (inr (inr memory)) = λ refused. absurd (true≢false (sym refused ∙ ap (λ (f : Fault). is_refusal f.what) memory))

pub run_fault : {M Row : Type 0} (words_of : M → List ℕ) (n : ℕ)
    (parse : Result (List JobData) Fault) (answers : List JobData → List Row → Type 0)
    (text : List Row → List ℕ) (old : Option (List ℕ))
    (ran : Result (FileRun M) (AnswerError M)) (error : AnswerError M)
    → ran ≡ Err error
    → ReturnsRun words_of n parse (run_in ran)
    → IsAnswer parse answers text old old (Err error.fault)
run_fault {M = M} words_of n parse answers text old ran error is returns =
    let passed = subst (λ (r : Result (FileRun M) (AnswerError M)). ReturnsRun words_of n parse (run_in r)) is returns in passed.0

-- ---- the file of the events

if_ok_failed : (failed : Bool) → (if failed then what.Write else what.OutOfMemory) ≡ what.Read → ⊥
if_ok_failed true is = cc
if_ok_failed false is = cc

if_ok_spent : (failed : Bool) → (if failed then what.Write else what.OutOfMemory) ≡ what.Spent → ⊥
if_ok_spent true is = cc
if_ok_spent false is = cc

-- a fault of writing is not met before
write_is_late : (fault : Fault) (before after : ℕ)
    → fault ≡ attribute what.Write before after
    → IsMetBeforeWriting fault
    → ⊥
write_is_late fault before after is (inl refused) = write_refuses_nothing fault before after is refused
write_is_late fault before after is (inr (inl read)) = if_ok_failed (has_failed before after) (ap (λ (f : Fault). f.what) (sym is) ∙ read)
write_is_late fault before after is (inr (inr spent)) = if_ok_spent (has_failed before after) (ap (λ (f : Fault). f.what) (sym is) ∙ spent)

-- a fault that refuses nothing says nothing of the input
not_refused_answer : (invocation : Invocation) (bytes : List ℕ) (old new : Option (List ℕ))
    (fault : Fault)
    → (is_refusal fault.what ≡ true → ⊥)
    → IsAnswerTo invocation bytes old new (Err fault)
not_refused_answer (Run shop) bytes old new fault free = λ refused. absurd (free refused)
not_refused_answer (RunLong shop) bytes old new fault free = λ refused. absurd (free refused)
not_refused_answer (Report shop) bytes old new fault free = λ refused. absurd (free refused)
not_refused_answer (Place n) bytes old new fault free = λ refused. absurd (free refused)
not_refused_answer (Replay n stations) bytes old new fault free = λ refused. absurd (free refused)

write_fault : (invocation : Invocation) (rb ra before after : ℕ) (fault : Fault)
    → fault ≡ attribute what.Write before after
    → IsFaultOf rb ra before after invocation fault
write_fault (Run shop) rb ra before after fault is = inl (inr is)
write_fault (RunLong shop) rb ra before after fault is = inl (inr is)
write_fault (Report shop) rb ra before after fault is = inl (inr is)
write_fault (Place n) rb ra before after fault is = inr is
write_fault (Replay n stations) rb ra before after fault is = inr is

-- what holds for each input
for_all : (read : Option (List ℕ)) (P : List ℕ → Type 0)
    → ((bytes : List ℕ) → P bytes)
    → IfSome read P
for_all None P holds = tt
for_all (Some bytes) P holds = holds bytes

-- ---- a command that runs no jobs

module _ (has_file : Bool) (answer result : Result (Unit {0}) Fault) (kb ka : ℕ)
    (passed : IfErr answer (λ fault. result ≡ Err fault))
    (failed : OnOk answer (IfErr result (λ fault. has_file ≡ true
    × (fault ≡ attribute what.Write kb ka)))) where
  -- the command is answered
  pub none_answer : (invocation : Invocation) (read old new : Option (List ℕ))
      → IfSome read (λ b. IsAnswerTo invocation b old new answer)
      → IfSome read (λ b. IsAnswerTo invocation b old new result)
  none_answer invocation read old new answered = by_both answer result passed failed answered
    where
      by_both : (r a : Result (Unit {0}) Fault)
          → IfErr r (λ fault. a ≡ Err fault)
          → OnOk r (IfErr a (λ fault. has_file ≡ true × (fault ≡ attribute what.Write kb ka)))
          → IfSome read (λ b. IsAnswerTo invocation b old new r)
          → IfSome read (λ b. IsAnswerTo invocation b old new a)
      by_both (Err fault) a is wrote answers = subst (λ (x : Result (Unit {0}) Fault). IfSome read (λ b. IsAnswerTo invocation b old new x)) (sym is) answers
      by_both (Ok done) (Ok listed) is wrote answers = answers
      by_both (Ok done) (Err fault) is wrote answers = for_all read (λ b. IsAnswerTo invocation b old new (Err fault)) (λ b. not_refused_answer invocation b old new fault (write_refuses_nothing fault kb ka wrote.1))

  -- or failed, by itself or by the file of the events
  pub none_failed : (invocation : Invocation) (rb ra wb wa : ℕ)
      → IfErr answer (IsFaultOf rb ra wb wa invocation)
      → IfErr result (λ fault. IsFaultOf rb ra wb wa invocation fault
      ⊎ (has_file ≡ true × IsFaultOf rb ra kb ka invocation fault))
  none_failed invocation rb ra wb wa may = by_both answer result passed failed may
    where
      by_both : (r a : Result (Unit {0}) Fault)
          → IfErr r (λ fault. a ≡ Err fault)
          → OnOk r (IfErr a (λ fault. has_file ≡ true × (fault ≡ attribute what.Write kb ka)))
          → IfErr r (IsFaultOf rb ra wb wa invocation)
          → IfErr a (λ fault. IsFaultOf rb ra wb wa invocation fault ⊎ (has_file ≡ true × IsFaultOf rb ra kb ka invocation fault))
      by_both (Err fault) a is wrote is_of = subst (λ (x : Result (Unit {0}) Fault). IfErr x (λ f. IsFaultOf rb ra wb wa invocation f ⊎ (has_file ≡ true × IsFaultOf rb ra kb ka invocation f))) (sym is) (inl is_of)
      by_both (Ok done) (Ok listed) is wrote is_of = tt
      by_both (Ok done) (Err fault) is wrote is_of = inr (wrote.0, write_fault invocation rb ra kb ka fault wrote.1)

  -- and nothing is written before that
  pub none_untouched : (P : Type 0)
      → IfErr answer (λ fault. IsMetBeforeWriting fault → P)
      → IfErr result (λ fault. IsMetBeforeWriting fault → P)
  none_untouched P untouched = by_both answer result passed failed untouched
    where
      by_both : (r a : Result (Unit {0}) Fault)
          → IfErr r (λ fault. a ≡ Err fault)
          → OnOk r (IfErr a (λ fault. has_file ≡ true × (fault ≡ attribute what.Write kb ka)))
          → IfErr r (λ fault. IsMetBeforeWriting fault → P)
          → IfErr a (λ fault. IsMetBeforeWriting fault → P)
      by_both (Err fault) a is wrote same = subst (λ (x : Result (Unit {0}) Fault). IfErr x (λ f. IsMetBeforeWriting f → P)) (sym is) same
      by_both (Ok done) (Ok listed) is wrote same = tt
      by_both (Ok done) (Err fault) is wrote same = λ met. absurd (write_is_late fault kb ka wrote.1 met)

-- it has no events
pub none_written : (has_file : Bool) (invocation : Invocation) (writes : List JobEvent → Type 0)
    (read : Option (List ℕ)) (result : Result (Unit {0}) Fault)
    → ((bytes : List ℕ) → HasEvents invocation bytes [])
    → (has_file ≡ true → OnOk result (writes []))
    → OnOk result (IfSome read (IsSunk has_file writes invocation))
none_written has_file invocation writes read (Err fault) none wrote = tt
none_written has_file invocation writes None (Ok done) none wrote = tt
none_written has_file invocation writes (Some bytes) (Ok done) none wrote = λ has. ([], none bytes, wrote has)

-- ---- a command whose events may be written

pub beside : (has_file : Bool) (invocation : Invocation) (rb ra wb wa kb ka : ℕ)
    (result : Result (Unit {0}) Fault)
    → IfErr result (λ fault. IsFaultOf rb ra wb wa invocation fault
    ⊎ (has_file ≡ true × IsFaultOf rb ra kb ka invocation fault))
    → IfErr result (IsFaultBeside has_file rb ra wb wa invocation)
beside has_file invocation rb ra wb wa kb ka (Ok done) failed = tt
beside has_file invocation rb ra wb wa kb ka (Err fault) (inl rows) = ((wb, wa), (λ none. refl), rows)
beside has_file invocation rb ra wb wa kb ka (Err fault) (inr (has, events)) = ((kb, ka), (λ none. absurd (true≢false (sym has ∙ none))), events)

-- ---- a request whose events are written

pub ok_answered : (P : Type 0) (answer : Result (Unit {0}) Fault)
    (result : Result (Unit {0}) CommandError)
    → IfErr answer (λ fault. result ≡ Err (error.Fault fault))
    → OnOk answer P
    → OnOk result P
ok_answered P (Ok done) (Ok answered) failed holds = holds
ok_answered P (Ok done) (Err s) failed holds = tt
ok_answered P (Err fault) result failed holds = subst (λ (r : Result (Unit {0}) CommandError). OnOk r P) (sym failed) tt

pub ok_settled : (P : Type 0) (temp_file : Option (List ℕ)) (old new : List ℕ → Option (List ℕ))
    (name : List ℕ) (answer : Result (Unit {0}) Fault) (result : Result (Unit {0}) CommandError)
    → IsSettled temp_file old new name answer result
    → OnOk answer P
    → OnOk result P
ok_settled P temp_file old new name (Err fault) result (is, kept) holds = subst (λ (r : Result (Unit {0}) CommandError). OnOk r P) (sym is) tt
ok_settled P temp_file old new name (Ok done) (Ok put) settled holds = holds
ok_settled P temp_file old new name (Ok done) (Err s) settled holds = tt

-- what is read is the reader's, or that of the file
pub reads_reader : (Q : List ℕ → Type 0) (store : List ℕ → Option (List ℕ))
    (read input : Option (List ℕ)) (answer : Result (Unit {0}) Fault)
    → input ≡ None
    → OnOk answer (IfSome read Q)
    → OnOk answer (IfSome (held_by store read input) Q)
reads_reader Q store read input answer none holds = subst (λ (i : Option (List ℕ)). OnOk answer (IfSome (held_by store read i) Q)) (sym none) holds

pub reads_file : (Q : List ℕ → Type 0) (store : List ℕ → Option (List ℕ))
    (read file input : Option (List ℕ)) (name : List ℕ) (answer : Result (Unit {0}) Fault)
    → input ≡ Some name
    → file ≡ store name
    → OnOk answer (IfSome file Q)
    → OnOk answer (IfSome (held_by store read input) Q)
reads_file Q store read file input name answer is held holds = subst (λ (i : Option (List ℕ)). OnOk answer (IfSome (held_by store read i) Q)) (sym is)
    (subst (λ (f : Option (List ℕ)). OnOk answer (IfSome f Q)) held holds)

-- the sink was a file
pub sunk : (old new : Option (List ℕ)) (invocation : Invocation) (read : Option (List ℕ))
    (result : Result (Unit {0}) CommandError)
    → OnOk result (IfSome read (IsSunk true (λ events. Appends old new
    (file_text place_columns event_fields events)) invocation))
    → OnOk result (IfSome read (λ b. WritesEvents invocation b old new))
sunk old new invocation read (Err s) holds = tt
sunk old new invocation None (Ok done) holds = tt
sunk old new invocation (Some bytes) (Ok done) holds = holds refl
