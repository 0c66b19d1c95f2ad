-- The lanes, the words of sleepers and the threads, and how an act changes them.
use Rattle.std.specs.Prelude.{ℕ, zero, suc, ◌+◌, ◌-◌, ◌==◌, ◌&&◌, nat_lt, if◌then◌else◌, Bool, true, false, List, [], ◌∷◌}
use Rattle.wake_pool.specs.declared.act.WakeAct.{WakeAct as Act}
use Rattle.wake_pool.specs.declared.act.WakeAct.TheVariants.{Put, Take, Call, Answer, Claim, Rest, See, Wake, Step}
use Rattle.wake_pool.specs.declared.phase.WakePhase.{WakePhase as Phase}
use Rattle.wake_pool.specs.declared.phase.WakePhase.TheVariants.{Idle, Waking, Giving, Calling, Searching, Found, Looking, Resting, Returning, Reading, Called, Checking, Parked}

-- Every number is that of a thread. The threads below `workers` may sleep.
pub record World : Type 0 where
  pub workers : ℕ
  pub lanes : ℕ
  pub words : ℕ
  -- the word that a worker's bit is in
  pub word : ℕ → ℕ
  -- how many jobs a lane has
  pub jobs : ℕ → ℕ
  -- the bits of a word: whether one of its workers searches, and whether a worker sleeps
  pub searching : ℕ → Bool
  pub asleep : ℕ → Bool
  -- whether a thread has its token, and whether there is a call in its mailbox
  pub token : ℕ → Bool
  pub mail : ℕ → Bool
  pub phase : ℕ → Phase

-- the function with another value at one place
abbrev pub set : {A : Type 0} → (ℕ → A) → ℕ → A → ℕ → A
set f u x t = if t == u then x else f t

-- lanes and mailboxes are empty, nobody sleeps, and all threads are idle
abbrev pub initial : ℕ → ℕ → ℕ → (ℕ → ℕ) → World
initial workers lanes words word = record {
  workers = workers;
  lanes = lanes;
  words = words;
  word = word;
  jobs = λ l. 0;
  searching = λ b. false;
  asleep = λ t. false;
  token = λ t. false;
  mail = λ t. false;
  phase = λ t. Idle;
}

-- no worker below this number, of word b, sleeps
abbrev pub none_asleep : ℕ → ℕ → World → Bool
none_asleep b zero w = true
none_asleep b (suc n) w =
    if w.asleep n && (w.word n == b) then false else none_asleep b n w

-- The next phase of a thread, once it has looked at each word below b. There are `words`.
abbrev pub waking : ℕ → ℕ → Phase
waking words b = if nat_lt b words then Waking b else Idle

-- that of one that was the searcher, and has looked at each lane below l
abbrev pub looking : ℕ → ℕ → Phase
looking lanes l = if nat_lt l lanes then Looking l else Idle

-- and that of one that has set its bit
abbrev pub resting : ℕ → ℕ → Phase
resting lanes l = if nat_lt l lanes then Resting l else Reading

-- the thread goes on to this phase
abbrev pub goes : ℕ → Phase → World → World
goes t q w = record w { phase = set w.phase t q }

-- one more job in the lane
abbrev pub puts : ℕ → ℕ → Phase → World → World
puts l t q w = record w { jobs = set w.jobs l (w.jobs l + 1); phase = set w.phase t q }

-- one job less
abbrev pub takes : ℕ → ℕ → Phase → World → World
takes l t q w = record w { jobs = set w.jobs l (w.jobs l - 1); phase = set w.phase t q }

-- whether a thread has a call
abbrev pub mails : ℕ → Bool → ℕ → Phase → World → World
mails x b t q w = record w { mail = set w.mail x b; phase = set w.phase t q }

-- whether a thread has its token
abbrev pub hands : ℕ → Bool → ℕ → Phase → World → World
hands x b t q w = record w { token = set w.token x b; phase = set w.phase t q }

-- whether one searches
abbrev pub seeks : ℕ → Bool → ℕ → Phase → World → World
seeks b on t q w = record w { searching = set w.searching b on; phase = set w.phase t q }

-- the bit of a sleeper, and nothing else of its word
abbrev pub marks : ℕ → Bool → ℕ → Phase → World → World
marks x on t q w = record w { asleep = set w.asleep x on; phase = set w.phase t q }

-- the bit of a sleeper, and that of the searcher becomes the opposite
abbrev pub swaps : ℕ → Bool → ℕ → Phase → World → World
swaps x on t q w = record w {
  searching = set w.searching (w.word x) (if on then false else true);
  asleep = set w.asleep x on;
  phase = set w.phase t q;
}

-- An idle or waking thread puts a job into lane l.
abbrev pub put : Phase → ℕ → ℕ → World → World
put Idle t l w = puts l t (waking w.words 0) w
put (Waking b) t l w = puts l t (waking w.words 0) w
put _ t l w = w

-- An idle thread, or the searcher, takes a job from lane l.
abbrev pub take_as : Phase → ℕ → ℕ → World → World
take_as Idle t l w = takes l t Idle w
take_as Searching t l w = takes l t Found w
take_as _ t l w = w

-- An idle thread calls thread x.
abbrev pub call : Phase → ℕ → ℕ → World → World
call Idle t x w = mails x true t (Calling x) w
call _ t x w = w

-- An idle thread, or the searcher, takes its call.
abbrev pub answer : Phase → ℕ → World → World
answer Idle t w = mails t false t Idle w
answer Searching t w = mails t false t Found w
answer _ t w = w

-- An idle worker becomes the searcher of its word, if there is none.
abbrev pub claim : Phase → ℕ → World → World
claim Idle t w = if w.searching (w.word t) then w else seeks (w.word t) true t Searching w
claim _ t w = w

-- An idle worker, or the searcher, sets its bit, by one exchange of its word.
abbrev pub rest : Phase → ℕ → World → World
rest Idle t w = marks t true t (resting w.lanes 0) w
rest Searching t w = swaps t true t (resting w.lanes 0) w
rest _ t w = w

-- A thread that looks at a lane cannot exclude that there is a job.
abbrev pub see : Phase → ℕ → World → World
see (Looking l) t w = goes t (waking w.words 0) w
see (Resting l) t w = goes t Returning w
see _ t w = w

-- A waking thread makes sleeper x the searcher of its word, by one exchange of that word.
abbrev pub wake : Phase → ℕ → ℕ → World → World
wake (Waking b) t x w =
    if w.searching b then w
    else if w.asleep x && (w.word x == b) then swaps x false t (Giving x) w
    else w
wake _ t x w = w

-- A thread looks at word b. A searcher is enough, and so is that nobody sleeps.
abbrev pub notice : ℕ → ℕ → World → World
notice b t w =
    if w.searching b then goes t Idle w
    else if none_asleep b w.workers w then goes t (waking w.words (b + 1)) w
    else w

-- The next step of a thread in any other phase.
abbrev pub step : Phase → ℕ → World → World
step Idle t w = w
step (Waking b) t w = notice b t w
step (Giving x) t w = hands x true t Idle w
step (Calling x) t w = if w.asleep x then goes t (Giving x) w else goes t Idle w
step Searching t w = w
step Found t w = seeks (w.word t) false t (looking w.lanes 0) w
step (Looking l) t w = if nat_lt 0 (w.jobs l) then w else goes t (looking w.lanes (l + 1)) w
step (Resting l) t w = if nat_lt 0 (w.jobs l) then w else goes t (resting w.lanes (l + 1)) w
step Returning t w =
    if w.asleep t && (if w.searching (w.word t) then false else true)
    then swaps t false t Searching w
    else goes t Reading w
step Reading t w = if w.mail t then goes t Called w else goes t Checking w
step Called t w = if w.asleep t then marks t false t Idle w else goes t Found w
step Checking t w = if w.asleep t then goes t Parked w else goes t Searching w
step Parked t w = if w.token t then hands t false t Reading w else w

-- The world after an act. One that the thread's phase does not allow changes nothing.
abbrev pub act_on : Act → World → World
act_on (Put t l) w = put (w.phase t) t l w
act_on (Take t l) w = if nat_lt 0 (w.jobs l) then take_as (w.phase t) t l w else w
act_on (Call t x) w = call (w.phase t) t x w
act_on (Answer t) w = answer (w.phase t) t w
act_on (Claim t) w = if nat_lt t w.workers then claim (w.phase t) t w else w
act_on (Rest t) w = if nat_lt t w.workers then rest (w.phase t) t w else w
act_on (See t) w = see (w.phase t) t w
act_on (Wake t x) w = wake (w.phase t) t x w
act_on (Step t) w = step (w.phase t) t w

-- the world after a list of acts, the newest first
abbrev pub apply_all : List Act → World → World
apply_all [] w = w
apply_all (act ∷ earlier) w = act_on act (apply_all earlier w)
