-- The acts of a world by its calls.
use Rattle.std.proofs.Common.{◌≡◌, ◌≢◌, ℕ, zero, suc, ◌+◌, ◌-◌, ◌^◌, ◌<◌, ◌==◌, true, false, List, [], ◌∷◌, ◌++◌, length, replicate, nat_lt, Option, Some, None, cond, refl, sym, ap, subst, ◌∙◌, append-nil, add-zero, ◌≤◌, arith}
use Rattle.std.specs.List.{flat_map, range_with_len}
use Rattle.std.proofs.lemmas.Bool.Decides.{nat_tests}
use Rattle.std.proofs.lemmas.Grind.{flat_map-append}
use Rattle.std.proofs.lemmas.List.{replicate_more}
use Rattle.cube_core.specs.declared.act.Act.{Act}
use Rattle.cube_core.specs.declared.act.Act.TheVariants as act
use Rattle.cube_core.specs.declared.act.Refused.{Refused}
use Rattle.cube_core.specs.declared.act.Refused.TheVariants.{NoStation}
use Rattle.cube_core.specs.declared.phase.Phase.{Phase}
use Rattle.cube_core.specs.declared.phase.Phase.TheVariants.{Idle, Looking, Looked, Climbing, Swept, Holding, Leaving, Backing, Arriving, Unmarked, Marked, Retired}
use Rattle.cube_core.specs.Phase.{IsAtRest}
use Rattle.cube_core.specs.Schedule.{State, apply, phase_of, refusal, step_refusal, word_of}
use Rattle.cube_core.specs.World.{HasShapeOf, without_trails}
use Rattle.jobs_csv.specs.declared.replay_rows.ReplayRow.{ReplayRow}
use Rattle.jobs_csv.specs.declared.replay_rows.ReplayRow.TheVariants as row
use Rattle.cli_commands.specs.Trace.{IsTrace}
use Rattle.jobs_csv.specs.declared.schedule.Line.TheVariants as line
use Rattle.cli_commands.specs.Replay.{ActStep, ActStepUnless, AreRows, IsPlayed, RestsAfter, RunSteps, final_rows, refused_row, word_row, words_left}
use Rattle.cli_commands.proofs.TraceLemmas.{one_more}

-- a refused act has its row, and changes nothing
pub is_refused : (a : Act) (old new : State) (why : Refused)
    → refusal a old ≡ Some why
    → new ≡ old
    → ActStep a old new (refused_row a why ∷ [])
is_refused a old new why is same = subst (λ r. ActStepUnless r a old new (refused_row a why ∷ [])) (sym is) (same, refl)

pub is_accepted : (a : Act) (old new : State) (rows : List ReplayRow)
    → refusal a old ≡ None
    → new ≡ without_trails (apply a old)
    → AreRows a old rows
    → ActStep a old new rows
is_accepted a old new rows is made told = subst (λ r. ActStepUnless r a old new rows) (sym is) (made, told)

not_refused : (why : Refused) → ◌≡◌ {A = Option Refused} None (Some why) → ⊥
not_refused why e = cc

-- a phase in which a step is refused is one of rest
resting : (phase : Phase) (why : Refused) → step_refusal phase ≡ Some why → IsAtRest phase
resting Idle why e = tt
resting (Looking h) why e = absurd (not_refused why e)
resting (Looked h w) why e = absurd (not_refused why e)
resting (Climbing h a) why e = absurd (not_refused why e)
resting (Swept h a) why e = absurd (not_refused why e)
resting (Holding h) why e = tt
resting (Leaving h) why e = absurd (not_refused why e)
resting (Backing h a) why e = absurd (not_refused why e)
resting (Arriving a) why e = absurd (not_refused why e)
resting (Unmarked a) why e = absurd (not_refused why e)
resting (Marked a w left right) why e = absurd (not_refused why e)
resting Retired why e = tt

-- so a station of the world is at rest if its step is refused
pub is_at_rest : (s : ℕ) (w : State) (why : Refused)
    → s < length w.records
    → refusal (act.Step s) w ≡ Some why
    → IsAtRest (phase_of w s)
is_at_rest s w why there e =
    let found : nat_lt s (length w.records) ≡ true = grind (arith, nat_tests) in
    resting (phase_of w s) why (sym (ap (λ b. cond b (step_refusal (phase_of w s)) (Some NoStation)) found) ∙ e)

-- one more act of the same kind
pub once_more : (A : Act → State → State → List ReplayRow → Type 0) (a : Act) (times : ℕ)
    (first now last : State) (rows told : List ReplayRow)
    → IsTrace A (replicate times a) first now rows
    → A a now last told
    → IsTrace A (replicate (times + 1) a) first last (rows ++ told)
once_more A a times first now last rows told before behind =
    subst (λ acts. IsTrace A acts first last (rows ++ told)) (replicate_more times a) (one_more A (replicate times a) a first now last rows told before behind)

-- a run of a station of the world, and a run of any other
pub run_there : (s : ℕ) (old new : State) (rows : List ReplayRow)
    → s < length old.records
    → RestsAfter s old new rows
    → IsPlayed (line.Run s) old new rows
run_there s old new rows there rests =
    let found : nat_lt s (length old.records) ≡ true = grind (arith, nat_tests) in
    subst (λ there. RunSteps there s old new rows) (sym found) rests

pub run_nowhere : (s : ℕ) (old new : State) (rows : List ReplayRow)
    → length old.records ≤ s
    → ActStep (act.Step s) old new rows
    → IsPlayed (line.Run s) old new rows
run_nowhere s old new rows nowhere acts =
    let found : nat_lt s (length old.records) ≡ false = grind (arith, nat_tests) in
    subst (λ there. RunSteps there s old new rows) (sym found) acts

range_push : (from n : ℕ) → range_with_len from (suc n) ≡ range_with_len from n ++ (from + n) ∷ []
range_push from zero = rw add-zero refl
range_push from (suc n) =
    let last : from + 1 + n ≡ from + suc n = omega arith in
    ap (λ (rest : List ℕ). from ∷ rest) (range_push (from + 1) n ∙ ap (λ (k : ℕ). range_with_len (from + 1) n ++ k ∷ []) last)

-- the rows of the words up to this node
abbrev pub rows_before : State → ℕ → List ReplayRow
rows_before w node = flat_map (word_row w) (range_with_len 1 (node - 1))

-- one node more
pub next_word : (w : State) (node : ℕ)
    → 1 ≤ node
    → rows_before w (node + 1) ≡ rows_before w node ++ word_row w node
next_word w zero lt = absurd (omega (arith, lt))
next_word w (suc before) lt =
    let count : suc before + 1 - 1 ≡ suc before = omega arith in
    let same : suc before - 1 ≡ before = omega arith in
    let here : 1 + before ≡ suc before = omega arith in
    ap (λ k. flat_map (word_row w) (range_with_len 1 k)) count
    ∙ ap (flat_map (word_row w)) (range_push 1 before)
    ∙ flat_map-append (word_row w) (range_with_len 1 before) ((1 + before) ∷ [])
    ∙ ap (λ rows. flat_map (word_row w) (range_with_len 1 before) ++ rows) (append-nil (word_row w (1 + before)))
    ∙ ap (λ k. flat_map (word_row w) (range_with_len 1 before) ++ word_row w k) here
    ∙ ap (λ k. flat_map (word_row w) (range_with_len 1 k) ++ word_row w (suc before)) (sym same)

-- a node whose word is not 0 has a row, and another one has none
pub word_added : (w : State) (node word : ℕ) (rows next : List ReplayRow)
    → 1 ≤ node
    → word ≡ word_of w node
    → word ≢ 0
    → rows ≡ rows_before w node
    → next ≡ rows ++ row.Word node word ∷ []
    → next ≡ rows_before w (node + 1)
word_added w node word rows next from is other same pushed =
    let found : (word_of w node == 0) ≡ false = rw (← is) (grind (arith, nat_tests)) in
    let here : word_row w node ≡ row.Word node word ∷ [] = rw found (ap (λ (v : ℕ). row.Word node v ∷ []) (sym is)) in
    pushed ∙ ap (λ r. r ++ row.Word node word ∷ []) same ∙ ap (λ r. rows_before w node ++ r) (sym here) ∙ sym (next_word w node from)

pub word_skipped : (w : State) (node word : ℕ) (rows next : List ReplayRow)
    → 1 ≤ node
    → word ≡ word_of w node
    → word ≡ 0
    → rows ≡ rows_before w node
    → next ≡ rows
    → next ≡ rows_before w (node + 1)
word_skipped w node word rows next from is none same kept =
    let here : word_row w node ≡ [] = rw (← is, none) refl in
    kept ∙ same ∙ sym (append-nil (rows_before w node)) ∙ ap (λ r. rows_before w node ++ r) (sym here) ∙ sym (next_word w node from)

-- the rows of all words, and then their number
pub all_ended : (w : State) (n node past : ℕ) (rows next : List ReplayRow)
    → w.dim ≡ n
    → past ≡ 2 ^ (n + 1)
    → node ≡ past
    → rows ≡ rows_before w node
    → next ≡ rows ++ row.End (length rows) ∷ []
    → next ≡ final_rows w
all_ended w n node past rows next dim is last same pushed =
    let stop : node ≡ 2 ^ (w.dim + 1) = last ∙ is ∙ ap (λ d. 2 ^ (d + 1)) (sym dim) in
    let all : rows ≡ words_left w = same ∙ ap (rows_before w) stop in
    pushed ∙ ap (λ r. r ++ row.End (length r) ∷ []) all

-- a shape that was kept twice
pub kept_twice : (first now last : State)
    → HasShapeOf first now
    → HasShapeOf now last
    → HasShapeOf first last
kept_twice first now last a b = record { dim = b.dim ∙ a.dim; stations = b.stations ∙ a.stations }
