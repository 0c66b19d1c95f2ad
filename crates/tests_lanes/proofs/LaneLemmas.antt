-- Each step on a lane keeps the rule.
use Rattle.std.proofs.Common.{◌≡◌, ◌≢◌, ℕ, zero, suc, ◌+◌, ◌-◌, ◌<◌, ◌≤◌, ◌⊎◌, inl, inr, Bool, true, false, cond, eqb, ltb, List, [], ◌∷◌, ◌++◌, length, get_or, replicate, refl, sym, ◌∙◌, ap, subst, arith}
use Rattle.std.proofs.Common as common
use Rattle.std.proofs.lemmas.Bool.{cases_eq}
use Rattle.std.proofs.lemmas.List.{get_or-set_same, get_or-set_other, length-replicate}
use Rattle.std.proofs.lemmas.Nat.Bits.{bit_at-zero}
use Rattle.std.specs.Int.{bit_at}
use mathlib.Core.Logic.{dite}
use mathlib.Core.Option.{none}
use native.Mathlib.Decide.{ℕ_discrete}
use prog.Atomic.{either}
use lib.Seq.{set-get_or}
use Rattle.atomic_table.specs.Table.{Act, keeps, Valid, Allows, Splits, step, stepped, carried_after, opening}
use Rattle.atomic_table.proofs.Lists.{exchanged, set_again}
use Rattle.ghost_history.specs.Sums.{is_at}
use Rattle.ghost_history.proofs.DealLemmas.{cut-all, cut-total, first-tied}
use Rattle.ghost_history.proofs.ViewLemmas.{splits}
use Rattle.wake_pool.specs.declared.layout.TheConstants.{WORD_WORKERS}
use Rattle.wake_pool.specs.declared.phase.WakePhase.{WakePhase as Phase}
use Rattle.wake_pool.specs.declared.phase.WakePhase.TheVariants.{Idle, Searching, Found, Looking, Resting, Returning}
use Rattle.wake_pool.specs.Schedule as machine
use Rattle.wake_pool.specs.Schedule.{waking, looking, resting}
use Rattle.wake_pool.specs.Inner.Invariant.{IsSound}
use Rattle.wake_pool.specs.Words.{word_count, word_of, bit_of, token_at, mail_at, world_of}
use Rattle.wake_pool.proofs.SetLemmas.{set_here, set_else, set_same}
use Rattle.wake_pool.proofs.ServedLemmas.{put_sound, take_sound, find_sound, see_sound, see_again_sound, look_sound, look_last_sound, initial_sound}
use Rattle.wake_pool.proofs.WorldLemmas.{in_words, same_world}
use Rattle.wake_pool.proofs.WordLemmas.{lane_kept}
use Rattle.wake_calls.specs.declared.rule.ThreadRecord.{ThreadRecord}
use Rattle.wake_calls.specs.Thread.{moved, thread}
use Rattle.wake_calls.specs.Inner.Steps.{first_in}
use Rattle.tests_lanes.specs.declared.board.BoardSizes.{BoardSizes as Sizes}
use Rattle.tests_lanes.specs.declared.rule.BoardView.{BoardView as View}
use Rattle.tests_lanes.specs.Board.{thread_count, lane_at, all_words, record_of}
use Rattle.tests_lanes.specs.Inner.Rule.{St, threads_in, number_of, jobs_in, Keeps, first_view, without_thread, thread_alone}
use Rattle.tests_lanes.specs.Inner.Steps.{Sat, Telling, goes, goes_to, puts_at, takes_at, finds_at, looks_at, looks_again_at, lane_in}
use Rattle.tests_lanes.specs.Inner.Law.{own_record, moves_to, board_law}

-- the seat goes on as its own record says
goes_is : (sizes : Sizes) (m : Sat) (t : ℕ) (p : Phase) (f : ThreadRecord → Phase)
    → threads_in m.0 ≡ thread t sizes.workers sizes.lanes p
    → moved goes (f (record_of sizes t p)) m ≡ goes_to f m
goes_is sizes m t p f is = ap (λ (rs : List ThreadRecord). (goes (f (first_in rs)) m.0, m.1)) (sym is)

module _ (sizes : Sizes) where
  world : (s : St) → Keeps sizes s → machine.World
  world s h = world_of sizes.workers sizes.lanes s.words (jobs_in sizes s.words) h.phases

  -- the jobs once the count of a lane is y
  jobs_after : (ws : List ℕ) (l y : ℕ) → l < sizes.lanes → length ws ≡ all_words sizes
      → (j : ℕ) → machine.set (jobs_in sizes ws) l y j ≡ jobs_in sizes (common.set ws (lane_at sizes l) y) j
  jobs_after ws l y here long j = elim (cases_eq j l) [
    | inl at ↦ subst (λ i. machine.set (jobs_in sizes ws) l y i ≡ jobs_in sizes (common.set ws (lane_at sizes l) y) i) (sym at)
        (set_here (jobs_in sizes ws) l y ∙ sym (get_or-set_same ws (lane_at sizes l) y 0 (omega (arith, long, here))))
    | inr other ↦ set_else (jobs_in sizes ws) l y j other
        ∙ sym (get_or-set_other ws (lane_at sizes l) (lane_at sizes j) y 0 (λ e. other (omega (arith, e))))
  ]

  -- The outcome of a step that found this count in a lane and left y. Nothing has changed, or the
  -- seat's thread is in another phase.
  abbrev Outcome : (s : St) → Keeps sizes s → ℕ → ℕ → ℕ → (Sat → Type 0) → Sat → Type 0
  Outcome s h t l y then m =
      ((y ≡ jobs_in sizes s.words l) × then m)
      ⊎ ((q : Phase) × IsSound (world_of sizes.workers sizes.lanes s.words (machine.set (jobs_in sizes s.words) l y) (machine.set h.phases t q)) × then (moved goes q m))

  lane_to : (n id : ℕ) (m : Sat) (t : ℕ) (p : Phase) (l : ℕ) (g : ℕ → ℕ) (then : ℕ → Sat → Type 0)
      → threads_in m.0 ≡ thread t sizes.workers sizes.lanes p
      → l < sizes.lanes
      → ((s : St) (h : Keeps sizes s) → h.phases t ≡ p → Outcome s h t l (g (jobs_in sizes s.words l)) (then (jobs_in sizes s.words l)) m)
      → Allows (Keeps sizes) n id m (lane_at sizes l) g then
  lane_to n id m t p l g then is here decide s h homes me small = turn (decide s h phase)
    where
      at : ℕ
      at = lane_at sizes l

      r : ThreadRecord
      r = record_of sizes t p

      phase : h.phases t ≡ p
      phase = sym (ap (λ (x : ThreadRecord). x.phase) (own_record sizes s h id m.0 r me is).0)

      turn : Outcome s h t l (g (jobs_in sizes s.words l)) (then (jobs_in sizes s.words l)) m
          → (v : View) × (a : Act (Unit {0})) × Valid s.homes m.1 a × Keeps sizes (stepped s (lane_at sizes l) (g (jobs_in sizes s.words l)) id m.1 v a) × then (jobs_in sizes s.words l) (v, carried_after m.1 a)
      turn (inl (same, told)) = (
        m.0,
        keeps,
        tt,
        let P : List ℕ → List View → Type 0 = λ ws vs. Keeps sizes (record { words = ws; homes = s.homes; views = vs }) in
            subst (λ (y : ℕ). P (common.set s.words (lane_at sizes l) y) (common.set s.views id m.0)) (sym same)
            (subst (λ (ws : List ℕ). P ws (common.set s.views id m.0)) (sym (set-get_or s.words (lane_at sizes l) 0)) (subst (P s.words) (sym (set_again s.views id m.0 me)) h)),
        told,
      )
      turn (inr (q, sound, told)) = (
        goes q m.0,
        keeps,
        tt,
        moves_to sizes s h id m.0 r q (lane_at sizes l) (g (jobs_in sizes s.words l)) me is
            (subst (λ (jobs : ℕ → ℕ). IsSound (world_of sizes.workers sizes.lanes (common.set s.words (lane_at sizes l) (g (jobs_in sizes s.words l))) jobs (machine.set h.phases t q)))
            (λ i j. jobs_after s.words l (g (jobs_in sizes s.words l)) here h.long j i)
            (lane_kept sizes.workers sizes.lanes s.words (machine.set (jobs_in sizes s.words) l (g (jobs_in sizes s.words l))) (machine.set h.phases t q) sound (omega (arith, h.long)) (lane_at sizes l) (g (jobs_in sizes s.words l)) (omega arith))),
        told,
      )

  -- the count is only read
  as_read : (s : St) (h : Keeps sizes s) (l : ℕ) (P : ℕ → Phase)
      → IsSound (world_of sizes.workers sizes.lanes s.words (jobs_in sizes s.words) P)
      → IsSound (world_of sizes.workers sizes.lanes s.words (machine.set (jobs_in sizes s.words) l (jobs_in sizes s.words l)) P)
  as_read s h l P sound = subst (λ (jobs : ℕ → ℕ). IsSound (world_of sizes.workers sizes.lanes s.words jobs P))
      (λ i j. sym (set_same (jobs_in sizes s.words) l (jobs_in sizes s.words l) refl j) i) sound

  -- the count is exchanged, if it is what it was seen to be
  exchange_to : (n id : ℕ) (m : Sat) (t : ℕ) (p : Phase) (l seen new : ℕ) (then : ℕ → Sat → Type 0)
      → threads_in m.0 ≡ thread t sizes.workers sizes.lanes p
      → l < sizes.lanes
      → ((s : St) (h : Keeps sizes s) → h.phases t ≡ p → jobs_in sizes s.words l ≡ seen → Outcome s h t l new (then (jobs_in sizes s.words l)) m)
      → ((s : St) → jobs_in sizes s.words l ≢ seen → then (jobs_in sizes s.words l) m)
      → Allows (Keeps sizes) n id m (lane_at sizes l) (λ x. either (eqb x seen) new x) then
  exchange_to n id m t p l seen new then is here hit miss = lane_to n id m t p l (λ x. either (eqb x seen) new x) then is here
      (λ s h phase. exchanged (jobs_in sizes s.words l) seen new (λ y. Outcome s h t l y (then (jobs_in sizes s.words l)) m)
      (λ same. hit s h phase same)
      (λ other. inl (refl, miss s other)))

module _ (key sizes : Sizes) (same_key : key ≡ sizes) (n id : ℕ) (m : Sat) (t l i : ℕ) (at : i ≡ lane_at sizes l) (here : l < sizes.lanes) where
  -- the table's key and the word, by other names
  told : (tell : Telling) (g : ℕ → ℕ) (a b : ℕ)
      → Allows (Keeps sizes) n id m (lane_at sizes l) g (tell (step n (lane_at sizes l) a b none) m)
      → Allows (Keeps key) n id m i g (tell (step n i a b none) m)
  told tell g a b allowed =
      subst (λ (k : Sizes). Allows (Keeps k) n id m i g (tell (step n i a b none) m)) (sym same_key)
      (subst (λ (j : ℕ). Allows (Keeps sizes) n id m j g (tell (step n j a b none) m)) (sym at) allowed)

  pub put_step : (c : ℕ) → threads_in m.0 ≡ thread t sizes.workers sizes.lanes Idle
      → Allows (Keeps key) n id m i (λ x. either (eqb x c) (c + 1) x) (puts_at (step n i c (c + 1) none) m)
  put_step c is = told puts_at (λ x. either (eqb x c) (c + 1) x) c (c + 1)
      (exchange_to sizes n id m t Idle l c (c + 1) (puts_at (step n (lane_at sizes l) c (c + 1) none) m) is here
      (λ s h phase same. inr (
        waking (word_count sizes.workers) 0,
        subst (λ (f : ℕ). IsSound (world_of sizes.workers sizes.lanes s.words (machine.set (jobs_in sizes s.words) l (f + 1)) (machine.set h.phases t (waking (word_count sizes.workers) 0)))) same
            (put_sound (world_of sizes.workers sizes.lanes s.words (jobs_in sizes s.words) h.phases) h.sound t l phase),
        (λ _. goes_is sizes m t Idle (λ r. waking (word_count r.workers) 0) is, λ other. absurd (other same)),
      ))
      (λ s other. (λ same. absurd (other same), λ _. refl)))

  pub take_step : (c : ℕ) → 0 < c → threads_in m.0 ≡ thread t sizes.workers sizes.lanes Idle
      → Allows (Keeps key) n id m i (λ x. either (eqb x c) (c - 1) x) (takes_at (step n i c (c - 1) none) m)
  take_step c some_job is = told takes_at (λ x. either (eqb x c) (c - 1) x) c (c - 1)
      (exchange_to sizes n id m t Idle l c (c - 1) (takes_at (step n (lane_at sizes l) c (c - 1) none) m) is here
      (λ s h phase same. inr (
        Idle,
        subst (λ (f : ℕ). IsSound (world_of sizes.workers sizes.lanes s.words (machine.set (jobs_in sizes s.words) l (f - 1)) (machine.set h.phases t Idle))) same
            (take_sound (world_of sizes.workers sizes.lanes s.words (jobs_in sizes s.words) h.phases) h.sound t l phase),
        stays,
      ))
      (λ s other. refl))
    where
      stays : moved goes Idle m ≡ m
      stays = ap (λ (v : View). (v, m.1)) (board_law.same m.0 (record_of sizes t Idle) is)

  pub find_step : (c : ℕ) → 0 < c → threads_in m.0 ≡ thread t sizes.workers sizes.lanes Searching
      → Allows (Keeps key) n id m i (λ x. either (eqb x c) (c - 1) x) (finds_at (step n i c (c - 1) none) m)
  find_step c some_job is = told finds_at (λ x. either (eqb x c) (c - 1) x) c (c - 1)
      (exchange_to sizes n id m t Searching l c (c - 1) (finds_at (step n (lane_at sizes l) c (c - 1) none) m) is here
      (λ s h phase same. inr (
        Found,
        subst (λ (f : ℕ). IsSound (world_of sizes.workers sizes.lanes s.words (machine.set (jobs_in sizes s.words) l (f - 1)) (machine.set h.phases t Found))) same
            (find_sound (world_of sizes.workers sizes.lanes s.words (jobs_in sizes s.words) h.phases) h.sound t l phase),
        (λ _. refl, λ other. absurd (other same)),
      ))
      (λ s other. (λ same. absurd (other same), λ _. refl)))

  pub look_step : threads_in m.0 ≡ thread t sizes.workers sizes.lanes (Resting l)
      → Allows (Keeps key) n id m i (λ x. x) (looks_at (step n i 0 0 none) m)
  look_step is = told looks_at (λ x. x) 0 0
      (lane_to sizes n id m t (Resting l) l (λ x. x) (looks_at (step n (lane_at sizes l) 0 0 none) m) is here
      (λ s h phase. dite (ℕ_discrete (jobs_in sizes s.words l) 0)
      (λ none. inr (
        resting sizes.lanes (l + 1),
        as_read sizes s h l (machine.set h.phases t (resting sizes.lanes (l + 1))) (look_last_sound (world_of sizes.workers sizes.lanes s.words (jobs_in sizes s.words) h.phases) h.sound t l phase none),
        (λ _. goes_is sizes m t (Resting l) (λ r. resting r.lanes (lane_in r.phase + 1)) is, λ some_job. absurd (some_job none)),
      ))
      (λ some_job. inr (
        Returning,
        as_read sizes s h l (machine.set h.phases t Returning) (see_sound (world_of sizes.workers sizes.lanes s.words (jobs_in sizes s.words) h.phases) h.sound t l phase),
        (λ none. absurd (some_job none), λ _. refl),
      ))))

  pub look_again_step : threads_in m.0 ≡ thread t sizes.workers sizes.lanes (Looking l)
      → Allows (Keeps key) n id m i (λ x. x) (looks_again_at (step n i 0 0 none) m)
  look_again_step is = told looks_again_at (λ x. x) 0 0
      (lane_to sizes n id m t (Looking l) l (λ x. x) (looks_again_at (step n (lane_at sizes l) 0 0 none) m) is here
      (λ s h phase. dite (ℕ_discrete (jobs_in sizes s.words l) 0)
      (λ none. inr (
        looking sizes.lanes (l + 1),
        as_read sizes s h l (machine.set h.phases t (looking sizes.lanes (l + 1))) (look_sound (world_of sizes.workers sizes.lanes s.words (jobs_in sizes s.words) h.phases) h.sound t l phase none),
        (λ _. goes_is sizes m t (Looking l) (λ r. looking r.lanes (lane_in r.phase + 1)) is, λ some_job. absurd (some_job none)),
      ))
      (λ some_job. inr (
        waking (word_count sizes.workers) 0,
        as_read sizes s h l (machine.set h.phases t (waking (word_count sizes.workers) 0)) (see_again_sound (world_of sizes.workers sizes.lanes s.words (jobs_in sizes s.words) h.phases) h.sound t l phase),
        (λ none. absurd (some_job none), λ _. goes_is sizes m t (Looking l) (λ r. waking (word_count r.workers) 0) is),
      ))))

-- ---- the board at the start

zero_word : (n j : ℕ) → ◌≡◌ {A = ℕ} (get_or (replicate n 0) j 0) 0
zero_word zero j = refl
zero_word (suc n) zero = refl
zero_word (suc n) (suc j) = zero_word n j

none_set : (b : Bool) → cond b false false ≡ false
none_set true = refl
none_set false = refl

first_world : (sizes : Sizes) (ws : List ℕ) → ws ≡ replicate (all_words sizes) 0
    → world_of sizes.workers sizes.lanes ws (jobs_in sizes ws) (λ t. Idle) ≡ machine.initial sizes.workers sizes.lanes (word_count sizes.workers) word_of
first_world sizes ws is = same_world _ _ refl refl refl (λ _. refl)
    (λ l. word (lane_at sizes l))
    (λ c. ap (λ n. cond (ltb c (word_count sizes.workers)) (eqb n 1) false) (ap (λ n. bit_at n WORD_WORKERS) (word c) ∙ bit_at-zero WORD_WORKERS) ∙ none_set (ltb c (word_count sizes.workers)))
    (λ t. ap (λ n. cond (ltb (word_of t) (word_count sizes.workers)) (eqb n 1) false) (ap (λ n. bit_at n (bit_of t)) (word (word_of t)) ∙ bit_at-zero (bit_of t)) ∙ none_set (ltb (word_of t) (word_count sizes.workers)))
    (λ t. ap (λ n. cond (ltb t sizes.workers) (eqb n 1) false) (word (token_at sizes.workers t)) ∙ none_set (ltb t sizes.workers))
    (λ t. ap (λ n. cond (ltb t sizes.workers) (eqb n 1) false) (word (mail_at sizes.workers t)) ∙ none_set (ltb t sizes.workers))
    (λ _. refl)
  where
    word : (j : ℕ) → get_or ws j 0 ≡ 0
    word j = ap (λ (zs : List ℕ). get_or zs j 0) is ∙ zero_word (all_words sizes) j

pub opens : (sizes : Sizes) (ws : List ℕ) → ws ≡ replicate (all_words sizes) 0 → Keeps sizes (opening ws [] (first_view sizes))
opens sizes ws is = record {
  phases = λ t. Idle;
  long = ap length is ∙ length-replicate (all_words sizes) 0;
  tied = first-tied threads_in number_of (λ n. record_of sizes n Idle) (λ k. refl) (thread_count sizes) (first_view sizes) refl;
  sound = subst IsSound (sym (first_world sizes ws is)) (initial_sound sizes.workers sizes.lanes (word_count sizes.workers) word_of (in_words sizes.workers));
}

-- a seat deals out the record of its first thread
pub deals : (key : Sizes) (id : ℕ) (v : View) → Splits (Keeps key) id v (without_thread v) (thread_alone v)
deals key id v s h me = record {
  phases = h.phases;
  long = h.long;
  tied = splits threads_in number_of s.views h.tied id v me (without_thread v) (thread_alone v) (cut-all _ v.threads) (λ k. cut-total (λ r. is_at k (number_of r)) v.threads);
  sound = h.sound;
}
