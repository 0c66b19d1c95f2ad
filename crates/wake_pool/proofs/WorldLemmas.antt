-- The world of the words of a table, when one word changes.
use Rattle.std.proofs.Common.{◌≡◌, ◌≢◌, ℕ, ◌+◌, ◌*◌, ◌/◌, ◌%◌, ◌<◌, ◌≤◌, Bool, true, false, cond, eqb, ltb, List, length, get_or, refl, sym, ◌∙◌, ap, subst, inl, inr, ◌⊎◌, arith}
use Rattle.std.proofs.Common as common
use Rattle.std.proofs.lemmas.Bool.{cases_eq, ltb-true, lt-ltb}
use Rattle.std.proofs.lemmas.List.{get_or-set_same, get_or-set_other}
use Rattle.std.specs.Int.{bit_at}
use Rattle.wake_pool.specs.declared.layout.TheConstants.{WORD_WORKERS}
use Rattle.wake_pool.specs.declared.phase.WakePhase.{WakePhase as Phase}
use Rattle.wake_pool.specs.Schedule.{World, set}
use Rattle.wake_pool.specs.Words.{word_count, word_of, bit_of, token_at, mail_at, base, world_of}
use Rattle.wake_pool.proofs.SetLemmas.{set_here, set_else}
use Rattle.wake_pool.proofs.BitLemmas.{Turns}

-- two worlds with the same fields
pub same_world : (a b : World)
    → a.workers ≡ b.workers
    → a.lanes ≡ b.lanes
    → a.words ≡ b.words
    → ((t : ℕ) → a.word t ≡ b.word t)
    → ((l : ℕ) → a.jobs l ≡ b.jobs l)
    → ((c : ℕ) → a.searching c ≡ b.searching c)
    → ((t : ℕ) → a.asleep t ≡ b.asleep t)
    → ((t : ℕ) → a.token t ≡ b.token t)
    → ((t : ℕ) → a.mail t ≡ b.mail t)
    → ((t : ℕ) → a.phase t ≡ b.phase t)
    → a ≡ b
same_world a b workers lanes words word jobs searching asleep token mail phase = λ i. record {
  workers = workers i;
  lanes = lanes i;
  words = words i;
  word = λ t. word t i;
  jobs = λ l. jobs l i;
  searching = λ c. searching c i;
  asleep = λ t. asleep t i;
  token = λ t. token t i;
  mail = λ t. mail t i;
  phase = λ t. phase t i;
}

pub in_words : (workers t : ℕ) → t < workers → word_of t < word_count workers
in_words workers t there = omega (arith, there)

pub bit_low : (t : ℕ) → bit_of t < WORD_WORKERS
bit_low t = omega arith

-- two workers with the same word and the same bit are one
pub same_bit : (t x : ℕ) → word_of t ≡ word_of x → bit_of t ≡ bit_of x → t ≡ x
same_bit t x word bit = omega (arith, word, bit)

-- what a place below a bound says, where another place changes
below_else : (n t : ℕ) (f : ℕ → Bool) (ws : List ℕ) (i y at : ℕ)
    → (t < n → at ≢ i)
    → cond (ltb t n) (f (get_or (common.set ws i y) at 0)) false ≡ cond (ltb t n) (f (get_or ws at 0)) false
below_else n t f ws i y at apart = turn (ltb t n) refl
  where
    turn : (b : Bool) → ltb t n ≡ b
        → cond b (f (get_or (common.set ws i y) at 0)) false ≡ cond b (f (get_or ws at 0)) false
    turn true e = ap f (get_or-set_other ws i at y 0 (apart (ltb-true t n e)))
    turn false e = refl

-- and where it changes itself
below_here : (n t : ℕ) (f : ℕ → Bool) (ws : List ℕ) (i y at : ℕ)
    → t < n → at ≡ i → i < length ws
    → cond (ltb t n) (f (get_or (common.set ws i y) at 0)) false ≡ f y
below_here n t f ws i y at there same inside =
    ap (λ b. cond b (f (get_or (common.set ws i y) at 0)) false) (lt-ltb t n there)
    ∙ ap f (ap (λ j. get_or (common.set ws i y) j 0) same ∙ get_or-set_same ws i y 0 inside)

pub says : (n t : ℕ) (b : Bool) → t < n → cond (ltb t n) b false ≡ b
says n t b there = ap (λ c. cond c b false) (lt-ltb t n there)

module _ (workers lanes : ℕ) (ws : List ℕ) (jobs : ℕ → ℕ) (P Q : ℕ → Phase) where
  -- a word of the lanes changes
  pub above_world : (i y : ℕ) → base workers ≤ i
      → world_of workers lanes (common.set ws i y) jobs Q ≡ record (world_of workers lanes ws jobs P) { phase = Q }
  above_world i y above = same_world _ _ refl refl refl (λ _. refl) (λ _. refl)
      (λ c. below_else (word_count workers) c (λ n. eqb (bit_at n WORD_WORKERS) 1) ws i y c (λ below e. omega (arith, below, e, above)))
      (λ t. below_else (word_count workers) (word_of t) (λ n. eqb (bit_at n (bit_of t)) 1) ws i y (word_of t) (λ below e. omega (arith, below, e, above)))
      (λ t. below_else workers t (λ n. eqb n 1) ws i y (token_at workers t) (λ below e. omega (arith, below, e, above)))
      (λ t. below_else workers t (λ n. eqb n 1) ws i y (mail_at workers t) (λ below e. omega (arith, below, e, above)))
      (λ _. refl)

  -- a token is written
  pub token_world : (x y : ℕ) → x < workers → base workers ≤ length ws
      → world_of workers lanes (common.set ws (token_at workers x) y) jobs Q
      ≡ record (world_of workers lanes ws jobs P) { token = set (world_of workers lanes ws jobs P).token x (eqb y 1); phase = Q }
  token_world x y there long = same_world _ _ refl refl refl (λ _. refl) (λ _. refl)
      (λ c. below_else (word_count workers) c (λ n. eqb (bit_at n WORD_WORKERS) 1) ws (token_at workers x) y c (λ below e. omega (arith, below, e)))
      (λ t. below_else (word_count workers) (word_of t) (λ n. eqb (bit_at n (bit_of t)) 1) ws (token_at workers x) y (word_of t) (λ below e. omega (arith, below, e)))
      token
      (λ t. below_else workers t (λ n. eqb n 1) ws (token_at workers x) y (mail_at workers t) (λ below e. omega (arith, below, e)))
      (λ _. refl)
    where
      token : (t : ℕ) → (world_of workers lanes (common.set ws (token_at workers x) y) jobs Q).token t ≡ set (world_of workers lanes ws jobs P).token x (eqb y 1) t
      token t = elim (cases_eq t x) [
        | inl at ↦ subst (λ u. (world_of workers lanes (common.set ws (token_at workers x) y) jobs Q).token u ≡ set (world_of workers lanes ws jobs P).token x (eqb y 1) u) (sym at)
            (below_here workers x (λ n. eqb n 1) ws (token_at workers x) y (token_at workers x) there refl (omega (arith, there, long)) ∙ sym (set_here (world_of workers lanes ws jobs P).token x (eqb y 1)))
        | inr other ↦ below_else workers t (λ n. eqb n 1) ws (token_at workers x) y (token_at workers t) (λ below e. other (omega (arith, e)))
            ∙ sym (set_else (world_of workers lanes ws jobs P).token x (eqb y 1) t other)
      ]

  -- a mailbox is written
  pub mail_world : (x y : ℕ) → x < workers → base workers ≤ length ws
      → world_of workers lanes (common.set ws (mail_at workers x) y) jobs Q
      ≡ record (world_of workers lanes ws jobs P) { mail = set (world_of workers lanes ws jobs P).mail x (eqb y 1); phase = Q }
  mail_world x y there long = same_world _ _ refl refl refl (λ _. refl) (λ _. refl)
      (λ c. below_else (word_count workers) c (λ n. eqb (bit_at n WORD_WORKERS) 1) ws (mail_at workers x) y c (λ below e. omega (arith, below, e)))
      (λ t. below_else (word_count workers) (word_of t) (λ n. eqb (bit_at n (bit_of t)) 1) ws (mail_at workers x) y (word_of t) (λ below e. omega (arith, below, e)))
      (λ t. below_else workers t (λ n. eqb n 1) ws (mail_at workers x) y (token_at workers t) (λ below e. omega (arith, below, e)))
      mail
      (λ _. refl)
    where
      mail : (t : ℕ) → (world_of workers lanes (common.set ws (mail_at workers x) y) jobs Q).mail t ≡ set (world_of workers lanes ws jobs P).mail x (eqb y 1) t
      mail t = elim (cases_eq t x) [
        | inl at ↦ subst (λ u. (world_of workers lanes (common.set ws (mail_at workers x) y) jobs Q).mail u ≡ set (world_of workers lanes ws jobs P).mail x (eqb y 1) u) (sym at)
            (below_here workers x (λ n. eqb n 1) ws (mail_at workers x) y (mail_at workers x) there refl (omega (arith, there, long)) ∙ sym (set_here (world_of workers lanes ws jobs P).mail x (eqb y 1)))
        | inr other ↦ below_else workers t (λ n. eqb n 1) ws (mail_at workers x) y (mail_at workers t) (λ below e. other (omega (arith, e)))
            ∙ sym (set_else (world_of workers lanes ws jobs P).mail x (eqb y 1) t other)
      ]

  -- a word of sleepers changes: the bit of worker x, and the searcher's
  pub word_world : (x y on search : ℕ) → x < workers → base workers ≤ length ws
      → Turns (get_or ws (word_of x) 0) y (bit_of x) on search
      → world_of workers lanes (common.set ws (word_of x) y) jobs Q
      ≡ record (world_of workers lanes ws jobs P) {
        searching = set (world_of workers lanes ws jobs P).searching (word_of x) (eqb search 1);
        asleep = set (world_of workers lanes ws jobs P).asleep x (eqb on 1);
        phase = Q;
      }
  word_world x y on search there long turns = same_world _ _ refl refl refl (λ _. refl) (λ _. refl)
      searching
      asleep
      (λ t. below_else workers t (λ n. eqb n 1) ws (word_of x) y (token_at workers t) (λ _ e. omega (arith, inside, e)))
      (λ t. below_else workers t (λ n. eqb n 1) ws (word_of x) y (mail_at workers t) (λ _ e. omega (arith, inside, e)))
      (λ _. refl)
    where
      inside : word_of x < word_count workers
      inside = in_words workers x there

      within : word_of x < length ws
      within = omega (arith, inside, long)

      searching : (c : ℕ) → (world_of workers lanes (common.set ws (word_of x) y) jobs Q).searching c ≡ set (world_of workers lanes ws jobs P).searching (word_of x) (eqb search 1) c
      searching c = elim (cases_eq c (word_of x)) [
        | inl at ↦ subst (λ u. (world_of workers lanes (common.set ws (word_of x) y) jobs Q).searching u ≡ set (world_of workers lanes ws jobs P).searching (word_of x) (eqb search 1) u) (sym at)
            (below_here (word_count workers) (word_of x) (λ n. eqb (bit_at n WORD_WORKERS) 1) ws (word_of x) y (word_of x) inside refl within
            ∙ ap (λ n. eqb n 1) turns.search_bit ∙ sym (set_here (world_of workers lanes ws jobs P).searching (word_of x) (eqb search 1)))
        | inr other ↦ below_else (word_count workers) c (λ n. eqb (bit_at n WORD_WORKERS) 1) ws (word_of x) y c (λ _ e. other e)
            ∙ sym (set_else (world_of workers lanes ws jobs P).searching (word_of x) (eqb search 1) c other)
      ]

      -- another worker of the word
      beside : (t : ℕ) → t ≢ x → word_of t ≡ word_of x
          → (world_of workers lanes (common.set ws (word_of x) y) jobs Q).asleep t ≡ (world_of workers lanes ws jobs P).asleep t
      beside t other word = turn (ltb (word_of t) (word_count workers))
        where
          turn : (b : Bool) → cond b (eqb (bit_at (get_or (common.set ws (word_of x) y) (word_of t) 0) (bit_of t)) 1) false
              ≡ cond b (eqb (bit_at (get_or ws (word_of t) 0) (bit_of t)) 1) false
          turn true = ap (λ n. eqb n 1)
              (ap (λ n. bit_at n (bit_of t)) (ap (λ j. get_or (common.set ws (word_of x) y) j 0) word ∙ get_or-set_same ws (word_of x) y 0 within)
              ∙ turns.others (bit_of t) (bit_low t) (λ bit. other (same_bit t x word bit))
              ∙ ap (λ j. bit_at (get_or ws j 0) (bit_of t)) (sym word))
          turn false = refl

      asleep : (t : ℕ) → (world_of workers lanes (common.set ws (word_of x) y) jobs Q).asleep t ≡ set (world_of workers lanes ws jobs P).asleep x (eqb on 1) t
      asleep t = elim (cases_eq t x) [
        | inl at ↦ subst (λ u. (world_of workers lanes (common.set ws (word_of x) y) jobs Q).asleep u ≡ set (world_of workers lanes ws jobs P).asleep x (eqb on 1) u) (sym at)
            (below_here (word_count workers) (word_of x) (λ n. eqb (bit_at n (bit_of x)) 1) ws (word_of x) y (word_of x) inside refl within
            ∙ ap (λ n. eqb n 1) turns.own ∙ sym (set_here (world_of workers lanes ws jobs P).asleep x (eqb on 1)))
        | inr other ↦ elim (cases_eq (word_of t) (word_of x)) [
          | inl word ↦ beside t other word ∙ sym (set_else (world_of workers lanes ws jobs P).asleep x (eqb on 1) t other)
          | inr apart ↦ below_else (word_count workers) (word_of t) (λ n. eqb (bit_at n (bit_of t)) 1) ws (word_of x) y (word_of t) (λ _ e. apart e)
              ∙ sym (set_else (world_of workers lanes ws jobs P).asleep x (eqb on 1) t other)
        ]
      ]
