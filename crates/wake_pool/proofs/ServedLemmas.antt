-- Each act keeps the invariant, and the invariant gives the law.
use Rattle.std.proofs.Common.{◌≡◌, ◌≢◌, ℕ, zero, suc, ◌+◌, ◌<◌, ◌≤◌, ◌⊎◌, inl, inr, Bool, true, false, cond, ◌&&◌, ltb, eqb, List, [], ◌∷◌, refl, sym, ◌∙◌, ap, subst, arith, true≢false}
use Rattle.std.proofs.lemmas.Bool.{cases_eq, ltb-true, ltb-false, eqb-true}
use Rattle.wake_pool.specs.declared.phase.WakePhase.{WakePhase as Phase}
use Rattle.wake_pool.specs.declared.phase.WakePhase.TheVariants.{Idle, Waking, Giving, Calling, Searching, Found, Looking, Resting, Returning, Reading, Called, Checking, Parked}
use Rattle.wake_pool.specs.declared.act.WakeAct.{WakeAct as Act}
use Rattle.wake_pool.specs.declared.act.WakeAct.TheVariants.{Put, Take, Call, Answer, Claim, Rest, See, Wake, Step}
use Rattle.wake_pool.specs.Schedule.{World, set, initial, none_asleep, waking, looking, resting, goes, puts, takes, mails, hands, seeks, marks, swaps, put, take_as, call, answer, claim, rest, see, wake, step, act_on, apply_all}
use Rattle.wake_pool.specs.Law.{HasRested, IsSearcher, HasToLook, IsWoken, IsCalled, GivesTo, CallsTo, IsStill, IsServed}
use Rattle.wake_pool.specs.Inner.Invariant.{Sleepers, Lookers, IsSound}
use Rattle.wake_pool.proofs.SetLemmas.{set_here, set_else, still_set, none_below}
use Rattle.wake_pool.proofs.PartLemmas.{waking_awake, looking_awake, resting_lying, waking_looks, looking_looks, resting_looks, lookers_by, lookers_searched, lookers_less, lookers_goes, lookers_cleared, searchers_begin, IsAwake, IsLying, Wakes, searchers_end, searchers_goes, searchers_bit, searcher_on, searcher_off, searches_else, searches_on, searches_here, sleepers_kept, goes_wakes, bit_wakes}

-- a thread that has not rested has no bit set
up : (w : World) → IsSound w → (t : ℕ) (p : Phase) → w.phase t ≡ p → (HasRested p → ⊥) → w.asleep t ≡ true → ⊥
up w k t p is none bit = none (subst HasRested is (k.sleepers.rested t bit))

-- a phase alone changes
goes_sound : (w : World) → IsSound w → (t : ℕ) (p q : Phase)
    → w.phase t ≡ p
    → (w.asleep t ≡ true → HasRested q)
    → (IsWoken q (w.asleep t) → IsWoken p (w.asleep t))
    → (IsCalled q (w.asleep t) (w.mail t) → IsCalled p (w.asleep t) (w.mail t))
    → ((s : ℕ) → GivesTo p s → GivesTo q s)
    → ((s : ℕ) → CallsTo p s → w.asleep s ≡ true → CallsTo q s)
    → (IsSearcher p (w.asleep t) → IsSearcher q (w.asleep t))
    → (IsSearcher q (w.asleep t) → IsSearcher p (w.asleep t))
    → Lookers w.word w.lanes w.jobs w.searching w.asleep (set w.phase t q)
    → IsSound (goes t q w)
goes_sound w k t p q is rested woken called gives calls on off lookers = record {
  in_words = k.in_words;
  sleepers = sleepers_kept t p q is (λ bit. (k.sleepers.sleeper t bit, rested bit)) (λ _ _ bit. bit) (goes_wakes t p q woken called gives calls) k.sleepers;
  searchers = searchers_goes t p q is on off k.searchers;
  lookers = lookers;
}

-- a thread that is awake, gives no token and does not search, goes on to such a phase
awake_sound : (w : World) → IsSound w → (t : ℕ) (p q : Phase)
    → w.phase t ≡ p
    → (HasRested p → ⊥)
    → ((s : ℕ) → GivesTo p s → ⊥)
    → ((s : ℕ) → CallsTo p s → ⊥)
    → ((bit : Bool) → IsSearcher p bit → ⊥)
    → IsAwake q
    → Lookers w.word w.lanes w.jobs w.searching w.asleep (set w.phase t q)
    → IsSound (goes t q w)
awake_sound w k t p q is none gives calls no_search awake lookers = goes_sound w k t p q is
    (λ bit. absurd (up w k t p is none bit))
    (λ o. absurd (awake.no_wake (w.asleep t) o))
    (λ o. absurd (awake.no_call (w.asleep t) (w.mail t) o))
    (λ s g. absurd (gives s g))
    (λ s g _. absurd (calls s g))
    (λ a. absurd (no_search (w.asleep t) a))
    (λ a. absurd (awake.no_search (w.asleep t) a))
    lookers

-- the same with other jobs, which only the lookers read
jobs_sound : (w : World) (jobs : ℕ → ℕ) (t : ℕ) (q : Phase)
    → IsSound (goes t q w)
    → Lookers w.word w.lanes jobs w.searching w.asleep (set w.phase t q)
    → IsSound (record w { jobs = jobs; phase = set w.phase t q })
jobs_sound w jobs t q k lookers = record {
  in_words = k.in_words;
  sleepers = k.sleepers;
  searchers = k.searchers;
  lookers = lookers;
}

-- a put of a thread in this phase, which is awake, gives no token and does not search
put_as : (w : World) → IsSound w → (t l : ℕ) (p : Phase)
    → w.phase t ≡ p
    → (HasRested p → ⊥)
    → ((s : ℕ) → GivesTo p s → ⊥)
    → ((s : ℕ) → CallsTo p s → ⊥)
    → ((bit : Bool) → IsSearcher p bit → ⊥)
    → IsSound (puts l t (waking w.words 0) w)
put_as w k t l p is none gives calls no_search = record {
  in_words = k.in_words;
  sleepers = sleepers_kept t p (waking w.words 0) is (λ bit. absurd (up w k t p is none bit)) (λ _ _ bit. bit)
      (goes_wakes t p (waking w.words 0) (λ o. absurd (awake.no_wake (w.asleep t) o)) (λ o. absurd (awake.no_call (w.asleep t) (w.mail t) o)) (λ s g. absurd (gives s g)) (λ s g _. absurd (calls s g))) k.sleepers;
  searchers = searchers_goes t p (waking w.words 0) is (λ a. absurd (no_search (w.asleep t) a)) (λ a. absurd (awake.no_search (w.asleep t) a)) k.searchers;
  lookers = lookers_by w.workers w.words k.in_words k.sleepers.sleeper w.phase t (waking w.words 0) (λ l b _ inside. waking_looks w.words 0 l b (omega arith) inside);
}
  where
    awake : IsAwake (waking w.words 0)
    awake = waking_awake w.words 0

pub put_sound : (w : World) → IsSound w → (t l : ℕ) → w.phase t ≡ Idle → IsSound (puts l t (waking w.words 0) w)
put_sound w k t l is = put_as w k t l Idle is (λ a. a) (λ _ g. g) (λ _ g. g) (λ _ a. a)

pub put_again_sound : (w : World) → IsSound w → (t l b : ℕ) → w.phase t ≡ Waking b → IsSound (puts l t (waking w.words 0) w)
put_again_sound w k t l b is = put_as w k t l (Waking b) is (λ a. a) (λ _ g. g) (λ _ g. g) (λ _ a. a)

pub take_sound : (w : World) → IsSound w → (t l : ℕ) → w.phase t ≡ Idle → IsSound (takes l t Idle w)
take_sound w k t l is = record {
  in_words = k.in_words;
  sleepers = sleepers_kept t Idle Idle is (λ bit. absurd (up w k t Idle is (λ a. a) bit)) (λ _ _ bit. bit)
      (goes_wakes t Idle Idle (λ o. o) (λ o. o) (λ s g. g) (λ s g _. g)) k.sleepers;
  searchers = searchers_goes t Idle Idle is (λ a. a) (λ a. a) k.searchers;
  lookers = lookers_goes t Idle Idle is (λ _ _ _ _ _ e. e) (lookers_less l k.lookers);
}

pub find_sound : (w : World) → IsSound w → (t l : ℕ) → w.phase t ≡ Searching → IsSound (takes l t Found w)
find_sound w k t l is = record {
  in_words = k.in_words;
  sleepers = sleepers_kept t Searching Found is (λ bit. absurd (up w k t Searching is (λ a. a) bit)) (λ _ _ bit. bit)
      (goes_wakes t Searching Found (λ o. o) (λ o. o) (λ s g. g) (λ s g _. g)) k.sleepers;
  searchers = searchers_goes t Searching Found is (λ a. a) (λ a. a) k.searchers;
  lookers = lookers_goes t Searching Found is (λ _ _ _ _ _ e. absurd e) (lookers_less l k.lookers);
}

pub call_sound : (w : World) → IsSound w → (t x : ℕ) → w.phase t ≡ Idle → IsSound (mails x true t (Calling x) w)
call_sound w k t x is = record {
  in_words = k.in_words;
  sleepers = sleepers_kept t Idle (Calling x) is (λ bit. absurd (up w k t Idle is (λ a. a) bit)) (λ _ _ bit. bit) wakes k.sleepers;
  searchers = searchers_goes t Idle (Calling x) is (λ a. a) (λ a. a) k.searchers;
  lookers = lookers_goes t Idle (Calling x) is (λ _ _ _ _ _ e. absurd e) k.lookers;
}
  where
    wakes : Wakes w.asleep w.asleep w.token w.token w.mail (set w.mail x true) w.phase t Idle (Calling x)
    wakes = record {
      own_wake = λ o. absurd o;
      own_call = λ o. absurd o;
      wakes = λ s _ o. inl o;
      calls = λ s _ o. elim (cases_eq s x) [
        | inl at ↦ inr (sym at)
        | inr other ↦ inl (subst (IsCalled (w.phase s) (w.asleep s)) (set_else w.mail x true s other) o)
      ];
      tokens = λ s _ e. e;
      gives_wake = λ s g. absurd g;
      gives_call = λ s g _. absurd g;
    }

-- it takes the call out of its own mailbox
answer_wakes : (w : World) (t : ℕ) (p q : Phase)
    → ((bit : Bool) → IsWoken q bit → ⊥)
    → ((bit mail : Bool) → IsCalled q bit mail → ⊥)
    → ((s : ℕ) → GivesTo p s → ⊥)
    → ((s : ℕ) → CallsTo p s → ⊥)
    → Wakes w.asleep w.asleep w.token w.token w.mail (set w.mail t false) w.phase t p q
answer_wakes w t p q woken called gives calls = record {
  own_wake = λ o. absurd (woken (w.asleep t) o);
  own_call = λ o. absurd (called (w.asleep t) (set w.mail t false t) o);
  wakes = λ s _ o. inl o;
  calls = λ s other o. inl (subst (IsCalled (w.phase s) (w.asleep s)) (set_else w.mail t false s other) o);
  tokens = λ s _ e. e;
  gives_wake = λ s g. absurd (gives s g);
  gives_call = λ s g _. absurd (calls s g);
}

pub answer_sound : (w : World) → IsSound w → (t : ℕ) → w.phase t ≡ Idle → IsSound (mails t false t Idle w)
answer_sound w k t is = record {
  in_words = k.in_words;
  sleepers = sleepers_kept t Idle Idle is (λ bit. absurd (up w k t Idle is (λ a. a) bit)) (λ _ _ bit. bit)
      (answer_wakes w t Idle Idle (λ _ o. o) (λ _ _ o. o) (λ _ g. g) (λ _ g. g)) k.sleepers;
  searchers = searchers_goes t Idle Idle is (λ a. a) (λ a. a) k.searchers;
  lookers = lookers_goes t Idle Idle is (λ _ _ _ _ _ e. e) k.lookers;
}

pub answer_found_sound : (w : World) → IsSound w → (t : ℕ) → w.phase t ≡ Searching → IsSound (mails t false t Found w)
answer_found_sound w k t is = record {
  in_words = k.in_words;
  sleepers = sleepers_kept t Searching Found is (λ bit. absurd (up w k t Searching is (λ a. a) bit)) (λ _ _ bit. bit)
      (answer_wakes w t Searching Found (λ _ o. o) (λ _ _ o. o) (λ _ g. g) (λ _ g. g)) k.sleepers;
  searchers = searchers_goes t Searching Found is (λ a. a) (λ a. a) k.searchers;
  lookers = lookers_goes t Searching Found is (λ _ _ _ _ _ e. absurd e) k.lookers;
}

pub claim_sound : (w : World) → IsSound w → (t : ℕ) → w.phase t ≡ Idle → w.searching (w.word t) ≡ false
    → IsSound (seeks (w.word t) true t Searching w)
claim_sound w k t is free = record {
  in_words = k.in_words;
  sleepers = sleepers_kept t Idle Searching is (λ bit. absurd (up w k t Idle is (λ a. a) bit)) (λ _ _ bit. bit)
      (goes_wakes t Idle Searching (λ o. o) (λ o. o) (λ s g. g) (λ s g _. g)) k.sleepers;
  searchers = searchers_begin t free (subst (λ r. IsSearcher r (w.asleep t)) (sym (set_here w.phase t Searching)) tt)
      (λ s other a. subst (λ r. IsSearcher r (w.asleep s)) (sym (set_else w.phase t Searching s other)) a)
      (λ s other a. subst (λ r. IsSearcher r (w.asleep s)) (set_else w.phase t Searching s other) a) k.searchers;
  lookers = lookers_searched (w.word t) (set_here w.searching (w.word t) true);
}

-- a worker sets its bit
rest_sleepers : (w : World) → IsSound w → (t : ℕ) → t < w.workers → (p : Phase) → w.phase t ≡ p
    → ((s : ℕ) → GivesTo p s → ⊥)
    → ((s : ℕ) → CallsTo p s → ⊥)
    → Sleepers w.workers (set w.asleep t true) w.token w.mail (set w.phase t (resting w.lanes 0))
rest_sleepers w k t there p is gives calls =
    let lying : IsLying (resting w.lanes 0) = resting_lying w.lanes 0 in
    sleepers_kept t p (resting w.lanes 0) is (λ _. (there, lying.rests)) (λ s other bit. sym (set_else w.asleep t true s other) ∙ bit)
    (bit_wakes t p (resting w.lanes 0) true lying.no_wake lying.no_call calls gives) k.sleepers

rest_lookers : (w : World) → IsSound w → (t : ℕ) (N : ℕ → Bool)
    → ((s : ℕ) → set w.asleep t true s ≡ true → s < w.workers)
    → Lookers w.word w.lanes w.jobs N (set w.asleep t true) (set w.phase t (resting w.lanes 0))
rest_lookers w k t N sleeper = lookers_by w.workers w.words k.in_words sleeper w.phase t (resting w.lanes 0)
    (λ l b here _. resting_looks w.lanes 0 l b (omega arith) here)

-- it is not the searcher, since its bit is set
not_cleared : (lanes : ℕ) → IsSearcher (resting lanes 0) true → ⊥
not_cleared lanes a =
    let lying : IsLying (resting lanes 0) = resting_lying lanes 0 in true≢false (lying.cleared true a)

pub rest_sound : (w : World) → IsSound w → (t : ℕ) → t < w.workers → w.phase t ≡ Idle
    → IsSound (marks t true t (resting w.lanes 0) w)
rest_sound w k t there is =
    let beds : Sleepers w.workers (set w.asleep t true) w.token w.mail (set w.phase t (resting w.lanes 0)) = rest_sleepers w k t there Idle is (λ _ g. g) (λ _ g. g) in
    record {
      in_words = k.in_words;
      sleepers = beds;
      searchers = searchers_bit t Idle (resting w.lanes 0) true is (λ a. a) (not_cleared w.lanes) k.searchers;
      lookers = rest_lookers w k t w.searching beds.sleeper;
    }

pub lie_down_sound : (w : World) → IsSound w → (t : ℕ) → t < w.workers → w.phase t ≡ Searching
    → IsSound (swaps t true t (resting w.lanes 0) w)
lie_down_sound w k t there is =
    let beds : Sleepers w.workers (set w.asleep t true) w.token w.mail (set w.phase t (resting w.lanes 0)) = rest_sleepers w k t there Searching is (λ _ g. g) (λ _ g. g) in
    record {
      in_words = k.in_words;
      sleepers = beds;
      searchers = searchers_end t (subst (λ r. IsSearcher r (w.asleep t)) (sym is) tt)
          (λ a. not_cleared w.lanes (searches_here w.asleep w.phase t (resting w.lanes 0) true a))
          (searches_on w.asleep w.phase t (resting w.lanes 0) true)
          (searches_else w.asleep w.phase t (resting w.lanes 0) true) k.searchers;
      lookers = rest_lookers w k t (set w.searching (w.word t) false) beds.sleeper;
    }

pub see_again_sound : (w : World) → IsSound w → (t i : ℕ) → w.phase t ≡ Looking i → IsSound (goes t (waking w.words 0) w)
see_again_sound w k t i is = awake_sound w k t (Looking i) (waking w.words 0) is (λ a. a) (λ _ g. g) (λ _ g. g) (λ _ a. a) (waking_awake w.words 0)
    (lookers_by w.workers w.words k.in_words k.sleepers.sleeper w.phase t (waking w.words 0) (λ l b _ inside. waking_looks w.words 0 l b (omega arith) inside))

pub see_sound : (w : World) → IsSound w → (t i : ℕ) → w.phase t ≡ Resting i → IsSound (goes t Returning w)
see_sound w k t i is = goes_sound w k t (Resting i) Returning is (λ _. tt) (λ o. o) (λ o. o) (λ _ g. g) (λ _ g _. g) (λ a. a) (λ a. a)
    (lookers_by w.workers w.words k.in_words k.sleepers.sleeper w.phase t Returning (λ _ _ _ _. tt))

-- a worker that has rested, and whose bit is cleared, searches
rested_searches : (p : Phase) → HasRested p → (b : Bool) → b ≡ false → IsSearcher p b
rested_searches Idle a b e = absurd a
rested_searches (Waking c) a b e = absurd a
rested_searches (Giving y) a b e = absurd a
rested_searches (Calling y) a b e = absurd a
rested_searches Searching a b e = absurd a
rested_searches Found a b e = absurd a
rested_searches (Looking l) a b e = absurd a
rested_searches (Resting l) _ b e = e
rested_searches Returning _ b e = e
rested_searches Reading _ b e = e
rested_searches Called _ b e = e
rested_searches Checking _ b e = e
rested_searches Parked _ b e = e

pub wake_sound : (w : World) → IsSound w → (t x b : ℕ) → w.phase t ≡ Waking b → w.searching (w.word x) ≡ false → w.asleep x ≡ true
    → IsSound (swaps x false t (Giving x) w)
wake_sound w k t x b is free sleeps = record {
  in_words = k.in_words;
  sleepers = sleepers_kept t (Waking b) (Giving x) is
      (λ bit. absurd (up w k t (Waking b) is (λ a. a) (still_set w.asleep x t bit).1))
      (λ s _ bit. (still_set w.asleep x s bit).1) wakes k.sleepers;
  searchers = searchers_begin x free
      (subst (λ r. IsSearcher r (set w.asleep x false x)) (sym (set_else w.phase t (Giving x) x unlike))
      (rested_searches (w.phase x) (k.sleepers.rested x sleeps) (set w.asleep x false x) (set_here w.asleep x false)))
      on off k.searchers;
  lookers = lookers_searched (w.word x) (set_here w.searching (w.word x) true);
}
  where
    unlike : x ≢ t
    unlike at = up w k t (Waking b) is (λ a. a) (subst (λ i. w.asleep i ≡ true) at sleeps)

    on : (s : ℕ) → s ≢ x → IsSearcher (w.phase s) (w.asleep s) → IsSearcher (set w.phase t (Giving x) s) (set w.asleep x false s)
    on s other a = searcher_on (set w.asleep x false) w.phase t (Waking b) (Giving x) is (λ e. e) s
        (subst (IsSearcher (w.phase s)) (sym (set_else w.asleep x false s other)) a)

    off : (s : ℕ) → s ≢ x → IsSearcher (set w.phase t (Giving x) s) (set w.asleep x false s) → IsSearcher (w.phase s) (w.asleep s)
    off s other a = subst (IsSearcher (w.phase s)) (set_else w.asleep x false s other)
        (searcher_off (set w.asleep x false) w.phase t (Waking b) (Giving x) is (λ e. e) s a)

    wakes : Wakes w.asleep (set w.asleep x false) w.token w.token w.mail w.mail w.phase t (Waking b) (Giving x)
    wakes = record {
      own_wake = λ o. absurd o;
      own_call = λ o. absurd o;
      wakes = λ s _ o. elim (cases_eq s x) [
        | inl at ↦ inr (sym at)
        | inr other ↦ inl (subst (IsWoken (w.phase s)) (set_else w.asleep x false s other) o)
      ];
      calls = λ s _ o. elim (cases_eq s x) [
        | inl at ↦ inr (sym at)
        | inr other ↦ inl (subst (λ c. IsCalled (w.phase s) c (w.mail s)) (set_else w.asleep x false s other) o)
      ];
      tokens = λ s _ e. e;
      gives_wake = λ s g. absurd g;
      gives_call = λ s g _. absurd g;
    }

-- ---- the steps

-- a look at a word where one searches
pub notice_searched_sound : (w : World) → IsSound w → (t b : ℕ) → w.phase t ≡ Waking b → w.searching b ≡ true → IsSound (goes t Idle w)
notice_searched_sound w k t b is on = awake_sound w k t (Waking b) Idle is (λ a. a) (λ _ g. g) (λ _ g. g) (λ _ a. a)
    (record { no_rest = λ r. r; no_search = λ _ s. s; no_wake = λ _ o. o; no_call = λ _ _ o. o }) (lookers_searched b on)

-- a look at a word of which nobody sleeps
pub notice_none_sound : (w : World) → IsSound w → (t b : ℕ) → w.phase t ≡ Waking b
    → ((s : ℕ) → s < w.workers → w.word s ≡ b → w.asleep s ≡ false)
    → IsSound (goes t (waking w.words (b + 1)) w)
notice_none_sound w k t b is none = awake_sound w k t (Waking b) (waking w.words (b + 1)) is (λ a. a) (λ _ g. g) (λ _ g. g) (λ _ a. a) (waking_awake w.words (b + 1))
    (lookers_goes t (Waking b) (waking w.words (b + 1)) is
    (λ s l bit _ _ at. waking_looks w.words (b + 1) l (w.word s) (beyond s bit at) (k.in_words s (k.sleepers.sleeper s bit))) k.lookers)
  where
    beyond : (s : ℕ) → w.asleep s ≡ true → b ≤ w.word s → b + 1 ≤ w.word s
    beyond s bit at = elim (cases_eq (w.word s) b) [
      | inl same ↦ absurd (true≢false (sym bit ∙ none s (k.sleepers.sleeper s bit) same))
      | inr other ↦ omega (arith, at, other)
    ]

pub give_sound : (w : World) → IsSound w → (t x : ℕ) → w.phase t ≡ Giving x → IsSound (hands x true t Idle w)
give_sound w k t x is = record {
  in_words = k.in_words;
  sleepers = sleepers_kept t (Giving x) Idle is (λ bit. absurd (up w k t (Giving x) is (λ a. a) bit)) (λ _ _ bit. bit) wakes k.sleepers;
  searchers = searchers_goes t (Giving x) Idle is (λ a. a) (λ a. a) k.searchers;
  lookers = lookers_goes t (Giving x) Idle is (λ _ _ _ _ _ e. absurd e) k.lookers;
}
  where
    given : (s : ℕ) → x ≡ s → set w.token x true s ≡ true
    given s at = subst (λ i. set w.token x true i ≡ true) at (set_here w.token x true)

    wakes : Wakes w.asleep w.asleep w.token (set w.token x true) w.mail w.mail w.phase t (Giving x) Idle
    wakes = record {
      own_wake = λ o. absurd o;
      own_call = λ o. absurd o;
      wakes = λ s _ o. inl o;
      calls = λ s _ o. inl o;
      tokens = λ s _ ready. elim (cases_eq s x) [
        | inl at ↦ given s (sym at)
        | inr other ↦ set_else w.token x true s other ∙ ready
      ];
      gives_wake = λ s g. inl (given s g);
      gives_call = λ s g _. inl (given s g);
    }

-- a look at the bit of a thread that has a call
pub ring_sound : (w : World) → IsSound w → (t x : ℕ) → w.phase t ≡ Calling x → IsSound (goes t (Giving x) w)
ring_sound w k t x is = goes_sound w k t (Calling x) (Giving x) is (λ bit. absurd (up w k t (Calling x) is (λ a. a) bit)) (λ o. o) (λ o. o) (λ _ g. absurd g) (λ _ g _. g) (λ a. a) (λ a. a)
    (lookers_goes t (Calling x) (Giving x) is (λ _ _ _ _ _ e. absurd e) k.lookers)

pub ring_awake_sound : (w : World) → IsSound w → (t x : ℕ) → w.phase t ≡ Calling x → w.asleep x ≡ false → IsSound (goes t Idle w)
ring_awake_sound w k t x is off = goes_sound w k t (Calling x) Idle is (λ bit. absurd (up w k t (Calling x) is (λ a. a) bit)) (λ o. o) (λ o. o) (λ _ g. absurd g)
    (λ s at bit. absurd (true≢false (sym bit ∙ subst (λ i. w.asleep i ≡ false) at off))) (λ a. a) (λ a. a)
    (lookers_goes t (Calling x) Idle is (λ _ _ _ _ _ e. absurd e) k.lookers)

pub leave_sound : (w : World) → IsSound w → (t : ℕ) → w.phase t ≡ Found → IsSound (seeks (w.word t) false t (looking w.lanes 0) w)
leave_sound w k t is = record {
  in_words = k.in_words;
  sleepers = sleepers_kept t Found (looking w.lanes 0) is (λ bit. absurd (up w k t Found is (λ a. a) bit)) (λ _ _ bit. bit)
      (goes_wakes t Found (looking w.lanes 0) (λ o. absurd (awake.no_wake (w.asleep t) o)) (λ o. absurd (awake.no_call (w.asleep t) (w.mail t) o)) (λ s g. absurd g) (λ s g _. absurd g)) k.sleepers;
  searchers = searchers_end t (subst (λ r. IsSearcher r (w.asleep t)) (sym is) tt)
      (λ a. awake.no_search (w.asleep t) (subst (λ r. IsSearcher r (w.asleep t)) (set_here w.phase t (looking w.lanes 0)) a))
      (λ s other a. subst (λ r. IsSearcher r (w.asleep s)) (sym (set_else w.phase t (looking w.lanes 0) s other)) a)
      (λ s other a. subst (λ r. IsSearcher r (w.asleep s)) (set_else w.phase t (looking w.lanes 0) s other) a) k.searchers;
  lookers = lookers_by w.workers w.words k.in_words k.sleepers.sleeper w.phase t (looking w.lanes 0) (λ l b here _. looking_looks w.lanes 0 l b (omega arith) here);
}
  where
    awake : IsAwake (looking w.lanes 0)
    awake = looking_awake w.lanes 0

-- a lane that was seen empty need not be looked at any more
onward : (J : ℕ → ℕ) (i l : ℕ) → J i ≡ 0 → 0 < J l → i ≤ l → i + 1 ≤ l
onward J i l none some_job at = elim (cases_eq i l) [
  | inl same ↦ absurd (let full : 0 < J i = subst (λ m. 0 < J m) (sym same) some_job in omega (arith, none, full))
  | inr other ↦ omega (arith, at, other)
]

pub look_sound : (w : World) → IsSound w → (t i : ℕ) → w.phase t ≡ Looking i → w.jobs i ≡ 0 → IsSound (goes t (looking w.lanes (i + 1)) w)
look_sound w k t i is none = awake_sound w k t (Looking i) (looking w.lanes (i + 1)) is (λ a. a) (λ _ g. g) (λ _ g. g) (λ _ a. a) (looking_awake w.lanes (i + 1))
    (lookers_goes t (Looking i) (looking w.lanes (i + 1)) is (λ s l _ here some_job at. looking_looks w.lanes (i + 1) l (w.word s) (onward w.jobs i l none some_job at) here) k.lookers)

pub look_last_sound : (w : World) → IsSound w → (t i : ℕ) → w.phase t ≡ Resting i → w.jobs i ≡ 0 → IsSound (goes t (resting w.lanes (i + 1)) w)
look_last_sound w k t i is none =
    let lying : IsLying (resting w.lanes (i + 1)) = resting_lying w.lanes (i + 1) in
    goes_sound w k t (Resting i) (resting w.lanes (i + 1)) is (λ _. lying.rests)
    (λ o. absurd (lying.no_wake (w.asleep t) o))
    (λ o. absurd (lying.no_call (w.asleep t) (w.mail t) o))
    (λ _ g. absurd g) (λ _ g _. absurd g) (lying.searches (w.asleep t)) (lying.cleared (w.asleep t))
    (lookers_goes t (Resting i) (resting w.lanes (i + 1)) is (λ s l _ here some_job at. resting_looks w.lanes (i + 1) l (w.word s) (onward w.jobs i l none some_job at) here) k.lookers)

-- a worker that has seen a job takes its bit back
pub return_sound : (w : World) → IsSound w → (t : ℕ) → w.phase t ≡ Returning → w.searching (w.word t) ≡ false → IsSound (swaps t false t Searching w)
return_sound w k t is free = record {
  in_words = k.in_words;
  sleepers = sleepers_kept t Returning Searching is (λ bit. absurd (true≢false (sym bit ∙ set_here w.asleep t false)))
      (λ s other bit. sym (set_else w.asleep t false s other) ∙ bit)
      (bit_wakes t Returning Searching false (λ _ o. o) (λ _ _ o. o) (λ _ g. g) (λ _ g. g)) k.sleepers;
  searchers = searchers_begin t free (subst (λ r. IsSearcher r (set w.asleep t false t)) (sym (set_here w.phase t Searching)) tt)
      (searches_on w.asleep w.phase t Searching false) (searches_else w.asleep w.phase t Searching false) k.searchers;
  lookers = lookers_searched (w.word t) (set_here w.searching (w.word t) true);
}

-- or stays: another searches, or its bit was cleared
pub stay_sound : (w : World) → IsSound w → (t : ℕ) → w.phase t ≡ Returning → (w.searching (w.word t) ≡ true) ⊎ (w.asleep t ≡ false) → IsSound (goes t Reading w)
stay_sound w k t is why = goes_sound w k t Returning Reading is (λ _. tt) (λ o. o) (λ o. o) (λ _ g. g) (λ _ g _. g) (λ a. a) (λ a. a)
    (lookers_searched (w.word t) (elim why [
      | inl on ↦ on
      | inr off ↦ k.searchers.announced t (subst (λ r. IsSearcher r (w.asleep t)) (sym is) off)
    ]))

pub read_call_sound : (w : World) → IsSound w → (t : ℕ) → w.phase t ≡ Reading → IsSound (goes t Called w)
read_call_sound w k t is = goes_sound w k t Reading Called is (λ _. tt) (λ o. o) (λ o. o) (λ _ g. g) (λ _ g _. g) (λ a. a) (λ a. a)
    (lookers_goes t Reading Called is (λ _ _ _ _ _ a. absurd a) k.lookers)

pub read_sound : (w : World) → IsSound w → (t : ℕ) → w.phase t ≡ Reading → w.mail t ≡ false → IsSound (goes t Checking w)
read_sound w k t is none = goes_sound w k t Reading Checking is (λ _. tt) (λ o. o) (λ o. absurd (true≢false (sym o.1 ∙ none))) (λ _ g. g) (λ _ g _. g) (λ a. a) (λ a. a)
    (lookers_goes t Reading Checking is (λ _ _ _ _ _ a. absurd a) k.lookers)

-- a worker that has a call takes its bit back
pub rise_sound : (w : World) → IsSound w → (t : ℕ) → w.phase t ≡ Called → w.asleep t ≡ true → IsSound (marks t false t Idle w)
rise_sound w k t is sleeps = record {
  in_words = k.in_words;
  sleepers = sleepers_kept t Called Idle is (λ bit. absurd (true≢false (sym bit ∙ set_here w.asleep t false)))
      (λ s other bit. sym (set_else w.asleep t false s other) ∙ bit)
      (bit_wakes t Called Idle false (λ _ o. o) (λ _ _ o. o) (λ _ g. g) (λ _ g. g)) k.sleepers;
  searchers = searchers_bit t Called Idle false is (λ a. true≢false (sym sleeps ∙ a)) (λ a. a) k.searchers;
  lookers = lookers_cleared (λ s bit. (still_set w.asleep t s bit).1) (lookers_goes t Called Idle is (λ _ _ _ _ _ a. absurd a) k.lookers);
}

-- or finds that it is the searcher
pub rise_found_sound : (w : World) → IsSound w → (t : ℕ) → w.phase t ≡ Called → w.asleep t ≡ false → IsSound (goes t Found w)
rise_found_sound w k t is off = goes_sound w k t Called Found is (λ bit. absurd (true≢false (sym bit ∙ off))) (λ o. o) (λ o. o) (λ _ g. g) (λ _ g _. g) (λ _. tt) (λ _. off)
    (lookers_goes t Called Found is (λ _ _ _ _ _ a. absurd a) k.lookers)

pub park_sound : (w : World) → IsSound w → (t : ℕ) → w.phase t ≡ Checking → w.asleep t ≡ true → IsSound (goes t Parked w)
park_sound w k t is sleeps = goes_sound w k t Checking Parked is (λ _. tt) (λ off. absurd (true≢false (sym sleeps ∙ off))) (λ o. o) (λ _ g. g) (λ _ g _. g) (λ a. a) (λ a. a)
    (lookers_goes t Checking Parked is (λ _ _ _ _ _ a. absurd a) k.lookers)

pub search_sound : (w : World) → IsSound w → (t : ℕ) → w.phase t ≡ Checking → w.asleep t ≡ false → IsSound (goes t Searching w)
search_sound w k t is off = goes_sound w k t Checking Searching is (λ bit. absurd (true≢false (sym bit ∙ off))) (λ o. absurd o) (λ o. absurd o) (λ _ g. g) (λ _ g _. g) (λ _. tt) (λ _. off)
    (lookers_goes t Checking Searching is (λ _ _ _ _ _ a. absurd a) k.lookers)

pub wait_sound : (w : World) → IsSound w → (t : ℕ) → w.phase t ≡ Parked → IsSound (hands t false t Reading w)
wait_sound w k t is = record {
  in_words = k.in_words;
  sleepers = sleepers_kept t Parked Reading is (λ bit. (k.sleepers.sleeper t bit, tt)) (λ _ _ bit. bit) wakes k.sleepers;
  searchers = searchers_goes t Parked Reading is (λ a. a) (λ a. a) k.searchers;
  lookers = lookers_goes t Parked Reading is (λ _ _ _ _ _ a. absurd a) k.lookers;
}
  where
    wakes : Wakes w.asleep w.asleep w.token (set w.token t false) w.mail w.mail w.phase t Parked Reading
    wakes = record {
      own_wake = λ o. absurd o;
      own_call = λ o. absurd o;
      wakes = λ s _ o. inl o;
      calls = λ s _ o. inl o;
      tokens = λ s other ready. set_else w.token t false s other ∙ ready;
      gives_wake = λ s g. absurd g;
      gives_call = λ s g _. absurd g;
    }

-- ---- each act

put_kept : (w : World) → IsSound w → (t l : ℕ) (p : Phase) → w.phase t ≡ p → IsSound (put p t l w)
put_kept w k t l Idle is = put_sound w k t l is
put_kept w k t l (Waking b) is = put_again_sound w k t l b is
put_kept w k t l _ is = k

take_kept : (w : World) → IsSound w → (t l : ℕ) (p : Phase) → w.phase t ≡ p → IsSound (take_as p t l w)
take_kept w k t l Idle is = take_sound w k t l is
take_kept w k t l Searching is = find_sound w k t l is
take_kept w k t l _ is = k

call_kept : (w : World) → IsSound w → (t x : ℕ) (p : Phase) → w.phase t ≡ p → IsSound (call p t x w)
call_kept w k t x Idle is = call_sound w k t x is
call_kept w k t x _ is = k

answer_kept : (w : World) → IsSound w → (t : ℕ) (p : Phase) → w.phase t ≡ p → IsSound (answer p t w)
answer_kept w k t Idle is = answer_sound w k t is
answer_kept w k t Searching is = answer_found_sound w k t is
answer_kept w k t _ is = k

claim_kept : (w : World) → IsSound w → (t : ℕ) (p : Phase) → w.phase t ≡ p → IsSound (claim p t w)
claim_kept w k t Idle is = turn (w.searching (w.word t)) refl
  where
    turn : (b : Bool) → w.searching (w.word t) ≡ b → IsSound (cond b w (seeks (w.word t) true t Searching w))
    turn true e = k
    turn false e = claim_sound w k t is e
claim_kept w k t _ is = k

rest_kept : (w : World) → IsSound w → (t : ℕ) → t < w.workers → (p : Phase) → w.phase t ≡ p → IsSound (rest p t w)
rest_kept w k t there Idle is = rest_sound w k t there is
rest_kept w k t there Searching is = lie_down_sound w k t there is
rest_kept w k t there _ is = k

see_kept : (w : World) → IsSound w → (t : ℕ) (p : Phase) → w.phase t ≡ p → IsSound (see p t w)
see_kept w k t (Looking i) is = see_again_sound w k t i is
see_kept w k t (Resting i) is = see_sound w k t i is
see_kept w k t _ is = k

wake_kept : (w : World) → IsSound w → (t x : ℕ) (p : Phase) → w.phase t ≡ p → IsSound (wake p t x w)
wake_kept w k t x (Waking b) is = turn (w.searching b) (w.asleep x) (eqb (w.word x) b) refl refl refl
  where
    turn : (a c d : Bool) → w.searching b ≡ a → w.asleep x ≡ c → eqb (w.word x) b ≡ d
        → IsSound (cond a w (cond (c && d) (swaps x false t (Giving x) w) w))
    turn true c d e f g = k
    turn false true true e f g = wake_sound w k t x b is (ap w.searching (eqb-true (w.word x) b g) ∙ e) f
    turn false true false e f g = k
    turn false false d e f g = k
wake_kept w k t x _ is = k

-- a lane that has no job
empty : (n : ℕ) → ltb 0 n ≡ false → n ≡ 0
empty n e = let none : n ≤ 0 = ltb-false 0 n e in omega (arith, none)

step_kept : (w : World) → IsSound w → (t : ℕ) (p : Phase) → w.phase t ≡ p → IsSound (step p t w)
step_kept w k t Idle is = k
step_kept w k t Searching is = k
step_kept w k t (Waking b) is = turn (w.searching b) (none_asleep b w.workers w) refl refl
  where
    turn : (c d : Bool) → w.searching b ≡ c → none_asleep b w.workers w ≡ d
        → IsSound (cond c (goes t Idle w) (cond d (goes t (waking w.words (b + 1)) w) w))
    turn true d e f = notice_searched_sound w k t b is e
    turn false true e f = notice_none_sound w k t b is (none_below b w.workers w f)
    turn false false e f = k
step_kept w k t (Giving x) is = give_sound w k t x is
step_kept w k t (Calling x) is = turn (w.asleep x) refl
  where
    turn : (b : Bool) → w.asleep x ≡ b → IsSound (cond b (goes t (Giving x) w) (goes t Idle w))
    turn true e = ring_sound w k t x is
    turn false e = ring_awake_sound w k t x is e
step_kept w k t Found is = leave_sound w k t is
step_kept w k t (Looking i) is = turn (ltb 0 (w.jobs i)) refl
  where
    turn : (b : Bool) → ltb 0 (w.jobs i) ≡ b → IsSound (cond b w (goes t (looking w.lanes (i + 1)) w))
    turn true e = k
    turn false e = look_sound w k t i is (empty (w.jobs i) e)
step_kept w k t (Resting i) is = turn (ltb 0 (w.jobs i)) refl
  where
    turn : (b : Bool) → ltb 0 (w.jobs i) ≡ b → IsSound (cond b w (goes t (resting w.lanes (i + 1)) w))
    turn true e = k
    turn false e = look_last_sound w k t i is (empty (w.jobs i) e)
step_kept w k t Returning is = turn (w.asleep t) (w.searching (w.word t)) refl refl
  where
    turn : (b c : Bool) → w.asleep t ≡ b → w.searching (w.word t) ≡ c
        → IsSound (cond (b && cond c false true) (swaps t false t Searching w) (goes t Reading w))
    turn true true e f = stay_sound w k t is (inl f)
    turn true false e f = return_sound w k t is f
    turn false c e f = stay_sound w k t is (inr e)
step_kept w k t Reading is = turn (w.mail t) refl
  where
    turn : (b : Bool) → w.mail t ≡ b → IsSound (cond b (goes t Called w) (goes t Checking w))
    turn true e = read_call_sound w k t is
    turn false e = read_sound w k t is e
step_kept w k t Called is = turn (w.asleep t) refl
  where
    turn : (b : Bool) → w.asleep t ≡ b → IsSound (cond b (marks t false t Idle w) (goes t Found w))
    turn true e = rise_sound w k t is e
    turn false e = rise_found_sound w k t is e
step_kept w k t Checking is = turn (w.asleep t) refl
  where
    turn : (b : Bool) → w.asleep t ≡ b → IsSound (cond b (goes t Parked w) (goes t Searching w))
    turn true e = park_sound w k t is e
    turn false e = search_sound w k t is e
step_kept w k t Parked is = turn (w.token t)
  where
    turn : (b : Bool) → IsSound (cond b (hands t false t Reading w) w)
    turn true = wait_sound w k t is
    turn false = k

-- what a thread below a bound does, or nothing
below : (w : World) → IsSound w → (t n : ℕ) (v : World) → (t < n → IsSound v) → IsSound (cond (ltb t n) v w)
below w k t n v inside = turn (ltb t n) refl
  where
    turn : (b : Bool) → ltb t n ≡ b → IsSound (cond b v w)
    turn true e = inside (ltb-true t n e)
    turn false e = k

pub act_sound : (w : World) → IsSound w → (act : Act) → IsSound (act_on act w)
act_sound w k (Put t l) = put_kept w k t l (w.phase t) refl
act_sound w k (Take t l) = below w k 0 (w.jobs l) (take_as (w.phase t) t l w) (λ _. take_kept w k t l (w.phase t) refl)
act_sound w k (Call t x) = call_kept w k t x (w.phase t) refl
act_sound w k (Answer t) = answer_kept w k t (w.phase t) refl
act_sound w k (Claim t) = below w k t w.workers (claim (w.phase t) t w) (λ _. claim_kept w k t (w.phase t) refl)
act_sound w k (Rest t) = below w k t w.workers (rest (w.phase t) t w) (λ there. rest_kept w k t there (w.phase t) refl)
act_sound w k (See t) = see_kept w k t (w.phase t) refl
act_sound w k (Wake t x) = wake_kept w k t x (w.phase t) refl
act_sound w k (Step t) = step_kept w k t (w.phase t) refl

pub initial_sound : (workers lanes words : ℕ) (word : ℕ → ℕ)
    → ((t : ℕ) → t < workers → word t < words)
    → IsSound (initial workers lanes words word)
initial_sound workers lanes words word inside = record {
  in_words = inside;
  sleepers = record {
    rested = λ t e. absurd (true≢false (sym e));
    sleeper = λ t e. absurd (true≢false (sym e));
    woken = λ t e. absurd e;
    called = λ t e. absurd e;
  };
  searchers = record {
    searcher = λ b e. absurd (true≢false (sym e));
    announced = λ s a. absurd a;
    alone = λ s t a. absurd a;
  };
  lookers = record { looked = λ t l bit. absurd (true≢false (sym bit)) };
}

pub all_sound : (workers lanes words : ℕ) (word : ℕ → ℕ)
    → ((t : ℕ) → t < workers → word t < words)
    → (acts : List Act) → IsSound (apply_all acts (initial workers lanes words word))
all_sound workers lanes words word inside [] = initial_sound workers lanes words word inside
all_sound workers lanes words word inside (act ∷ earlier) =
    act_sound (apply_all earlier (initial workers lanes words word)) (all_sound workers lanes words word inside earlier) act

-- ---- the law

pub IsSound-served : (w : World) → IsSound w → IsServed w
IsSound-served w k = record {
  served = served;
  woken = k.sleepers.woken;
  called = k.sleepers.called;
  searcher = k.searchers.searcher;
  announced = k.searchers.announced;
  alone = k.searchers.alone;
  rested = k.sleepers.rested;
  sleeper = k.sleepers.sleeper;
  no_job = no_job;
  no_call = no_call;
}
  where
    served : (t l : ℕ) → w.phase t ≡ Parked → l < w.lanes → 0 < w.jobs l
        → (s : ℕ) × (IsSearcher (w.phase s) (w.asleep s) ⊎ HasToLook (w.phase s) l (w.word t))
    served t l is here some_job = turn (w.asleep t) refl
      where
        turn : (b : Bool) → w.asleep t ≡ b
            → (s : ℕ) × (IsSearcher (w.phase s) (w.asleep s) ⊎ HasToLook (w.phase s) l (w.word t))
        turn true e = elim (k.lookers.looked t l e here some_job) [
          | inl on ↦ let found = k.searchers.searcher on.0 on.1 in (found.0, inl found.2)
          | inr found ↦ (found.0, inr found.1)
        ]
        turn false e = (t, inl (subst (λ r. IsSearcher r (w.asleep t)) (sym is) e))

    -- a thread that makes no step gives no token
    no_giver : ((s : ℕ) → IsStill w s) → (s t : ℕ) → CallsTo (w.phase s) t → ⊥
    no_giver still s t gives = elim (still s) [
      | inl idle ↦ subst (λ r. CallsTo r t) idle gives
      | inr waits ↦ subst (λ r. CallsTo r t) waits.0 gives
    ]

    calls : (p : Phase) (t : ℕ) → GivesTo p t → CallsTo p t
    calls (Giving x) t g = g
    calls Idle t g = absurd g
    calls (Waking c) t g = absurd g
    calls (Calling x) t g = absurd g
    calls Searching t g = absurd g
    calls Found t g = absurd g
    calls (Looking l) t g = absurd g
    calls (Resting l) t g = absurd g
    calls Returning t g = absurd g
    calls Reading t g = absurd g
    calls Called t g = absurd g
    calls Checking t g = absurd g
    calls Parked t g = absurd g

    -- so a parked thread with no token is not woken
    not_woken : ((s : ℕ) → IsStill w s) → (t : ℕ) → w.token t ≡ false → w.phase t ≡ Parked → w.asleep t ≡ false → ⊥
    not_woken still t none is off = elim (k.sleepers.woken t (subst (λ r. IsWoken r (w.asleep t)) (sym is) off)) [
      | inl ready ↦ absurd (true≢false (sym ready ∙ none))
      | inr giver ↦ no_giver still giver.0 t (calls (w.phase giver.0) t giver.1)
    ]

    no_one : ((s : ℕ) → IsStill w s) → (l b : ℕ)
        → ((s : ℕ) × (IsSearcher (w.phase s) (w.asleep s) ⊎ HasToLook (w.phase s) l b)) → ⊥
    no_one still l b (s, inl seeks) = elim (still s) [
      | inl idle ↦ subst (λ r. IsSearcher r (w.asleep s)) idle seeks
      | inr waits ↦ not_woken still s waits.1 waits.0 (subst (λ r. IsSearcher r (w.asleep s)) waits.0 seeks)
    ]
    no_one still l b (s, inr looks) = elim (still s) [
      | inl idle ↦ subst (λ r. HasToLook r l b) idle looks
      | inr waits ↦ subst (λ r. HasToLook r l b) waits.0 looks
    ]

    no_job : ((s : ℕ) → IsStill w s) → (t l : ℕ) → w.phase t ≡ Parked → l < w.lanes → w.jobs l ≡ 0
    no_job still t l is here = turn (w.jobs l) refl
      where
        turn : (n : ℕ) → w.jobs l ≡ n → w.jobs l ≡ 0
        turn zero e = e
        turn (suc n) e = absurd (no_one still l (w.word t) (served t l is here (omega (arith, e))))

    -- a parked thread that makes no step has no token
    no_token : (t : ℕ) → IsStill w t → w.phase t ≡ Parked → w.token t ≡ false
    no_token t (inl idle) is = absurd (let e : Idle ≡ Parked = sym idle ∙ is in cc)
    no_token t (inr waits) is = waits.1

    no_call : ((s : ℕ) → IsStill w s) → (t : ℕ) → w.phase t ≡ Parked → w.mail t ≡ false
    no_call still t is = turn (w.mail t) (w.asleep t) refl refl
      where
        none : w.token t ≡ false
        none = no_token t (still t) is

        turn : (b c : Bool) → w.mail t ≡ b → w.asleep t ≡ c → w.mail t ≡ false
        turn false c e f = e
        turn true false e f = absurd (not_woken still t none is f)
        turn true true e f = absurd (elim (k.sleepers.called t (subst (λ r. IsCalled r (w.asleep t) (w.mail t)) (sym is) (f, e))) [
          | inl ready ↦ true≢false (sym ready ∙ none)
          | inr giver ↦ no_giver still giver.0 t giver.1
        ])
