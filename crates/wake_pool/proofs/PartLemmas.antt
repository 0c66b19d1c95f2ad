-- How a change of one thread's phase, and of what goes with it, keeps each part of the invariant.
use Rattle.std.proofs.Common.{◌≡◌, ◌≢◌, ℕ, ◌-◌, ◌<◌, ◌≤◌, ◌⊎◌, inl, inr, Bool, true, false, cond, ltb, refl, sym, ◌∙◌, ap, subst, subst₂, arith, true≢false}
use Rattle.std.proofs.lemmas.Bool.{cases_eq, ltb-true, ltb-false}
use Rattle.wake_pool.specs.declared.phase.WakePhase.{WakePhase as Phase}
use Rattle.wake_pool.specs.declared.phase.WakePhase.TheVariants.{Idle, Waking, Giving, Calling, Searching, Found, Looking, Resting, Returning, Reading, Called, Checking, Parked}
use Rattle.wake_pool.specs.Schedule.{set, waking, looking, resting}
use Rattle.wake_pool.specs.Law.{HasRested, IsSearcher, HasToLook, IsWoken, IsCalled, GivesTo, CallsTo}
use Rattle.wake_pool.specs.Inner.Invariant.{Sleepers, Searchers, Lookers}
use Rattle.wake_pool.proofs.SetLemmas.{set_here, set_else, each, some_or, back}

-- ---- the phases after a look

-- what holds of both phases holds of the next one
pub waking_is : (F : Phase → Type 0) (words b : ℕ)
    → (b < words → F (Waking b))
    → (words ≤ b → F Idle)
    → F (waking words b)
waking_is F words b on over = turn (ltb b words) refl
  where
    turn : (c : Bool) → ltb b words ≡ c → F (cond c (Waking b) Idle)
    turn true e = on (ltb-true b words e)
    turn false e = over (ltb-false b words e)

pub looking_is : (F : Phase → Type 0) (lanes l : ℕ)
    → (l < lanes → F (Looking l))
    → (lanes ≤ l → F Idle)
    → F (looking lanes l)
looking_is F lanes l on over = turn (ltb l lanes) refl
  where
    turn : (c : Bool) → ltb l lanes ≡ c → F (cond c (Looking l) Idle)
    turn true e = on (ltb-true l lanes e)
    turn false e = over (ltb-false l lanes e)

pub resting_is : (F : Phase → Type 0) (lanes l : ℕ)
    → (l < lanes → F (Resting l))
    → (lanes ≤ l → F Reading)
    → F (resting lanes l)
resting_is F lanes l on over = turn (ltb l lanes) refl
  where
    turn : (c : Bool) → ltb l lanes ≡ c → F (cond c (Resting l) Reading)
    turn true e = on (ltb-true l lanes e)
    turn false e = over (ltb-false l lanes e)

-- a phase of a thread that is awake and searches for nothing
pub record IsAwake (q : Phase) : Type 0 where
  pub no_rest : HasRested q → ⊥
  pub no_search : (bit : Bool) → IsSearcher q bit → ⊥
  pub no_wake : (bit : Bool) → IsWoken q bit → ⊥
  pub no_call : (bit mail : Bool) → IsCalled q bit mail → ⊥

-- a phase of one that has set its bit, and may still find work
pub record IsLying (q : Phase) : Type 0 where
  pub rests : HasRested q
  pub searches : (bit : Bool) → bit ≡ false → IsSearcher q bit
  pub cleared : (bit : Bool) → IsSearcher q bit → bit ≡ false
  pub no_wake : (bit : Bool) → IsWoken q bit → ⊥
  pub no_call : (bit mail : Bool) → IsCalled q bit mail → ⊥

pub waking_awake : (words b : ℕ) → IsAwake (waking words b)
waking_awake words b = waking_is IsAwake words b
    (λ _. record { no_rest = λ r. r; no_search = λ _ s. s; no_wake = λ _ o. o; no_call = λ _ _ o. o })
    (λ _. record { no_rest = λ r. r; no_search = λ _ s. s; no_wake = λ _ o. o; no_call = λ _ _ o. o })

pub looking_awake : (lanes l : ℕ) → IsAwake (looking lanes l)
looking_awake lanes l = looking_is IsAwake lanes l
    (λ _. record { no_rest = λ r. r; no_search = λ _ s. s; no_wake = λ _ o. o; no_call = λ _ _ o. o })
    (λ _. record { no_rest = λ r. r; no_search = λ _ s. s; no_wake = λ _ o. o; no_call = λ _ _ o. o })

pub resting_lying : (lanes l : ℕ) → IsLying (resting lanes l)
resting_lying lanes l = resting_is IsLying lanes l
    (λ _. record { rests = tt; searches = λ _ e. e; cleared = λ _ e. e; no_wake = λ _ o. o; no_call = λ _ _ o. o })
    (λ _. record { rests = tt; searches = λ _ e. e; cleared = λ _ e. e; no_wake = λ _ o. o; no_call = λ _ _ o. o })

-- it has still to look at each word from b on, and at each lane from i on
pub waking_looks : (words b l c : ℕ) → b ≤ c → c < words → HasToLook (waking words b) l c
waking_looks words b l c at inside =
    waking_is (λ q. HasToLook q l c) words b (λ _. at) (λ over. omega (arith, at, inside, over))

pub looking_looks : (lanes i l c : ℕ) → i ≤ l → l < lanes → HasToLook (looking lanes i) l c
looking_looks lanes i l c at inside =
    looking_is (λ q. HasToLook q l c) lanes i (λ _. at) (λ over. omega (arith, at, inside, over))

pub resting_looks : (lanes i l c : ℕ) → i ≤ l → l < lanes → HasToLook (resting lanes i) l c
resting_looks lanes i l c at inside =
    resting_is (λ q. HasToLook q l c) lanes i (λ _. at) (λ over. omega (arith, at, inside, over))

-- ---- the lanes

-- a thread that has still to look at each lane and word is enough
pub lookers_by : {W : ℕ → ℕ} {lanes : ℕ} {J : ℕ → ℕ} {N B : ℕ → Bool} (n words : ℕ)
    → ((s : ℕ) → s < n → W s < words)
    → ((s : ℕ) → B s ≡ true → s < n)
    → (P : ℕ → Phase) (t : ℕ) (q : Phase)
    → ((l b : ℕ) → l < lanes → b < words → HasToLook q l b)
    → Lookers W lanes J N B (set P t q)
lookers_by {W = W} n words inside sleeper P t q looks = record {
  looked = λ s l bit here _. inr (
    t,
    subst (λ r. HasToLook r l (W s)) (sym (set_here P t q)) (looks l (W s) here (inside s (sleeper s bit))),
  );
}

-- and so is a searcher
pub lookers_searched : {W : ℕ → ℕ} {lanes : ℕ} {J : ℕ → ℕ} {N B : ℕ → Bool} {P : ℕ → Phase} (b : ℕ)
    → N b ≡ true
    → Lookers W lanes J N B P
lookers_searched b on = record { looked = λ _ _ _ _ _. inl (b, on) }

pub lookers_less : {W : ℕ → ℕ} {lanes : ℕ} {J : ℕ → ℕ} {N B : ℕ → Bool} {P : ℕ → Phase} (l : ℕ)
    → Lookers W lanes J N B P
    → Lookers W lanes (set J l (J l - 1)) N B P
lookers_less {J = J} l k = record {
  looked = λ t m bit here some_job. k.looked t m bit here
      (elim (back (λ _ j. 0 < j) J l (J l - 1) m some_job) [
        | inl (at, less) ↦ subst (λ i. 0 < J i) (sym at) (omega (arith, less))
        | inr (_, same) ↦ same
      ]);
}

pub lookers_goes : {W : ℕ → ℕ} {lanes : ℕ} {J : ℕ → ℕ} {N B : ℕ → Bool} {P : ℕ → Phase} (t : ℕ)
    (p q : Phase)
    → P t ≡ p
    → ((s l : ℕ) → B s ≡ true → l < lanes → 0 < J l → HasToLook p l (W s) → HasToLook q l (W s))
    → Lookers W lanes J N B P
    → Lookers W lanes J N B (set P t q)
lookers_goes {W = W} {N = N} {P = P} t p q is keeps k = record {
  looked = λ s l bit here some_job. elim (k.looked s l bit here some_job) [
    | inl on ↦ inl on
    | inr looker ↦ some_or ((b : ℕ) × (N b ≡ true)) (λ _ r. HasToLook r l (W s)) P t p q is
        (λ looks. inr (keeps s l bit here some_job looks)) looker
  ];
}

-- fewer bits
pub lookers_cleared : {W : ℕ → ℕ} {lanes : ℕ} {J : ℕ → ℕ} {N B C : ℕ → Bool} {P : ℕ → Phase}
    → ((s : ℕ) → C s ≡ true → B s ≡ true)
    → Lookers W lanes J N B P
    → Lookers W lanes J N C P
lookers_cleared was k = record {
  looked = λ s l bit here some_job. k.looked s l (was s bit) here some_job;
}

-- ---- the searchers

pub searchers_same : {W : ℕ → ℕ} {N B C : ℕ → Bool} {P Q : ℕ → Phase}
    → ((s : ℕ) → IsSearcher (P s) (B s) → IsSearcher (Q s) (C s))
    → ((s : ℕ) → IsSearcher (Q s) (C s) → IsSearcher (P s) (B s))
    → Searchers W N B P
    → Searchers W N C Q
searchers_same on off k = record {
  searcher = λ b is. let found = k.searcher b is in (found.0, found.1, on found.0 found.2);
  announced = λ s seeks. k.announced s (off s seeks);
  alone = λ s t a b. k.alone s t (off s a) (off t b);
}

-- one becomes the searcher of its word, which had none
pub searchers_begin : {W : ℕ → ℕ} {N B C : ℕ → Bool} {P Q : ℕ → Phase} (x : ℕ)
    → N (W x) ≡ false
    → IsSearcher (Q x) (C x)
    → ((s : ℕ) → s ≢ x → IsSearcher (P s) (B s) → IsSearcher (Q s) (C s))
    → ((s : ℕ) → s ≢ x → IsSearcher (Q s) (C s) → IsSearcher (P s) (B s))
    → Searchers W N B P
    → Searchers W (set N (W x) true) C Q
searchers_begin {W = W} {N = N} {C = C} {Q = Q} x off_before seeks on off k = record {
  searcher = λ b is. elim (cases_eq b (W x)) [
    | inl at ↦ (x, sym at, seeks)
    | inr other ↦ let found = k.searcher b (sym (set_else N (W x) true b other) ∙ is) in
        elim (cases_eq found.0 x) [
          | inl same ↦ absurd (other (sym found.1 ∙ ap W same))
          | inr unlike ↦ (found.0, found.1, on found.0 unlike found.2)
        ]
  ];
  announced = λ s a. elim (cases_eq (W s) (W x)) [
    | inl at ↦ subst (λ i. set N (W x) true i ≡ true) (sym at) (set_here N (W x) true)
    | inr other ↦ set_else N (W x) true (W s) other ∙ k.announced s (off s (λ same. other (ap W same)) a)
  ];
  alone = λ s t a b same. elim (cases_eq (W s) (W x)) [
    | inl at ↦ only s a at ∙ sym (only t b (sym same ∙ at))
    | inr other ↦ k.alone s t (off s (λ e. other (ap W e)) a) (off t (λ e. other (same ∙ ap W e)) b) same
  ];
}
  where
    only : (s : ℕ) → IsSearcher (Q s) (C s) → W s ≡ W x → s ≡ x
    only s a at = elim (cases_eq s x) [
      | inl same ↦ same
      | inr other ↦ absurd (true≢false (sym (k.announced s (off s other a)) ∙ ap N at ∙ off_before))
    ]

-- the searcher of a word is none any more
pub searchers_end : {W : ℕ → ℕ} {N B C : ℕ → Bool} {P Q : ℕ → Phase} (t : ℕ)
    → IsSearcher (P t) (B t)
    → (IsSearcher (Q t) (C t) → ⊥)
    → ((s : ℕ) → s ≢ t → IsSearcher (P s) (B s) → IsSearcher (Q s) (C s))
    → ((s : ℕ) → s ≢ t → IsSearcher (Q s) (C s) → IsSearcher (P s) (B s))
    → Searchers W N B P
    → Searchers W (set N (W t) false) C Q
searchers_end {W = W} {N = N} {C = C} {Q = Q} t was is_not on off k = record {
  searcher = λ b is. elim (cases_eq b (W t)) [
    | inl at ↦ absurd (true≢false (sym is ∙ subst (λ i. set N (W t) false i ≡ false) (sym at) (set_here N (W t) false)))
    | inr other ↦ let found = k.searcher b (sym (set_else N (W t) false b other) ∙ is) in
        (found.0, found.1, on found.0 (λ same. other (sym found.1 ∙ ap W same)) found.2)
  ];
  announced = λ s a. let unlike = apart s a in
      set_else N (W t) false (W s) (λ same. unlike (k.alone s t (off s unlike a) was same))
      ∙ k.announced s (off s unlike a);
  alone = λ s r a b same. k.alone s r (off s (apart s a) a) (off r (apart r b) b) same;
}
  where
    apart : (s : ℕ) → IsSearcher (Q s) (C s) → s ≢ t
    apart s a at = is_not (subst (λ i. IsSearcher (Q i) (C i)) at a)

-- a phase changes, and the bits stay
pub searcher_on : (B : ℕ → Bool) (P : ℕ → Phase) (t : ℕ) (p q : Phase)
    → P t ≡ p
    → (IsSearcher p (B t) → IsSearcher q (B t))
    → (s : ℕ) → IsSearcher (P s) (B s) → IsSearcher (set P t q s) (B s)
searcher_on B P t p q is keeps s a = elim (cases_eq s t) [
  | inl at ↦ let here : IsSearcher p (B t) = subst (λ r. IsSearcher r (B t)) is (subst (λ i. IsSearcher (P i) (B i)) at a) in
      subst (λ i. IsSearcher (set P t q i) (B i)) (sym at)
      (subst (λ r. IsSearcher r (B t)) (sym (set_here P t q)) (keeps here))
  | inr other ↦ subst (λ r. IsSearcher r (B s)) (sym (set_else P t q s other)) a
]

pub searcher_off : (B : ℕ → Bool) (P : ℕ → Phase) (t : ℕ) (p q : Phase)
    → P t ≡ p
    → (IsSearcher q (B t) → IsSearcher p (B t))
    → (s : ℕ) → IsSearcher (set P t q s) (B s) → IsSearcher (P s) (B s)
searcher_off B P t p q is keeps s a = elim (back (λ i r. IsSearcher r (B i)) P t q s a) [
  | inl (at, new) ↦ subst (λ i. IsSearcher (P i) (B i)) (sym at) (subst (λ r. IsSearcher r (B t)) (sym is) (keeps new))
  | inr (_, old) ↦ old
]

pub searchers_goes : {W : ℕ → ℕ} {N B : ℕ → Bool} {P : ℕ → Phase} (t : ℕ) (p q : Phase)
    → P t ≡ p
    → (IsSearcher p (B t) → IsSearcher q (B t))
    → (IsSearcher q (B t) → IsSearcher p (B t))
    → Searchers W N B P
    → Searchers W N B (set P t q)
searchers_goes {B = B} {P = P} t p q is on off =
    searchers_same (searcher_on B P t p q is on) (searcher_off B P t p q is off)

-- another thread's phase and bit are as before
pub searches_else : (B : ℕ → Bool) (P : ℕ → Phase) (t : ℕ) (q : Phase) (b : Bool) (s : ℕ)
    → s ≢ t
    → IsSearcher (set P t q s) (set B t b s)
    → IsSearcher (P s) (B s)
searches_else B P t q b s other a = subst₂ IsSearcher (set_else P t q s other) (set_else B t b s other) a

pub searches_on : (B : ℕ → Bool) (P : ℕ → Phase) (t : ℕ) (q : Phase) (b : Bool) (s : ℕ)
    → s ≢ t
    → IsSearcher (P s) (B s)
    → IsSearcher (set P t q s) (set B t b s)
searches_on B P t q b s other a =
    subst₂ IsSearcher (sym (set_else P t q s other)) (sym (set_else B t b s other)) a

pub searches_here : (B : ℕ → Bool) (P : ℕ → Phase) (t : ℕ) (q : Phase) (b : Bool)
    → IsSearcher (set P t q t) (set B t b t)
    → IsSearcher q b
searches_here B P t q b a = subst₂ IsSearcher (set_here P t q) (set_here B t b) a

-- a thread that is no searcher changes its bit and is none after it
pub searchers_bit : {W : ℕ → ℕ} {N B : ℕ → Bool} {P : ℕ → Phase} (t : ℕ) (p q : Phase) (b : Bool)
    → P t ≡ p
    → (IsSearcher p (B t) → ⊥)
    → (IsSearcher q b → ⊥)
    → Searchers W N B P
    → Searchers W N (set B t b) (set P t q)
searchers_bit {B = B} {P = P} t p q b is before after k = searchers_same on off k
  where
    on : (s : ℕ) → IsSearcher (P s) (B s) → IsSearcher (set P t q s) (set B t b s)
    on s a = elim (cases_eq s t) [
      | inl at ↦ absurd (before (subst (λ r. IsSearcher r (B t)) is (subst (λ i. IsSearcher (P i) (B i)) at a)))
      | inr other ↦ searches_on B P t q b s other a
    ]

    off : (s : ℕ) → IsSearcher (set P t q s) (set B t b s) → IsSearcher (P s) (B s)
    off s a = elim (cases_eq s t) [
      | inl at ↦ absurd (after (searches_here B P t q b (subst (λ i. IsSearcher (set P t q i) (set B t b i)) at a)))
      | inr other ↦ searches_else B P t q b s other a
    ]

-- ---- bits, tokens and mailboxes

-- The bits, tokens and mailboxes B, K and M become C, J and L. `Owed` says that a thread is owed
-- its token, `Gives` that a thread in a phase gives it.
given_kept : (Owed : Phase → Bool → Bool → Type 0) (Gives : Phase → ℕ → Type 0)
    (B C K J M L : ℕ → Bool) (P : ℕ → Phase) (t : ℕ) (p q : Phase)
    → P t ≡ p
    → (Owed q (C t) (L t) → Owed p (B t) (M t) × (J t ≡ K t))
    → ((s : ℕ) → s ≢ t → Owed (P s) (C s) (L s) → Owed (P s) (B s) (M s) ⊎ Gives q s)
    → ((s : ℕ) → s ≢ t → K s ≡ true → J s ≡ true)
    → ((s : ℕ) → Gives p s → Owed (set P t q s) (C s) (L s) → (J s ≡ true) ⊎ Gives q s)
    → ((s : ℕ) → Owed (P s) (B s) (M s) → (K s ≡ true) ⊎ ((r : ℕ) × Gives (P r) s))
    → (s : ℕ) → Owed (set P t q s) (C s) (L s)
    → (J s ≡ true) ⊎ ((r : ℕ) × Gives (set P t q r) s)
given_kept Owed Gives B C K J M L P t p q is own others tokens gives before s now = elim (cases_eq s t) [
  | inl at ↦ let here : Owed q (C t) (L t) = subst (λ r. Owed r (C t) (L t)) (set_here P t q) (subst (λ i. Owed (set P t q i) (C i) (L i)) at now) in
      let old : Owed (P t) (B t) (M t) = subst (λ r. Owed r (B t) (M t)) (sym is) (own here).0 in
      elim (before s (subst (λ i. Owed (P i) (B i) (M i)) (sym at) old)) [
        | inl ready ↦ inl (subst (λ i. J i ≡ true) (sym at) ((own here).1 ∙ subst (λ i. K i ≡ true) at ready))
        | inr giver ↦ passes giver
      ]
  | inr other ↦ elim (others s other (subst (λ r. Owed r (C s) (L s)) (set_else P t q s other) now)) [
    | inl old ↦ elim (before s old) [
      | inl ready ↦ inl (tokens s other ready)
      | inr giver ↦ passes giver
    ]
    | inr new ↦ inr (t, subst (λ r. Gives r s) (sym (set_here P t q)) new)
  ]
]
  where
    passes : ((r : ℕ) × Gives (P r) s) → (J s ≡ true) ⊎ ((r : ℕ) × Gives (set P t q r) s)
    passes giver = some_or (J s ≡ true) (λ _ r. Gives r s) P t p q is (λ g. gives s g now) giver

-- a thread that is called has its bit set
called_bit : (p : Phase) (b m : Bool) → IsCalled p b m → b ≡ true
called_bit Idle b m o = absurd o
called_bit (Waking c) b m o = absurd o
called_bit (Giving x) b m o = absurd o
called_bit (Calling x) b m o = absurd o
called_bit Searching b m o = absurd o
called_bit Found b m o = absurd o
called_bit (Looking l) b m o = absurd o
called_bit (Resting l) b m o = absurd o
called_bit Returning b m o = absurd o
called_bit Reading b m o = absurd o
called_bit Called b m o = absurd o
called_bit Checking b m o = o.0
called_bit Parked b m o = o.0

pub record Wakes (B C K J M L : ℕ → Bool) (P : ℕ → Phase) (t : ℕ) (p q : Phase) : Type 0 where
  -- the thread is owed its token only if it was before
  pub own_wake : IsWoken q (C t) → IsWoken p (B t) × (J t ≡ K t)
  pub own_call : IsCalled q (C t) (L t) → IsCalled p (B t) (M t) × (J t ≡ K t)
  -- another one too, or it gives the token next
  pub wakes : (s : ℕ) → s ≢ t → IsWoken (P s) (C s) → IsWoken (P s) (B s) ⊎ GivesTo q s
  pub calls : (s : ℕ) → s ≢ t → IsCalled (P s) (C s) (L s)
      → IsCalled (P s) (B s) (M s) ⊎ CallsTo q s
  -- no other token is consumed
  pub tokens : (s : ℕ) → s ≢ t → K s ≡ true → J s ≡ true
  -- if it was to give a token, it has done so, or still gives it next
  pub gives_wake : (s : ℕ) → GivesTo p s → (J s ≡ true) ⊎ GivesTo q s
  pub gives_call : (s : ℕ) → CallsTo p s → C s ≡ true → (J s ≡ true) ⊎ CallsTo q s

pub sleepers_kept : {n : ℕ} {B C K J M L : ℕ → Bool} {P : ℕ → Phase} (t : ℕ) (p q : Phase)
    → P t ≡ p
    → (C t ≡ true → (t < n) × HasRested q)
    → ((s : ℕ) → s ≢ t → C s ≡ true → B s ≡ true)
    → Wakes B C K J M L P t p q
    → Sleepers n B K M P
    → Sleepers n C J L (set P t q)
sleepers_kept {n = n} {B = B} {C = C} {K = K} {J = J} {M = M} {L = L} {P = P} t p q is own bits w k = record {
  rested = each (λ s r. C s ≡ true → HasRested r) P t q (λ bit. (own bit).1) (λ s other bit. k.rested s (bits s other bit));
  sleeper = λ s bit. elim (cases_eq s t) [
    | inl at ↦ subst (λ i. i < n) (sym at) (own (subst (λ i. C i ≡ true) at bit)).0
    | inr other ↦ k.sleeper s (bits s other bit)
  ];
  woken = given_kept (λ r b _. IsWoken r b) GivesTo B C K J M L P t p q is w.own_wake w.wakes w.tokens (λ s g _. w.gives_wake s g) k.woken;
  called = given_kept IsCalled CallsTo B C K J M L P t p q is w.own_call w.calls w.tokens (λ s g o. w.gives_call s g (called_bit (set P t q s) (C s) (L s) o)) k.called;
}

-- only a phase changes
pub goes_wakes : {B K M : ℕ → Bool} {P : ℕ → Phase} (t : ℕ) (p q : Phase)
    → (IsWoken q (B t) → IsWoken p (B t))
    → (IsCalled q (B t) (M t) → IsCalled p (B t) (M t))
    → ((s : ℕ) → GivesTo p s → GivesTo q s)
    → ((s : ℕ) → CallsTo p s → B s ≡ true → CallsTo q s)
    → Wakes B B K K M M P t p q
goes_wakes t p q woken called gives calls = record {
  own_wake = λ o. (woken o, refl);
  own_call = λ o. (called o, refl);
  wakes = λ s _ o. inl o;
  calls = λ s _ o. inl o;
  tokens = λ s _ e. e;
  gives_wake = λ s g. inr (gives s g);
  gives_call = λ s g bit. inr (calls s g bit);
}

-- a thread that gives no token changes its own bit
pub bit_wakes : {B K M : ℕ → Bool} {P : ℕ → Phase} (t : ℕ) (p q : Phase) (b : Bool)
    → ((bit : Bool) → IsWoken q bit → ⊥)
    → ((bit mail : Bool) → IsCalled q bit mail → ⊥)
    → ((s : ℕ) → CallsTo p s → ⊥)
    → ((s : ℕ) → GivesTo p s → ⊥)
    → Wakes B (set B t b) K K M M P t p q
bit_wakes {B = B} {M = M} {P = P} t p q b woken called calls gives = record {
  own_wake = λ o. absurd (woken (set B t b t) o);
  own_call = λ o. absurd (called (set B t b t) (M t) o);
  wakes = λ s other o. inl (subst (IsWoken (P s)) (set_else B t b s other) o);
  calls = λ s other o. inl (subst (λ c. IsCalled (P s) c (M s)) (set_else B t b s other) o);
  tokens = λ s _ e. e;
  gives_wake = λ s g. absurd (gives s g);
  gives_call = λ s g _. absurd (calls s g);
}
