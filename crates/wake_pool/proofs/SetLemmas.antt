-- A function that is changed at one place.
use Rattle.std.proofs.Common.{◌≡◌, ◌≢◌, ℕ, ◌<◌, ◌⊎◌, inl, inr, Bool, true, false, cond, eqb, ◌&&◌, refl, sym, ◌∙◌, ap, true≢false, subst, suc, zero, arith}
use Rattle.std.proofs.lemmas.Bool.{cases_eq, ne_eqb, eq-eqb}
use Rattle.wake_pool.specs.Schedule.{World, set, none_asleep}

pub set_here : {A : Type 0} (f : ℕ → A) (u : ℕ) (x : A) → set f u x u ≡ x
set_here f u x = ap (λ b. cond b x (f u)) (eq-eqb u u refl)

pub set_else : {A : Type 0} (f : ℕ → A) (u : ℕ) (x : A) (t : ℕ) → t ≢ u → set f u x t ≡ f t
set_else f u x t other = ap (λ b. cond b x (f t)) (ne_eqb t u other)

-- a value that is there already
pub set_same : {A : Type 0} (f : ℕ → A) (u : ℕ) (x : A) → f u ≡ x → (t : ℕ) → set f u x t ≡ f t
set_same f u x is t = elim (cases_eq t u) [
  | inl at ↦ subst (λ i. set f u x i ≡ f i) (sym at) (set_here f u x ∙ sym is)
  | inr other ↦ set_else f u x t other
]

-- what holds of the new value, and of the old ones elsewhere, holds of all
pub each : {A : Type 0} (F : ℕ → A → Type 0) (f : ℕ → A) (u : ℕ) (x : A)
    → F u x
    → ((t : ℕ) → t ≢ u → F t (f t))
    → (t : ℕ) → F t (set f u x t)
each F f u x here others t = elim (cases_eq t u) [
  | inl at ↦ subst (λ i. F i (set f u x i)) (sym at) (subst (F u) (sym (set_here f u x)) here)
  | inr other ↦ subst (F t) (sym (set_else f u x t other)) (others t other)
]

-- a place where something holds stays one, or something else holds
pub some_or : {A : Type 0} (R : Type 0) (F : ℕ → A → Type 0) (f : ℕ → A) (u : ℕ) (p q : A)
    → f u ≡ p
    → (F u p → R ⊎ F u q)
    → ((s : ℕ) × F s (f s))
    → R ⊎ ((s : ℕ) × F s (set f u q s))
some_or R F f u p q is keeps (s, holds) = elim (cases_eq s u) [
  | inl at ↦ elim (keeps (subst (F u) is (subst (λ i. F i (f i)) at holds))) [
    | inl r ↦ inl r
    | inr new ↦ inr (u, subst (F u) (sym (set_here f u q)) new)
  ]
  | inr other ↦ inr (s, subst (F s) (sym (set_else f u q s other)) holds)
]

-- what holds of a value after the change held before, or holds of the new one
pub back : {A : Type 0} (F : ℕ → A → Type 0) (f : ℕ → A) (u : ℕ) (q : A) (t : ℕ)
    → F t (set f u q t)
    → ((t ≡ u) × F u q) ⊎ ((t ≢ u) × F t (f t))
back F f u q t holds = elim (cases_eq t u) [
  | inl at ↦ inl (at, subst (F u) (set_here f u q) (subst (λ i. F i (set f u q i)) at holds))
  | inr other ↦ inr (other, subst (F t) (set_else f u q t other) holds)
]

-- a bit that is set after a clear was so before, and is another
pub still_set : (B : ℕ → Bool) (x s : ℕ) → set B x false s ≡ true → (s ≢ x) × (B s ≡ true)
still_set B x s bit = elim (back (λ _ b. b ≡ true) B x false s bit) [
  | inl (_, e) ↦ absurd (true≢false (sym e))
  | inr found ↦ found
]

pub none_below : (b n : ℕ) (w : World) → none_asleep b n w ≡ true → (t : ℕ) → t < n → w.word t ≡ b
    → w.asleep t ≡ false
none_below b zero w none t below in_word = absurd (omega (arith, below))
none_below b (suc n) w none t below in_word =
    turn (w.asleep n) (eqb (w.word n) b) refl refl none (λ e. none_below b n w e t)
  where
    turn : (a c : Bool) → w.asleep n ≡ a → eqb (w.word n) b ≡ c
        → cond (a && c) false (none_asleep b n w) ≡ true
        → (none_asleep b n w ≡ true → t < n → w.word t ≡ b → w.asleep t ≡ false)
        → w.asleep t ≡ false
    turn true true is same e rest = absurd (true≢false (sym e))
    turn true false is same e rest = elim (cases_eq t n) [
      | inl at ↦ absurd (true≢false (sym (eq-eqb (w.word n) b (subst (λ i. w.word i ≡ b) at in_word)) ∙ same))
      | inr other ↦ rest e (omega (arith, below, other)) in_word
    ]
    turn false c is same e rest = elim (cases_eq t n) [
      | inl at ↦ subst (λ i. w.asleep i ≡ false) (sym at) is
      | inr other ↦ rest e (omega (arith, below, other)) in_word
    ]
