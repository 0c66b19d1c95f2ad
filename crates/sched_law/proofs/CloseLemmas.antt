-- Which workers there are, and what a closed scheduler stays.
use Rattle.std.proofs.Common.{◌≡◌, ℕ, ◌≤◌, true, false, List, [], ◌∷◌, Some, None, refl, sym, ◌∙◌, ap, subst, arith}
use Rattle.sched_law.specs.State.{at, set}
use Rattle.sched_law.proofs.SetLemmas.{set_else}
use Rattle.sched_law.specs.Team.{Deed, Does, IsHistory, May, Team, after, end_of, team_of}
use Rattle.sched_law.specs.Team.Deed.{submits, cancels, occupies, vacates, asks, leaves, ends, starts, settles, closes}
use Rattle.sched_law.specs.Team.Does.{away, waits, has}
use Rattle.sched_law.proofs.DecideLemmas.{decided_next}
use Rattle.sched_law.proofs.TeamLemmas.{away_has}

away_waits : away ≡ waits → ⊥
away_waits e = cc

true_false : true ≡ false → ⊥
true_false e = cc

-- ---- workers

abbrev IsWithin : ℕ → Team → Type 0
IsWithin workers t = (u : ℕ) → workers ≤ u → t.does u ≡ away

-- a worker that was not away does something else
within_set : (workers : ℕ) (t : Team) (x : ℕ) (old new : Does) → IsWithin workers t → t.does x ≡ old → (away ≡ old → ⊥)
    → (u : ℕ) → workers ≤ u → set t.does x new u ≡ away
within_set workers t x old new k was not_away u from =
    set_else t.does x new u (λ here. not_away (sym (k u from) ∙ ap t.does here ∙ was)) ∙ k u from

within_end : (workers : ℕ) (t : Team) (x j : ℕ) → IsWithin workers t → t.does x ≡ has j → IsWithin workers (end_of t x (t.does x))
within_end workers t x j k is =
    subst (λ d. IsWithin workers (end_of t x d)) (sym is) (within_set workers t x (has j) away k is (λ e. away_has e))

within_after : (workers : ℕ) (t : Team) (d : Deed) → IsWithin workers t → May workers t d → IsWithin workers (after t d)
within_after workers t (submits job) k may = k
within_after workers t (cancels j) k may = k
within_after workers t (occupies r) k may = k
within_after workers t (vacates r) k may = k
within_after workers t (asks x) k may = λ u from. set_else t.does x waits u (λ here. omega (arith, may.0, from, here)) ∙ k u from
within_after workers t (leaves x) k may = within_set workers t x waits away k may (λ e. away_waits e)
within_after workers t (ends x) k (j, is) = within_end workers t x j k is
within_after workers t (starts now x j v) k may = within_set workers t x waits (has j) k may.0 (λ e. away_waits e)
within_after workers t (settles now v) k may = k
within_after workers t closes k may = k

pub within : (dim patience workers : ℕ) (history : List Deed) → IsHistory dim patience workers history → IsWithin workers (team_of dim patience history)
within dim patience workers [] may = λ u from. refl
within dim patience workers (d ∷ history) (may, before) =
    within_after workers (team_of dim patience history) d (within dim patience workers history before) may

-- ---- the close

abbrev pub StaysClosed : Team → Team → Type 0
StaysClosed t s = (s.closed ≡ true) × (s.sched.next ≡ t.sched.next)

pub closed_after : (workers : ℕ) (t : Team) (d : Deed) → May workers t d → t.closed ≡ true → StaysClosed t (after t d)
closed_after workers t (submits job) may is = absurd (true_false (sym is ∙ may.0))
closed_after workers t (cancels j) may is = (is, refl)
closed_after workers t (occupies r) may is = (is, refl)
closed_after workers t (vacates r) may is = (is, refl)
closed_after workers t (asks u) may is = (is, refl)
closed_after workers t (leaves u) may is = (is, refl)
closed_after workers t (ends u) (j, has_j) is = subst (λ d. StaysClosed t (end_of t u d)) (sym has_j) (is, refl)
closed_after workers t (starts now u j v) may is = (is, decided_next (at now t.sched) v (Some j) may.2)
closed_after workers t (settles now v) may is = (is, decided_next (at now t.sched) v None may)
closed_after workers t closes may is = (refl, refl)
