-- A start lowers the number of waiting jobs, and a decision that starts nothing leaves a settled
-- state.
use Rattle.std.proofs.Common.{◌≡◌, ℕ, zero, suc, ◌+◌, ◌^◌, ◌<◌, ◌≤◌, inl, inr, min, Option, Some, None, refl, sym, ◌∙◌, ap, subst, arith}
use Rattle.std.proofs.lemmas.Bool.{cases_eq, cases_lt}
use Rattle.cube_shape.specs.declared.region.Region.{Region}
use Rattle.cube_shape.specs.Region.{block}
use Rattle.fit_tree.specs.Halves.{lower_half, upper_half}
use Rattle.sched_law.specs.declared.job.TheConstants.{NEVER}
use Rattle.sched_law.specs.declared.job.SchedWait.{SchedWait}
use Rattle.sched_law.specs.declared.job.Place.{Place}
use Rattle.sched_law.specs.declared.job.Place.TheVariants.{Waiting, Running}
use Rattle.sched_law.specs.declared.job.Reservation.{Reservation}
use Rattle.sched_law.specs.State.{Sched, Waits, at, end_after, set}
use Rattle.sched_law.specs.Policy.{AllEndBy, Decides, IsBlocked, IsBrief, IsFirst, IsHead, IsHeadBy, IsLatest, IsPassBlock, IsPassBlockBy, IsSettled, MayPass, Prepares}
use Rattle.sched_law.specs.Policy as policy
use Rattle.sched_law.specs.Law.{IsSafe, one_waits, waiting, waiting_below}
use Rattle.sched_law.proofs.SetLemmas.{absent_waits, set_else, set_here}
use Rattle.sched_law.proofs.PolicyLemmas.{end_grows, head_waits, rests}
use Rattle.sched_law.proofs.SafeLemmas.{prepare_same}
use Rattle.sched_law.proofs.LawLemmas.{IsPassage, starts_by}

-- ---- counts

waiting_same : (place : ℕ → Place) (j n : ℕ) (q : Place) → n ≤ j → waiting_below (set place j q) n ≡ waiting_below place n
waiting_same place j zero q above = refl
waiting_same place j (suc n) q above =
    let here : one_waits (set place j q n) ≡ one_waits (place n) = ap one_waits (set_else place j q n (λ at. omega (arith, above, at))) in
    let before : waiting_below (set place j q) n ≡ waiting_below place n = waiting_same place j n q (omega (arith, above)) in
    omega (arith, here, before)

-- the place of one job changes
waiting_set : (place : ℕ → Place) (j n : ℕ) (q : Place) → j < n → waiting_below (set place j q) n + one_waits (place j) ≡ waiting_below place n + one_waits q
waiting_set place j zero q below = absurd (omega (arith, below))
waiting_set place j (suc n) q below = elim (cases_eq n j) [
  | inl at ↦
      let here : one_waits (set place j q n) ≡ one_waits q = ap (λ x. one_waits (set place j q x)) at ∙ ap one_waits (set_here place j q) in
      let old : one_waits (place n) ≡ one_waits (place j) = ap (λ x. one_waits (place x)) at in
      let before : waiting_below (set place j q) n ≡ waiting_below place n = waiting_same place j n q (omega (arith, at)) in
      omega (arith, here, old, before)
  | inr other ↦
      let here : one_waits (set place j q n) ≡ one_waits (place n) = ap one_waits (set_else place j q n other) in
      let before : waiting_below (set place j q) n + one_waits (place j) ≡ waiting_below place n + one_waits q = waiting_set place j n q (omega (arith, below, other)) in
      omega (arith, here, before)
]

below_next : (w : Sched) (j : ℕ) (wait : SchedWait) → IsSafe w → Waits w j wait → j < w.next
below_next w j wait k is = elim (cases_lt j w.next) [
  | inl below ↦ below
  | inr past ↦ absurd (absent_waits (sym (k.absent j past) ∙ is))
]

pub one_less : (w v : Sched) (j : ℕ) → IsSafe w → Decides w (Some j) v → waiting v + 1 ≡ waiting w
one_less w v j k decides = elim (starts_by w v (Some j) j decides refl) [
  | inl p ↦
      let waits = head_waits w j p.head p.head_is in
      let was : one_waits (w.place j) ≡ 1 = ap one_waits waits in
      let less = waiting_set w.place j w.next (Running (record { job = p.head.job; block = block p.head.job.dim p.m; end = end_after w.now p.head.job.estimate })) (below_next w j p.head k waits) in
      subst (λ (x : Sched). waiting x + 1 ≡ waiting w) p.is (omega (arith, was, less))
  | inr p ↦ passage p
]
  where
    passage : IsPassage w j v → waiting v + 1 ≡ waiting w
    passage p = subst (λ (x : Sched). waiting x + 1 ≡ waiting w) p.is (omega (arith, was, less, passed, head, total))
      where
        same_place : (p.u).place ≡ w.place
        same_place = (prepare_same w p.u p.h p.head p.prepares).0

        same_next : (p.u).next ≡ w.next
        same_next = (prepare_same w p.u p.h p.head p.prepares).4

        head_is : Waits w p.h p.head
        head_is = head_waits w p.h p.head (p.blocked).0

        new : Place
        new = Waiting (record { job = p.head.job; passed = min (p.head.passed + 2 ^ p.wait.job.dim) NEVER })

        run : Place
        run = Running (record { job = p.wait.job; block = block p.wait.job.dim p.m; end = end_after (p.u).now p.wait.job.estimate })

        wait_is : Waits w j p.wait
        wait_is = ap (λ (f : ℕ → Place). f j) (sym same_place) ∙ (p.may).1

        was : one_waits (set (p.u).place p.h new j) ≡ 1
        was = ap one_waits (set_else (p.u).place p.h new j (p.may).0 ∙ (p.may).1)

        head : one_waits ((p.u).place p.h) ≡ 1
        head = ap (λ (f : ℕ → Place). one_waits (f p.h)) same_place ∙ ap one_waits head_is

        less : waiting_below (set (set (p.u).place p.h new) j run) (p.u).next + one_waits (set (p.u).place p.h new j) ≡ waiting_below (set (p.u).place p.h new) (p.u).next + 0
        less = waiting_set (set (p.u).place p.h new) j (p.u).next run (subst (λ n. j < n) (sym same_next) (below_next w j p.wait k wait_is))

        passed : waiting_below (set (p.u).place p.h new) (p.u).next + one_waits ((p.u).place p.h) ≡ waiting_below (p.u).place (p.u).next + 1
        passed = waiting_set (p.u).place p.h (p.u).next new (subst (λ n. p.h < n) (sym same_next) (below_next w p.h p.head k head_is))

        total : waiting_below (p.u).place (p.u).next ≡ waiting w
        total = ap (λ (f : ℕ → Place). waiting_below f (p.u).next) same_place ∙ ap (waiting_below w.place) same_next

-- ---- settled states

-- what a preparation leaves is prepared
prepared_again : (w v : Sched) (h : ℕ) (head : SchedWait) → IsBlocked w h head → Prepares w h head v → IsBlocked v h head × Prepares v h head v
prepared_again w _ h head blocked (policy.keeps reserved stands) = (blocked, policy.keeps reserved stands)
prepared_again w _ h head blocked (policy.defers r none chooses latest few) = (blocked, policy.defers r none chooses latest few)
prepared_again w _ h head blocked (policy.reserves r t none chooses latest enough) =
    (((refl, head_waits w h head blocked.0), blocked.1), policy.keeps (record { job = h; block = r }) refl)

pub settled_after : (w v : Sched) → Decides w None v → IsSettled v
settled_after w v decides = elim (rests w v None decides refl) [
  | inl (none, is) ↦ subst IsSettled is (policy.idles none)
  | inr (h, head, blocked, prepares, nobody) ↦
      let again = prepared_again w v h head blocked prepares in
      policy.waits h head v again.0 again.1 nobody
]

-- a job that may pass later might have passed before
module _ (w : Sched) (t : ℕ) (later : w.now ≤ t) where
  brief_before : (h j : ℕ) (wait : SchedWait) → MayPass (at t w) h j wait → ((m : ℕ) → IsPassBlock w wait.job m → ⊥) → ⊥
  brief_before h j wait may cannot = by w.reserved refl
    where
      by : (o : Option Reservation) → w.reserved ≡ o → ⊥
      by None none = cannot may.2.0 (subst (λ o. IsPassBlockBy o w wait.job may.2.0) (sym none) (subst (λ o. IsPassBlockBy o (at t w) wait.job may.2.0) none may.2.1))
      by (Some reserved) is = elim (subst (λ o. IsPassBlockBy o (at t w) wait.job may.2.0) is may.2.1) [
        | inl first ↦ cannot may.2.0 (subst (λ o. IsPassBlockBy o w wait.job may.2.0) (sym is) (inl first))
        | inr brief ↦
            let then = brief.1 in
            let sooner = end_grows w.now t wait.job.estimate later in
            cannot may.2.0 (subst (λ o. IsPassBlockBy o w wait.job may.2.0) (sym is) (inr (brief.0, (then.0, record { all = then.1.all; reached = then.1.reached }, then.2, omega (arith, then.3, sooner)), brief.2)))
      ]

  still_none : (h : ℕ) → ((j : ℕ) (wait : SchedWait) → MayPass w h j wait → ⊥) → (j : ℕ) (wait : SchedWait) → MayPass (at t w) h j wait → ⊥
  still_none h nobody j wait may = brief_before h j wait may (λ m is. nobody j wait (may.0, may.1, (m, is)))

  better_before : (a b : Region) → policy.IsBetter (at t w) a b → policy.IsBetter w a b
  better_before a b better = (better.0, better.1, record { all = better.2.all; reached = better.2.reached }, record { all = better.3.all; reached = better.3.reached }, better.4)

  better_then : (a b : Region) → policy.IsBetter w a b → policy.IsBetter (at t w) a b
  better_then a b better = (better.0, better.1, record { all = better.2.all; reached = better.2.reached }, record { all = better.3.all; reached = better.3.reached }, better.4)

  -- the same block is chosen
  chosen_then : (k : ℕ) (r s : Region) → policy.Chooses w k r s → policy.Chooses (at t w) k r s
  chosen_then k r s (policy.arrives _ dim) = policy.arrives r dim
  chosen_then k r s (policy.goes_lower _ _ more has not_upper rest) =
      policy.goes_lower r s more has (λ upper better. not_upper upper (better_before (upper_half r) (lower_half r) better)) (chosen_then k (lower_half r) s rest)
  chosen_then k r s (policy.goes_upper _ _ more has better rest) =
      policy.goes_upper r s more has (λ lower. better_then (upper_half r) (lower_half r) (better lower)) (chosen_then k (upper_half r) s rest)

  prepared_then : (h : ℕ) (head : SchedWait) (v : Sched) → Prepares w h head v → v ≡ w → Prepares (at t w) h head (at t w)
  prepared_then h head _ (policy.keeps reserved stands) is = policy.keeps reserved stands
  prepared_then h head _ (policy.defers r none chooses latest few) is =
      policy.defers r none (chosen_then head.job.dim (block w.dim 0) r chooses) (record { all = latest.all; reached = latest.reached }) few
  prepared_then h head _ (policy.reserves r s none chooses latest enough) is =
      policy.keeps (record { job = h; block = r }) (ap (λ (x : Sched). x.reserved) (sym is))

  -- and the head is the same
  head_before : (h : ℕ) (head : SchedWait) → IsHead (at t w) h head → IsHead w h head
  head_before h head is = by w.reserved is
    where
      by : (o : Option Reservation) → IsHeadBy o (at t w) h head → IsHeadBy o w h head
      by None is = is
      by (Some reserved) is = is

  head_then : (h : ℕ) (head : SchedWait) → IsHead w h head → IsHead (at t w) h head
  head_then h head is = by w.reserved is
    where
      by : (o : Option Reservation) → IsHeadBy o w h head → IsHeadBy o (at t w) h head
      by None is = is
      by (Some reserved) is = is

  pub settled_later : IsSettled w → IsSettled (at t w)
  settled_later settled = elim (rests w w None settled refl) [
    | inl (none, _) ↦ policy.idles (λ h head is. none h head (head_before h head is))
    | inr (h, head, blocked, prepares, nobody) ↦
        policy.waits h head (at t w) (head_then h head blocked.0, blocked.1) (prepared_then h head w prepares refl) (still_none h nobody)
  ]
