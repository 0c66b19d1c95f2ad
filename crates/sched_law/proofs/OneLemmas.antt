-- There is one decision in a state.
use Rattle.std.proofs.Common.{◌≡◌, ℕ, ◌+◌, ◌^◌, inl, inr, Option, Some, None, refl, sym, ◌∙◌, ap, subst, arith}
use Rattle.std.proofs.lemmas.Bool.{cases_lt}
use Rattle.cube_shape.specs.declared.region.Region.{Region}
use Rattle.cube_shape.specs.Region.{block}
use Rattle.fit_tree.specs.Halves.{lower_half, upper_half}
use Rattle.fit_tree.proofs.CountLemmas.{count_unique}
use Rattle.sched_law.specs.declared.job.TheConstants.{NEVER}
use Rattle.sched_law.specs.declared.job.SchedJob.{SchedJob}
use Rattle.sched_law.specs.declared.job.SchedWait.{SchedWait}
use Rattle.sched_law.specs.declared.job.Reservation.{Reservation}
use Rattle.sched_law.specs.State.{Sched, Waits, IsVacant, pass, reserve, start}
use Rattle.sched_law.specs.Policy.{Chooses, Decides, HasNone, IsBetter, IsBlocked, IsFirst, IsHead, IsLatest, IsPassBlock, IsPassBlockBy, IsVacantBeside, MayPass, Precedes, Prepares}
use Rattle.sched_law.specs.Policy as policy
use Rattle.sched_law.proofs.SetLemmas.{none_is_some}
use Rattle.sched_law.proofs.PolicyLemmas.{head_waits, latest_least, one_head, one_wait}

first_one : (n k : ℕ) (P : Region → Type 0) (a b : ℕ) → IsFirst n k P a → IsFirst n k P b → a ≡ b
first_one n k P a b is_a is_b = elim (cases_lt a b) [
  | inl less ↦ absurd (is_b.least a less is_a.right)
  | inr from ↦ elim (cases_lt b a) [
    | inl less ↦ absurd (is_a.least b less is_b.right)
    | inr upto ↦ omega (arith, from, upto)
  ]
]

latest_one : (w : Sched) (r : Region) (s t : ℕ) → IsLatest w r s → IsLatest w r t → s ≡ t
latest_one w r s t is_s is_t = omega (arith, latest_least w r s t is_s is_t.all, latest_least w r t s is_t is_s.all)

-- two blocks are not each better than the other
better_once : (w : Sched) (a b : Region) → IsBetter w a b → IsBetter w b a → ⊥
better_once w a b (s, t, is_s, is_t, one) (x, y, is_x, is_y, other) =
    let left : t ≡ x = latest_one w b t x is_t is_x in
    let right : s ≡ y = latest_one w a s y is_s is_y in
    elim one [
      | inl less ↦ elim other [
        | inl more ↦ omega (arith, left, right, less, more)
        | inr equal ↦ omega (arith, left, right, less, equal.0)
      ]
      | inr (same, counts) ↦ elim other [
        | inl more ↦ omega (arith, left, right, same, more)
        | inr (_, others) ↦
            let of_a : counts.0 ≡ others.1 = count_unique (λ i. policy.IsBusy w (a.base + i)) (2 ^ a.dim) counts.0 others.1 counts.2 others.3 in
            let of_b : counts.1 ≡ others.0 = count_unique (λ i. policy.IsBusy w (b.base + i)) (2 ^ b.dim) counts.1 others.0 counts.3 others.2 in
            omega (arith, of_a, of_b, counts.4, others.4)
      ]
    ]

chooses_one : (w : Sched) (k : ℕ) (r s t : Region) → Chooses w k r s → Chooses w k r t → s ≡ t
chooses_one w k r _ _ (policy.arrives _ dim) (policy.arrives _ other) = refl
chooses_one w k r _ t (policy.arrives _ dim) (policy.goes_lower _ _ more has not_upper rest) = absurd (omega (arith, dim, more))
chooses_one w k r _ t (policy.arrives _ dim) (policy.goes_upper _ _ more has better rest) = absurd (omega (arith, dim, more))
chooses_one w k r s _ (policy.goes_lower _ _ more has not_upper rest) (policy.arrives _ dim) = absurd (omega (arith, dim, more))
chooses_one w k r s _ (policy.goes_upper _ _ more has better rest) (policy.arrives _ dim) = absurd (omega (arith, dim, more))
chooses_one w k r s t (policy.goes_lower _ _ more has not_upper rest) (policy.goes_lower _ _ _ _ _ other) = chooses_one w k (lower_half r) s t rest other
chooses_one w k r s t (policy.goes_upper _ _ more has better rest) (policy.goes_upper _ _ _ _ _ other) = chooses_one w k (upper_half r) s t rest other
chooses_one w k r s t (policy.goes_lower _ _ more has not_upper rest) (policy.goes_upper _ _ _ upper better other) = absurd (not_upper upper (better has))
chooses_one w k r s t (policy.goes_upper _ _ more upper better rest) (policy.goes_lower _ _ _ has not_upper other) = absurd (not_upper upper (better has))

prepares_one : (w u v : Sched) (h : ℕ) (head : SchedWait) → Prepares w h head u → Prepares w h head v → u ≡ v
prepares_one w _ _ h head (policy.keeps a is_a) (policy.keeps b is_b) = refl
prepares_one w _ _ h head (policy.keeps a is_a) (policy.defers r none chooses latest few) = absurd (none_is_some (sym none ∙ is_a))
prepares_one w _ _ h head (policy.keeps a is_a) (policy.reserves r t none chooses latest enough) = absurd (none_is_some (sym none ∙ is_a))
prepares_one w _ _ h head (policy.defers r none chooses latest few) (policy.keeps b is_b) = absurd (none_is_some (sym none ∙ is_b))
prepares_one w _ _ h head (policy.reserves r t none chooses latest enough) (policy.keeps b is_b) = absurd (none_is_some (sym none ∙ is_b))
prepares_one w _ _ h head (policy.defers r none chooses latest few) (policy.defers s _ other is small) = refl
prepares_one w _ _ h head (policy.defers r none chooses latest few) (policy.reserves s t _ other is enough) =
    let same : s ≡ r = chooses_one w head.job.dim (block w.dim 0) s r other chooses in
    let never = latest_one w r t NEVER (subst (λ x. IsLatest w x t) same is) latest in
    absurd (elim enough [ inl known ↦ omega (arith, known, never) | inr many ↦ omega (arith, many, few) ])
prepares_one w _ _ h head (policy.reserves s t none other is enough) (policy.defers r _ chooses latest few) =
    let same : s ≡ r = chooses_one w head.job.dim (block w.dim 0) s r other chooses in
    let never = latest_one w r t NEVER (subst (λ x. IsLatest w x t) same is) latest in
    absurd (elim enough [ inl known ↦ omega (arith, known, never) | inr many ↦ omega (arith, many, few) ])
prepares_one w _ _ h head (policy.reserves r s none chooses latest enough) (policy.reserves q t _ other is many) =
    ap (λ x. reserve h x w) (chooses_one w head.job.dim (block w.dim 0) r q chooses other)

block_one : (v : Sched) (job : SchedJob) (m i : ℕ) → IsPassBlock v job m → IsPassBlock v job i → m ≡ i
block_one v job m i one other = by v.reserved one other
  where
    by : (o : Option Reservation) → IsPassBlockBy o v job m → IsPassBlockBy o v job i → m ≡ i
    by None a b = first_one v.dim job.dim (IsVacant v) m i a b
    by (Some reserved) (inl a) (inl b) = first_one v.dim job.dim (IsVacantBeside v reserved.block) m i a b
    by (Some reserved) (inl a) (inr b) = absurd (b.0 m a.in_cube a.right)
    by (Some reserved) (inr a) (inl b) = absurd (a.0 i b.in_cube b.right)
    by (Some reserved) (inr a) (inr b) = first_one v.dim job.dim (IsVacant v) m i a.2 b.2

-- of two jobs of which neither precedes the other, both are the same
same_place : (i j : ℕ) (first second : SchedJob) → (Precedes i first j second → ⊥) → (Precedes j second i first → ⊥) → i ≡ j
same_place i j first second none other = elim (cases_lt first.class second.class) [
  | inl less ↦ absurd (none (inl less))
  | inr from ↦ elim (cases_lt second.class first.class) [
    | inl more ↦ absurd (other (inl more))
    | inr upto ↦
        let equal : first.class ≡ second.class = omega (arith, from, upto) in
        elim (cases_lt i j) [
          | inl before ↦ absurd (none (inr (equal, before)))
          | inr after ↦ elim (cases_lt j i) [
            | inl before ↦ absurd (other (inr (sym equal, before)))
            | inr upto_j ↦ omega (arith, after, upto_j)
          ]
        ]
  ]
]

-- there is one head, with one wait
module _ (w : Sched) (h i : ℕ) (head other : SchedWait) (is_h : IsHead w h head) (is_i : IsHead w i other) where
  head_place : h ≡ i
  head_place = one_head w h i head other is_h is_i

  head_wait : head ≡ other
  head_wait = one_wait w i head other (subst (λ x. Waits w x head) head_place (head_waits w h head is_h)) (head_waits w i other is_i)

-- a head that is blocked does not start
blocked_starts : (w : Sched) (h i m : ℕ) (head other : SchedWait) → IsBlocked w h head → IsHead w i other → IsFirst w.dim other.job.dim (IsVacant w) m → ⊥
blocked_starts w h i m head other blocked is first =
    let none : HasNone w.dim other.job.dim (IsVacant w) = subst (λ (x : SchedWait). HasNone w.dim x.job.dim (IsVacant w)) (head_wait w h i head other blocked.0 is) blocked.1 in
    none m first.in_cube first.right

-- what the same head prepares
prepared_one : (w u v : Sched) (h i : ℕ) (head other : SchedWait) → IsBlocked w h head → IsBlocked w i other → Prepares w h head u → Prepares w i other v → u ≡ v
prepared_one w u v h i head other one two is_u is_v =
    let place = head_place w h i head other one.0 two.0 in
    let wait = head_wait w h i head other one.0 two.0 in
    prepares_one w u v i other (subst (λ x. Prepares w i x u) wait (subst (λ x. Prepares w x head u) place is_u)) is_v

pub decide_one : (w u v : Sched) (a b : Option ℕ) → Decides w a u → Decides w b v → (a ≡ b) × (u ≡ v)
decide_one w _ _ _ _ (policy.idles none) (policy.idles _) = (refl, refl)
decide_one w _ _ _ _ (policy.idles none) (policy.starts h m head is first) = absurd (none h head is)
decide_one w _ _ _ _ (policy.idles none) (policy.passes h j m head wait v blocked prepares may first block_is) = absurd (none h head blocked.0)
decide_one w _ v _ _ (policy.idles none) (policy.waits h head _ blocked prepares nobody) = absurd (none h head blocked.0)
decide_one w _ _ _ _ (policy.starts h m head is first) (policy.idles none) = absurd (none h head is)
decide_one w _ _ _ _ (policy.passes h j m head wait v blocked prepares may first block_is) (policy.idles none) = absurd (none h head blocked.0)
decide_one w u _ _ _ (policy.waits h head _ blocked prepares nobody) (policy.idles none) = absurd (none h head blocked.0)
decide_one w _ _ _ _ (policy.starts h m head is first) (policy.passes i j n other wait v blocked prepares may least block_is) = absurd (blocked_starts w i h m other head blocked is first)
decide_one w _ v _ _ (policy.starts h m head is first) (policy.waits i other _ blocked prepares nobody) = absurd (blocked_starts w i h m other head blocked is first)
decide_one w _ _ _ _ (policy.passes i j n other wait v blocked prepares may least block_is) (policy.starts h m head is first) = absurd (blocked_starts w i h m other head blocked is first)
decide_one w u _ _ _ (policy.waits i other _ blocked prepares nobody) (policy.starts h m head is first) = absurd (blocked_starts w i h m other head blocked is first)
decide_one w _ _ _ _ (policy.starts h m head is first) (policy.starts i n other is_i second) =
    let place = head_place w h i head other is is_i in
    let wait = head_wait w h i head other is is_i in
    let block_same : m ≡ n = first_one w.dim other.job.dim (IsVacant w) m n (subst (λ (x : SchedWait). IsFirst w.dim x.job.dim (IsVacant w) m) wait first) second in
    (ap (λ (x : ℕ). Some x) place, ap (λ x. start x head.job (block head.job.dim m) w) place ∙ ap (λ (x : SchedWait). start i x.job (block x.job.dim m) w) wait ∙ ap (λ x. start i other.job (block other.job.dim x) w) block_same)
decide_one w _ _ _ _ (policy.passes h j m head wait u blocked prepares may first block_is) (policy.passes i l n other late v blocked_i prepares_i may_l second is) =
    let place = head_place w h i head other blocked.0 blocked_i.0 in
    let head_same = head_wait w h i head other blocked.0 blocked_i.0 in
    let state : u ≡ v = prepared_one w u v h i head other blocked blocked_i prepares prepares_i in
    let may_j : MayPass v i j wait = subst (λ x. MayPass v x j wait) place (subst (λ x. MayPass x h j wait) state may) in
    let none_j : Precedes l late.job j wait.job → ⊥ =
    first l late (subst (λ x. MayPass x h l late) (sym state) (subst (λ x. MayPass v x l late) (sym place) may_l)) in
    let job : j ≡ l = same_place j l wait.job late.job (second j wait may_j) none_j in
    let wait_same : wait ≡ late = one_wait v l wait late (subst (λ x. Waits v x wait) job may_j.1) may_l.1 in
    let block_same : m ≡ n = block_one v late.job m n (subst (λ (x : SchedWait). IsPassBlock v x.job m) wait_same (subst (λ x. IsPassBlock x wait.job m) state block_is)) is in (
      ap (λ (x : ℕ). Some x) job,
      ap (λ x. start j wait.job (block wait.job.dim m) (pass x head wait.job.dim u)) place
          ∙ ap (λ x. start j wait.job (block wait.job.dim m) (pass i x wait.job.dim u)) head_same
          ∙ ap (λ x. start j wait.job (block wait.job.dim m) (pass i other wait.job.dim x)) state
          ∙ ap (λ x. start x wait.job (block wait.job.dim m) (pass i other wait.job.dim v)) job
          ∙ ap (λ (x : SchedWait). start l x.job (block x.job.dim m) (pass i other x.job.dim v)) wait_same
          ∙ ap (λ x. start l late.job (block late.job.dim x) (pass i other late.job.dim v)) block_same,
    )
decide_one w _ v _ _ (policy.passes h j m head wait u blocked prepares may first block_is) (policy.waits i other _ blocked_i prepares_i nobody) =
    let place = head_place w h i head other blocked.0 blocked_i.0 in
    let state : u ≡ v = prepared_one w u v h i head other blocked blocked_i prepares prepares_i in
    absurd (nobody j wait (subst (λ x. MayPass v x j wait) place (subst (λ x. MayPass x h j wait) state may)))
decide_one w u _ _ _ (policy.waits i other _ blocked_i prepares_i nobody) (policy.passes h j m head wait v blocked prepares may first block_is) =
    let place = head_place w h i head other blocked.0 blocked_i.0 in
    let state : v ≡ u = prepared_one w v u h i head other blocked blocked_i prepares prepares_i in
    absurd (nobody j wait (subst (λ x. MayPass u x j wait) place (subst (λ x. MayPass x h j wait) state may)))
decide_one w u v _ _ (policy.waits h head _ blocked prepares nobody) (policy.waits i other _ blocked_i prepares_i _) =
    (refl, prepared_one w u v h i head other blocked blocked_i prepares prepares_i)
