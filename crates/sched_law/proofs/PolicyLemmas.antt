-- The head, vacant blocks, and the block that is chosen.
use Rattle.std.proofs.Common.{◌≡◌, ℕ, zero, suc, ◌+◌, ◌-◌, ◌^◌, ◌<◌, ◌≤◌, ◌⊎◌, inl, inr, Option, Some, None, refl, sym, ◌∙◌, subst, arith}
use Rattle.std.proofs.lemmas.Bool.{cases_lt, cases_eq}
use Rattle.std.proofs.lemmas.Nat.{pow_pos}
use Rattle.cube_shape.specs.declared.region.Region.{Region}
use Rattle.cube_shape.specs.Region.{AreApart, Covers, IsAligned, block}
use Rattle.cube_shape.proofs.RegionLemmas.{IsAligned-block, IsAligned-end}
use Rattle.fit_tree.specs.Halves.{lower_half, upper_half}
use Rattle.sched_law.specs.declared.job.TheConstants.{NEVER}
use Rattle.sched_law.specs.declared.job.SchedJob.{SchedJob}
use Rattle.sched_law.specs.declared.job.SchedWait.{SchedWait}
use Rattle.sched_law.specs.declared.job.SchedRun.{SchedRun}
use Rattle.sched_law.specs.declared.job.Reservation.{Reservation}
use Rattle.sched_law.specs.State.{Sched, Runs, Waits, IsUsable, IsVacant, end_after, held}
use Rattle.sched_law.specs.Policy.{AllEndBy, Chooses, Decides, HasUsable, HasUsableIn, IsBlocked, IsHead, IsHeadBy, IsLatest, IsServable, MayPass, Precedes, Prepares, RunsIn}
use Rattle.sched_law.specs.Policy as policy
use Rattle.sched_law.specs.Law.{IsSound}
use Rattle.sched_law.proofs.SetLemmas.{none_is_some, wait_is}
use Rattle.sched_law.proofs.BlockLemmas.{inner, lower_aligned, upper_aligned, within_is}

-- ---- jobs

pub one_wait : (w : Sched) (j : ℕ) (a b : SchedWait) → Waits w j a → Waits w j b → a ≡ b
one_wait w j a b is_a is_b = wait_is (sym is_a ∙ is_b)

-- a job that needs no more processors needs no larger block
pub narrower : (n : ℕ) (first second : SchedJob) → IsSound n first → IsSound n second → first.processors ≤ second.processors → first.dim ≤ second.dim
narrower n first second a b less = a.least second.dim (omega (arith, less, b.enough))

-- a later job of no lower class number comes after
pub precedes : (i j : ℕ) (first second : SchedJob) → first.class ≤ second.class → i < j → Precedes i first j second
precedes i j first second class before = elim (cases_eq first.class second.class) [
  | inl equal ↦ inr (equal, before)
  | inr unlike ↦ inl (omega (arith, class, unlike))
]

-- ---- blocks

pub usable_inside : (w : Sched) (r s : Region) → ((p : ℕ) → Covers s p → Covers r p) → IsUsable w r → IsUsable w s
usable_inside w r s covers usable t a is p in_a in_s = usable t a is p in_a (covers p in_s)

pub vacant_inside : (w : Sched) (r s : Region) → ((p : ℕ) → Covers s p → Covers r p) → IsVacant w r → IsVacant w s
vacant_inside w r s covers vacant = (λ t a is p in_a in_s. vacant.0 t a is p in_a (covers p in_s), usable_inside w r s covers vacant.1)

pub usable_narrower : (w : Sched) (d k : ℕ) → k ≤ d → HasUsable w d → HasUsable w k
usable_narrower w d k less (r, aligned, dim, usable) =
    let found = inner w.dim k r aligned (omega (arith, dim, less)) in
    (found.0, found.1, found.2, usable_inside w r found.0 found.3 usable)

-- a block in which no job runs is held by none
pub unheld : (w : Sched) (r : Region) → ((j : ℕ) (run : SchedRun) → RunsIn w r j run → ⊥)
    → ((j : ℕ) (a : Region) → held w j ≡ Some a → (run : SchedRun) × Runs w j run × (run.block ≡ a))
    → (t : ℕ) (a : Region) → held w t ≡ Some a → AreApart a r
unheld w r none runs t a is p in_a in_r =
    let found = runs t a is in
    none t found.0 (found.1, λ apart. apart p (subst (λ x. Covers x p) (sym found.2) in_a) in_r)

-- ---- the head

pub head_waits : (w : Sched) (h : ℕ) (head : SchedWait) → IsHead w h head → Waits w h head
head_waits w h head is = by w.reserved is
  where
    by : (o : Option Reservation) → IsHeadBy o w h head → Waits w h head
    by None is = is.0.0
    by (Some reserved) is = is.1

pub first_is_head : (w : Sched) (h : ℕ) (head : SchedWait) → w.reserved ≡ None → IsServable w h head
    → ((i : ℕ) (other : SchedWait) → IsServable w i other → Precedes i other.job h head.job → ⊥) → IsHead w h head
first_is_head w h head none servable first = subst (λ o. IsHeadBy o w h head) (sym none) (servable, first)

pub reserved_is_head : (w : Sched) (head : SchedWait) (reserved : Reservation) → w.reserved ≡ Some reserved → Waits w reserved.job head → IsHead w reserved.job head
reserved_is_head w head reserved is waits = subst (λ o. IsHeadBy o w reserved.job head) (sym is) (refl, waits)

-- there is one head
pub one_head : (w : Sched) (h i : ℕ) (head other : SchedWait) → IsHead w h head → IsHead w i other → h ≡ i
one_head w h i head other is_h is_i = by w.reserved is_h is_i
  where
    by : (o : Option Reservation) → IsHeadBy o w h head → IsHeadBy o w i other → h ≡ i
    by (Some reserved) a b = sym a.0 ∙ b.0
    by None a b = elim (cases_lt head.job.class other.job.class) [
      | inl less ↦ absurd (b.1 h head a.0 (inl less))
      | inr from ↦ elim (cases_lt other.job.class head.job.class) [
        | inl more ↦ absurd (a.1 i other b.0 (inl more))
        | inr upto ↦
            let equal : head.job.class ≡ other.job.class = omega (arith, from, upto) in
            elim (cases_lt h i) [
              | inl before ↦ absurd (b.1 h head a.0 (inr (equal, before)))
              | inr after ↦ elim (cases_lt i h) [
                | inl before ↦ absurd (a.1 i other b.0 (inr (sym equal, before)))
                | inr not_after ↦ omega (arith, after, not_after)
              ]
            ]
      ]
    ]

-- where no job is the head, none is servable
module _ (w : Sched) (none : (j : ℕ) (wait : SchedWait) → IsServable w j wait
    → ((i : ℕ) (other : SchedWait) → IsServable w i other → Precedes i other.job j wait.job → ⊥) → ⊥) where
  -- none of this class below a number, if there is none of a lower class
  in_class : (c : ℕ) → ((i : ℕ) (other : SchedWait) → other.job.class < c → IsServable w i other → ⊥)
      → (bound j : ℕ) (wait : SchedWait) → j < bound → wait.job.class ≡ c → IsServable w j wait → ⊥
  in_class c lower zero j wait less class servable = omega (arith, less)
  in_class c lower (suc bound) j wait less class servable =
      none j wait servable (λ i other is before. elim before [
        | inl higher ↦ lower i other (omega (arith, higher, class)) is
        | inr equal ↦ in_class c lower bound i other (omega (arith, equal.1, less)) (equal.0 ∙ class) is
      ])

  below_class : (c j : ℕ) (wait : SchedWait) → wait.job.class < c → IsServable w j wait → ⊥
  below_class zero j wait less servable = omega (arith, less)
  below_class (suc c) j wait less servable = elim (cases_lt wait.job.class c) [
    | inl lower ↦ below_class c j wait lower servable
    | inr from ↦
        in_class c (λ i other lower is. below_class c i other lower is) (suc j) j wait (omega arith) (omega (arith, less, from)) servable
  ]

  pub none_servable : (j : ℕ) (wait : SchedWait) → IsServable w j wait → ⊥
  none_servable j wait servable = below_class (suc wait.job.class) j wait (omega arith) servable

-- ---- the chosen block

pub Chooses-usable : (w : Sched) (k : ℕ) (r s : Region) → Chooses w k r s → IsAligned w.dim r → HasUsableIn w k r → IsAligned w.dim s × (s.dim ≡ k) × IsUsable w s
Chooses-usable w k r s (policy.arrives _ dim) aligned (t, t_aligned, t_dim, usable, covers) =
    let is : t ≡ r = within_is r t (t_dim ∙ sym dim) covers in
    (aligned, dim, subst (IsUsable w) is usable)
Chooses-usable w k r s (policy.goes_lower _ _ more has _ rest) aligned _ =
    let some : 0 < r.dim = omega (arith, more) in
    Chooses-usable w k (lower_half r) s rest (lower_aligned w.dim r some aligned) has
Chooses-usable w k r s (policy.goes_upper _ _ more has _ rest) aligned _ =
    let some : 0 < r.dim = omega (arith, more) in
    Chooses-usable w k (upper_half r) s rest (upper_aligned w.dim r some aligned) has

machine_aligned : (n : ℕ) → IsAligned n (block n 0)
machine_aligned n = IsAligned-block n n 0 (omega arith) (pow_pos (n - n))

pub usable_in_machine : (w : Sched) (k : ℕ) → HasUsable w k → HasUsableIn w k (block w.dim 0)
usable_in_machine w k (r, aligned, dim, usable) = (r, aligned, dim, usable, λ p inside. (omega arith, omega (arith, inside.1, end)))
  where
    end : r.base + 2 ^ r.dim ≤ 2 ^ w.dim
    end = IsAligned-end w.dim r aligned

pub chosen : (w : Sched) (k : ℕ) (r : Region) → HasUsable w k → Chooses w k (block w.dim 0) r → IsAligned w.dim r × (r.dim ≡ k) × IsUsable w r
chosen w k r has chooses = Chooses-usable w k (block w.dim 0) r chooses (machine_aligned w.dim) (usable_in_machine w k has)

-- ---- ends

-- an end is after the start, and from 1 on
pub end_some : (t estimate : ℕ) → (0 < end_after t estimate) × (end_after t estimate ≤ NEVER)
end_some t estimate = (grind arith, grind arith)

-- a known end is after the start
pub end_later : (t estimate : ℕ) → end_after t estimate < NEVER → t < end_after t estimate
end_later t estimate known = grind (arith, known)

-- later starts end later
pub end_grows : (s t estimate : ℕ) → s ≤ t → end_after s estimate ≤ end_after t estimate
end_grows s t estimate less = grind (arith, less)

-- and so do longer jobs
pub end_longer : (t first second : ℕ) → end_after 0 first ≤ end_after 0 second → end_after t first ≤ end_after t second
end_longer t first second less = grind (arith, less)

-- the latest end is no later than a time by which all end
pub latest_least : (w : Sched) (r : Region) (s t : ℕ) → IsLatest w r s → AllEndBy w r t → s ≤ t
latest_least w r s t latest all = elim latest.reached [
  | inl none ↦ omega (arith, none)
  | inr (j, run, inside, is) ↦ subst (λ x. x ≤ t) is (all j run inside)
]

-- ---- decisions

-- a decision that starts nothing
abbrev pub IsRest : Sched → Sched → Type 0
IsRest w v =
    (((j : ℕ) (wait : SchedWait) → IsHead w j wait → ⊥) × (w ≡ v))
    ⊎ ((h : ℕ) × (head : SchedWait) × IsBlocked w h head × Prepares w h head v × ((j : ℕ) (wait : SchedWait) → MayPass v h j wait → ⊥))

pub rests : (w v : Sched) (answer : Option ℕ) → Decides w answer v → answer ≡ None → IsRest w v
rests w _ _ (policy.idles none) is = inl (none, refl)
rests w _ _ (policy.starts h m head head_is first) is = absurd (none_is_some (sym is))
rests w _ _ (policy.passes h j m head wait v blocked prepares may first block) is = absurd (none_is_some (sym is))
rests w v _ (policy.waits h head _ blocked prepares none) is = inr (h, head, blocked, prepares, none)
