-- The least keys of lines, dimension by dimension, and class by class.
use Rattle.std.proofs.Common.{◌≡◌, ◌≢◌, ℕ, ◌+◌, ◌-◌, ◌<◌, ◌≤◌, ◌⊎◌, inl, inr, List, Option, Some, None, IfSome, IfNone, length, refl, sym, ap, subst, arith}
use Rattle.std.proofs.lemmas.Bool.{cases_eq, cases_lt}
use Rattle.cube_shape.specs.declared.limits.TheConstants.{MAX_BITMAP_DIM}
use Rattle.sched_jobs.specs.declared.nodes.QueueNode.{QueueNode as NodeData}
use Rattle.sched_jobs.specs.declared.queues.Queue.{Queue as QueueData}
use Rattle.sched_jobs.specs.Nodes.{estimate_of, key_of}
use Rattle.sched_jobs.specs.declared.lines.TheConstants.{CLASSES}
use Rattle.sched_jobs.specs.declared.search.Wanted.{Wanted}
use Rattle.sched_jobs.specs.Slots.{line_at}
use Rattle.sched_jobs.specs.Lines.{AreLines, ShowsLines, count_in}
use Rattle.sched_jobs.specs.Inner.Joins.{IsFirstIn, IsFirstWithin}
use Rattle.sched_jobs.proofs.AlikeLemmas.{none_of_class}
use Rattle.sched_jobs.specs.Inner.Search.{IsChosen, IsFit, IsFitBelow, IsFitIn, IsLeast, IsOlder}

-- where there is no other, the one stays
pub older_alone : (nodes : List NodeData) (one : Option ℕ) → IsOlder nodes one None one
older_alone nodes None = refl
older_alone nodes (Some u) = refl

-- what has a property has another one
pub least_alike : (nodes : List NodeData) (P Q : ℕ → Type 0) → ((u : ℕ) → P u → Q u) → ((u : ℕ) → Q u → P u) → (answer : Option ℕ) → IsLeast nodes P answer → IsLeast nodes Q answer
least_alike nodes P Q to from None is = λ u has. is u (from u has)
least_alike nodes P Q to from (Some slot) is = (to slot is.0, λ u has. is.1 u (from u has))

least_right : (nodes : List NodeData) (P Q : ℕ → Type 0) (answer : Option ℕ) → ((u : ℕ) → P u → ⊥) → IsLeast nodes Q answer → IsLeast nodes (λ u. P u ⊎ Q u) answer
least_right nodes P Q None none is = λ u has. elim has [ inl p ↦ none u p | inr q ↦ is u q ]
least_right nodes P Q (Some slot) none is = (inr is.0, λ u has. elim has [ inl p ↦ absurd (none u p) | inr q ↦ is.1 u q ])

-- the older one of two slots is the first of both
pub least_of_two : (nodes : List NodeData) (P Q : ℕ → Type 0) (one other answer : Option ℕ) → IsLeast nodes P one → IsLeast nodes Q other → IsOlder nodes one other answer
    → IsLeast nodes (λ u. P u ⊎ Q u) answer
least_of_two nodes P Q None other answer first second is =
    subst (IsLeast nodes (λ u. P u ⊎ Q u)) (sym is) (least_right nodes P Q other first second)
least_of_two nodes P Q (Some u) None answer first second is =
    subst (IsLeast nodes (λ u. P u ⊎ Q u)) (sym is) (inl first.0, λ x has. elim has [ inl p ↦ first.1 x p | inr q ↦ absurd (second x q) ])
least_of_two nodes P Q (Some u) (Some v) answer first second (inl is) =
    subst (IsLeast nodes (λ u. P u ⊎ Q u)) (sym is.0) (
      inl first.0,
      λ x has. elim has [
        | inl p ↦ first.1 x p
        | inr q ↦ (let more = second.1 x q in let less = is.1 in omega (arith, more, less))
      ],
    )
least_of_two nodes P Q (Some u) (Some v) answer first second (inr is) =
    subst (IsLeast nodes (λ u. P u ⊎ Q u)) (sym is.0) (
      inr second.0,
      λ x has. elim has [
        | inl p ↦ (let more = first.1 x p in let less = is.1 in omega (arith, more, less))
        | inr q ↦ second.1 x q
      ],
    )

module _ (nodes : List NodeData) (line : ℕ → Option ℕ) (wanted : Wanted) (class dim : ℕ) where
  -- one more dimension
  pub one_more : (best one answer : Option ℕ) → IsLeast nodes (IsFitBelow nodes line wanted class dim) best → IsLeast nodes (IsFit nodes line wanted class dim) one
      → IsOlder nodes best one answer → IsLeast nodes (IsFitBelow nodes line wanted class (dim + 1)) answer
  one_more best one answer first second is =
      least_alike nodes (λ u. IsFitBelow nodes line wanted class dim u ⊎ IsFit nodes line wanted class dim u) (IsFitBelow nodes line wanted class (dim + 1)) to from answer
      (least_of_two nodes (IsFitBelow nodes line wanted class dim) (IsFit nodes line wanted class dim) best one answer first second is)
    where
      to : (u : ℕ) → IsFitBelow nodes line wanted class dim u ⊎ IsFit nodes line wanted class dim u → IsFitBelow nodes line wanted class (dim + 1) u
      to u (inl has) = (has.0, (let less : has.0 < dim = has.1 in omega (arith, less)), has.2)
      to u (inr is) = (dim, omega arith, is)

      from : (u : ℕ) → IsFitBelow nodes line wanted class (dim + 1) u → IsFitBelow nodes line wanted class dim u ⊎ IsFit nodes line wanted class dim u
      from u has = elim (cases_eq has.0 dim) [
        | inl same ↦ inr (subst (λ (d : ℕ). IsFit nodes line wanted class d u) same has.2)
        | inr other ↦ inl (has.0, (let less : has.0 < dim + 1 = has.1 in omega (arith, less, other)), has.2)
      ]

  -- all of a line are wanted
  pub front_fits : (answer : Option ℕ) → dim < wanted.any → IfSome answer (IsFirstIn nodes line (line_at class dim)) → IfNone answer ((u : ℕ) → line u ≡ Some (line_at class dim) → ⊥)
      → IsLeast nodes (IsFit nodes line wanted class dim) answer
  front_fits None all first none = λ u fit. none u fit.0
  front_fits (Some slot) all first none = (
    (first.one_of, inl all),
    λ u fit. elim (cases_eq u slot) [
      | inl same ↦ (let one = ap (key_of nodes) same in omega (arith, one))
      | inr other ↦ (let less = first.first u fit.0 other in omega (arith, less))
    ],
  )

  -- those below a limit are wanted
  pub within_fits : (answer : Option ℕ) → wanted.any ≤ dim → dim < wanted.most → wanted.limit ≢ 0 → IfSome answer (IsFirstWithin nodes line (line_at class dim) (wanted.limit - 1))
      → IfNone answer ((u : ℕ) → line u ≡ Some (line_at class dim) → wanted.limit - 1 < estimate_of nodes u)
      → IsLeast nodes (IsFit nodes line wanted class dim) answer
  within_fits None past low some first none = λ u fit.
      let more : wanted.limit - 1 < estimate_of nodes u = none u fit.0 in
      elim fit.1 [
        | inl less ↦ omega (arith, less, past)
        | inr is ↦ (let below : estimate_of nodes u < wanted.limit = is.1 in omega (arith, below, more))
      ]
  within_fits (Some slot) past low some first none = (
    (first.one_of, inr (low, (let less = first.within in omega (arith, less, some)))),
    λ u fit. elim (cases_lt (key_of nodes u) (key_of nodes slot)) [
      | inl before ↦
          let more : wanted.limit - 1 < estimate_of nodes u = first.first u fit.0 before in
          elim fit.1 [
            | inl less ↦ absurd (omega (arith, less, past))
            | inr is ↦ (let below : estimate_of nodes u < wanted.limit = is.1 in absurd (omega (arith, below, more)))
          ]
      | inr after ↦ after
    ],
  )

  -- none is wanted
  pub none_fits : wanted.any ≤ dim → (dim < wanted.most → wanted.limit ≡ 0) → IsLeast nodes (IsFit nodes line wanted class dim) None
  none_fits past none = λ u fit. elim fit.1 [
    | inl less ↦ omega (arith, less, past)
    | inr is ↦ (let below : estimate_of nodes u < wanted.limit = is.1 in let zero = none is.0 in omega (arith, below, zero))
  ]

-- no dimension from a bound on is wanted
pub below_all : (nodes : List NodeData) (line : ℕ → Option ℕ) (wanted : Wanted) (class past : ℕ) (answer : Option ℕ) → past ≤ MAX_BITMAP_DIM + 1
    → ((d : ℕ) → d < MAX_BITMAP_DIM + 1 → d < wanted.any → d < past) → ((d : ℕ) → d < MAX_BITMAP_DIM + 1 → d < wanted.most → d < past)
    → IsLeast nodes (IsFitBelow nodes line wanted class past) answer → IsLeast nodes (IsFitIn nodes line wanted class) answer
below_all nodes line wanted class past answer limit any most is =
    least_alike nodes (IsFitBelow nodes line wanted class past) (IsFitIn nodes line wanted class)
    (λ u has. (has.0, (let less : has.0 < past = has.1 in omega (arith, less, limit)), has.2))
    (λ u has. (has.0, elim has.2.1 [ inl less ↦ any has.0 has.1 less | inr is ↦ most has.0 has.1 is.0 ], has.2)) answer is

-- a slot of a line is one of the nodes
pub least_inside : (nodes : List NodeData) (queues : List QueueData) (line : ℕ → Option ℕ) (wanted : Wanted) (class dim : ℕ) (answer : Option ℕ) → line_at class dim < length queues
    → AreLines nodes queues line → IsLeast nodes (IsFit nodes line wanted class dim) answer → IfSome answer (λ u. u < length nodes)
least_inside nodes queues line wanted class dim None inside are is = tt
least_inside nodes queues line wanted class dim (Some slot) inside are is =
    (let here = are.each (line_at class dim) inside in here.is_queue.inside slot (here.all slot is.0.0))

-- the same of more dimensions
pub best_inside : (nodes : List NodeData) (one other answer : Option ℕ) → IfSome one (λ u. u < length nodes) → IfSome other (λ u. u < length nodes) → IsOlder nodes one other answer
    → IfSome answer (λ u. u < length nodes)
best_inside nodes None other answer first second is = subst (λ (a : Option ℕ). IfSome a (λ u. u < length nodes)) (sym is) second
best_inside nodes (Some u) None answer first second is = subst (λ (a : Option ℕ). IfSome a (λ u. u < length nodes)) (sym is) first
best_inside nodes (Some u) (Some v) answer first second (inl is) = subst (λ (a : Option ℕ). IfSome a (λ u. u < length nodes)) (sym is.0) first
best_inside nodes (Some u) (Some v) answer first second (inr is) = subst (λ (a : Option ℕ). IfSome a (λ u. u < length nodes)) (sym is.0) second

-- none of a class without slots is wanted
pub unused_fits : (nodes : List NodeData) (queues : List QueueData) (counts : List ℕ) (line : ℕ → Option ℕ) (wanted : Wanted) (class : ℕ) → class < CLASSES
    → count_in counts class ≡ 0 → ShowsLines nodes queues counts line → IsLeast nodes (IsFitIn nodes line wanted class) None
unused_fits nodes queues counts line wanted class within is shown = λ u has.
    none_of_class nodes queues counts line class within shown is u (has.0, (let low : has.0 < MAX_BITMAP_DIM + 1 = has.1 in omega (arith, low)), has.2.0)

-- the first class with a slot that is wanted
pub chosen : (nodes : List NodeData) (line : ℕ → Option ℕ) (wanted : Wanted) (class slot : ℕ) (answer : Option ℕ) → answer ≡ Some slot → class < CLASSES
    → IsLeast nodes (IsFitIn nodes line wanted class) answer → ((before u : ℕ) → before < class → IsFitIn nodes line wanted before u → ⊥) → IsChosen nodes line wanted (Some slot)
chosen nodes line wanted class slot answer is within least before = (class, within, subst (IsLeast nodes (IsFitIn nodes line wanted class)) is least, before)

-- one more class without one
pub none_more : (nodes : List NodeData) (line : ℕ → Option ℕ) (wanted : Wanted) (class : ℕ) (answer : Option ℕ) → answer ≡ None → IsLeast nodes (IsFitIn nodes line wanted class) answer
    → ((before u : ℕ) → before < class → IsFitIn nodes line wanted before u → ⊥) → (before u : ℕ) → before < class + 1 → IsFitIn nodes line wanted before u → ⊥
none_more nodes line wanted class answer is least none before u less has = elim (cases_eq before class) [
  | inl same ↦ subst (IsLeast nodes (IsFitIn nodes line wanted class)) is least u (subst (λ (k : ℕ). IsFitIn nodes line wanted k u) same has)
  | inr other ↦ none before u (omega (arith, less, other)) has
]
