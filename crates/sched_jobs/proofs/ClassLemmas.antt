-- The slots of a class, and those of all lower ones.
use Rattle.std.proofs.Common.{◌≡◌, ℕ, ◌+◌, ◌*◌, ◌-◌, ◌<◌, ◌≤◌, ◌⊎◌, inl, inr, List, Option, Some, None, length, sym, ◌∙◌, ap, arith}
use Rattle.std.proofs.lemmas.Bool.{cases_lt}
use Rattle.cube_shape.specs.declared.limits.TheConstants.{MAX_BITMAP_DIM}
use Rattle.alloc_bits.specs.Count.{IsCount}
use Rattle.sched_jobs.specs.declared.nodes.QueueNode.{QueueNode as NodeData}
use Rattle.sched_jobs.specs.declared.queues.Queue.{Queue as QueueData}
use Rattle.sched_jobs.specs.Nodes.{key_of}
use Rattle.sched_law.proofs.SetLemmas.{same}
use Rattle.sched_jobs.specs.declared.lines.TheConstants.{CLASSES}
use Rattle.sched_jobs.specs.Slots.{line_at}
use Rattle.sched_jobs.specs.Lines.{IsOfClass, ShowsLines, count_in}
use Rattle.sched_jobs.specs.Inner.Numbers.{HasKeyFrom, HasNumbers}
use Rattle.sched_jobs.proofs.NumberLemmas.{count_alike, count_both, slots_counted}
use Rattle.sched_jobs.proofs.AlikeLemmas.{slot_inside}

module _ (nodes : List NodeData) (queues : List QueueData) (counts : List ℕ) (line : ℕ → Option ℕ) (class next : ℕ) (within : class < CLASSES)
    (shown : ShowsLines nodes queues counts line) (numbers : HasNumbers nodes line next) where
  -- the keys of lower classes
  abbrev IsLower : ℕ → Type 0
  IsLower i = HasKeyFrom nodes line 0 (class * (MAX_BITMAP_DIM + 1)) None i

  -- the keys of the class
  abbrev IsMine : ℕ → Type 0
  IsMine i = (u : ℕ) × (u < length nodes) × IsOfClass line class u × (key_of nodes u ≡ i)

  apart : (i : ℕ) → IsLower i → IsMine i → ⊥
  apart i has mine =
      let one_slot : has.3.0 ≡ mine.0 = numbers.once has.3.0 mine.0 has.0 (line_at class mine.2.0) has.3.1 mine.2.2 (has.3.2 ∙ sym mine.3) in
      let one_line : has.0 ≡ line_at class mine.2.0 = same (sym has.3.1 ∙ ap line one_slot ∙ mine.2.2) in
      let less : has.0 < class * (MAX_BITMAP_DIM + 1) = has.2 in
      omega (arith, less, one_line)

  to : (i : ℕ) → IsLower i ⊎ IsMine i → HasKeyFrom nodes line 0 ((class + 1) * (MAX_BITMAP_DIM + 1)) None i
  to i (inl has) = (has.0, has.1, (let less : has.0 < class * (MAX_BITMAP_DIM + 1) = has.2 in omega (arith, less)), has.3)
  to i (inr mine) =
      let low : mine.2.0 ≤ MAX_BITMAP_DIM = mine.2.1 in
      (line_at class mine.2.0, omega arith, omega (arith, low), (mine.0, mine.2.2, mine.3, tt))

  from : (i : ℕ) → HasKeyFrom nodes line 0 ((class + 1) * (MAX_BITMAP_DIM + 1)) None i → IsLower i ⊎ IsMine i
  from i has = elim (cases_lt has.0 (class * (MAX_BITMAP_DIM + 1))) [
    | inl less ↦ inl (has.0, has.1, less, has.3)
    | inr past ↦
        let less : has.0 < (class + 1) * (MAX_BITMAP_DIM + 1) = has.2 in
        let low : has.0 - class * (MAX_BITMAP_DIM + 1) ≤ MAX_BITMAP_DIM = omega (arith, less, past) in
        let line_is : has.0 ≡ line_at class (has.0 - class * (MAX_BITMAP_DIM + 1)) = omega (arith, past) in
        let is : IsOfClass line class has.3.0 = (has.0 - class * (MAX_BITMAP_DIM + 1), low, has.3.1 ∙ ap (λ (q : ℕ). Some q) line_is) in
        inr (has.3.0, slot_inside nodes queues counts line class has.3.0 within shown is, is, has.3.2)
  ]

  -- one more class
  pub class_more : (before after : ℕ) → before + count_in counts class ≡ after → IsCount (HasKeyFrom nodes line 0 (class * (MAX_BITMAP_DIM + 1)) None) next before
      → IsCount (HasKeyFrom nodes line 0 ((class + 1) * (MAX_BITMAP_DIM + 1)) None) next after
  class_more before after total lower =
      count_alike (λ i. IsLower i ⊎ IsMine i) (HasKeyFrom nodes line 0 ((class + 1) * (MAX_BITMAP_DIM + 1)) None) next after to from
      (count_both IsLower IsMine next before (count_in counts class) after apart total lower
      (slots_counted (IsOfClass line class) (key_of nodes) next (λ u is. numbers.before u (line_at class is.0) is.2)
      (λ u v is also. numbers.once u v (line_at class is.0) (line_at class also.0) is.2 also.2)
      (length nodes) (count_in counts class) (shown.counted class within)))
