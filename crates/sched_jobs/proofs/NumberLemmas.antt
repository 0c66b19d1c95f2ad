-- Counts of numbers, of the keys of a list of slots, and of those of lines.
use Rattle.std.proofs.Common.{◌≡◌, ◌≢◌, ℕ, zero, suc, ◌+◌, ◌<◌, ◌≤◌, ◌⊎◌, inl, inr, Bool, cond, ltb, List, [], ◌∷◌, Option, Some, refl, sym, ◌∙◌, ap, subst, arith}
use Rattle.std.proofs.lemmas.Bool.{cases_eq, cases_lt, le-ltb, lt-ltb}
use Rattle.std.proofs.lemmas.List.Sums.{sum_by-cons}
use Rattle.alloc_bits.specs.Count.{IsCount}
use Rattle.sched_jobs.specs.declared.nodes.QueueNode.{QueueNode as NodeData}
use Rattle.sched_jobs.specs.declared.queues.Queue.{Queue as QueueData}
use Rattle.sched_jobs.specs.Nodes.{key_of}
use Rattle.sched_jobs.specs.Lists.{Has, IsRising}
use Rattle.sched_law.proofs.SetLemmas.{same}
use Rattle.sched_jobs.specs.Lines.{IsLine}
use Rattle.sched_jobs.specs.Inner.Numbers.{HasKeyFrom, HasKeyIn, HasNumbers, IsBelow, counted}

-- no number is so
pub count_none : (P : ℕ → Type 0) (n : ℕ) → ((i : ℕ) → P i → ⊥) → IsCount P n 0
count_none P zero none = refl
count_none P (suc m) none = inr (none m, count_none P m none)

-- the same numbers
pub count_alike : (P Q : ℕ → Type 0) (n count : ℕ) → ((i : ℕ) → P i → Q i) → ((i : ℕ) → Q i → P i) → IsCount P n count → IsCount Q n count
count_alike P Q zero count to from is = is
count_alike P Q (suc m) count to from (inl is) = inl (to m is.0, (is.1.0, is.1.1, count_alike P Q m is.1.0 to from is.1.2))
count_alike P Q (suc m) count to from (inr is) = inr (λ q. is.0 (from m q), count_alike P Q m count to from is.1)

count_alike_below : (P Q : ℕ → Type 0) (n count : ℕ) → ((i : ℕ) → i < n → P i → Q i) → ((i : ℕ) → i < n → Q i → P i) → IsCount P n count → IsCount Q n count
count_alike_below P Q zero count to from is = is
count_alike_below P Q (suc m) count to from (inl is) =
    inl (to m (omega arith) is.0, (is.1.0, is.1.1, count_alike_below P Q m is.1.0 (λ i less. to i (omega (arith, less))) (λ i less. from i (omega (arith, less))) is.1.2))
count_alike_below P Q (suc m) count to from (inr is) =
    inr (λ q. is.0 (from m (omega arith) q), count_alike_below P Q m count (λ i less. to i (omega (arith, less))) (λ i less. from i (omega (arith, less))) is.1)

-- no more than there are
pub count_few : (P : ℕ → Type 0) (n count : ℕ) → IsCount P n count → count ≤ n
count_few P zero count is = omega (arith, is)
count_few P (suc m) count (inl is) = let rest = count_few P m is.1.0 is.1.2 in let more : count ≡ is.1.0 + 1 = is.1.1 in omega (arith, rest, more)
count_few P (suc m) count (inr is) = let rest = count_few P m count is.1 in omega (arith, rest)

-- a count of 0
pub count_zero : (P : ℕ → Type 0) (n count : ℕ) → count ≡ 0 → IsCount P n count → (i : ℕ) → i < n → P i → ⊥
count_zero P zero count zero_is is i less p = omega (arith, less)
count_zero P (suc m) count zero_is (inl is) i less p = (let more : count ≡ is.1.0 + 1 = is.1.1 in omega (arith, zero_is, more))
count_zero P (suc m) count zero_is (inr is) i less p = elim (cases_eq i m) [
  | inl one ↦ is.0 (subst P one p)
  | inr other ↦ count_zero P m count zero_is is.1 i (omega (arith, less, other)) p
]

-- one of them is left out
pub count_without : (P : ℕ → Type 0) (at n count : ℕ) → at < n → P at → IsCount P n count → (before : ℕ) × (count ≡ before + 1) × IsCount (λ i. P i × (i ≢ at)) n before
count_without P at zero count less p is = absurd (omega (arith, less))
count_without P at (suc m) count less p (inl is) = elim (cases_eq m at) [
  | inl one ↦
      (is.1.0, is.1.1, inr (λ has. has.1 one, count_alike_below P (λ i. P i × (i ≢ at)) m is.1.0 (λ i below has. (has, λ same. omega (arith, below, same, one))) (λ i below has. has.0) is.1.2))
  | inr other ↦
      let rest = count_without P at m is.1.0 (omega (arith, less, other)) p is.1.2 in
      (is.1.0, is.1.1, inl ((is.0, other), (rest.0, rest.1, rest.2)))
]
count_without P at (suc m) count less p (inr is) = elim (cases_eq m at) [
  | inl one ↦ absurd (is.0 (subst P (sym one) p))
  | inr other ↦
      let rest = count_without P at m count (omega (arith, less, other)) p is.1 in
      (rest.0, rest.1, inr (λ has. is.0 has.0, rest.2))
]

-- the numbers of either kind
pub count_both : (P Q : ℕ → Type 0) (n one other sum : ℕ) → ((i : ℕ) → P i → Q i → ⊥) → one + other ≡ sum → IsCount P n one → IsCount Q n other → IsCount (λ i. P i ⊎ Q i) n sum
count_both P Q zero one other sum apart total first second = omega (arith, total, first, second)
count_both P Q (suc m) one other sum apart total (inl is) (inl also) = absurd (apart m is.0 also.0)
count_both P Q (suc m) one other sum apart total (inl is) (inr not) =
    (let less : one ≡ is.1.0 + 1 = is.1.1 in
    inl (inl is.0, (is.1.0 + other, omega (arith, total, less), count_both P Q m is.1.0 other (is.1.0 + other) apart refl is.1.2 not.1)))
count_both P Q (suc m) one other sum apart total (inr not) (inl is) =
    (let less : other ≡ is.1.0 + 1 = is.1.1 in
    inl (inr is.0, (one + is.1.0, omega (arith, total, less), count_both P Q m one is.1.0 (one + is.1.0) apart refl not.1 is.1.2)))
count_both P Q (suc m) one other sum apart total (inr not) (inr neither) =
    inr (λ has. elim has [ inl p ↦ not.0 p | inr q ↦ neither.0 q ], count_both P Q m one other sum apart total not.1 neither.1)

-- one number
pub count_one : (m n : ℕ) → m < n → IsCount (λ i. i ≡ m) n 1
count_one m zero less = absurd (omega (arith, less))
count_one m (suc n) less = elim (cases_eq n m) [
  | inl same ↦ inl (same, (0, refl, below n same))
  | inr other ↦ inr (other, count_one m n (omega (arith, less, other)))
]
  where
    none_below : (k : ℕ) → k ≤ m → IsCount (λ i. i ≡ m) k 0
    none_below zero low = refl
    none_below (suc k) low = inr ((λ same. absurd (omega (arith, low, same))), none_below k (omega (arith, low)))

    below : (k : ℕ) → k ≡ m → IsCount (λ i. i ≡ m) k 0
    below k same = none_below k (omega (arith, same))

-- one more number
pub count_with : (P Q : ℕ → Type 0) (at n count more : ℕ) → at < n → (P at → ⊥) → more ≡ count + 1 → ((i : ℕ) → P i ⊎ (i ≡ at) → Q i) → ((i : ℕ) → Q i → P i ⊎ (i ≡ at)) → IsCount P n count
    → IsCount Q n more
count_with P Q at n count more less not one to from is =
    count_alike (λ i. P i ⊎ (i ≡ at)) Q n more to from
    (count_both P (λ i. i ≡ at) n count 1 more (λ i p same. not (subst P same p)) (sym one) is (count_one at n less))

-- the keys of slots that are so
module _ (S : ℕ → Type 0) (key : ℕ → ℕ) (next : ℕ) (below : (u : ℕ) → S u → key u < next) (once : (u v : ℕ) → S u → S v → key u ≡ key v → u ≡ v) where
  -- number `i` is the key of a slot below `n` that is so
  abbrev pub IsKeyOf : ℕ → ℕ → Type 0
  IsKeyOf n i = (u : ℕ) × (u < n) × S u × (key u ≡ i)

  pub slots_counted : (n count : ℕ) → IsCount S n count → IsCount (IsKeyOf n) next count
  slots_counted zero count is = subst (IsCount (IsKeyOf zero) next) (sym is) (count_none (IsKeyOf zero) next (λ i has. (let less : has.0 < 0 = has.1 in omega (arith, less))))
  slots_counted (suc m) count (inl is) =
      count_with (IsKeyOf m) (IsKeyOf (suc m)) (key m) next is.1.0 count (below m is.0)
      (λ has. (let less : has.0 < m = has.1 in let same : has.0 ≡ m = once has.0 m has.2 is.0 has.3 in omega (arith, less, same))) is.1.1
      (λ i has. elim has [
        | inl old ↦ (old.0, (let less : old.0 < m = old.1 in omega (arith, less)), old.2, old.3)
        | inr one ↦ (m, omega arith, is.0, sym one)
      ])
      (λ i has. elim (cases_eq has.0 m) [
        | inl one ↦ inr (sym has.3 ∙ ap key one)
        | inr other ↦ inl (has.0, (let less : has.0 < suc m = has.1 in omega (arith, less, other)), has.2, has.3)
      ])
      (slots_counted m is.1.0 is.1.2)
  slots_counted (suc m) count (inr is) =
      count_alike (IsKeyOf m) (IsKeyOf (suc m)) next count
      (λ i has. (has.0, (let less : has.0 < m = has.1 in omega (arith, less)), has.2, has.3))
      (λ i has. elim (cases_eq has.0 m) [
        | inl one ↦ absurd (is.0 (subst S one has.2))
        | inr other ↦ (has.0, (let less : has.0 < suc m = has.1 in omega (arith, less, other)), has.2, has.3)
      ])
      (slots_counted m count is.1)

-- one number, if it is below a bound
pub count_if_below : (bound : Option ℕ) (m n : ℕ) → m < n → IsBelow bound m → IsCount (λ i. (i ≡ m) × IsBelow bound i) n 1
count_if_below bound m n less is =
    count_alike (λ i. i ≡ m) (λ i. (i ≡ m) × IsBelow bound i) n 1 (λ i one. (one, subst (IsBelow bound) (sym one) is)) (λ i has. has.0) (count_one m n less)

pub count_if_past : (bound m n : ℕ) → bound ≤ m → IsCount (λ i. (i ≡ m) × (i < bound)) n 0
count_if_past bound m n past = count_none (λ i. (i ≡ m) × (i < bound)) n (λ i has. (let one : i ≡ m = has.0 in let less : i < bound = has.1 in omega (arith, one, less, past)))

-- number `i` is the key of a slot of a list, and below the bound
abbrev pub HasKeyOf : List NodeData → List ℕ → Option ℕ → ℕ → Type 0
HasKeyOf nodes xs bound i = (u : ℕ) × Has xs u × (key_of nodes u ≡ i) × IsBelow bound i

module _ (nodes : List NodeData) (next : ℕ) where
  -- one more slot
  key_more : (bound : Option ℕ) (x : ℕ) (xs : List ℕ) (one rest all : ℕ) → IsRising nodes (x ∷ xs) → one + rest ≡ all
      → IsCount (λ i. (i ≡ key_of nodes x) × IsBelow bound i) next one → IsCount (HasKeyOf nodes xs bound) next rest → IsCount (HasKeyOf nodes (x ∷ xs) bound) next all
  key_more bound x xs one rest all rising total first second =
      count_alike (λ i. ((i ≡ key_of nodes x) × IsBelow bound i) ⊎ HasKeyOf nodes xs bound i) (HasKeyOf nodes (x ∷ xs) bound) next all to from
      (count_both (λ i. (i ≡ key_of nodes x) × IsBelow bound i) (HasKeyOf nodes xs bound) next one rest all apart total first second)
    where
      apart : (i : ℕ) → (i ≡ key_of nodes x) × IsBelow bound i → HasKeyOf nodes xs bound i → ⊥
      apart i is has = (let less = rising.0 has.0 has.1 in let mine : i ≡ key_of nodes x = is.0 in let theirs = has.2 in omega (arith, less, mine, theirs))

      to : (i : ℕ) → ((i ≡ key_of nodes x) × IsBelow bound i) ⊎ HasKeyOf nodes xs bound i → HasKeyOf nodes (x ∷ xs) bound i
      to i (inl is) = (x, inl refl, sym is.0, is.1)
      to i (inr has) = (has.0, inr has.1, has.2, has.3)

      from : (i : ℕ) → HasKeyOf nodes (x ∷ xs) bound i → ((i ≡ key_of nodes x) × IsBelow bound i) ⊎ HasKeyOf nodes xs bound i
      from i has = elim has.1 [
        | inl one ↦ inl (sym has.2 ∙ ap (key_of nodes) one, has.3)
        | inr later ↦ inr (has.0, later, has.2, has.3)
      ]

  pub keys_counted : (bound : ℕ) (xs : List ℕ) → IsRising nodes xs → ((u : ℕ) → Has xs u → key_of nodes u < next) → IsCount (HasKeyOf nodes xs (Some bound)) next (counted nodes bound xs)
  keys_counted bound [] rising below = count_none (HasKeyOf nodes [] (Some bound)) next (λ i has. has.1)
  keys_counted bound (x ∷ xs) rising below =
      let step = sym (sum_by-cons (λ u. cond (ltb (key_of nodes u) bound) 1 0) x xs) in
      let rest = keys_counted bound xs rising.1 (λ u has. below u (inr has)) in
      elim (cases_lt (key_of nodes x) bound) [
        | inl less ↦
            key_more (Some bound) x xs 1 (counted nodes bound xs) (counted nodes bound (x ∷ xs)) rising
            (ap (λ (b : Bool). cond b 1 0 + counted nodes bound xs) (sym (lt-ltb (key_of nodes x) bound less)) ∙ step)
            (count_if_below (Some bound) (key_of nodes x) next (below x (inl refl)) less) rest
        | inr past ↦
            key_more (Some bound) x xs 0 (counted nodes bound xs) (counted nodes bound (x ∷ xs)) rising
            (ap (λ (b : Bool). cond b 1 0 + counted nodes bound xs) (sym (le-ltb (key_of nodes x) bound past)) ∙ step)
            (count_if_past bound (key_of nodes x) next past) rest
      ]

-- the keys of one line
pub line_counted : (nodes : List NodeData) (queues : List QueueData) (line : ℕ → Option ℕ) (q next bound count : ℕ) → (is : IsLine nodes queues line q)
    → HasNumbers nodes line next → count ≡ counted nodes bound is.slots → IsCount (HasKeyIn nodes line q (Some bound)) next count
line_counted nodes queues line q next bound count is numbers right =
    subst (IsCount (HasKeyIn nodes line q (Some bound)) next) (sym right)
    (count_alike (HasKeyOf nodes is.slots (Some bound)) (HasKeyIn nodes line q (Some bound)) next (counted nodes bound is.slots)
    (λ i has. (has.0, is.only has.0 has.1, has.2, has.3)) (λ i has. (has.0, is.all has.0 has.1, has.2, has.3))
    (keys_counted nodes next bound is.slots is.is_queue.rising (λ u has. numbers.before u q (is.only u has))))

-- one more line
pub lines_more : (nodes : List NodeData) (line : ℕ → Option ℕ) (first at next : ℕ) (bound : Option ℕ) (before one after : ℕ) → HasNumbers nodes line next → first ≤ at
    → before + one ≡ after → IsCount (HasKeyFrom nodes line first at bound) next before → IsCount (HasKeyIn nodes line at bound) next one
    → IsCount (HasKeyFrom nodes line first (at + 1) bound) next after
lines_more nodes line first at next bound before one after numbers inside total some more =
    count_alike (λ i. HasKeyFrom nodes line first at bound i ⊎ HasKeyIn nodes line at bound i) (HasKeyFrom nodes line first (at + 1) bound) next after to from
    (count_both (HasKeyFrom nodes line first at bound) (HasKeyIn nodes line at bound) next before one after apart total some more)
  where
    apart : (i : ℕ) → HasKeyFrom nodes line first at bound i → HasKeyIn nodes line at bound i → ⊥
    apart i has mine =
        let theirs = has.3 in
        let less : has.0 < at = has.2 in
        let one_slot : theirs.0 ≡ mine.0 = numbers.once theirs.0 mine.0 has.0 at theirs.1 mine.1 (theirs.2 ∙ sym mine.2) in
        let one_line : has.0 ≡ at = same (sym theirs.1 ∙ ap line one_slot ∙ mine.1) in
        omega (arith, less, one_line)

    to : (i : ℕ) → HasKeyFrom nodes line first at bound i ⊎ HasKeyIn nodes line at bound i → HasKeyFrom nodes line first (at + 1) bound i
    to i (inl has) = (has.0, has.1, (let less : has.0 < at = has.2 in omega (arith, less)), has.3)
    to i (inr has) = (at, inside, omega arith, has)

    from : (i : ℕ) → HasKeyFrom nodes line first (at + 1) bound i → HasKeyFrom nodes line first at bound i ⊎ HasKeyIn nodes line at bound i
    from i has = elim (cases_eq has.0 at) [
      | inl one ↦ inr (subst (λ (q : ℕ). HasKeyIn nodes line q bound i) one has.3)
      | inr other ↦ inl (has.0, has.1, (let less : has.0 < at + 1 = has.2 in omega (arith, less, other)), has.3)
    ]

-- no line
pub no_lines : (nodes : List NodeData) (line : ℕ → Option ℕ) (first next : ℕ) (bound : Option ℕ) → IsCount (HasKeyFrom nodes line first first bound) next 0
no_lines nodes line first next bound =
    count_none (HasKeyFrom nodes line first first bound) next (λ i has. (let from : first ≤ has.0 = has.1 in let less : has.0 < first = has.2 in omega (arith, from, less)))
