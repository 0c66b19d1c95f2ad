-- What is found and counted below a fork.
use Rattle.std.proofs.Common.{◌≡◌, ℕ, ◌+◌, ◌<◌, ◌≤◌, ◌⊎◌, inl, inr, cond, ltb, min, List, [], ◌∷◌, length, refl, ◌∙◌, ap, arith}
use Rattle.std.specs.List.{count_by}
use Rattle.std.proofs.lemmas.Bool.{lt-ltb, le-ltb}
use Rattle.std.proofs.lemmas.List.Sums.{count_by-le-length, sum_by-append, sum_by-cons}
use Rattle.sched_jobs.specs.declared.nodes.QueueNode.{QueueNode as NodeData}
use Rattle.sched_jobs.specs.Nodes.{estimate_of, key_of}
use Rattle.sched_jobs.specs.Lists.{Has}
use Rattle.sched_jobs.specs.Queues.{IsOldestWithin}
use Rattle.sched_jobs.specs.InnerQueue.Tree.{Tree, leaf, branch, Holds, Precedes, first_of, least_of, size_of, slots_of}
use Rattle.sched_jobs.proofs.ListLemmas.{has_left, has_right, has_cases}
use Rattle.sched_jobs.proofs.TreeLemmas.{has_first, first_is_least, size_is_length}

-- no item has a lesser estimate than the least
pub least_is_least : (nodes : List NodeData) (tree : Tree) (u : ℕ) → Has (slots_of tree) u
    → least_of nodes tree ≤ estimate_of nodes u
least_is_least nodes (leaf slot) u (inl same) = let equal = ap (estimate_of nodes) same in omega arith
least_is_least nodes (leaf slot) u (inr later) = absurd later
least_is_least nodes (branch before after) u h =
    elim (has_cases (slots_of before) (slots_of after) u h) [
      | inl left ↦ (let one = least_is_least nodes before u left in omega arith)
      | inr right ↦ (let two = least_is_least nodes after u right in omega arith)
    ]

-- what is at most each item's estimate is at most the least
pub least_is_greatest : (nodes : List NodeData) (tree : Tree) (bound : ℕ)
    → ((u : ℕ) → Has (slots_of tree) u → bound ≤ estimate_of nodes u) → bound ≤ least_of nodes tree
least_is_greatest nodes (leaf slot) bound all = all slot (inl refl)
least_is_greatest nodes (branch before after) bound all =
    let one = least_is_greatest nodes before bound (λ u h. all u (has_left (slots_of before) (slots_of after) u h)) in
    let two = least_is_greatest nodes after bound (λ u h. all u (has_right (slots_of before) (slots_of after) u h)) in
    omega arith

-- the least of a tree that has one item more
pub least_more : (nodes : List NodeData) (less more : Tree) (slot : ℕ)
    → ((u : ℕ) → Has (slots_of less) u → Has (slots_of more) u) → Has (slots_of more) slot
    → ((u : ℕ) → Has (slots_of more) u → Has (slots_of less) u ⊎ (u ≡ slot))
    → least_of nodes more ≡ min (least_of nodes less) (estimate_of nodes slot)
least_more nodes less more slot within own either =
    let below = least_is_greatest nodes less (least_of nodes more) (λ u h. least_is_least nodes more u (within u h)) in
    let below_own = least_is_least nodes more slot own in
    let above = least_is_greatest nodes more (min (least_of nodes less) (estimate_of nodes slot)) (λ u h. elim (either u h) [
      | inl one ↦ (let least = least_is_least nodes less u one in omega arith)
      | inr same ↦ (let equal = ap (estimate_of nodes) same in omega arith)
    ]) in
    omega arith

pub within_left : (nodes : List NodeData) (before after : Tree) (limit slot : ℕ) → Precedes nodes before after
    → IsOldestWithin nodes (slots_of before) limit slot
    → IsOldestWithin nodes (slots_of (branch before after)) limit slot
within_left nodes before after limit slot order found = record {
  one_of = has_left (slots_of before) (slots_of after) slot found.one_of;
  within = found.within;
  oldest = λ u h less. elim (has_cases (slots_of before) (slots_of after) u h) [
    | inl left ↦ found.oldest u left less
    | inr right ↦ (let more = order slot u found.one_of right in absurd (omega arith))
  ];
}

pub within_right : (nodes : List NodeData) (before after : Tree) (limit slot : ℕ) → limit < least_of nodes before
    → IsOldestWithin nodes (slots_of after) limit slot
    → IsOldestWithin nodes (slots_of (branch before after)) limit slot
within_right nodes before after limit slot long found = record {
  one_of = has_right (slots_of before) (slots_of after) slot found.one_of;
  within = found.within;
  oldest = λ u h less. elim (has_cases (slots_of before) (slots_of after) u h) [
    | inl left ↦ (let least = least_is_least nodes before u left in omega arith)
    | inr right ↦ found.oldest u right less
  ];
}

-- The number of slots with a lesser key.
abbrev pub lesser : List NodeData → ℕ → List ℕ → ℕ
lesser nodes key slots = count_by (λ u. ltb (key_of nodes u) key) slots

none_lesser : (nodes : List NodeData) (key : ℕ) (slots : List ℕ) → ((u : ℕ) → Has slots u → key ≤ key_of nodes u)
    → lesser nodes key slots ≡ 0
none_lesser nodes key [] all = refl
none_lesser nodes key (x ∷ xs) all =
    sum_by-cons (λ u. cond (ltb (key_of nodes u) key) 1 0) x xs
    ∙ ap (λ b. cond b 1 0 + lesser nodes key xs) (le-ltb (key_of nodes x) key (all x (inl refl)))
    ∙ (let later = none_lesser nodes key xs (λ u h. all u (inr h)) in omega arith)

all_lesser : (nodes : List NodeData) (key : ℕ) (slots : List ℕ) → ((u : ℕ) → Has slots u → key_of nodes u < key)
    → lesser nodes key slots ≡ length slots
all_lesser nodes key [] all = refl
all_lesser nodes key (x ∷ xs) all =
    sum_by-cons (λ u. cond (ltb (key_of nodes u) key) 1 0) x xs
    ∙ ap (λ b. cond b 1 0 + lesser nodes key xs) (lt-ltb (key_of nodes x) key (all x (inl refl)))
    ∙ (let later = all_lesser nodes key xs (λ u h. all u (inr h)) in omega arith)

pub lesser_left : (nodes : List NodeData) (key : ℕ) (before after : Tree) → Holds nodes after
    → key ≤ key_of nodes (first_of after)
    → lesser nodes key (slots_of before) ≡ lesser nodes key (slots_of (branch before after))
lesser_left nodes key before after held most =
    let both = sum_by-append (λ u. cond (ltb (key_of nodes u) key) 1 0) (slots_of before) (slots_of after) in
    let none = none_lesser nodes key (slots_of after) (λ u h. let least = first_is_least nodes after held u h in omega arith) in
    omega arith

pub lesser_right : (nodes : List NodeData) (key : ℕ) (before after : Tree) → Precedes nodes before after
    → key_of nodes (first_of after) < key
    → size_of before + lesser nodes key (slots_of after) ≡ lesser nodes key (slots_of (branch before after))
lesser_right nodes key before after order less =
    let both = sum_by-append (λ u. cond (ltb (key_of nodes u) key) 1 0) (slots_of before) (slots_of after) in
    let all = all_lesser nodes key (slots_of before) (λ u h. let before_it = order u (first_of after) h (has_first after) in omega arith) in
    let size = size_is_length before in
    omega arith

-- no more slots have a lesser key than there are
pub lesser_is_small : (nodes : List NodeData) (key : ℕ) (tree : Tree) → lesser nodes key (slots_of tree) ≤ size_of tree
lesser_is_small nodes key tree =
    let few = count_by-le-length (λ u. ltb (key_of nodes u) key) (slots_of tree) in
    let size = size_is_length tree in omega arith
