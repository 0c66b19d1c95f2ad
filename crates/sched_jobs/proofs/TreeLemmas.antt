-- Trees that nodes hold.
use Rattle.std.proofs.Common.{◌≡◌, ◌≢◌, ℕ, ◌+◌, ◌*◌, ◌/◌, ◌%◌, ◌<◌, ◌≤◌, inl, inr, true, false, cond, min, eqb, List, [], ◌∷◌, ◌++◌, length, refl, sym, ◌∙◌, ap, subst, arith, length-append}
use Rattle.std.proofs.lemmas.Bool.{eq-eqb, ne_eqb}
use Rattle.sched_jobs.specs.declared.nodes.TheConstants.{MAX_SLOTS}
use Rattle.sched_jobs.specs.declared.nodes.Fork.{Fork as ForkData}
use Rattle.sched_jobs.specs.declared.nodes.QueueNode.{QueueNode as NodeData}
use Rattle.sched_jobs.specs.Nodes.{estimate_of, key_of}
use Rattle.sched_jobs.specs.Lists.{Has, IsRising}
use Rattle.sched_jobs.specs.InnerQueue.Tree.{Tree, leaf, branch, Holds, IsAt, IsJoin, Precedes, first_of, fork_of, least_of, size_of, slots_of}
use Rattle.sched_jobs.specs.InnerQueue.Changes.{KeepsItems, IsPair, least_at, size_at}
use Rattle.sched_jobs.proofs.ListLemmas.{has_left, has_right, has_cases, rising_append, rising_few}

pub has_first : (tree : Tree) → Has (slots_of tree) (first_of tree)
has_first (leaf slot) = inl refl
has_first (branch before after) = has_left (slots_of before) (slots_of after) (first_of before) (has_first before)

pub slots_inside : (nodes : List NodeData) (tree : Tree) → Holds nodes tree → (u : ℕ) → Has (slots_of tree) u → u < length nodes
slots_inside nodes (leaf slot) held u (inl same) = subst (λ s. s < length nodes) (sym same) held
slots_inside nodes (leaf slot) held u (inr later) = absurd later
slots_inside nodes (branch before after) held u h =
    elim (has_cases (slots_of before) (slots_of after) u h) [
      | inl left ↦ slots_inside nodes before held.1 u left
      | inr right ↦ slots_inside nodes after held.2 u right
    ]

-- no item has a lesser key than the first
pub first_is_least : (nodes : List NodeData) (tree : Tree) → Holds nodes tree → (u : ℕ) → Has (slots_of tree) u
    → key_of nodes (first_of tree) ≤ key_of nodes u
first_is_least nodes (leaf slot) held u (inl same) = let equal = ap (key_of nodes) same in omega arith
first_is_least nodes (leaf slot) held u (inr later) = absurd later
first_is_least nodes (branch before after) held u h =
    elim (has_cases (slots_of before) (slots_of after) u h) [
      | inl left ↦ first_is_least nodes before held.1 u left
      | inr right ↦ (let less = held.0.order (first_of before) u (has_first before) right in omega arith)
    ]

pub size_is_length : (tree : Tree) → size_of tree ≡ length (slots_of tree)
size_is_length (leaf slot) = refl
size_is_length (branch before after) =
    let one = size_is_length before in let two = size_is_length after in
    omega (arith, one, two, length-append (slots_of before) (slots_of after))

pub slots_rise : (nodes : List NodeData) (tree : Tree) → Holds nodes tree → IsRising nodes (slots_of tree)
slots_rise nodes (leaf slot) held = (λ u h. absurd h, tt)
slots_rise nodes (branch before after) held =
    rising_append nodes (slots_of before) (slots_of after) (slots_rise nodes before held.1) (slots_rise nodes after held.2) held.0.order

-- a tree has at most as many items as there are nodes
pub few_items : (nodes : List NodeData) (tree : Tree) → Holds nodes tree → size_of tree ≤ length nodes
few_items nodes tree held =
    let few = rising_few nodes (slots_of tree) (length nodes) (slots_rise nodes tree held) (slots_inside nodes tree held) in
    omega (arith, few, size_is_length tree)

-- what a link says
pub size_at_link : (nodes : List NodeData) (link : ℕ) (tree : Tree) → IsAt nodes link tree → size_at nodes link ≡ size_of tree
size_at_link nodes link (leaf slot) at =
    let test : eqb (link % 2) 0 ≡ true = eq-eqb (link % 2) 0 (omega arith) in
    ap (λ b. cond b 1 (fork_of nodes (link / 2)).size) test
size_at_link nodes link (branch before after) at =
    let test : eqb (link % 2) 0 ≡ false = ne_eqb (link % 2) 0 (λ even. omega arith) in
    let here : link / 2 ≡ first_of after = omega arith in
    ap (λ b. cond b 1 (fork_of nodes (link / 2)).size) test ∙ ap (λ s. (fork_of nodes s).size) here ∙ at.held.0.counted

pub least_at_link : (nodes : List NodeData) (link : ℕ) (tree : Tree) → IsAt nodes link tree → least_at nodes link ≡ least_of nodes tree
least_at_link nodes link (leaf slot) at =
    let test : eqb (link % 2) 0 ≡ true = eq-eqb (link % 2) 0 (omega arith) in
    let here : link / 2 ≡ slot = omega arith in
    ap (λ b. cond b (estimate_of nodes (link / 2)) (fork_of nodes (link / 2)).least) test ∙ ap (estimate_of nodes) here
least_at_link nodes link (branch before after) at =
    let test : eqb (link % 2) 0 ≡ false = ne_eqb (link % 2) 0 (λ even. omega arith) in
    let here : link / 2 ≡ first_of after = omega arith in
    ap (λ b. cond b (estimate_of nodes (link / 2)) (fork_of nodes (link / 2)).least) test ∙ ap (λ s. (fork_of nodes s).least) here ∙ at.held.0.lowest

pub least_kept : (old new : List NodeData) (tree : Tree) → ((u : ℕ) → Has (slots_of tree) u → estimate_of new u ≡ estimate_of old u)
    → least_of new tree ≡ least_of old tree
least_kept old new (leaf slot) same = same slot (inl refl)
least_kept old new (branch before after) same =
    let one = least_kept old new before (λ u h. same u (has_left (slots_of before) (slots_of after) u h)) in
    let two = least_kept old new after (λ u h. same u (has_right (slots_of before) (slots_of after) u h)) in
    ap (λ a. min a (least_of new after)) one ∙ ap (min (least_of old before)) two

pub apart : (nodes : List NodeData) (before after : Tree) → Precedes nodes before after → (u v : ℕ)
    → Has (slots_of before) u → Has (slots_of after) v → u ≢ v
apart nodes before after order u v hu hv same =
    let less = order u v hu hv in let equal = ap (key_of nodes) same in omega arith

-- Two slices agree on all that a tree needs.
pub record Agrees (old new : List NodeData) (tree : Tree) : Type 0 where
  pub no_shorter : length old ≤ length new
  pub same_keys : (u : ℕ) → Has (slots_of tree) u → key_of new u ≡ key_of old u
  pub same_estimates : (u : ℕ) → Has (slots_of tree) u → estimate_of new u ≡ estimate_of old u
  pub same_forks : (u : ℕ) → Has (slots_of tree) u → u ≢ first_of tree → fork_of new u ≡ fork_of old u

pub agrees_before : (old new : List NodeData) (before after : Tree) → Precedes old before after
    → Agrees old new (branch before after) → Agrees old new before
agrees_before old new before after order same = record {
  no_shorter = same.no_shorter;
  same_keys = λ u h. same.same_keys u (has_left (slots_of before) (slots_of after) u h);
  same_estimates = λ u h. same.same_estimates u (has_left (slots_of before) (slots_of after) u h);
  same_forks = λ u h other. same.same_forks u (has_left (slots_of before) (slots_of after) u h) other;
}

pub agrees_after : (old new : List NodeData) (before after : Tree) → Precedes old before after
    → Agrees old new (branch before after) → Agrees old new after
agrees_after old new before after order same = record {
  no_shorter = same.no_shorter;
  same_keys = λ u h. same.same_keys u (has_right (slots_of before) (slots_of after) u h);
  same_estimates = λ u h. same.same_estimates u (has_right (slots_of before) (slots_of after) u h);
  same_forks = λ u h other. same.same_forks u (has_right (slots_of before) (slots_of after) u h)
      (λ equal. apart old before after order (first_of before) u (has_first before) h (sym equal));
}

pub order_kept : (old new : List NodeData) (before after : Tree)
    → ((u : ℕ) → Has (slots_of before) u → key_of new u ≡ key_of old u)
    → ((u : ℕ) → Has (slots_of after) u → key_of new u ≡ key_of old u)
    → Precedes old before after → Precedes new before after
order_kept old new before after one two order u v hu hv =
    let less = order u v hu hv in let equal = one u hu in let equal2 = two v hv in omega arith

pub holds_kept : (old new : List NodeData) (tree : Tree) → Agrees old new tree → Holds old tree → Holds new tree
holds_kept old new (leaf slot) same held = let longer = same.no_shorter in omega arith
holds_kept old new (branch before after) same held =
    let order = held.0.order in
    let one = agrees_before old new before after order same in
    let two = agrees_after old new before after order same in
    let fork : fork_of new (first_of after) ≡ fork_of old (first_of after) =
    same.same_forks (first_of after) (has_right (slots_of before) (slots_of after) (first_of after) (has_first after))
    (λ equal. apart old before after order (first_of before) (first_of after) (has_first before) (has_first after) (sym equal)) in (
      record {
        to_left = ap (λ f. f.left) fork ∙ held.0.to_left;
        to_right = ap (λ f. f.right) fork ∙ held.0.to_right;
        counted = ap (λ f. f.size) fork ∙ held.0.counted;
        lowest = ap (λ f. f.least) fork ∙ held.0.lowest ∙ sym (least_kept old new (branch before after) same.same_estimates);
        order = order_kept old new before after one.same_keys two.same_keys order;
      },
      holds_kept old new before one held.1,
      holds_kept old new after two held.2,
    )

-- a tree whose slots are apart from the written ones stays
pub keeps_agrees : (old new : List NodeData) (slots : List ℕ) (tree : Tree) → KeepsItems old new slots
    → ((u : ℕ) → Has (slots_of tree) u → u ≢ first_of tree → Has slots u → ⊥) → Agrees old new tree
keeps_agrees old new slots tree keeps clear = record {
  no_shorter = (let equal = keeps.same_length in omega arith);
  same_keys = λ u h. keeps.same_keys u;
  same_estimates = λ u h. keeps.same_estimates u;
  same_forks = λ u h other. keeps.same_forks u (clear u h other);
}

pub at_kept : (old new : List NodeData) (link : ℕ) (slots : List ℕ) (tree : Tree) → KeepsItems old new slots
    → ((u : ℕ) → Has (slots_of tree) u → u ≢ first_of tree → Has slots u → ⊥)
    → IsAt old link tree → IsAt new link tree
at_kept old new link slots tree keeps clear at =
    let equal = keeps.same_length in record {
      limit = (let most = at.limit in omega arith);
      linked = at.linked;
      held = holds_kept old new tree (keeps_agrees old new slots tree keeps clear) at.held;
    }

-- a fork that is written over two trees joins them
pub made_pair : (old new : List NodeData) (slot left right link : ℕ) (before after : Tree) → IsPair old slot left right before after
    → KeepsItems old new (slot ∷ []) → link ≡ 2 * slot + 1
    → (fork_of new slot).left ≡ left → (fork_of new slot).right ≡ right
    → (fork_of new slot).size ≡ size_of before + size_of after
    → (fork_of new slot).least ≡ min (least_of old before) (least_of old after)
    → IsAt new link (branch before after)
made_pair old new slot left right link before after pair keeps linked to_left to_right counted lowest =
    let place = pair.place in
    let same = keeps.same_length in
    let one = at_kept old new left (slot ∷ []) before keeps
    (λ u h other written. elim written [
      | inl equal ↦ apart old before after pair.order u (first_of after) h (has_first after) (equal ∙ place)
      | inr none ↦ none
    ]) pair.first_tree in
    let two = at_kept old new right (slot ∷ []) after keeps
    (λ u h other written. elim written [ inl equal ↦ other (equal ∙ place) | inr none ↦ none ]) pair.second_tree in
    let estimates : (least_of new before ≡ least_of old before) × (least_of new after ≡ least_of old after) =
    (least_kept old new before (λ u h. keeps.same_estimates u), least_kept old new after (λ u h. keeps.same_estimates u)) in
    let join : IsJoin new (fork_of new slot) before after = record {
      to_left = to_left ∙ pair.first_tree.linked;
      to_right = to_right ∙ pair.second_tree.linked;
      counted = counted;
      lowest = lowest ∙ ap (λ a. min a (least_of old after)) (sym estimates.0) ∙ ap (min (least_of new before)) (sym estimates.1);
      order = order_kept old new before after (λ u h. keeps.same_keys u) (λ u h. keeps.same_keys u) pair.order;
    } in
    record {
      limit = one.limit;
      linked = linked ∙ ap (λ s. 2 * s + 1) place;
      held = (subst (λ s. IsJoin new (fork_of new s) before after) place join, one.held, two.held);
    }

-- what the links of a pair say
pub size_of_pair : (nodes : List NodeData) (slot left right : ℕ) (before after : Tree) → IsPair nodes slot left right before after
    → size_at nodes left + size_at nodes right ≡ size_of before + size_of after
size_of_pair nodes slot left right before after pair =
    let one = size_at_link nodes left before pair.first_tree in
    let two = size_at_link nodes right after pair.second_tree in
    omega arith

pub least_of_pair : (nodes : List NodeData) (slot left right : ℕ) (before after : Tree) → IsPair nodes slot left right before after
    → min (least_at nodes left) (least_at nodes right) ≡ min (least_of nodes before) (least_of nodes after)
least_of_pair nodes slot left right before after pair =
    ap (λ a. min a (least_at nodes right)) (least_at_link nodes left before pair.first_tree)
    ∙ ap (min (least_of nodes before)) (least_at_link nodes right after pair.second_tree)

-- the slot of a pair's fork is in the slice
pub place_inside : (nodes : List NodeData) (slot left right : ℕ) (before after : Tree) → IsPair nodes slot left right before after
    → slot < length nodes
place_inside nodes slot left right before after pair =
    let inside = slots_inside nodes after pair.second_tree.held (first_of after) (has_first after) in
    let place = pair.place in omega arith

-- the slot of a link is in the slice
pub link_inside : (nodes : List NodeData) (link : ℕ) (tree : Tree) → IsAt nodes link tree → link / 2 < length nodes
link_inside nodes link (leaf slot) at = let held : slot < length nodes = at.held in let linked = at.linked in omega arith
link_inside nodes link (branch before after) at =
    let inside = slots_inside nodes after at.held.2 (first_of after) (has_first after) in let linked = at.linked in omega arith

-- the sizes of two trees that can be joined are small
pub pair_is_small : (nodes : List NodeData) (slot left right : ℕ) (before after : Tree) → IsPair nodes slot left right before after
    → size_of before + size_of after ≤ MAX_SLOTS
pair_is_small nodes slot left right before after pair =
    let few = rising_few nodes (slots_of before ++ slots_of after) (length nodes)
    (rising_append nodes (slots_of before) (slots_of after) (slots_rise nodes before pair.first_tree.held) (slots_rise nodes after pair.second_tree.held) pair.order)
    (λ u h. elim (has_cases (slots_of before) (slots_of after) u h) [
      | inl one ↦ slots_inside nodes before pair.first_tree.held u one
      | inr two ↦ slots_inside nodes after pair.second_tree.held u two
    ]) in
    let limit = pair.first_tree.limit in
    omega (arith, few, limit, length-append (slots_of before) (slots_of after), size_is_length before, size_is_length after)

pub some_items : (tree : Tree) → 0 < size_of tree
some_items (leaf slot) = omega arith
some_items (branch before after) = let one = some_items before in omega arith

-- A link leads to a fork, which was read.
pub record BranchAt (nodes : List NodeData) (link : ℕ) (tree : Tree) (found : ForkData) : Type 0 where
  pub before : Tree
  pub after : Tree
  pub whole : tree ≡ branch before after
  pub read : found ≡ fork_of nodes (link / 2)
  pub to_left : IsAt nodes found.left before
  pub to_right : IsAt nodes found.right after
  pub order : Precedes nodes before after
  pub place : link / 2 ≡ first_of after
  pub counted : found.size ≡ size_of before + size_of after
  pub lowest : found.least ≡ min (least_of nodes before) (least_of nodes after)
  pub left_smaller : size_at nodes found.left < size_at nodes link
  pub right_smaller : size_at nodes found.right < size_at nodes link

pub branch_at : (nodes : List NodeData) (link : ℕ) (tree : Tree) (found : ForkData) → IsAt nodes link tree
    → link % 2 ≡ 1 → found ≡ fork_of nodes (link / 2) → BranchAt nodes link tree found
branch_at nodes link (leaf slot) found at odd is = let linked = at.linked in absurd (omega arith)
branch_at nodes link (branch before after) found at odd is =
    let linked = at.linked in
    let place : link / 2 ≡ first_of after = omega arith in
    let same : found ≡ fork_of nodes (first_of after) = is ∙ ap (fork_of nodes) place in
    let one : IsAt nodes found.left before =
    record { limit = at.limit; linked = ap (λ f. f.left) same ∙ at.held.0.to_left; held = at.held.1 } in
    let two : IsAt nodes found.right after =
    record { limit = at.limit; linked = ap (λ f. f.right) same ∙ at.held.0.to_right; held = at.held.2 } in
    let whole = size_at_link nodes link (branch before after) at in
    let left = size_at_link nodes found.left before one in
    let right = size_at_link nodes found.right after two in
    let some_left = some_items before in
    let some_right = some_items after in
    record {
      before = before;
      after = after;
      whole = refl;
      read = is;
      to_left = one;
      to_right = two;
      order = at.held.0.order;
      place = place;
      counted = ap (λ f. f.size) same ∙ at.held.0.counted;
      lowest = ap (λ f. f.least) same ∙ at.held.0.lowest;
      left_smaller = omega arith;
      right_smaller = omega arith;
    }

-- a link leads to a leaf
pub leaf_at : (nodes : List NodeData) (link : ℕ) (tree : Tree) → IsAt nodes link tree → link % 2 ≡ 0 → tree ≡ leaf (link / 2)
leaf_at nodes link (leaf slot) at even = let linked = at.linked in let same : slot ≡ link / 2 = omega arith in ap leaf same
leaf_at nodes link (branch before after) at even = let linked = at.linked in absurd (omega arith)
