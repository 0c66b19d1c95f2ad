-- Queues.
use Rattle.std.proofs.Common.{◌≡◌, ◌≢◌, ℕ, ◌*◌, ◌/◌, ◌%◌, ◌<◌, ◌≤◌, inl, inr, cond, List, [], ◌∷◌, ◌++◌, Option, Some, length, refl, sym, ◌∙◌, ap, subst, arith}
use Rattle.std.proofs.lemmas.Bool.{cases_eq, eq-eqb, ne_eqb}
use Rattle.sched_jobs.specs.declared.nodes.TheConstants.{MAX_SLOTS, NO_LINK}
use Rattle.sched_jobs.specs.declared.nodes.QueueNode.{QueueNode as NodeData}
use Rattle.sched_jobs.specs.declared.queues.Queue.{Queue as QueueData}
use Rattle.sched_jobs.specs.Nodes.{key_of, node_at}
use Rattle.sched_jobs.specs.Lists.{AreApart, Has, IsRising, first_slot}
use Rattle.sched_jobs.specs.Queues.{CanAppend, HasItem, HasTree, IsQueue}
use Rattle.sched_jobs.specs.InnerQueue.Tree.{Tree, leaf, IsAt, first_of, slots_of}
use Rattle.sched_jobs.specs.InnerQueue.Changes.{CanPush, CanRemove, HasOthers, HasPushed, HasRemoved, KeepsItems, without}
use Rattle.sched_jobs.proofs.ListLemmas.{has_right, has_cases}
use Rattle.sched_jobs.proofs.TreeLemmas.{Agrees, holds_kept, leaf_at, link_inside, slots_inside, slots_rise}
use Rattle.sched_jobs.proofs.PushLemmas.{first_is_head}
use Rattle.sched_jobs.proofs.RemoveLemmas.{is_forked, without_none}

-- a tree at the root is a queue
pub queue_of_tree : (nodes : List NodeData) (queue : QueueData) (slots : List ℕ) (tree : Tree) → IsAt nodes queue.root tree
    → slots_of tree ≡ slots → Some queue.front ≡ first_slot slots → IsQueue nodes queue slots
queue_of_tree nodes queue slots tree found all front = record {
  rising = subst (IsRising nodes) all (slots_rise nodes tree found.held);
  inside = λ slot h. slots_inside nodes tree found.held slot (subst (λ xs. Has xs slot) (sym all) h);
  first = λ slot is. one_front queue.front slot (front ∙ is);
  shape = inr (record { tree = tree; found = found; all = all });
}
  where
    one_front : (a b : ℕ) → ◌≡◌ {A = Option ℕ} (Some a) (Some b) → a ≡ b
    one_front a b same = cc

pub empty_queue : (nodes : List NodeData) (queue : QueueData) → queue.root ≡ NO_LINK → IsQueue nodes queue []
empty_queue nodes queue is = record { rising = tt; inside = λ slot h. absurd h; first = λ slot none. absurd cc; shape = inl (is, refl) }

-- no tree has the link of an empty queue
pub not_empty_link : (nodes : List NodeData) (link : ℕ) (tree : Tree) → IsAt nodes link tree → link ≢ NO_LINK
not_empty_link nodes link tree at is =
    let inside = link_inside nodes link tree at in let limit = at.limit in omega arith

pub is_no_slot : (nodes : List NodeData) (queue : QueueData) (slots : List ℕ) → IsQueue nodes queue slots
    → queue.root ≡ NO_LINK → slots ≡ []
is_no_slot nodes queue slots is empty = elim is.shape [
  | inl none ↦ none.1
  | inr some ↦ absurd (not_empty_link nodes queue.root some.tree some.found empty)
]

pub root_of_none : (nodes : List NodeData) (queue : QueueData) (slots : List ℕ) → IsQueue nodes queue slots
    → slots ≡ [] → queue.root ≡ NO_LINK
root_of_none nodes queue slots is none = elim is.shape [
  | inl empty ↦ empty.0
  | inr some ↦ (let head = first_is_head some.tree in
      let gone : first_of some.tree ∷ head.0 ≡ [] = sym head.1 ∙ some.all ∙ none in cc)
]

pub is_tree : (nodes : List NodeData) (queue : QueueData) (slots : List ℕ) → IsQueue nodes queue slots
    → queue.root ≢ NO_LINK → HasTree nodes queue.root slots
is_tree nodes queue slots is some = elim is.shape [ inl none ↦ absurd (some none.0) | inr tree ↦ tree ]

pub first_slot_of : (nodes : List NodeData) (link : ℕ) (slots : List ℕ) (found : HasTree nodes link slots)
    → Some (first_of found.tree) ≡ first_slot slots
first_slot_of nodes link slots found =
    let head = first_is_head found.tree in sym (ap first_slot head.1) ∙ ap first_slot found.all

-- the front is the first slot
pub front_is : (nodes : List NodeData) (queue : QueueData) (slots : List ℕ) → IsQueue nodes queue slots → HasTree nodes queue.root slots
    → Some queue.front ≡ first_slot slots
front_is nodes queue slots is found =
    let first = first_slot_of nodes queue.root slots found in
    ap Some (is.first (first_of found.tree) (sym first)) ∙ first

-- a slot that is appended is not the first one
pub first_more : (slots more : List ℕ) (x : ℕ) → Some x ≡ first_slot slots → Some x ≡ first_slot (slots ++ more)
first_more [] more x is = absurd cc
first_more (first ∷ others) more x is = is

-- a list without a slot begins as before, if it was not the first one
pub first_without : (slots : List ℕ) (slot x : ℕ) → Some x ≡ first_slot slots → x ≢ slot → Some x ≡ first_slot (without slot slots)
first_without [] slot x is other = absurd cc
first_without (first ∷ others) slot x is other =
    let same : x ≡ first = cc in
    is ∙ ap first_slot (sym (ap (λ b. cond b (without slot others) (first ∷ without slot others)) (ne_eqb slot first (λ one. other (same ∙ sym one)))))

-- a queue stays if the nodes of its slots do
pub queue_rests : (old new : List NodeData) (queue : QueueData) (slots : List ℕ) → IsQueue old queue slots
    → length old ≤ length new → (length old ≤ MAX_SLOTS → length new ≤ MAX_SLOTS)
    → ((u : ℕ) → Has slots u → node_at new u ≡ node_at old u) → IsQueue new queue slots
queue_rests old new queue slots is longer limit same = elim is.shape [
  | inl none ↦ subst (IsQueue new queue) (sym none.1) (empty_queue new queue none.0)
  | inr some ↦ (
      let kept : (u : ℕ) → Has (slots_of some.tree) u → node_at new u ≡ node_at old u =
      λ u h. same u (subst (λ xs. Has xs u) some.all h) in
      let agrees : Agrees old new some.tree = record {
        no_shorter = longer;
        same_keys = λ u h. ap (λ n. n.key) (kept u h);
        same_estimates = λ u h. ap (λ n. n.estimate) (kept u h);
        same_forks = λ u h other. ap (λ n. n.fork) (kept u h);
      } in
      let at : IsAt new queue.root some.tree = record {
        limit = limit some.found.limit;
        linked = some.found.linked;
        held = holds_kept old new some.tree agrees some.found.held;
      } in
      queue_of_tree new queue slots some.tree at some.all (front_is old queue slots is some))
]

pub queue_kept : (old new : List NodeData) (touched : List ℕ) (queue : QueueData) (slots : List ℕ) → HasOthers old new touched
    → AreApart touched slots → IsQueue old queue slots → IsQueue new queue slots
queue_kept old new touched queue slots same clear is =
    let equal = same.same_length in
    queue_rests old new queue slots is (omega arith) (λ limit. omega arith)
    (λ u h. same.same_nodes u (λ hit. clear u hit h))

-- a node is its parts
same_node : (a b : NodeData) → a.key ≡ b.key → a.estimate ≡ b.estimate → a.fork ≡ b.fork → a ≡ b
same_node a b keys estimates forks =
    ap (λ k. record a { key = k }) keys
    ∙ ap (λ e. record a { key = b.key; estimate = e }) estimates
    ∙ ap (λ f. record b { fork = f }) forks

pub others_kept : (old new : List NodeData) (slots : List ℕ) → KeepsItems old new slots → HasOthers old new slots
others_kept old new slots keeps = record {
  same_length = keeps.same_length;
  same_nodes = λ u out. same_node (node_at new u) (node_at old u) (keeps.same_keys u) (keeps.same_estimates u) (keeps.same_forks u out);
}

pub others_more : (old new : List NodeData) (slots more : List ℕ) → ((u : ℕ) → Has slots u → Has more u) → HasOthers old new slots
    → HasOthers old new more
others_more old new slots more within same = record {
  same_length = same.same_length;
  same_nodes = λ u out. same.same_nodes u (λ h. out (within u h));
}

pub others_twice : (old mid new : List NodeData) (slots : List ℕ) → HasOthers old mid slots → HasOthers mid new slots
    → HasOthers old new slots
others_twice old mid new slots one two = record {
  same_length = two.same_length ∙ one.same_length;
  same_nodes = λ u out. two.same_nodes u out ∙ one.same_nodes u out;
}

-- ---- push ----

-- what `put_item` wrote
pub record HasPut (old mid : List NodeData) (slot key : ℕ) : Type 0 where
  pub own : key_of mid slot ≡ key
  pub rest : HasOthers old mid (slot ∷ [])

module _ (old mid : List NodeData) (queue : QueueData) (slots : List ℕ) (slot key : ℕ) (put : HasPut old mid slot key)
    (limit : length old ≤ MAX_SLOTS) (inside : slot < length old) (can : CanAppend old queue slots slot key) where
  pub still_queue : IsQueue mid queue slots
  still_queue = queue_kept old mid (slot ∷ []) queue slots put.rest
      (λ u hit h. elim hit [ inl same ↦ can.none_of (subst (Has slots) same h) | inr none ↦ none ]) can.is_queue

  pub same_key_of : (u : ℕ) → Has slots u → key_of mid u ≡ key_of old u
  same_key_of u h = ap (λ n. n.key) (put.rest.same_nodes u
      (λ hit. elim hit [ inl same ↦ can.none_of (subst (Has slots) same h) | inr none ↦ none ]))

  -- a queue of one
  pub push_first : (made : QueueData) → queue.root ≡ NO_LINK → made.root ≡ 2 * slot → made.front ≡ slot → IsQueue mid made (slots ++ slot ∷ [])
  push_first made empty link front =
      let none : slots ≡ [] = is_no_slot old queue slots can.is_queue empty in
      let equal = put.rest.same_length in
      let at : IsAt mid made.root (leaf slot) = record { limit = omega arith; linked = link; held = omega arith } in
      subst (λ xs. IsQueue mid made (xs ++ slot ∷ [])) (sym none) (queue_of_tree mid made (slot ∷ []) (leaf slot) at refl (ap Some front))

  pub can_push : (some : queue.root ≢ NO_LINK) → CanPush mid queue.root slot (is_tree mid queue slots still_queue some).tree
  can_push some =
      let found = is_tree mid queue slots still_queue some in
      let equal = put.rest.same_length in
      record {
        found = found.found;
        inside = omega arith;
        above = λ u h. let one = subst (λ xs. Has xs u) found.all h in
            let less = can.above u one in let same = same_key_of u one in let own = put.own in omega arith;
      }

  pub pushed_queue : (new : List NodeData) (made : QueueData) (link : ℕ) (some : queue.root ≢ NO_LINK)
      → HasPushed mid new slot link (is_tree mid queue slots still_queue some).tree → made.root ≡ link → made.front ≡ queue.front
      → IsQueue new made (slots ++ slot ∷ [])
  pushed_queue new made link some done is front =
      let found = is_tree mid queue slots still_queue some in
      queue_of_tree new made (slots ++ slot ∷ []) done.made (subst (λ l. IsAt new l done.made) (sym is) done.found)
      (done.appended ∙ ap (λ xs. xs ++ slot ∷ []) found.all)
      (first_more slots (slot ∷ []) made.front (ap Some front ∙ front_is mid queue slots still_queue found))

  pub put_others : HasOthers old mid (slot ∷ slots)
  put_others = others_more old mid (slot ∷ []) (slot ∷ slots) (λ u h. elim h [ inl same ↦ inl same | inr none ↦ absurd none ]) put.rest

  pub pushed_others : (new : List NodeData) (link : ℕ) (some : queue.root ≢ NO_LINK)
      → HasPushed mid new slot link (is_tree mid queue slots still_queue some).tree → HasOthers old new (slot ∷ slots)
  pushed_others new link some done =
      let found = is_tree mid queue slots still_queue some in
      others_twice old mid new (slot ∷ slots) put_others
      (others_more mid new (slots_of found.tree ++ slot ∷ []) (slot ∷ slots)
      (λ u h. elim (has_cases (slots_of found.tree) (slot ∷ []) u h) [
        | inl one ↦ inr (subst (λ xs. Has xs u) found.all one)
        | inr own ↦ (elim own [ inl same ↦ inl same | inr none ↦ absurd none ])
      ])
      (others_kept mid new (slots_of found.tree ++ slot ∷ []) done.rest))

-- ---- remove ----

-- a rising list without one of its slots
pub rising_without : (nodes : List NodeData) (before : List ℕ) (slot : ℕ) (after : List ℕ) → IsRising nodes (before ++ slot ∷ after)
    → without slot (before ++ slot ∷ after) ≡ before ++ after
rising_without nodes [] slot after rising =
    ap (λ b. cond b (without slot after) (slot ∷ without slot after)) (eq-eqb slot slot refl)
    ∙ without_none slot after (λ h. let less = rising.0 slot h in omega arith)
rising_without nodes (x ∷ xs) slot after rising =
    let less = rising.0 slot (has_right xs (slot ∷ after) slot (inl refl)) in
    let other : slot ≢ x = λ same. let equal = ap (key_of nodes) same in omega arith in
    ap (λ b. cond b (without slot (xs ++ slot ∷ after)) (x ∷ without slot (xs ++ slot ∷ after))) (ne_eqb slot x other)
    ∙ ap (λ ys. x ∷ ys) (rising_without nodes xs slot after rising.1)

module _ (old : List NodeData) (queue : QueueData) (slots : List ℕ) (slot : ℕ) (has : HasItem old queue slots slot) where
  pub some_root : queue.root ≢ NO_LINK
  some_root empty =
      let none = is_no_slot old queue slots has.is_queue empty in
      let gone : Has [] slot = subst (λ xs. Has xs slot) none has.one_of in gone

  pub tree_of : HasTree old queue.root slots
  tree_of = is_tree old queue slots has.is_queue some_root

  pub can_remove : queue.root ≢ 2 * slot → CanRemove old queue.root slot tree_of.tree
  can_remove other =
      let one = subst (λ xs. Has xs slot) (sym tree_of.all) has.one_of in record {
        found = tree_of.found;
        forked = is_forked old queue.root slot tree_of.tree tree_of.found one other;
        one_of = one;
      }

  pub removed_last : (made : QueueData) → queue.root ≡ 2 * slot → made.root ≡ NO_LINK → IsQueue old made (without slot slots)
  removed_last made is empty =
      let even : queue.root % 2 ≡ 0 = omega arith in
      let half : queue.root / 2 ≡ slot = omega arith in
      let own : tree_of.tree ≡ leaf slot = leaf_at old queue.root tree_of.tree tree_of.found even ∙ ap leaf half in
      let none : without slot slots ≡ [] =
      ap (without slot) (sym tree_of.all ∙ ap slots_of own) ∙ ap (λ b. cond b [] (slot ∷ [])) (eq-eqb slot slot refl) in
      subst (IsQueue old made) (sym none) (empty_queue old made empty)

  pub removed_queue : (new : List NodeData) (made : QueueData) (link next : ℕ) → (done : HasRemoved old new slot link next tree_of.tree) → made.root ≡ link → made.front ≡ first_of done.made
      → IsQueue new made (without slot slots)
  removed_queue new made link next done is front =
      queue_of_tree new made (without slot slots) done.made (subst (λ l. IsAt new l done.made) (sym is) done.found)
      (done.left_out ∙ ap (without slot) tree_of.all)
      (let head = first_is_head done.made in ap Some front ∙ sym (ap first_slot head.1) ∙ ap first_slot (done.left_out ∙ ap (without slot) tree_of.all))

  -- the front stays, if it was not removed
  front_left : (new : List NodeData) (link next : ℕ) (done : HasRemoved old new slot link next tree_of.tree) → queue.front ≢ slot → queue.front ≡ first_of done.made
  front_left new link next done other =
      let head = first_is_head done.made in
      let left = first_without slots slot queue.front (front_is old queue slots has.is_queue tree_of) other in
      one_of_two queue.front (first_of done.made) (left ∙ sym (ap first_slot (done.left_out ∙ ap (without slot) tree_of.all)) ∙ ap first_slot head.1)
    where
      one_of_two : (a b : ℕ) → ◌≡◌ {A = Option ℕ} (Some a) (Some b) → a ≡ b
      one_of_two a b same = cc

  -- the next one is the front, if that was removed
  pub front_is_first : (new : List NodeData) (link next front : ℕ) (done : HasRemoved old new slot link next tree_of.tree)
      → (queue.front ≢ slot → front ≡ queue.front) → (queue.front ≡ slot → front ≡ next) → front ≡ first_of done.made
  front_is_first new link next front done stays goes = elim (cases_eq queue.front slot) [
    | inr other ↦ stays other ∙ front_left new link next done other
    | inl same ↦
        let head = first_is_head tree_of.tree in
        let own = has.is_queue.first (first_of tree_of.tree) (ap first_slot (sym tree_of.all) ∙ ap first_slot head.1) in
        goes same ∙ done.second (sym own ∙ same)
  ]

  pub removed_others : (new : List NodeData) (link next : ℕ) → HasRemoved old new slot link next tree_of.tree → HasOthers old new slots
  removed_others new link next done =
      others_more old new (slots_of tree_of.tree) slots (λ u h. subst (λ xs. Has xs u) tree_of.all h)
      (others_kept old new (slots_of tree_of.tree) done.rest)

split_has : (nodes : List NodeData) (queue : QueueData) (before : List ℕ) (slot : ℕ) (after : List ℕ)
    → IsQueue nodes queue (before ++ slot ∷ after) → HasItem nodes queue (before ++ slot ∷ after) slot
split_has nodes queue before slot after is = record {
  is_queue = is;
  one_of = has_right before (slot ∷ after) slot (inl refl);
}

pub remove_only : (old : List NodeData) (queue made : QueueData) (before : List ℕ) (slot : ℕ) (after : List ℕ)
    → IsQueue old queue (before ++ slot ∷ after) → queue.root ≡ 2 * slot → made.root ≡ NO_LINK
    → IsQueue old made (before ++ after)
remove_only old queue made before slot after is leads empty =
    subst (IsQueue old made) (rising_without old before slot after is.rising)
    (removed_last old queue (before ++ slot ∷ after) slot (split_has old queue before slot after is) made leads empty)

pub remove_one : (old new : List NodeData) (queue made : QueueData) (link next : ℕ) (before : List ℕ) (slot : ℕ) (after : List ℕ)
    → IsQueue old queue (before ++ slot ∷ after) → queue.root ≢ 2 * slot → made.root ≡ link
    → ((tree : Tree) → CanRemove old queue.root slot tree → HasRemoved old new slot link next tree)
    → (queue.front ≢ slot → made.front ≡ queue.front) → (queue.front ≡ slot → made.front ≡ next)
    → IsQueue new made (before ++ after)
remove_one old new queue made link next before slot after is other root done stays goes =
    let has = split_has old queue before slot after is in
    let removed = done (tree_of old queue (before ++ slot ∷ after) slot has).tree (can_remove old queue (before ++ slot ∷ after) slot has other) in
    subst (IsQueue new made) (rising_without old before slot after is.rising)
    (removed_queue old queue (before ++ slot ∷ after) slot has new made link next removed root
    (front_is_first old queue (before ++ slot ∷ after) slot has new link next made.front removed stays goes))
