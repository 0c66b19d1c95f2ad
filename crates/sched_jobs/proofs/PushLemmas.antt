-- An item that is appended to a tree.
use Rattle.std.proofs.Common.{◌≡◌, ℕ, ◌+◌, ◌*◌, ◌/◌, ◌<◌, inl, inr, min, List, [], ◌∷◌, ◌++◌, length, refl, sym, ◌∙◌, ap, subst, arith, append_assoc, length-append}
use Rattle.sched_jobs.specs.declared.nodes.Fork.{Fork as ForkData}
use Rattle.sched_jobs.specs.declared.nodes.QueueNode.{QueueNode as NodeData}
use Rattle.sched_jobs.specs.Nodes.{estimate_of, key_of}
use Rattle.sched_jobs.specs.Lists.{Has}
use Rattle.sched_jobs.specs.InnerQueue.Tree.{Tree, leaf, branch, IsAt, first_of, fork_of, least_of, size_of, slots_of}
use Rattle.sched_jobs.specs.InnerQueue.Changes.{CanPush, HasMore, HasPushed, IsPair, KeepsItems}
use Rattle.sched_jobs.proofs.ListLemmas.{has_left, has_right, has_cases}
use Rattle.sched_jobs.proofs.TreeLemmas.{BranchAt, apart, at_kept, has_first, least_kept, size_is_length}
use Rattle.sched_jobs.proofs.FindLemmas.{least_more}

-- an item in two lists, one of which has it
has_appended : (xs ys : List ℕ) (u : ℕ) → xs ≡ ys → Has xs u → Has ys u
has_appended xs ys u same h = subst (λ zs. Has zs u) same h

-- what is kept in two steps
pub keeps_more : (old new : List NodeData) (slots more : List ℕ) → KeepsItems old new slots
    → ((u : ℕ) → Has slots u → Has more u) → KeepsItems old new more
keeps_more old new slots more keeps within = record {
  same_length = keeps.same_length;
  same_keys = keeps.same_keys;
  same_estimates = keeps.same_estimates;
  same_forks = λ u out. keeps.same_forks u (λ h. out (within u h));
}

pub keeps_twice : (old mid new : List NodeData) (slots : List ℕ) → KeepsItems old mid slots → KeepsItems mid new slots
    → KeepsItems old new slots
keeps_twice old mid new slots one two = record {
  same_length = two.same_length ∙ one.same_length;
  same_keys = λ u. two.same_keys u ∙ one.same_keys u;
  same_estimates = λ u. two.same_estimates u ∙ one.same_estimates u;
  same_forks = λ u out. two.same_forks u out ∙ one.same_forks u out;
}

-- the first of two trees whose lists begin alike
pub first_is_head : (tree : Tree) → (xs : List ℕ) × (slots_of tree ≡ first_of tree ∷ xs)
first_is_head (leaf slot) = ([], refl)
first_is_head (branch before after) =
    let one = first_is_head before in (one.0 ++ slots_of after, ap (λ xs. xs ++ slots_of after) one.1)

pub same_first : (one two : Tree) (xs : List ℕ) → slots_of one ≡ slots_of two ++ xs → first_of one ≡ first_of two
same_first one two xs same =
    let head = first_is_head one in
    let head2 = first_is_head two in
    let equal : first_of one ∷ head.0 ≡ first_of two ∷ (head2.0 ++ xs) = sym head.1 ∙ same ∙ ap (λ ys. ys ++ xs) head2.1 in
    cc

-- the whole tree is joined with the new item
pub push_here_pair : (nodes : List NodeData) (link slot : ℕ) (tree : Tree) → CanPush nodes link slot tree
    → IsPair nodes slot link (2 * slot) tree (leaf slot)
push_here_pair nodes link slot tree can = record {
  first_tree = can.found;
  second_tree = record { limit = can.found.limit; linked = refl; held = can.inside };
  order = λ u v hu hv. elim hv [ inl same ↦ subst (λ w. key_of nodes u < key_of nodes w) (sym same) (can.above u hu) | inr none ↦ absurd none ];
  place = refl;
}

pub push_here : (old new : List NodeData) (link slot made : ℕ) (tree : Tree) → CanPush old link slot tree
    → KeepsItems old new (slot ∷ []) → IsAt new made (branch tree (leaf slot)) → HasPushed old new slot made tree
push_here old new link slot made tree can keeps at = record {
  made = branch tree (leaf slot);
  found = at;
  appended = refl;
  rest = keeps_more old new (slot ∷ []) (slots_of tree ++ slot ∷ []) keeps (λ u h. has_right (slots_of tree) (slot ∷ []) u h);
  head = keeps.same_forks (first_of tree) (λ h. elim h [
    | inl same ↦ (let less = can.above (first_of tree) (has_first tree) in let equal = ap (key_of old) same in omega arith)
    | inr none ↦ none
  ]);
}

-- the item can be appended to the right part
pub can_push_right : (nodes : List NodeData) (link slot : ℕ) (tree : Tree) (found : ForkData) → CanPush nodes link slot tree
    → (at : BranchAt nodes link tree found) → CanPush nodes found.right slot at.after
can_push_right nodes link slot tree found can at = record {
  found = at.to_right;
  inside = can.inside;
  above = λ u h. can.above u (subst (λ whole. Has (slots_of whole) u) (sym at.whole) (has_right (slots_of at.before) (slots_of at.after) u h));
}

-- nothing is written to the left
left_clear : (old : List NodeData) (link slot : ℕ) (tree : Tree) (found : ForkData) → CanPush old link slot tree
    → (at : BranchAt old link tree found) → (u : ℕ) → Has (slots_of at.before) u → Has (slots_of at.after ++ slot ∷ []) u → ⊥
left_clear old link slot tree found can at u h written = elim (has_cases (slots_of at.after) (slot ∷ []) u written) [
  | inl later ↦ apart old at.before at.after at.order u u h later refl
  | inr own ↦ (elim own [
    | inl same ↦ (let less = can.above u (subst (λ whole. Has (slots_of whole) u) (sym at.whole) (has_left (slots_of at.before) (slots_of at.after) u h)) in
        let equal = ap (key_of old) same in omega arith)
    | inr none ↦ none
  ])
]

-- then the two parts can be joined again
pub push_right_pair : (old mid : List NodeData) (link slot right : ℕ) (tree : Tree) (found : ForkData) → CanPush old link slot tree
    → (at : BranchAt old link tree found) → (done : HasPushed old mid slot right at.after)
    → IsPair mid (link / 2) found.left right at.before done.made
push_right_pair old mid link slot right tree found can at done =
    record {
      first_tree = at_kept old mid found.left (slots_of at.after ++ slot ∷ []) at.before done.rest (λ u h other. left_clear old link slot tree found can at u h) at.to_left;
      second_tree = done.found;
      order = λ u v hu hv.
          let less : key_of old u < key_of old v = elim (has_cases (slots_of at.after) (slot ∷ []) v (has_appended (slots_of done.made) (slots_of at.after ++ slot ∷ []) v done.appended hv)) [
            | inl later ↦ at.order u v hu later
            | inr own ↦ (elim own [
              | inl same ↦ subst (λ w. key_of old u < key_of old w) (sym same)
                  (can.above u (subst (λ whole. Has (slots_of whole) u) (sym at.whole) (has_left (slots_of at.before) (slots_of at.after) u hu)))
              | inr none ↦ absurd none
            ])
          ] in
          let one = done.rest.same_keys u in let two = done.rest.same_keys v in omega arith;
      place = at.place ∙ sym (same_first done.made at.after (slot ∷ []) done.appended);
    }

-- by the fork, which lacks the new link and the item
pub push_right_more : (old mid : List NodeData) (link slot right : ℕ) (tree : Tree) (found : ForkData) → CanPush old link slot tree
    → (at : BranchAt old link tree found) → (done : HasPushed old mid slot right at.after)
    → HasMore mid (link / 2) right slot at.before done.made
push_right_more old mid link slot right tree found can at done =
    let appended : slots_of at.after ++ slot ∷ [] ≡ slots_of done.made = sym done.appended in
    let size : size_of done.made ≡ size_of at.after + 1 = (
    let one = size_is_length done.made in
    let two = size_is_length at.after in
    let both = length-append (slots_of at.after) (slot ∷ []) in
    let same = ap length appended in omega arith) in
    let least : least_of mid done.made ≡ min (least_of mid at.after) (estimate_of mid slot) = least_more mid at.after done.made slot
    (λ u h. has_appended (slots_of at.after ++ slot ∷ []) (slots_of done.made) u appended (has_left (slots_of at.after) (slot ∷ []) u h))
    (has_appended (slots_of at.after ++ slot ∷ []) (slots_of done.made) slot appended (has_right (slots_of at.after) (slot ∷ []) slot (inl refl)))
    (λ u h. elim (has_cases (slots_of at.after) (slot ∷ []) u (has_appended (slots_of done.made) (slots_of at.after ++ slot ∷ []) u done.appended h)) [
      | inl later ↦ inl later
      | inr own ↦ (elim own [ inl same ↦ inr same | inr none ↦ absurd none ])
    ]) in
    let same : fork_of mid (link / 2) ≡ found =
    ap (fork_of mid) at.place ∙ done.head ∙ sym (ap (fork_of old) at.place) ∙ sym at.read in
    let same_size = ap (λ f. f.size) same in
    let same_least = ap (λ f. f.least) same in
    let kept_before = least_kept old mid at.before (λ u h. done.rest.same_estimates u) in
    let kept_after = least_kept old mid at.after (λ u h. done.rest.same_estimates u) in
    record {
      pair = subst (λ left. IsPair mid (link / 2) left right at.before done.made) (sym (ap (λ f. f.left) same))
          (push_right_pair old mid link slot right tree found can at done);
      inside = (let own = can.inside in let same = done.rest.same_length in omega arith);
      counted = (let counted = at.counted in omega arith);
      lowest = (let lowest = at.lowest in omega arith);
    }

pub push_right : (old mid new : List NodeData) (link slot right made : ℕ) (tree : Tree) (found : ForkData) → CanPush old link slot tree
    → (at : BranchAt old link tree found) → (done : HasPushed old mid slot right at.after)
    → KeepsItems mid new (link / 2 ∷ []) → IsAt new made (branch at.before done.made) → HasPushed old new slot made tree
push_right old mid new link slot right made tree found can at done keeps joined =
    let whole : slots_of tree ≡ slots_of at.before ++ slots_of at.after = ap slots_of at.whole in
    let all : slots_of at.before ++ slots_of done.made ≡ slots_of tree ++ slot ∷ [] =
    ap (λ xs. slots_of at.before ++ xs) done.appended
    ∙ sym (append_assoc (slots_of at.before) (slots_of at.after) (slot ∷ [])) ∙ sym (ap (λ xs. xs ++ slot ∷ []) whole) in
    let here : Has (slots_of tree) (link / 2) = subst (λ xs. Has xs (link / 2)) (sym whole)
    (has_right (slots_of at.before) (slots_of at.after) (link / 2) (subst (Has (slots_of at.after)) (sym at.place) (has_first at.after))) in
    record {
      made = branch at.before done.made;
      found = joined;
      appended = all;
      rest = keeps_twice old mid new (slots_of tree ++ slot ∷ [])
          (keeps_more old mid (slots_of at.after ++ slot ∷ []) (slots_of tree ++ slot ∷ []) done.rest
          (λ u h. has_appended (slots_of at.before ++ slots_of done.made) (slots_of tree ++ slot ∷ []) u all
          (has_right (slots_of at.before) (slots_of done.made) u (has_appended (slots_of at.after ++ slot ∷ []) (slots_of done.made) u (sym done.appended) h))))
          (keeps_more mid new (link / 2 ∷ []) (slots_of tree ++ slot ∷ []) keeps
          (λ u h. elim h [ inl same ↦ has_left (slots_of tree) (slot ∷ []) u (subst (Has (slots_of tree)) (sym same) here) | inr none ↦ absurd none ]));
      head = subst (λ u. fork_of new u ≡ fork_of old u) (sym (ap first_of at.whole))
          (keeps.same_forks (first_of at.before) (λ h. elim h [
            | inl same ↦ apart old at.before at.after at.order (first_of at.before) (first_of at.after) (has_first at.before) (has_first at.after)
                (same ∙ at.place)
            | inr none ↦ none
          ])
          ∙ done.rest.same_forks (first_of at.before) (left_clear old link slot tree found can at (first_of at.before) (has_first at.before)));
    }
