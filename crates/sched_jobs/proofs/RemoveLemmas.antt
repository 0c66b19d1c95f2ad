-- An item that is removed from a tree.
use Rattle.std.proofs.Common.{◌≡◌, ◌≢◌, ℕ, ◌+◌, ◌*◌, ◌/◌, ◌%◌, ◌<◌, ◌≤◌, ◌⊎◌, inl, inr, Bool, true, false, cond, min, eqb, List, [], ◌∷◌, ◌++◌, length, refl, sym, ◌∙◌, ap, subst, arith}
use Rattle.std.proofs.lemmas.Bool.{cases_eq, eq-eqb, eqb-true, ne_eqb}
use Rattle.std.proofs.lemmas.List.{append-nil}
use Rattle.sched_jobs.specs.declared.nodes.Fork.{Fork as ForkData}
use Rattle.sched_jobs.specs.declared.nodes.QueueNode.{QueueNode as NodeData}
use Rattle.sched_jobs.specs.Nodes.{estimate_of, key_of}
use Rattle.sched_jobs.specs.Lists.{Has, IsRising}
use Rattle.sched_jobs.specs.InnerQueue.Tree.{Tree, leaf, branch, Holds, IsAt, first_of, fork_of, least_of, size_of, slots_of}
use Rattle.sched_jobs.specs.InnerQueue.Changes.{CanRemove, HasLess, HasRemoved, IsPair, KeepsItems, without}
use Rattle.sched_jobs.proofs.ListLemmas.{has_left, has_right, has_cases}
use Rattle.sched_jobs.proofs.TreeLemmas.{BranchAt, apart, at_kept, first_is_least, has_first, leaf_at, least_kept, size_is_length, slots_inside, slots_rise}
use Rattle.sched_jobs.proofs.FindLemmas.{least_more}
use Rattle.sched_jobs.proofs.PushLemmas.{first_is_head, keeps_more, keeps_twice}

without_step : (slot x : ℕ) (xs zs : List ℕ) → (b : Bool) → zs ≡ without slot xs
    → cond b zs (x ∷ zs) ≡ cond b (without slot xs) (x ∷ without slot xs)
without_step slot x xs zs b same = ap (λ ys. cond b ys (x ∷ ys)) same

append_step : (b : Bool) (x : ℕ) (xs ys : List ℕ) → cond b (xs ++ ys) (x ∷ (xs ++ ys)) ≡ cond b xs (x ∷ xs) ++ ys
append_step true x xs ys = refl
append_step false x xs ys = refl

pub without_append : (slot : ℕ) (xs ys : List ℕ) → without slot (xs ++ ys) ≡ without slot xs ++ without slot ys
without_append slot [] ys = refl
without_append slot (x ∷ xs) ys =
    ap (λ zs. cond (eqb slot x) zs (x ∷ zs)) (without_append slot xs ys)
    ∙ append_step (eqb slot x) x (without slot xs) (without slot ys)

pub without_none : (slot : ℕ) (xs : List ℕ) → (Has xs slot → ⊥) → without slot xs ≡ xs
without_none slot [] out = refl
without_none slot (x ∷ xs) out =
    ap (λ b. cond b (without slot xs) (x ∷ without slot xs)) (ne_eqb slot x (λ same. out (inl same)))
    ∙ ap (λ zs. x ∷ zs) (without_none slot xs (λ h. out (inr h)))

pub without_own : (slot : ℕ) → without slot (slot ∷ []) ≡ []
without_own slot = ap (λ b. cond b [] (slot ∷ [])) (eq-eqb slot slot refl)

has_step : (b : Bool) (x u : ℕ) (xs ys : List ℕ) → (Has xs u → Has ys u) → Has (cond b xs (x ∷ xs)) u → (u ≡ x) ⊎ Has ys u
has_step true x u xs ys step h = inr (step h)
has_step false x u xs ys step (inl same) = inl same
has_step false x u xs ys step (inr later) = inr (step later)

pub without_has : (slot : ℕ) (xs : List ℕ) (u : ℕ) → Has (without slot xs) u → Has xs u
without_has slot [] u h = h
without_has slot (x ∷ xs) u h = has_step (eqb slot x) x u (without slot xs) xs (without_has slot xs u) h

own_step : (slot x u : ℕ) (zs : List ℕ) → (b : Bool) → eqb slot x ≡ b → u ≡ x → Has (cond b zs (x ∷ zs)) u ⊎ (u ≡ slot)
own_step slot x u zs true is same = inr (same ∙ sym (eqb-true slot x is))
own_step slot x u zs false is same = inl (inl same)

later_step : (x u : ℕ) (zs : List ℕ) → (b : Bool) → Has zs u → Has (cond b zs (x ∷ zs)) u
later_step x u zs true h = h
later_step x u zs false h = inr h

has_or_own : (slot : ℕ) (xs : List ℕ) (u : ℕ) → Has xs u → Has (without slot xs) u ⊎ (u ≡ slot)
has_or_own slot [] u h = absurd h
has_or_own slot (x ∷ xs) u (inl same) = own_step slot x u (without slot xs) (eqb slot x) refl same
has_or_own slot (x ∷ xs) u (inr later) = elim (has_or_own slot xs u later) [
  | inl left ↦ inl (later_step x u (without slot xs) (eqb slot x) left)
  | inr own ↦ inr own
]

without_length : (nodes : List NodeData) (slot : ℕ) (xs : List ℕ) → IsRising nodes xs → Has xs slot
    → length xs ≡ length (without slot xs) + 1
without_length nodes slot [] rising h = absurd h
without_length nodes slot (x ∷ xs) rising (inl same) =
    let none : Has xs slot → ⊥ = λ later. let less = rising.0 slot later in let equal = ap (key_of nodes) same in omega arith in
    let left : without slot (x ∷ xs) ≡ xs =
    ap (λ b. cond b (without slot xs) (x ∷ without slot xs)) (eq-eqb slot x same) ∙ without_none slot xs none in
    let count = ap length left in omega arith
without_length nodes slot (x ∷ xs) rising (inr later) =
    let less = rising.0 slot later in
    let left : without slot (x ∷ xs) ≡ x ∷ without slot xs =
    ap (λ b. cond b (without slot xs) (x ∷ without slot xs)) (ne_eqb slot x (λ same. let equal = ap (key_of nodes) same in omega arith)) in
    let count = ap length left in
    let rest = without_length nodes slot xs rising.1 later in omega arith

-- the size and the least estimate of a tree whose item was removed
removed_size : (old mid : List NodeData) (slot link next : ℕ) (part : Tree) → Holds old part → Has (slots_of part) slot
    → (done : HasRemoved old mid slot link next part) → size_of part ≡ size_of done.made + 1
removed_size old mid slot link next part held has done =
    let count = without_length old slot (slots_of part) (slots_rise old part held) has in
    let same = ap length done.left_out in
    omega (arith, count, same, size_is_length part, size_is_length done.made)

removed_least : (old mid : List NodeData) (slot link next : ℕ) (part : Tree) → Has (slots_of part) slot
    → (done : HasRemoved old mid slot link next part)
    → least_of old part ≡ min (least_of mid done.made) (estimate_of mid slot)
removed_least old mid slot link next part has done =
    sym (least_kept old mid part (λ u h. done.rest.same_estimates u))
    ∙ least_more mid done.made part slot
    (λ u h. without_has slot (slots_of part) u (subst (λ xs. Has xs u) done.left_out h)) has
    (λ u h. subst (λ xs. Has xs u ⊎ (u ≡ slot)) (sym done.left_out) (has_or_own slot (slots_of part) u h))

-- the first of what is left
pub first_left : (slot : ℕ) (one two : Tree) → slots_of one ≡ without slot (slots_of two) → first_of two ≢ slot
    → first_of two ≡ first_of one
first_left slot one two same other =
    let head = first_is_head one in
    let head2 = first_is_head two in
    let equal : first_of one ∷ head.0 ≡ first_of two ∷ without slot head2.0 =
    sym head.1 ∙ same ∙ ap (without slot) head2.1
    ∙ ap (λ b. cond b (without slot head2.0) (first_of two ∷ without slot head2.0)) (ne_eqb slot (first_of two) (λ is. other (sym is))) in
    cc

pub keeps_none : (nodes : List NodeData) (slots : List ℕ) → KeepsItems nodes nodes slots
keeps_none nodes slots = record {
  same_length = refl;
  same_keys = λ u. refl;
  same_estimates = λ u. refl;
  same_forks = λ u out. refl;
}

-- a tree that has the item and is not its leaf begins with a fork
pub is_forked : (nodes : List NodeData) (link slot : ℕ) (tree : Tree) → IsAt nodes link tree → Has (slots_of tree) slot
    → link ≢ 2 * slot → link % 2 ≡ 1
is_forked nodes link slot (leaf own) at (inl same) other = absurd (other (at.linked ∙ ap (λ s. 2 * s) (sym same)))
is_forked nodes link slot (leaf own) at (inr none) other = absurd none
is_forked nodes link slot (branch before after) at h other = let linked = at.linked in omega arith

module _ (old : List NodeData) (link slot : ℕ) (tree : Tree) (found : ForkData) (can : CanRemove old link slot tree)
    (at : BranchAt old link tree found) where
  pub whole_slots : slots_of tree ≡ slots_of at.before ++ slots_of at.after
  whole_slots = ap slots_of at.whole

  slot_inside : slot < length old
  slot_inside = slots_inside old tree can.found.held slot can.one_of

  in_one : Has (slots_of at.before) slot ⊎ Has (slots_of at.after) slot
  in_one = has_cases (slots_of at.before) (slots_of at.after) slot (subst (λ xs. Has xs slot) whole_slots can.one_of)

  key_here : key_of old (link / 2) ≡ key_of old (first_of at.after)
  key_here = ap (key_of old) at.place

  -- the item is to the left if its key is less than that of the fork's slot
  pub on_the_left : key_of old slot < key_of old (link / 2) → Has (slots_of at.before) slot
  on_the_left less = elim in_one [
    | inl left ↦ left
    | inr right ↦ (let least = first_is_least old at.after at.to_right.held slot right in let here = key_here in absurd (omega arith))
  ]

  pub on_the_right : key_of old (link / 2) ≤ key_of old slot → Has (slots_of at.after) slot
  on_the_right most = elim in_one [
    | inl left ↦ (let less = at.order slot (first_of at.after) left (has_first at.after) in let here = key_here in absurd (omega arith))
    | inr right ↦ right
  ]

  pub can_remove_left : key_of old slot < key_of old (link / 2) → found.left ≢ 2 * slot → CanRemove old found.left slot at.before
  can_remove_left less other = record {
    found = at.to_left;
    forked = is_forked old found.left slot at.before at.to_left (on_the_left less) other;
    one_of = on_the_left less;
  }

  pub can_remove_right : key_of old (link / 2) ≤ key_of old slot → found.right ≢ 2 * slot → CanRemove old found.right slot at.after
  can_remove_right most other = record {
    found = at.to_right;
    forked = is_forked old found.right slot at.after at.to_right (on_the_right most) other;
    one_of = on_the_right most;
  }

  left_out_left : (zs : List ℕ) → Has (slots_of at.before) slot → zs ≡ without slot (slots_of at.before)
      → zs ++ slots_of at.after ≡ without slot (slots_of tree)
  left_out_left zs left same =
      ap (λ xs. xs ++ slots_of at.after) same
      ∙ ap (λ ys. without slot (slots_of at.before) ++ ys) (sym (without_none slot (slots_of at.after)
      (λ right. apart old at.before at.after at.order slot slot left right refl)))
      ∙ sym (without_append slot (slots_of at.before) (slots_of at.after))
      ∙ ap (without slot) (sym whole_slots)

  left_out_right : (zs : List ℕ) → Has (slots_of at.after) slot → zs ≡ without slot (slots_of at.after)
      → slots_of at.before ++ zs ≡ without slot (slots_of tree)
  left_out_right zs right same =
      ap (λ ys. slots_of at.before ++ ys) same
      ∙ ap (λ xs. xs ++ without slot (slots_of at.after)) (sym (without_none slot (slots_of at.before)
      (λ left. apart old at.before at.after at.order slot slot left right refl)))
      ∙ sym (without_append slot (slots_of at.before) (slots_of at.after))
      ∙ ap (without slot) (sym whole_slots)

  -- the item is not the first one if it is to the right
  not_first : key_of old (link / 2) ≤ key_of old slot → first_of tree ≡ slot → ⊥
  not_first most is_first =
      apart old at.before at.after at.order slot slot
      (subst (Has (slots_of at.before)) (sym (ap first_of at.whole) ∙ is_first) (has_first at.before)) (on_the_right most) refl

  -- the item is a leaf below the fork, and the other part stays
  pub remove_left_leaf : key_of old slot < key_of old (link / 2) → found.left ≡ 2 * slot → HasRemoved old old slot found.right (link / 2) tree
  remove_left_leaf less is =
      let even : found.left % 2 ≡ 0 = omega arith in
      let half : found.left / 2 ≡ slot = omega arith in
      let own : at.before ≡ leaf slot = leaf_at old found.left at.before at.to_left even ∙ ap leaf half in
      record {
        made = at.after;
        found = at.to_right;
        left_out = left_out_left [] (on_the_left less) (sym (ap (λ t. without slot (slots_of t)) own ∙ without_own slot));
        rest = keeps_none old (slots_of tree);
        head = refl;
        second = λ _. at.place;
      }

  pub remove_right_leaf : (next : ℕ) → key_of old (link / 2) ≤ key_of old slot → found.right ≡ 2 * slot → HasRemoved old old slot found.left next tree
  remove_right_leaf next most is =
      let even : found.right % 2 ≡ 0 = omega arith in
      let half : found.right / 2 ≡ slot = omega arith in
      let own : at.after ≡ leaf slot = leaf_at old found.right at.after at.to_right even ∙ ap leaf half in
      record {
        made = at.before;
        found = at.to_left;
        left_out = sym (append-nil (slots_of at.before))
            ∙ left_out_right [] (on_the_right most) (sym (ap (λ t. without slot (slots_of t)) own ∙ without_own slot));
        rest = keeps_none old (slots_of tree);
        head = refl;
        second = λ is_first. absurd (not_first most is_first);
      }

  module _ (mid : List NodeData) (left next : ℕ) (less : key_of old slot < key_of old (link / 2))
      (done : HasRemoved old mid slot left next at.before) where
    was_left : (u : ℕ) → Has (slots_of done.made) u → Has (slots_of at.before) u
    was_left u h = without_has slot (slots_of at.before) u (subst (λ xs. Has xs u) done.left_out h)

    pub remove_left_pair : IsPair mid (link / 2) left found.right done.made at.after
    remove_left_pair = record {
      first_tree = done.found;
      second_tree = at_kept old mid found.right (slots_of at.before) at.after done.rest
          (λ u h other written. apart old at.before at.after at.order u u written h refl) at.to_right;
      order = λ u v hu hv.
          let before_it = at.order u v (was_left u hu) hv in
          let one = done.rest.same_keys u in let two = done.rest.same_keys v in omega arith;
      place = at.place;
    }

    -- nothing was written to the fork
    left_fork : fork_of mid (link / 2) ≡ found
    left_fork = done.rest.same_forks (link / 2) (λ written.
        apart old at.before at.after at.order (link / 2) (first_of at.after) written (has_first at.after) at.place)
        ∙ sym at.read

    -- by the fork with the new link, which still has the item
    found_left_less : HasLess mid (link / 2)
        (record { least = found.least; left = left; right = found.right; size = found.size; common = found.common })
        slot done.made at.after
    found_left_less =
        let size = removed_size old mid slot left next at.before at.to_left.held (on_the_left less) done in
        let least = removed_least old mid slot left next at.before (on_the_left less) done in
        let kept = least_kept old mid at.after (λ u h. done.rest.same_estimates u) in
        record {
          pair = remove_left_pair;
          inside = (let own = slot_inside in let same = done.rest.same_length in omega arith);
          counted = (let counted = at.counted in omega arith);
          lowest = (let lowest = at.lowest in omega arith);
        }

    pub remove_left_less : (again : ForkData) → again ≡ fork_of mid (link / 2) → HasLess mid (link / 2)
        (record { least = again.least; left = left; right = again.right; size = again.size; common = again.common })
        slot done.made at.after
    remove_left_less again read = subst (λ f. HasLess mid (link / 2)
        (record { least = f.least; left = left; right = f.right; size = f.size; common = f.common }) slot done.made at.after)
        (sym (read ∙ left_fork)) found_left_less

    pub remove_left : (new : List NodeData) (made : ℕ) → KeepsItems mid new (link / 2 ∷ [])
        → IsAt new made (branch done.made at.after) → HasRemoved old new slot made next tree
    remove_left new made keeps joined = record {
      made = branch done.made at.after;
      found = joined;
      left_out = left_out_left (slots_of done.made) (on_the_left less) done.left_out;
      rest = keeps_twice old mid new (slots_of tree)
          (keeps_more old mid (slots_of at.before) (slots_of tree) done.rest
          (λ u h. subst (λ xs. Has xs u) (sym whole_slots) (has_left (slots_of at.before) (slots_of at.after) u h)))
          (keeps_more mid new (link / 2 ∷ []) (slots_of tree) keeps
          (λ u h. elim h [
            | inl same ↦ subst (λ xs. Has xs u) (sym whole_slots) (has_right (slots_of at.before) (slots_of at.after) u
                (subst (Has (slots_of at.after)) (sym (same ∙ at.place)) (has_first at.after)))
            | inr none ↦ absurd none
          ]));
      head = subst (λ u. fork_of new u ≡ fork_of old u) (sym (ap first_of at.whole))
          (keeps.same_forks (first_of at.before) (λ h. elim h [
            | inl same ↦ apart old at.before at.after at.order (first_of at.before) (first_of at.after) (has_first at.before) (has_first at.after)
                (same ∙ at.place)
            | inr none ↦ none
          ])
          ∙ done.head);
      second = λ is_first. done.second (sym (ap first_of at.whole) ∙ is_first);
    }

  module _ (mid : List NodeData) (right next place : ℕ) (most : key_of old (link / 2) ≤ key_of old slot)
      (done : HasRemoved old mid slot right next at.after) where
    was_right : (u : ℕ) → Has (slots_of done.made) u → Has (slots_of at.after) u
    was_right u h = without_has slot (slots_of at.after) u (subst (λ xs. Has xs u) done.left_out h)

    -- the fork stays in its slot unless that is the item's
    pub place_is : (link / 2 ≢ slot → place ≡ link / 2) → (link / 2 ≡ slot → place ≡ next) → place ≡ first_of done.made
    place_is stays goes = elim (cases_eq (link / 2) slot) [
      | inl same ↦ goes same ∙ done.second (sym at.place ∙ same)
      | inr other ↦ stays other ∙ at.place ∙ first_left slot done.made at.after done.left_out (λ is. other (at.place ∙ is))
    ]

    pub remove_right_pair : place ≡ first_of done.made → IsPair mid place found.left right at.before done.made
    remove_right_pair is = record {
      first_tree = at_kept old mid found.left (slots_of at.after) at.before done.rest
          (λ u h other written. apart old at.before at.after at.order u u h written refl) at.to_left;
      second_tree = done.found;
      order = λ u v hu hv.
          let before_it = at.order u v hu (was_right v hv) in
          let one = done.rest.same_keys u in let two = done.rest.same_keys v in omega arith;
      place = is;
    }

    right_fork : fork_of mid (link / 2) ≡ found
    right_fork = ap (fork_of mid) at.place ∙ done.head ∙ sym (ap (fork_of old) at.place) ∙ sym at.read

    found_right_less : place ≡ first_of done.made → HasLess mid place
        (record { least = found.least; left = found.left; right = right; size = found.size; common = found.common })
        slot at.before done.made
    found_right_less is =
        let size = removed_size old mid slot right next at.after at.to_right.held (on_the_right most) done in
        let least = removed_least old mid slot right next at.after (on_the_right most) done in
        let kept = least_kept old mid at.before (λ u h. done.rest.same_estimates u) in
        record {
          pair = remove_right_pair is;
          inside = (let own = slot_inside in let same = done.rest.same_length in omega arith);
          counted = (let counted = at.counted in omega arith);
          lowest = (let lowest = at.lowest in omega arith);
        }

    pub remove_right_less : (again : ForkData) → again ≡ fork_of mid (link / 2) → place ≡ first_of done.made → HasLess mid place
        (record { least = again.least; left = again.left; right = right; size = again.size; common = again.common })
        slot at.before done.made
    remove_right_less again read is = subst (λ f. HasLess mid place
        (record { least = f.least; left = f.left; right = right; size = f.size; common = f.common }) slot at.before done.made)
        (sym (read ∙ right_fork)) (found_right_less is)

    pub remove_right : (new : List NodeData) (made : ℕ) → place ≡ first_of done.made → KeepsItems mid new (place ∷ [])
        → IsAt new made (branch at.before done.made) → HasRemoved old new slot made next tree
    remove_right new made is keeps joined = record {
      made = branch at.before done.made;
      found = joined;
      left_out = left_out_right (slots_of done.made) (on_the_right most) done.left_out;
      rest = keeps_twice old mid new (slots_of tree)
          (keeps_more old mid (slots_of at.after) (slots_of tree) done.rest
          (λ u h. subst (λ xs. Has xs u) (sym whole_slots) (has_right (slots_of at.before) (slots_of at.after) u h)))
          (keeps_more mid new (place ∷ []) (slots_of tree) keeps
          (λ u h. elim h [
            | inl same ↦ subst (λ xs. Has xs u) (sym whole_slots) (has_right (slots_of at.before) (slots_of at.after) u
                (was_right u (subst (Has (slots_of done.made)) (sym (same ∙ is)) (has_first done.made))))
            | inr none ↦ absurd none
          ]));
      head = subst (λ u. fork_of new u ≡ fork_of old u) (sym (ap first_of at.whole))
          (keeps.same_forks (first_of at.before) (λ h. elim h [
            | inl same ↦ apart old at.before at.after at.order (first_of at.before) (first_of done.made) (has_first at.before)
                (was_right (first_of done.made) (has_first done.made)) (same ∙ is)
            | inr none ↦ none
          ])
          ∙ done.rest.same_forks (first_of at.before) (λ written.
          apart old at.before at.after at.order (first_of at.before) (first_of at.before) (has_first at.before) written refl));
      second = λ is_first. absurd (not_first most is_first);
    }
