-- A slot joins or leaves a line.
use Rattle.std.proofs.Common.{◌≡◌, ◌≢◌, ℕ, ◌<◌, ◌≤◌, inl, inr, List, [], ◌∷◌, ◌++◌, Option, Some, None, length, slice_set, refl, sym, ◌∙◌, ap, subst, arith}
use Rattle.std.proofs.lemmas.Bool.{cases_eq}
use Rattle.std.proofs.lemmas.List.{get_or-set_other}
use Rattle.sched_jobs.specs.declared.nodes.TheConstants.{MAX_SLOTS}
use Rattle.sched_jobs.specs.declared.nodes.QueueNode.{QueueNode as NodeData}
use Rattle.sched_jobs.specs.declared.queues.Queue.{Queue as QueueData}
use Rattle.sched_jobs.specs.Nodes.{key_of}
use Rattle.sched_jobs.specs.Lists.{AreApart, Has, IsRising}
use Rattle.sched_jobs.specs.Queues.{CanAppend, HasItem, IsQueue}
use Rattle.sched_jobs.proofs.ListLemmas.{has_cases, has_left, has_right}
use Rattle.sched_law.specs.State.{set}
use Rattle.sched_law.proofs.SetLemmas.{none_is_some, same, set_else, set_here}
use Rattle.sched_jobs.specs.Lines.{AreLines, IsLine, queue_in}
use Rattle.sched_jobs.specs.Inner.Joins.{CanJoin}

-- a list is parted at one of its slots
pub parted : (xs : List ℕ) (slot : ℕ) → Has xs slot → (before : List ℕ) × (after : List ℕ) × (xs ≡ before ++ slot ∷ after)
parted [] slot has = absurd has
parted (x ∷ xs) slot (inl is) = ([], xs, ap (λ (y : ℕ). y ∷ xs) (sym is))
parted (x ∷ xs) slot (inr later) =
    let rest = parted xs slot later in
    (x ∷ rest.0, rest.1, ap (λ (ys : List ℕ). x ∷ ys) rest.2)

-- a slot is not twice in a rising list
pub not_twice : (nodes : List NodeData) (before after : List ℕ) (slot : ℕ) → IsRising nodes (before ++ slot ∷ after) → Has (before ++ after) slot → ⊥
not_twice nodes [] after slot rising has = (let less = rising.0 slot has in omega (arith, less))
not_twice nodes (x ∷ before) after slot rising (inl is) =
    (let less = rising.0 slot (has_right before (slot ∷ after) slot (inl refl)) in
    let one = ap (key_of nodes) is in omega (arith, less, one))
not_twice nodes (x ∷ before) after slot rising (inr later) = not_twice nodes before after slot rising.1 later

-- what is in a list without a slot
pub has_less : (before after : List ℕ) (slot u : ℕ) → Has (before ++ after) u → Has (before ++ slot ∷ after) u
has_less before after slot u has = elim (has_cases before after u has) [
  | inl one ↦ has_left before (slot ∷ after) u one
  | inr other ↦ has_right before (slot ∷ after) u (inr other)
]

pub has_else : (before after : List ℕ) (slot u : ℕ) → u ≢ slot → Has (before ++ slot ∷ after) u → Has (before ++ after) u
has_else before after slot u away has = elim (has_cases before (slot ∷ after) u has) [
  | inl one ↦ has_left before after u one
  | inr (inl is) ↦ absurd (away is)
  | inr (inr other) ↦ has_right before after u other
]

-- the queue of a line can get the slot
pub can_append : (old : List NodeData) (queues : List QueueData) (line : ℕ → Option ℕ) (at slot : ℕ) (inside : at < length queues) (key : ℕ) → (can : CanJoin old queues line at slot key)
    → CanAppend old (queue_in queues at) (can.lines.each at inside).slots slot key
can_append old queues line at slot inside key can = record {
  is_queue = (can.lines.each at inside).is_queue;
  none_of = λ has. none_is_some (sym can.free ∙ (can.lines.each at inside).only slot has);
  above = λ u has. can.above u ((can.lines.each at inside).only u has);
}

-- the queue of a slot's line has it
pub has_item : (old : List NodeData) (queues : List QueueData) (line : ℕ → Option ℕ) (at slot : ℕ) (inside : at < length queues) → (are : AreLines old queues line) → line slot ≡ Some at
    → HasItem old (queue_in queues at) (are.each at inside).slots slot
has_item old queues line at slot inside are was = record {
  is_queue = (are.each at inside).is_queue;
  one_of = (are.each at inside).all slot was;
}

-- a write of one queue keeps the others
pub as_before : (queues : List QueueData) (at : ℕ) (x : QueueData) → (q : ℕ) → q ≢ at → queue_in (slice_set queues at x) q ≡ queue_in queues q
as_before queues at x q other = get_or-set_other queues at q x (record { root = 0; front = 0 }) other

module _ (old new : List NodeData) (queues made : List QueueData) (line : ℕ → Option ℕ) (at slot : ℕ)
    (inside : at < length queues) (len : length made ≡ length queues) (size : length new ≡ length old)
    (others : (q : ℕ) → q ≢ at → queue_in made q ≡ queue_in queues q) where
  -- the other lines are as they were
  pub other_line : (to : Option ℕ) (q : ℕ) → q ≢ at → (now : IsLine old queues line q) → line slot ≢ Some q → to ≢ Some q → IsQueue new (queue_in queues q) now.slots
      → IsLine new made (set line slot to) q
  other_line to q away now was not_to is = record {
    slots = now.slots;
    is_queue = subst (λ (x : QueueData). IsQueue new x now.slots) (sym (others q away)) is;
    only = λ u has. elim (cases_eq u slot) [
      | inl one ↦ absurd (was (sym (ap line one) ∙ now.only u has))
      | inr other ↦ set_else line slot to u other ∙ now.only u has
    ];
    all = λ u on. elim (cases_eq u slot) [
      | inl one ↦ absurd (not_to (sym (set_here line slot to) ∙ sym (ap (set line slot to) one) ∙ on))
      | inr other ↦ now.all u (sym (set_else line slot to u other) ∙ on)
    ];
  }

  pub joined : (key : ℕ) → (can : CanJoin old queues line at slot key) → IsQueue new (queue_in made at) ((can.lines.each at inside).slots ++ slot ∷ [])
      → ((other : QueueData) (theirs : List ℕ) → IsQueue old other theirs → AreApart (slot ∷ (can.lines.each at inside).slots) theirs → IsQueue new other theirs)
      → AreLines new made (set line slot (Some at))
  joined key can own rest = record {
    limit = subst (λ (n : ℕ). n ≤ MAX_SLOTS) (sym size) can.lines.limit;
    each = λ q within. elim (cases_eq q at) [
      | inl one ↦ subst (IsLine new made (set line slot (Some at))) (sym one) mine
      | inr away ↦
          let now = can.lines.each q (subst (λ (n : ℕ). q < n) len within) in
          other_line (Some at) q away now (λ is. none_is_some (sym can.free ∙ is)) (λ is. away (sym (same is)))
          (rest (queue_in queues q) now.slots now.is_queue (apart q away now))
    ];
  }
    where
      here : IsLine old queues line at
      here = can.lines.each at inside

      mine : IsLine new made (set line slot (Some at)) at
      mine = record {
        slots = here.slots ++ slot ∷ [];
        is_queue = own;
        only = λ u has. elim (cases_eq u slot) [
          | inl one ↦ ap (set line slot (Some at)) one ∙ set_here line slot (Some at)
          | inr other ↦ elim (has_cases here.slots (slot ∷ []) u has) [
            | inl before ↦ set_else line slot (Some at) u other ∙ here.only u before
            | inr (inl is) ↦ absurd (other is)
            | inr (inr none) ↦ absurd none
          ]
        ];
        all = λ u on. elim (cases_eq u slot) [
          | inl one ↦ has_right here.slots (slot ∷ []) u (inl one)
          | inr other ↦ has_left here.slots (slot ∷ []) u (here.all u (sym (set_else line slot (Some at) u other) ∙ on))
        ];
      }

      apart : (q : ℕ) → q ≢ at → (now : IsLine old queues line q) → AreApart (slot ∷ here.slots) now.slots
      apart q away now u (inl one) there = none_is_some (sym can.free ∙ sym (ap line one) ∙ now.only u there)
      apart q away now u (inr has) there = away (same (sym (now.only u there) ∙ here.only u has))

  pub left : (are : AreLines old queues line) → line slot ≡ Some at
      → ((before after : List ℕ) → IsQueue old (queue_in queues at) (before ++ slot ∷ after) → IsQueue new (queue_in made at) (before ++ after))
      → ((other : QueueData) (theirs : List ℕ) → IsQueue old other theirs → AreApart (are.each at inside).slots theirs → IsQueue new other theirs)
      → AreLines new made (set line slot None)
  left are was own rest = record {
    limit = subst (λ (n : ℕ). n ≤ MAX_SLOTS) (sym size) are.limit;
    each = λ q within. elim (cases_eq q at) [
      | inl one ↦ subst (IsLine new made (set line slot None)) (sym one) mine
      | inr away ↦
          let now = are.each q (subst (λ (n : ℕ). q < n) len within) in
          other_line None q away now (λ is. away (same (sym is ∙ was))) (λ is. none_is_some is)
          (rest (queue_in queues q) now.slots now.is_queue (λ u has there. away (same (sym (now.only u there) ∙ here.only u has))))
    ];
  }
    where
      here : IsLine old queues line at
      here = are.each at inside

      parts : (before : List ℕ) × (after : List ℕ) × (here.slots ≡ before ++ slot ∷ after)
      parts = parted here.slots slot (here.all slot was)

      whole : IsQueue old (queue_in queues at) (parts.0 ++ slot ∷ parts.1)
      whole = subst (IsQueue old (queue_in queues at)) parts.2 here.is_queue

      mine : IsLine new made (set line slot None) at
      mine = record {
        slots = parts.0 ++ parts.1;
        is_queue = own parts.0 parts.1 whole;
        only = λ u has. elim (cases_eq u slot) [
          | inl one ↦ absurd (not_twice old parts.0 parts.1 slot whole.rising (subst (Has (parts.0 ++ parts.1)) one has))
          | inr other ↦ set_else line slot None u other ∙ here.only u (subst (λ (xs : List ℕ). Has xs u) (sym parts.2) (has_less parts.0 parts.1 slot u has))
        ];
        all = λ u on. elim (cases_eq u slot) [
          | inl one ↦ absurd (none_is_some (sym (set_here line slot None) ∙ sym (ap (set line slot None) one) ∙ on))
          | inr other ↦ has_else parts.0 parts.1 slot u other (subst (λ (xs : List ℕ). Has xs u) parts.2 (here.all u (sym (set_else line slot None u other) ∙ on)))
        ];
      }
