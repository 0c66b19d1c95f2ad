-- Queues of the first slots.
use Rattle.std.proofs.Common.{◌≡◌, ℕ, ◌+◌, ◌<◌, inl, inr, List, [], ◌∷◌, ◌++◌, Some, ap, arith}
use Rattle.sched_jobs.specs.declared.nodes.QueueNode.{QueueNode as NodeData}
use Rattle.sched_jobs.specs.declared.queues.Queue.{Queue as QueueData}
use Rattle.sched_jobs.specs.Nodes.{key_of}
use Rattle.sched_jobs.specs.Lists.{Has, first_slot}
use Rattle.sched_jobs.specs.Queues.{CanAppend, IsQueue}
use Rattle.sched_jobs.proofs.ListLemmas.{has_cases}

-- All slots and keys of a queue are below a bound.
pub record IsFilled (nodes : List NodeData) (queue : QueueData) (bound : ℕ) : Type 0 where
  pub slots : List ℕ
  pub is_queue : IsQueue nodes queue slots
  pub few : (u : ℕ) → Has slots u → u < bound
  pub keys : (u : ℕ) → Has slots u → key_of nodes u < bound

pub can_fill : (nodes : List NodeData) (queue : QueueData) (slot : ℕ) → (so_far : IsFilled nodes queue slot)
    → CanAppend nodes queue so_far.slots slot slot
can_fill nodes queue slot so_far = record {
  is_queue = so_far.is_queue;
  none_of = λ h. let less = so_far.few slot h in omega arith;
  above = so_far.keys;
}

pub filled_more : (old new : List NodeData) (queue made : QueueData) (slot : ℕ) → (so_far : IsFilled old queue slot)
    → IsQueue new made (so_far.slots ++ slot ∷ []) → key_of new slot ≡ slot
    → ((u : ℕ) → (u ≡ slot → ⊥) → key_of new u ≡ key_of old u) → IsFilled new made (slot + 1)
filled_more old new queue made slot so_far is own others = record {
  slots = so_far.slots ++ slot ∷ [];
  is_queue = is;
  few = λ u h. elim (has_cases so_far.slots (slot ∷ []) u h) [
    | inl one ↦ (let less = so_far.few u one in omega arith)
    | inr last ↦ (elim last [ inl same ↦ omega arith | inr none ↦ absurd none ])
  ];
  keys = λ u h. elim (has_cases so_far.slots (slot ∷ []) u h) [
    | inl one ↦ (let few = so_far.few u one in let less = so_far.keys u one in
        let same = others u (λ is. omega arith) in omega arith)
    | inr last ↦ (elim last [ inl same ↦ (let equal = ap (key_of new) same in omega arith) | inr none ↦ absurd none ])
  ];
}

pub first_is : (slots : List ℕ) (slot : ℕ) → first_slot slots ≡ Some slot → (rest : List ℕ) × (slots ≡ slot ∷ rest)
first_is [] slot is = absurd cc
first_is (x ∷ xs) slot is = (xs, cc)
