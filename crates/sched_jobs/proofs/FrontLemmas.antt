-- The first slots of lines.
use Rattle.std.proofs.Common.{◌≡◌, ℕ, ◌<◌, inl, inr, List, [], ◌∷◌, Option, Some, None, IfSome, IfNone, refl, sym, subst}
use Rattle.sched_jobs.specs.declared.nodes.QueueNode.{QueueNode as NodeData}
use Rattle.sched_jobs.specs.declared.queues.Queue.{Queue as QueueData}
use Rattle.sched_jobs.specs.Nodes.{estimate_of}
use Rattle.sched_jobs.specs.Lists.{Has, IsRising, first_slot}
use Rattle.sched_jobs.specs.Queues.{HasNoneWithin, IsOldestWithin}
use Rattle.sched_jobs.specs.Lines.{IsLine}
use Rattle.sched_jobs.specs.Inner.Joins.{IsFirstIn, IsFirstWithin}

first_by : (nodes : List NodeData) (line : ℕ → Option ℕ) (at : ℕ) (xs : List ℕ) (answer : Option ℕ) → answer ≡ first_slot xs → IsRising nodes xs
    → ((u : ℕ) → Has xs u → line u ≡ Some at) → ((u : ℕ) → line u ≡ Some at → Has xs u) → IfSome answer (IsFirstIn nodes line at)
first_by nodes line at [] answer is rising only all = subst (λ (a : Option ℕ). IfSome a (IsFirstIn nodes line at)) (sym is) tt
first_by nodes line at (x ∷ xs) answer is rising only all = subst (λ (a : Option ℕ). IfSome a (IsFirstIn nodes line at)) (sym is) (record {
  one_of = only x (inl refl);
  first = λ u on other. elim (all u on) [ inl one ↦ absurd (other one) | inr later ↦ rising.0 u later ];
})

none_by : (line : ℕ → Option ℕ) (at : ℕ) (xs : List ℕ) (answer : Option ℕ) → answer ≡ first_slot xs
    → ((u : ℕ) → line u ≡ Some at → Has xs u) → IfNone answer ((u : ℕ) → line u ≡ Some at → ⊥)
none_by line at [] answer is all = subst (λ (a : Option ℕ). IfNone a ((u : ℕ) → line u ≡ Some at → ⊥)) (sym is) (λ u on. all u on)
none_by line at (x ∷ xs) answer is all = subst (λ (a : Option ℕ). IfNone a ((u : ℕ) → line u ≡ Some at → ⊥)) (sym is) tt

pub front : (nodes : List NodeData) (queues : List QueueData) (line : ℕ → Option ℕ) (at : ℕ) (answer : Option ℕ) → (is : IsLine nodes queues line at)
    → answer ≡ first_slot is.slots → IfSome answer (IsFirstIn nodes line at)
front nodes queues line at answer is first = first_by nodes line at is.slots answer first is.is_queue.rising is.only is.all

pub no_front : (nodes : List NodeData) (queues : List QueueData) (line : ℕ → Option ℕ) (at : ℕ) (answer : Option ℕ) → (is : IsLine nodes queues line at)
    → answer ≡ first_slot is.slots → IfNone answer ((u : ℕ) → line u ≡ Some at → ⊥)
no_front nodes queues line at answer is first = none_by line at is.slots answer first is.all

pub within : (nodes : List NodeData) (queues : List QueueData) (line : ℕ → Option ℕ) (at limit : ℕ) (answer : Option ℕ) → (is : IsLine nodes queues line at)
    → IfSome answer (λ slot. IsOldestWithin nodes is.slots limit slot) → IfSome answer (IsFirstWithin nodes line at limit)
within nodes queues line at limit None is found = tt
within nodes queues line at limit (Some slot) is found = record {
  one_of = is.only slot found.one_of;
  within = found.within;
  first = λ u on less. found.oldest u (is.all u on) less;
}

pub none_within : (nodes : List NodeData) (queues : List QueueData) (line : ℕ → Option ℕ) (at limit : ℕ) (answer : Option ℕ) → (is : IsLine nodes queues line at)
    → IfNone answer (HasNoneWithin nodes is.slots limit) → IfNone answer ((u : ℕ) → line u ≡ Some at → limit < estimate_of nodes u)
none_within nodes queues line at limit None is none_has = λ u on. none_has u (is.all u on)
none_within nodes queues line at limit (Some slot) is none_has = tt
