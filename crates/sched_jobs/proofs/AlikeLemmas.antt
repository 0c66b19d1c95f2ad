-- Lines without slots, and lines that are alike.
use Rattle.std.proofs.Common.{◌≡◌, ◌≢◌, ℕ, ◌+◌, ◌*◌, ◌<◌, ◌≤◌, ◌⊎◌, inl, inr, List, [], Option, Some, None, length, replicate, sym, ◌∙◌, ap, subst, arith}
use Rattle.std.proofs.lemmas.Bool.{cases_eq, cases_lt}
use Rattle.std.proofs.lemmas.List.{get_or-replicate, get_or_past, length-replicate}
use Rattle.cube_shape.specs.declared.limits.TheConstants.{MAX_BITMAP_DIM}
use Rattle.sched_jobs.specs.declared.nodes.TheConstants.{MAX_SLOTS}
use Rattle.sched_jobs.specs.declared.nodes.QueueNode.{QueueNode as NodeData}
use Rattle.sched_jobs.specs.declared.queues.Queue.{Queue as QueueData}
use Rattle.sched_jobs.specs.Nodes.{estimate_of, key_of, node_at}
use Rattle.sched_jobs.specs.Lists.{Has}
use Rattle.sched_jobs.specs.Queues.{IsQueue}
use Rattle.sched_law.specs.State.{set}
use Rattle.sched_law.proofs.SetLemmas.{look, none_is_some, same, set_else, set_here}
use Rattle.sched_jobs.specs.declared.lines.TheConstants.{CLASSES}
use Rattle.sched_jobs.specs.Slots.{line_at}
use Rattle.sched_jobs.specs.Lines.{AreLines, IsOfClass, ShowsLines, count_in, queue_in}
use Rattle.alloc_bits.specs.Count.{IsCount}
use Rattle.sched_jobs.proofs.NumberLemmas.{count_alike, count_none, count_zero, count_with, count_without}

pub no_line : (nodes : List NodeData) (queues : List QueueData) → length nodes ≤ MAX_SLOTS → ((q : ℕ) → q < length queues → IsQueue nodes (queue_in queues q) [])
    → AreLines nodes queues (λ u. None)
no_line nodes queues limit none_has = record {
  limit = limit;
  each = λ q inside. record { slots = []; is_queue = none_has q inside; only = λ u has. absurd has; all = λ u on. absurd (none_is_some on) };
}

pub alike : (nodes : List NodeData) (queues : List QueueData) (line now : ℕ → Option ℕ) → AreLines nodes queues line → ((u : ℕ) → now u ≡ line u) → AreLines nodes queues now
alike nodes queues line now are same = record {
  limit = are.limit;
  each = λ q inside. (let is = are.each q inside in
      record { slots = is.slots; is_queue = is.is_queue; only = λ u has. same u ∙ is.only u has; all = λ u on. is.all u (sym (same u) ∙ on) });
}

pub shown_alike : (nodes : List NodeData) (queues : List QueueData) (counts : List ℕ) (line now : ℕ → Option ℕ) → ShowsLines nodes queues counts line → ((u : ℕ) → now u ≡ line u)
    → ShowsLines nodes queues counts now
shown_alike nodes queues counts line now k same = record {
  lines = alike nodes queues line now k.lines same;
  queues_count = k.queues_count;
  counts_count = k.counts_count;
  counted = λ class within.
      count_alike (IsOfClass line class) (IsOfClass now class) (length nodes) (count_in counts class)
      (λ u is. (is.0, is.1, same u ∙ is.2)) (λ u is. (is.0, is.1, sym (same u) ∙ is.2)) (k.counted class within);
}

-- a line is that of one class and one dimension
pub one_class : (class dim c d : ℕ) → dim ≤ MAX_BITMAP_DIM → d ≤ MAX_BITMAP_DIM → line_at class dim ≡ line_at c d → class ≡ c
one_class class dim c d low few is = omega (arith, low, few, is)

pub one_dim : (class dim c d : ℕ) → dim ≤ MAX_BITMAP_DIM → d ≤ MAX_BITMAP_DIM → line_at class dim ≡ line_at c d → dim ≡ d
one_dim class dim c d low few is = omega (arith, low, few, is)

-- a line is one of all
pub line_inside : (class dim n : ℕ) → class < CLASSES → dim ≤ MAX_BITMAP_DIM → n ≡ CLASSES * (MAX_BITMAP_DIM + 1) → line_at class dim < n
line_inside class dim n within low is = omega (arith, within, low, is)

-- empty queues
pub shown_empty : (nodes : List NodeData) (queues : List QueueData) (counts : List ℕ) (none : QueueData) (n : ℕ) → length nodes ≡ n → n ≤ MAX_SLOTS
    → queues ≡ replicate (CLASSES * (MAX_BITMAP_DIM + 1)) none → IsQueue nodes none [] → length queues ≡ CLASSES * (MAX_BITMAP_DIM + 1) → counts ≡ replicate CLASSES 0 → length counts ≡ CLASSES
    → ShowsLines nodes queues counts (λ u. None)
shown_empty nodes queues counts none n count limit are is_queue queues_count zeros counts_count = record {
  lines = no_line nodes queues (omega (arith, count, limit)) (λ q inside. subst (λ (x : QueueData). IsQueue nodes x []) (sym (all_none q (subst (λ (m : ℕ). q < m) queues_count inside))) is_queue);
  queues_count = queues_count;
  counts_count = counts_count;
  counted = λ class within.
      subst (IsCount (IsOfClass (λ u. None) class) (length nodes)) (sym (all_zero class within))
      (count_none (IsOfClass (λ u. None) class) (length nodes) (λ u is. none_is_some is.2));
}
  where
    all_zero : (class : ℕ) → class < CLASSES → count_in counts class ≡ 0
    all_zero class within = ap (λ (xs : List ℕ). count_in xs class) zeros ∙ get_or-replicate CLASSES class 0 0 within

    all_none : (q : ℕ) → q < CLASSES * (MAX_BITMAP_DIM + 1) → queue_in queues q ≡ none
    all_none q within = ap (λ (xs : List QueueData). queue_in xs q) are ∙ get_or-replicate (CLASSES * (MAX_BITMAP_DIM + 1)) q none (record { root = 0; front = 0 }) within

-- a slot of a line is one of the nodes
pub slot_inside : (nodes : List NodeData) (queues : List QueueData) (counts : List ℕ) (line : ℕ → Option ℕ) (class u : ℕ) → class < CLASSES → ShowsLines nodes queues counts line
    → IsOfClass line class u → u < length nodes
slot_inside nodes queues counts line class u within k is =
    let here = k.lines.each (line_at class is.0) (line_inside class is.0 (length queues) within is.1 k.queues_count) in here.is_queue.inside u (here.all u is.2)

-- a class with a count of 0 has no slot
pub none_of_class : (nodes : List NodeData) (queues : List QueueData) (counts : List ℕ) (line : ℕ → Option ℕ) (class : ℕ) → class < CLASSES → ShowsLines nodes queues counts line
    → count_in counts class ≡ 0 → (u : ℕ) → IsOfClass line class u → ⊥
none_of_class nodes queues counts line class within k zero u is =
    count_zero (IsOfClass line class) (length nodes) (count_in counts class) zero (k.counted class within) u (slot_inside nodes queues counts line class u within k is) is

module _ (nodes new : List NodeData) (queues made : List QueueData) (counts after : List ℕ) (line : ℕ → Option ℕ) (class dim slot : ℕ)
    (k : ShowsLines nodes queues counts line) (low : dim ≤ MAX_BITMAP_DIM) (nodes_count : length new ≡ length nodes) (count : length made ≡ length queues)
    (counts_count : length after ≡ length counts) (others : (c : ℕ) → c ≢ class → count_in after c ≡ count_in counts c) where
  -- the lines after the slot has another line
  abbrev now : Option ℕ → ℕ → Option ℕ
  now to = set line slot to

  -- a slot joined a line
  pub shown_joined : slot < length nodes → line slot ≡ None → AreLines new made (set line slot (Some (line_at class dim))) → count_in after class ≡ count_in counts class + 1
      → ShowsLines new made after (set line slot (Some (line_at class dim)))
  shown_joined inside free are here = record {
    lines = are;
    queues_count = count ∙ k.queues_count;
    counts_count = counts_count ∙ k.counts_count;
    counted = λ c within. subst (λ (n : ℕ). IsCount (IsOfClass (now (Some (line_at class dim))) c) n (count_in after c)) (sym nodes_count) (elim (cases_eq c class) [
      | inl one ↦
          count_with (IsOfClass line c) (IsOfClass (now (Some (line_at class dim))) c) slot (length nodes) (count_in counts c) (count_in after c) inside
          (λ is. none_is_some (sym free ∙ is.2)) (ap (count_in after) one ∙ here ∙ ap (λ (x : ℕ). count_in counts x + 1) (sym one))
          (λ u has. elim has [
            | inl old ↦ kept c u old
            | inr at ↦ (dim, low, ap (now (Some (line_at class dim))) at ∙ set_here line slot (Some (line_at class dim)) ∙ ap (λ (x : ℕ). Some (line_at x dim)) (sym one))
          ])
          (λ u is. elim (look line slot (Some (line_at class dim)) u (Some (line_at c is.0)) is.2) [
            | inl mine ↦ inr mine.0
            | inr old ↦ inl (is.0, is.1, old.1)
          ])
          (k.counted c within)
      | inr away ↦
          subst (IsCount (IsOfClass (now (Some (line_at class dim))) c) (length nodes)) (sym (others c away))
          (count_alike (IsOfClass line c) (IsOfClass (now (Some (line_at class dim))) c) (length nodes) (count_in counts c) (kept c)
          (λ u is. elim (look line slot (Some (line_at class dim)) u (Some (line_at c is.0)) is.2) [
            | inl mine ↦ absurd (away (sym (one_class class dim c is.0 low is.1 (same mine.1))))
            | inr old ↦ (is.0, is.1, old.1)
          ])
          (k.counted c within))
    ]);
  }
    where
      kept : (c u : ℕ) → IsOfClass line c u → IsOfClass (now (Some (line_at class dim))) c u
      kept c u is = (is.0, is.1, set_else line slot (Some (line_at class dim)) u (λ at. none_is_some (sym free ∙ sym (ap line at) ∙ is.2)) ∙ is.2)

  -- a slot left a line
  pub shown_left : slot < length nodes → line slot ≡ Some (line_at class dim) → AreLines new made (set line slot None) → count_in counts class ≡ count_in after class + 1
      → ShowsLines new made after (set line slot None)
  shown_left inside was are here = record {
    lines = are;
    queues_count = count ∙ k.queues_count;
    counts_count = counts_count ∙ k.counts_count;
    counted = λ c within. subst (λ (n : ℕ). IsCount (IsOfClass (now None) c) n (count_in after c)) (sym nodes_count) (elim (cases_eq c class) [
      | inl one ↦
          let less = count_without (IsOfClass line c) slot (length nodes) (count_in counts c) inside (dim, low, was ∙ ap (λ (x : ℕ). Some (line_at x dim)) (sym one)) (k.counted c within) in
          let total : count_in counts c ≡ less.0 + 1 = less.1 in
          let mine : count_in counts c ≡ count_in after c + 1 = ap (count_in counts) one ∙ here ∙ ap (λ (x : ℕ). count_in after x + 1) (sym one) in
          let right : less.0 ≡ count_in after c = omega (arith, total, mine) in
          count_alike (λ u. IsOfClass line c u × (u ≢ slot)) (IsOfClass (now None) c) (length nodes) (count_in after c)
          (λ u has. (has.0.0, has.0.1, set_else line slot None u has.1 ∙ has.0.2))
          (λ u is. elim (look line slot None u (Some (line_at c is.0)) is.2) [
            | inl mine ↦ absurd (none_is_some mine.1)
            | inr old ↦ ((is.0, is.1, old.1), old.0)
          ])
          (subst (IsCount (λ u. IsOfClass line c u × (u ≢ slot)) (length nodes)) right less.2)
      | inr away ↦
          subst (IsCount (IsOfClass (now None) c) (length nodes)) (sym (others c away))
          (count_alike (IsOfClass line c) (IsOfClass (now None) c) (length nodes) (count_in counts c)
          (λ u is. (is.0, is.1, set_else line slot None u (λ at. away (one_class c is.0 class dim is.1 low (same (sym is.2 ∙ ap line at ∙ was)))) ∙ is.2))
          (λ u is. elim (look line slot None u (Some (line_at c is.0)) is.2) [
            | inl mine ↦ absurd (none_is_some mine.1)
            | inr old ↦ (is.0, is.1, old.1)
          ])
          (k.counted c within))
    ]);
  }

-- the queues rest while the node of a slot in no line changes
pub rest : (old new : List NodeData) (queues : List QueueData) (line : ℕ → Option ℕ) (slot : ℕ)
    → ((queue : QueueData) (slots : List ℕ) → IsQueue old queue slots → length old ≤ length new → length new ≤ MAX_SLOTS
    → ((u : ℕ) → Has slots u → node_at new u ≡ node_at old u) → IsQueue new queue slots)
    → length new ≡ length old → ((u : ℕ) → u ≢ slot → node_at new u ≡ node_at old u) → AreLines old queues line → line slot ≡ None → AreLines new queues line
rest old new queues line slot law len others are none = record {
  limit = subst (λ (n : ℕ). n ≤ MAX_SLOTS) (sym len) are.limit;
  each = λ q inside. (let is = are.each q inside in
      record {
        slots = is.slots;
        is_queue = law (queue_in queues q) is.slots is.is_queue (omega (arith, len)) (subst (λ (n : ℕ). n ≤ MAX_SLOTS) (sym len) are.limit)
            (λ u has. others u (λ one. none_is_some (sym none ∙ sym (ap line one) ∙ is.only u has)));
        only = is.only;
        all = is.all;
      });
}

-- a node before its first use
fresh_node : NodeData
fresh_node = record { key = 0; estimate = 0; fork = record { least = 0; left = 0; right = 0; size = 0; common = 0 } }

-- the nodes at first
node_unused : (n u : ℕ) → node_at (replicate n fresh_node) u ≡ fresh_node
unfolding fresh_node
node_unused n u = at (cases_lt u n)
  where
    at : (u < n) ⊎ (n ≤ u) → node_at (replicate n fresh_node) u ≡ fresh_node
    at (inl within) = get_or-replicate n u fresh_node fresh_node within
    at (inr past) = get_or_past (replicate n fresh_node) u fresh_node (subst (λ (m : ℕ). m ≤ u) (sym (length-replicate n fresh_node)) past)

pub key_unused : (nodes : List NodeData) (n u : ℕ) → nodes ≡ replicate n (record { key = 0; estimate = 0; fork = record { least = 0; left = 0; right = 0; size = 0; common = 0 } })
    → key_of nodes u ≡ 0
unfolding fresh_node
key_unused nodes n u are = ap (λ (xs : List NodeData). key_of xs u) are ∙ ap (λ (x : NodeData). x.key) (node_unused n u)

pub rank_unused : (nodes : List NodeData) (n u : ℕ) → nodes ≡ replicate n (record { key = 0; estimate = 0; fork = record { least = 0; left = 0; right = 0; size = 0; common = 0 } })
    → estimate_of nodes u ≡ 0
unfolding fresh_node
rank_unused nodes n u are = ap (λ (xs : List NodeData). estimate_of xs u) are ∙ ap (λ (x : NodeData). x.estimate) (node_unused n u)
