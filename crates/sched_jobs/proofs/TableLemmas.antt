-- Changes of queues in vectors.
use Rattle.std.proofs.Common.{◌≡◌, ◌≢◌, ℕ, ◌+◌, ◌<◌, ◌≤◌, List, ◌++◌, Option, Some, None, length, take, drop, refl, sym, ◌∙◌, ap, subst}
use Rattle.cube_shape.specs.declared.limits.TheConstants.{MAX_BITMAP_DIM}
use Rattle.sched_jobs.specs.declared.nodes.QueueNode.{QueueNode as NodeData}
use Rattle.sched_jobs.specs.declared.queues.Queue.{Queue as QueueData}
use Rattle.sched_jobs.specs.Nodes.{key_of}
use Rattle.sched_law.specs.State.{set}
use Rattle.sched_jobs.specs.declared.line_table.LineTable.{LineTable}
use Rattle.sched_jobs.specs.Slots.{line_at}
use Rattle.sched_jobs.specs.Lines.{AreLines, HasLines, IsOfClass, ShowsLines, count_in}
use Rattle.alloc_bits.specs.Count.{IsCount}
use Rattle.sched_jobs.specs.Inner.Joins.{CanJoin, MayJoin}
use Rattle.sched_jobs.proofs.SlotLemmas.{written}
use Rattle.sched_jobs.proofs.AlikeLemmas.{shown_joined, shown_left}

-- what three lists have, three written vectors have
pub all_written : (lines : LineTable) (nodes_now nodes : List NodeData) (queues_now queues : List QueueData) (counts_now counts : List ℕ) (line : ℕ → Option ℕ)
    → nodes_now ≡ lines.nodes.items → queues_now ≡ lines.queues.items → counts_now ≡ lines.counts.items
    → length nodes ≡ length nodes_now → length queues ≡ length queues_now → length counts ≡ length counts_now → ShowsLines nodes queues counts line
    → ShowsLines (take (length lines.nodes.items) (nodes ++ drop (length nodes) lines.nodes.items)) (take (length lines.queues.items) (queues ++ drop (length queues) lines.queues.items))
    (take (length lines.counts.items) (counts ++ drop (length counts) lines.counts.items)) line
all_written lines nodes_now nodes queues_now queues counts_now counts line d e f g h i shown =
    written (length lines.nodes.items) lines.nodes.items nodes_now nodes (λ (xs : List NodeData). ShowsLines xs (take (length lines.queues.items) (queues ++ drop (length queues) lines.queues.items))
    (take (length lines.counts.items) (counts ++ drop (length counts) lines.counts.items)) line) refl d g
    (written (length lines.queues.items) lines.queues.items queues_now queues (λ (xs : List QueueData). ShowsLines nodes xs (take (length lines.counts.items) (counts ++ drop (length counts) lines.counts.items)) line) refl e h
    (written (length lines.counts.items) lines.counts.items counts_now counts (λ (xs : List ℕ). ShowsLines nodes queues xs line) refl f i shown))

module _ (lines : LineTable) (nodes_now nodes : List NodeData) (queues_now queues : List QueueData) (counts_now counts : List ℕ) (line : ℕ → Option ℕ)
    (class dim slot key at : ℕ) (low : dim ≤ MAX_BITMAP_DIM) (inside : slot < length lines.nodes.items) where
  -- a slot joined its line
  pub joined_done : MayJoin lines line (line_at class dim) slot key
      → nodes_now ≡ lines.nodes.items → queues_now ≡ lines.queues.items → counts_now ≡ lines.counts.items
      → length nodes ≡ length nodes_now → length queues ≡ length queues_now → length counts ≡ length counts_now → at ≡ line_at class dim
      → (CanJoin nodes_now queues_now line at slot key → AreLines nodes queues (set line slot (Some at)))
      → count_in counts class ≡ count_in counts_now class + 1 → ((c : ℕ) → c ≢ class → count_in counts c ≡ count_in counts_now c)
      → ShowsLines (take (length lines.nodes.items) (nodes ++ drop (length nodes) lines.nodes.items)) (take (length lines.queues.items) (queues ++ drop (length queues) lines.queues.items))
      (take (length lines.counts.items) (counts ++ drop (length counts) lines.counts.items)) (set line slot (Some (line_at class dim)))
  joined_done may d e f g h i is join here others =
      all_written lines nodes_now nodes queues_now queues counts_now counts (set line slot (Some (line_at class dim))) d e f g h i
      (shown_joined lines.nodes.items nodes lines.queues.items queues lines.counts.items counts line class dim slot may.shown low (g ∙ ap (λ (xs : List NodeData). length xs) d) (h ∙ ap (λ (xs : List QueueData). length xs) e) (i ∙ ap (λ (xs : List ℕ). length xs) f)
      (λ k away. others k away ∙ ap (λ (xs : List ℕ). count_in xs k) f) inside may.free
      (subst (λ (q : ℕ). AreLines nodes queues (set line slot (Some q))) is (join can)) (here ∙ ap (λ (xs : List ℕ). count_in xs class + 1) f))
    where
      can : CanJoin nodes_now queues_now line at slot key
      can = record {
        lines = subst (λ (xs : List NodeData). AreLines xs queues_now line) (sym d) (subst (λ (xs : List QueueData). AreLines lines.nodes.items xs line) (sym e) may.shown.lines);
        free = may.free;
        above = λ u on. subst (λ (xs : List NodeData). key_of xs u < key) (sym d) (may.above u (on ∙ ap (λ (q : ℕ). Some q) is));
      }

  -- a slot left its line
  pub left_done : HasLines lines line → line slot ≡ Some (line_at class dim)
      → nodes_now ≡ lines.nodes.items → queues_now ≡ lines.queues.items → counts_now ≡ lines.counts.items
      → length nodes ≡ length nodes_now → length queues ≡ length queues_now → length counts ≡ length counts_now → at ≡ line_at class dim
      → (AreLines nodes_now queues_now line → line slot ≡ Some at → AreLines nodes queues (set line slot None))
      → count_in counts_now class ≡ count_in counts class + 1 → ((c : ℕ) → c ≢ class → count_in counts c ≡ count_in counts_now c)
      → ShowsLines (take (length lines.nodes.items) (nodes ++ drop (length nodes) lines.nodes.items)) (take (length lines.queues.items) (queues ++ drop (length queues) lines.queues.items))
      (take (length lines.counts.items) (counts ++ drop (length counts) lines.counts.items)) (set line slot None)
  left_done shown was d e f g h i is leave here others =
      all_written lines nodes_now nodes queues_now queues counts_now counts (set line slot None) d e f g h i
      (shown_left lines.nodes.items nodes lines.queues.items queues lines.counts.items counts line class dim slot shown low (g ∙ ap (λ (xs : List NodeData). length xs) d) (h ∙ ap (λ (xs : List QueueData). length xs) e) (i ∙ ap (λ (xs : List ℕ). length xs) f)
      (λ k away. others k away ∙ ap (λ (xs : List ℕ). count_in xs k) f) inside was now (sym (ap (λ (xs : List ℕ). count_in xs class) f) ∙ here))
    where
      now : AreLines nodes queues (set line slot None)
      now = leave (subst (λ (xs : List NodeData). AreLines xs queues_now line) (sym d) (subst (λ (xs : List QueueData). AreLines lines.nodes.items xs line) (sym e) shown.lines))
          (was ∙ ap (λ (q : ℕ). Some q) (sym is))

-- the key of a slot in no line
pub key_done : (lines : LineTable) (now nodes : List NodeData) (line : ℕ → Option ℕ) (slot : ℕ) → HasLines lines line → line slot ≡ None
    → now ≡ lines.nodes.items → length nodes ≡ length now
    → (AreLines now lines.queues.items line → line slot ≡ None → AreLines nodes lines.queues.items line)
    → ShowsLines (take (length lines.nodes.items) (nodes ++ drop (length nodes) lines.nodes.items)) lines.queues.items lines.counts.items line
key_done lines now nodes line slot shown none d g keep =
    written (length lines.nodes.items) lines.nodes.items now nodes (λ (xs : List NodeData). ShowsLines xs lines.queues.items lines.counts.items line) refl d g (record {
      lines = keep (subst (λ (xs : List NodeData). AreLines xs lines.queues.items line) (sym d) shown.lines) none;
      queues_count = shown.queues_count;
      counts_count = shown.counts_count;
      counted = λ class within. subst (λ (n : ℕ). IsCount (IsOfClass line class) n (count_in lines.counts.items class)) (sym (g ∙ ap (λ (xs : List NodeData). length xs) d)) (shown.counted class within);
    })
