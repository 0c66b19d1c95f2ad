-- What holds at the end of the table.
use Rattle.std.proofs.Common.{◌≡◌, ℕ, List, [], ◌∷◌, get_or, sym, ap, ◌∙◌}
use mathlib.Core.Option.{some, some-injective, some-ne-none}
use lib.ListN.{get_elem?}
use Rattle.atomic_table.specs.Table.{Final}
use Rattle.sched_threads.specs.declared.clocked.ClockedDesk.{ClockedDesk}
use Rattle.sched_board.specs.declared.sizes.ThreadSizes.{ThreadSizes}
use Rattle.sched_threads.specs.Ends.{IsEnd}
use Rattle.sched_threads.specs.Rule.{Keeps, last_desk}

first_word : (words : List ℕ) (n : ℕ) → get_elem? words 0 ≡ some n → get_or words 0 0 ≡ n
first_word [] n there = absurd (some-ne-none n (sym there))
first_word (w ∷ words) n there = some-injective w n there

pub ends : (sizes : ThreadSizes) (words : List ℕ) (slots : List ClockedDesk) (word : ℕ) (here : ClockedDesk)
    → Final (Keeps sizes) words slots
    → get_elem? words 0 ≡ some word
    → word ≡ 0
    → get_elem? slots 0 ≡ some here
    → IsEnd sizes here.desk
ends sizes words slots word here final at_word zero_word at_slot =
    let s = final.0 in
    let k = final.1 in
    let last = last_desk k.first k.turns in
    let free : get_or s.words 0 0 ≡ 0 = ap (λ (ws : List ℕ). get_or ws 0 0) final.2 ∙ (first_word words word at_word ∙ zero_word) in
    let there = final.4 0 last (k.held.home free) in
    record {
      first = k.first;
      fresh = k.fresh;
      early = k.early;
      turns = k.turns;
      legal = k.legal;
      left = ap (λ (c : ClockedDesk). c.desk) (some-injective here last (sym at_slot ∙ there));
    }
