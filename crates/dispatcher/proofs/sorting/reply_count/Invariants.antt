use Rattle.std.proofs.Common.{◌≡◌, length, map, take}
use Rattle.dispatcher.specs.Answers.{all_replies}
use Rattle.dispatcher.proofs.sorting.reply_count.Given as goal

abbrev pub invariant-loop-replies : goal.invariant-loop-replies
invariant-loop-replies l = l.count ≡ length (all_replies (map (λ rs. rs.items) (take l.replies-index l.by_worker)) l.rest)
