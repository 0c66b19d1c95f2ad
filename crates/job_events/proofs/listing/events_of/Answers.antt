use Rattle.std.proofs.Common.{◌≡◌, List, [], ◌++◌, map, take, subst, arith, rules}
use Rattle.std.proofs.lemmas.List.{take_all}
use Rattle.dispatcher.specs.Answers.{all_replies}
use Rattle.job_types.specs.Reply.{ReplyData}
use Rattle.job_events.specs.Inner.{ArePairs}
use Rattle.job_events.proofs.EventLemmas.{rest_more, sorted_pairs}
use Rattle.job_events.proofs.listing.events_of.Goals as goal

pub returns : goal.returns
returns g c =
    let workers = c.args.finished.now.by_worker.items in
    let by_worker = map (λ replies. replies.items) workers in
    let rest = c.args.finished.now.rest.items in
    let all : take c.loop-replies.replies-index workers ≡ workers = take_all c.loop-replies.replies-index workers (omega arith) in
    let had : ArePairs (all_replies by_worker []) c.loop-replies.events.items = subst (λ ws. ArePairs (all_replies (map (λ replies. replies.items) ws) []) c.loop-replies.events.items) all c.loop-replies.invariant in
    let last = c.push_pairs-2.new.events.items in
    let same : c.deref-2.result.now ≡ rest = search rules in
    let adds : (before : List ReplyData) → ArePairs before c.loop-replies.events.items → ArePairs (before ++ rest) last = subst (λ (rs : List ReplyData). (before : List ReplyData) → ArePairs before c.loop-replies.events.items → ArePairs (before ++ rs) last) same c.in_ok-push_pairs-2.ensures in
    let pairs = rest_more by_worker rest c.loop-replies.events.items last had adds in
    sorted_pairs (all_replies by_worker rest) c.push_pairs-2.new.events.items c.sort.new.events.items pairs c.sort.ensures.same c.sort.ensures.sorted
