use Rattle.std.proofs.Common.{◌≡◌, [], ◌∷◌, ◌++◌, ap, ◌∙◌, rules}
use Rattle.std.proofs.lemmas.List.{append_assoc}
use Rattle.job_events.proofs.EventLemmas.{pairs_more}
use Rattle.job_events.proofs.listing.push_pairs.Goals as goal

pub loop-reply-preserved : goal.loop-reply-preserved
loop-reply-preserved c before pairs =
    let events = c.loop-reply.events.items in
    let taken = c.pair_of.result.0 in
    let freed = c.pair_of.result.1 in
    let first : c.push.new.self.items ≡ events ++ taken ∷ [] = search rules in
    let second : c.push-in-loop-reply.new.self.items ≡ c.push.new.self.items ++ freed ∷ [] = search rules in
    let both = second ∙ ap (λ es. es ++ freed ∷ []) first ∙ append_assoc events (taken ∷ []) (freed ∷ []) in
    pairs_more before c.args.replies.now c.loop-reply.reply-index c.reply-item.result events c.push-in-loop-reply.new.self.items
    taken freed (search rules) (c.loop-reply.invariant before pairs) (search rules) both
