use Rattle.std.proofs.Common.{subst}
use Rattle.dispatcher.specs.Shop.{ShopId}
use Rattle.dispatcher.specs.Members.{IsEndOf}
use Rattle.dispatcher_threads.proofs.MemberLemmas.{ended}
use Rattle.dispatcher_threads.proofs.member.WorkerSlot.dispatch.Goals as goal

pub invariant_of-self-2 : goal.invariant_of-self-2
invariant_of-self-2 g c =
    let end = c.dispatch_with-end.result in
    let own = subst (λ (s : ShopId). IsEndOf s end) c.requires c.dispatch_with-end.ensures.of_shop in
    ended c.take.new.self c.replace.new.self end _ _ c.take.ensures.after c.replace.ensures.after (own, c.dispatch_with-end.ensures.has_run)
