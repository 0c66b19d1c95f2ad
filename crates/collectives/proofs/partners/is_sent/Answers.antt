use Rattle.std.proofs.Common.{◌<◌, sym, subst, ltb-true, lt-ltb}
use Rattle.std.specs.Prelude.{bit_xor}
use Rattle.collectives.specs.Messages.{IsMessage}
use Rattle.collectives.proofs.StepLemmas.{IsBroadcastMessage-of, IsBroadcastMessage-below}
use Rattle.collectives.proofs.partners.is_sent.Goals as goal

pub returns-in-Broadcast : goal.returns-in-Broadcast
returns-in-Broadcast c =
    let m = c.args.sent in
    let seen = bit_xor m.from c.args.root in
    let half = c.distance-half.result in
    λ k along. (
      λ below.
          let less = subst (λ h. seen < h) c.distance-half.ensures (ltb-true seen half below) in
          subst (λ shape. IsMessage shape k c.args.root m) (sym c.in-Broadcast.is)
          (along.round, IsBroadcastMessage-of k c.args.root m along less),
      λ is.
          let broadcast = subst (λ shape. IsMessage shape k c.args.root m) c.in-Broadcast.is is in
          lt-ltb seen half (subst (λ h. seen < h) (sym c.distance-half.ensures) (IsBroadcastMessage-below c.args.root m broadcast.1)),
    )
