use Rattle.std.proofs.Common.{◌∷◌, [], ap, ◌∙◌}
use Rattle.locked_peers.specs.InnerLine.Step.{Sat}
use Rattle.locked_peers.proofs.LineHandleLemmas.{closer_took, closer_out}
use Rattle.locked_peers.proofs.line_locked.LockedLineJobLine.close.Goals as goal

pub shut-number-requires-clause-held : goal.shut-number-requires-clause-held
shut-number-requires-clause-held g c = let t = c.enter.ensures.took in (t.0, ap (λ (m : Sat). m.1) t.1)

pub close-requires-clause-ready : goal.close-requires-clause-ready
close-requires-clause-ready g c =
    let t = c.enter.ensures.took in
    let x = t.0 in
    let p = c.shut-number.ensures.shut x (ap (λ (m : Sat). m.1) t.1) in
    let y = p.0 in
    let s = p.2 in (
      x,
      y,
      closer_out c.shut-number.new.seat.me c.args.closer.seat.me.0.about x y (p.1 ∙ ap (λ (m : Sat). (m.0, (0, y) ∷ [])) (closer_took c.args.closer.seat.me c.enter.new.seat.me c.args.closer.known t)),
      record { jobs = s.1; accepted_by = s.2; entries = s.3; closed = s.4; capacity = s.5 },
    )
