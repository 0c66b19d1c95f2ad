use Rattle.std.proofs.Common.{◌≡◌, ◌∷◌, [], true, false, sym, refl, ap, ◌∙◌}
use Rattle.std.proofs.lemmas.Bool.{true≢false}
use Rattle.locked_peers.specs.InnerLine.View.{reading}
use Rattle.locked_peers.specs.InnerLine.Step.{Sat, pass_in, after_reading}
use Rattle.locked_peers.proofs.LineHandleLemmas.{pass_took, pass_out}
use Rattle.locked_peers.proofs.line_locked.LockedLineJobLine.take.Goals as goal

pub pop-requires-clause-held : goal.pop-requires-clause-held
pop-requires-clause-held g c = let t = c.enter.ensures.took in (t.0, ap (λ (m : Sat). m.1) t.1)

pub hand_over-requires-clause-ready : goal.hand_over-requires-clause-ready
hand_over-requires-clause-ready g c =
    let t = c.enter.ensures.took in
    let x = t.0 in
    let m = c.args.pass.now.seat.me in
    let r = pass_in m.0.passes in
    let p = c.in-Ok.ensures.popped x (ap (λ (m : Sat). m.1) t.1) in
    let y = p.0 in
    let s = p.2 in (
      r,
      x,
      y,
      c.in-Ok.field-0,
      pass_out c.pop.new.seat.me m.0.about r x y (p.1 ∙ ap (λ (m : Sat). (m.0, (0, y) ∷ [])) (pass_took m c.enter.new.seat.me c.args.pass.now.known t)),
      record { jobs = s.0; accepted_by = s.1; entries = s.2; mark = s.3 },
    )

pub find_end-found-requires-clause-held : goal.find_end-found-requires-clause-held
find_end-found-requires-clause-held g c =
    let t = c.enter.ensures.took in
    let p = c.in-Err.ensures.popped t.0 (ap (λ (m : Sat). m.1) t.1) in (p.0, ap (λ (m : Sat). m.1) p.1)

pub read-requires-clause-ready : goal.read-requires-clause-ready
read-requires-clause-ready g c =
    let t = c.enter.ensures.took in
    let x = t.0 in
    let m = c.args.pass.now.seat.me in
    let r = pass_in m.0.passes in
    let p = c.in-Err.ensures.popped x (ap (λ (m : Sat). m.1) t.1) in
    let y = p.0 in
    let s = p.2 in (
      r,
      x,
      y,
      pass_out c.find_end-found.new.seat.me m.0.about r x y (c.find_end-found.ensures.same ∙ (p.1 ∙ ap (λ (m : Sat). (m.0, (0, y) ∷ [])) (pass_took m c.enter.new.seat.me c.args.pass.now.known t))),
      s.0,
      record { jobs = s.1; accepted_by = s.2; entries = s.3; mark = s.4 },
    )

pub returns-in-Some-clause-readings : goal.returns-in-Some-clause-readings
returns-in-Some-clause-readings g c =
    let t = c.enter.ensures.took in
    let x = t.0 in
    let m = c.args.pass.now.seat.me in
    let p = c.in-Err.ensures.popped x (ap (λ (m : Sat). m.1) t.1) in
    let y = p.0 in
    let is = c.find_end-found.ensures.same ∙ (p.1 ∙ ap (λ (m : Sat). (m.0, (0, y) ∷ [])) (pass_took m c.enter.new.seat.me c.args.pass.now.known t)) in
    let mark : x.closed ≡ true = sym p.2.4.0 ∙ c.in-Some.ensures.value y (ap (λ (m : Sat). m.1) p.1) in (
      reading x.entries x.entries x.closed,
      ap (λ (m : Sat). (pass_in m.0.passes).readings) (c.read.ensures.gained ∙ ap after_reading is),
      (mark, refl),
    )

pub returns-in-None-clause-readings : goal.returns-in-None-clause-readings
returns-in-None-clause-readings g c =
    let t = c.enter.ensures.took in
    let x = t.0 in
    let m = c.args.pass.now.seat.me in
    let p = c.in-Err.ensures.popped x (ap (λ (m : Sat). m.1) t.1) in
    let y = p.0 in
    let is = c.find_end-found.ensures.same ∙ (p.1 ∙ ap (λ (m : Sat). (m.0, (0, y) ∷ [])) (pass_took m c.enter.new.seat.me c.args.pass.now.known t)) in
    let mark : x.closed ≡ false = sym p.2.4.0 ∙ c.in-None.ensures.value y (ap (λ (m : Sat). m.1) p.1) in (
      reading x.entries x.entries x.closed,
      ap (λ (m : Sat). (pass_in m.0.passes).readings) (c.read.ensures.gained ∙ ap after_reading is),
      λ seals. true≢false (sym seals.0 ∙ mark),
    )
