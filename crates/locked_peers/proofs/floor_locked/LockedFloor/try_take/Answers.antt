use Rattle.std.proofs.Common.{◌∷◌, [], None, ap, ◌∙◌, arith}
use Rattle.locked_peers.specs.InnerFloor.Step.{Sat, station_in}
use Rattle.locked_peers.proofs.FloorHandleLemmas.{station_took, station_holds, station_out, gives_at_record}
use Rattle.locked_peers.proofs.floor_locked.LockedFloor.try_take.Goals as goal

pub allot-requires-clause-held : goal.allot-requires-clause-held
allot-requires-clause-held g c =
    let t = c.enter.ensures.took in
    let m = c.args.seat.now.me in
    (t.0, ap (λ (m : Sat). m.1) t.1, station_holds m c.args.number None t.0 c.requires.station t.2, omega (arith, c.requires.dim, c.requires.of_floor.1, t.2.dim))

pub grant-requires-clause-ready : goal.grant-requires-clause-ready
grant-requires-clause-ready g c =
    let t = c.enter.ensures.took in
    let x = t.0 in
    let m = c.args.seat.now.me in
    let r = station_in m.0.stations in
    let p = c.in-Some.ensures.allotted x (ap (λ (m : Sat). m.1) t.1) in
    let y = p.0 in
    let region = c.in-Some.region in (
      r,
      x,
      y,
      region,
      station_out c.allot.new.seat.me m.0.about r x y (p.1 ∙ ap (λ (m : Sat). (m.0, (0, y) ∷ [])) (station_took m c.enter.new.seat.me c.args.number None c.requires.station t)),
      gives_at_record m c.args.number c.args.k x y region c.requires.station p.2.0,
      p.2.1,
    )

pub leave-requires-clause-ready : goal.leave-requires-clause-ready
leave-requires-clause-ready g c =
    let t = c.enter.ensures.took in
    let x = t.0 in
    let m = c.args.seat.now.me in
    let r = station_in m.0.stations in
    let p = c.in-None.ensures.allotted x (ap (λ (m : Sat). m.1) t.1) in (
      r,
      x,
      station_out c.allot.new.seat.me m.0.about r x x (p.1 ∙ (ap (λ y. (c.enter.new.seat.me.0, (0, y) ∷ [])) p.2.0 ∙ ap (λ (m : Sat). (m.0, (0, x) ∷ [])) (station_took m c.enter.new.seat.me c.args.number None c.requires.station t))),
    )
