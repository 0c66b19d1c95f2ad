use Rattle.std.proofs.Common.{◌∷◌, [], Some, sym, ap, ◌∙◌}
use Rattle.atomic_table.specs.Seated.{TableId}
use Rattle.locked_peers.specs.InnerFloor.Step.{Sat, station_in}
use Rattle.locked_peers.specs.InnerFloor.Handle.{floor_id, held_grants}
use Rattle.locked_peers.proofs.FloorHandleLemmas.{station_took, station_holds, station_out, takes_back_at_record, same_grants, of_same_size, freed}
use Rattle.locked_peers.proofs.floor_locked.LockedFloorFloor.release.Goals as goal

pub withdraw-requires-clause-held : goal.withdraw-requires-clause-held
withdraw-requires-clause-held g c =
    let t = c.enter.ensures.took in
    let held = c.args.held in
    (t.0, ap (λ (m : Sat). m.1) t.1, (held.region, station_holds held.seat.me held.number (Some held.region) t.0 held.known t.2))

pub free-requires-clause-ready : goal.free-requires-clause-ready
free-requires-clause-ready g c =
    let t = c.enter.ensures.took in
    let x = t.0 in
    let held = c.args.held in
    let m = held.seat.me in
    let r = station_in m.0.stations in
    let p = c.withdraw.ensures.withdrawn x (ap (λ (m : Sat). m.1) t.1) in
    let y = p.0 in (
      r,
      x,
      y,
      p.2.0,
      station_out c.withdraw.new.seat.me m.0.about r x y (p.1 ∙ ap (λ (m : Sat). (m.0, (0, y) ∷ [])) (station_took m c.enter.new.seat.me held.number (Some held.region) held.known t)),
      takes_back_at_record m held.number (Some held.region) x y p.2.0 held.known p.2.1,
      p.2.2,
    )

pub returns-clause-of_floor : goal.returns-clause-of_floor
returns-clause-of_floor g c =
    let id = floor_id c.args.self.now.lock in
    let t = c.enter.ensures.took in
    let held = c.args.held in
    let m = held.seat.me in
    let p = c.withdraw.ensures.withdrawn t.0 (ap (λ (m : Sat). m.1) t.1) in
    let out = p.1 ∙ ap (λ (m : Sat). (m.0, (0, p.0) ∷ [])) (station_took m c.enter.new.seat.me held.number (Some held.region) held.known t) in
    let back = freed m c.withdraw.new.seat.me c.free.new.seat.me t.0 p.0 out c.free.ensures.gained in (
      of_same_size id held.seat.table_id c.free.new.seat.table_id m.0.about c.free.new.seat.me.0.about c.requires.0 (ap (λ (z : TableId). z ∷ []) (sym c.free.ensures.table)) back.0,
      same_grants id.dim (held_grants held) _ back.1 c.requires.1,
    )
