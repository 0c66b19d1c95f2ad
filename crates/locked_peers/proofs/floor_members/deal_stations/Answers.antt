use Rattle.std.proofs.Common.{◌≡◌, ℕ, suc, ◌+◌, ◌-◌, [], ◌∷◌, None, sym, refl, ap, ◌∙◌, arith}
use Rattle.std.proofs.lemmas.List.Elements.{All-push, All-same}
use Rattle.atomic_table.specs.Seated.{TableId}
use Rattle.locked_peers.specs.InnerFloor.View.{view, stations_from, station_view, fresh_station, without_station, station_alone}
use Rattle.locked_peers.specs.InnerFloor.Step.{Sat}
use Rattle.locked_peers.specs.InnerFloor.Handle.{size_of, floor_id, is_seated, grants_of, grants_in}
use Rattle.locked_peers.proofs.FloorHandleLemmas.{station_seat}
use Rattle.locked_peers.proofs.floor_members.deal_stations.Goals as goal

pub invariant_of-push_reserved : goal.invariant_of-push_reserved
invariant_of-push_reserved c =
    let size = size_of c.args.lock.now in
    let i = c.loop-number.number in
    let one_more : c.args.count - i ≡ suc (c.args.count - (i + 1)) = omega arith in
    let dealt : c.deal-seat.result.me ≡ (station_view size (fresh_station i), []) =
    c.deal-seat.ensures.dealt ∙ (ap (λ (m : Sat). (station_alone m.0, [])) c.loop-number.invariant.1 ∙ ap (λ (n : ℕ). (station_alone (view size (stations_from i n) None), [])) one_more) in
    record { known = station_seat _ size (fresh_station i) i None dealt refl refl (omega (arith, c.loop-number-test.true, c.requires.few)) }

pub loop-number-preserved : goal.loop-number-preserved
loop-number-preserved c =
    let size = size_of c.args.lock.now in
    let i = c.loop-number.number in
    let inv = c.loop-number.invariant in
    let one_more : c.args.count - i ≡ suc (c.args.count - (i + 1)) = omega arith in
    let before : c.loop-number.seat.me ≡ (view size (stations_from i (suc (c.args.count - (i + 1)))) None, []) = inv.1 ∙ ap (λ (n : ℕ). (view size (stations_from i n) None, [])) one_more in
    let left : c.deal-seat.new.seat.me ≡ (view size (stations_from (i + 1) (c.args.count - (i + 1))) None, []) = c.deal-seat.ensures.left ∙ ap (λ (m : Sat). (without_station m.0, [])) before in
    let dealt : c.deal-seat.result.me ≡ (station_view size (fresh_station i), []) = c.deal-seat.ensures.dealt ∙ ap (λ (m : Sat). (station_alone m.0, [])) before in
    let table : c.deal-seat.result.table_id ≡ c.args.lock.now.cell.table.shared.table_id = c.deal-seat.ensures.tables.1 in (
      c.deal-seat.ensures.tables.0,
      left,
      All-same (is_seated (floor_id c.args.lock.now)) _ _ c.push_reserved.ensures.items
          (All-push (is_seated (floor_id c.args.lock.now)) _ _ inv.2 (ap (λ (t : TableId). t ∷ []) (sym table), ap (λ (m : Sat). m.0.about.dim) dealt, ap (λ (m : Sat). m.0.about.stations) dealt)),
      All-same (λ s. grants_of s ≡ []) _ _ c.push_reserved.ensures.items (All-push (λ s. grants_of s ≡ []) _ _ inv.3 (ap grants_in dealt)),
      omega (arith, c.push_reserved.ensures.len, inv.4),
      omega (arith, c.push_reserved.ensures.capacity, inv.5),
    )
