use Rattle.std.proofs.Common.{◌≡◌, ◌∷◌, [], Some, sym, ap, ◌∙◌, subst}
use Rattle.atomic_table.specs.Seated.{TableId}
use Rattle.locked_peers.specs.InnerFloor.Step.{Sat, IsPair, station_in}
use Rattle.locked_peers.specs.InnerFloor.Handle.{floor_id, held_grants}
use Rattle.locked_peers.proofs.FloorHandleLemmas.{pair_of, same_grants, of_same_size, first_again, second_again}
use Rattle.locked_peers.proofs.floor_locked.LockedFloorFloor.apart.Goals as goal

pub compare-requires-clause-pair : goal.compare-requires-clause-pair
compare-requires-clause-pair c =
    let a = c.args.a in
    let b = c.args.b in
    (station_in a.seat.me.0.stations, station_in b.seat.me.0.stations, pair_of a.seat.me b.seat.me c.gather.new.seat.me a.number b.number (Some a.region) (Some b.region) a.known b.known c.gather.ensures.both)

pub returns-clause-apart : goal.returns-clause-apart
returns-clause-apart c =
    let a = c.args.a in
    let b = c.args.b in
    let pair = pair_of a.seat.me b.seat.me c.gather.new.seat.me a.number b.number (Some a.region) (Some b.region) a.known b.known c.gather.ensures.both in
    c.compare.ensures.apart (station_in a.seat.me.0.stations) (station_in b.seat.me.0.stations) pair a.region b.region a.known.held b.known.held

pub returns-clause-of_floor : goal.returns-clause-of_floor
returns-clause-of_floor c =
    let id = floor_id c.args.self.now.lock in
    let a = c.args.a in
    let b = c.args.b in
    let ra = station_in a.seat.me.0.stations in
    let rb = station_in b.seat.me.0.stations in
    let pair = pair_of a.seat.me b.seat.me c.gather.new.seat.me a.number b.number (Some a.region) (Some b.region) a.known b.known c.gather.ensures.both in
    let compared : IsPair c.compare.new.seat.me ra rb = subst (λ (z : Sat). IsPair z ra rb) (sym c.compare.ensures.same) pair in
    let about : c.compare.new.seat.me.0.about ≡ a.seat.me.0.about = ap (λ (z : Sat). z.0.about) (c.compare.ensures.same ∙ c.gather.ensures.both) in
    let first = first_again c.compare.new.seat.me c.deal-own.result.me ra rb compared c.deal-own.ensures.dealt in
    let second = second_again c.compare.new.seat.me c.deal-own.new.seat.me ra rb compared c.deal-own.ensures.left in
    let tables = λ (t : TableId) (same : t ≡ c.args.self.now.lock.cell.table.shared.table_id). ap (λ (z : TableId). z ∷ []) (sym same) in (
      (
        of_same_size id a.seat.table_id c.deal-own.result.table_id a.seat.me.0.about c.deal-own.result.me.0.about c.requires.first.0 (tables _ c.deal-own.ensures.tables.1) (first.0 ∙ about),
        same_grants id.dim (held_grants a) _ first.1 c.requires.first.1,
      ),
      (
        of_same_size id a.seat.table_id c.deal-own.new.seat.table_id a.seat.me.0.about c.deal-own.new.seat.me.0.about c.requires.first.0 (tables _ c.deal-own.ensures.tables.0) (second.0 ∙ about),
        same_grants id.dim (held_grants b) _ second.1 c.requires.second.1,
      ),
    )
