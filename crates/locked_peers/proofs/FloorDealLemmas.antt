-- Views are given out when an allocator opens, and joined when it ends.
use Rattle.std.proofs.Common.{◌≡◌, ℕ, ◌+◌, ◌<◌, None, [], ◌∷◌, length, refl, arith}
use Rattle.atomic_table.specs.Table.{opening, Splits, Joins}
use Rattle.ghost_history.specs.Sums.{is_at}
use Rattle.ghost_history.proofs.DealLemmas.{cut-all, cut-total, cut-length, first-tied, only_view, in_cut, in_joined}
use Rattle.ghost_history.proofs.ViewLemmas.{True, splits, joins}
use Rattle.locked_peers.proofs.CellLemmas.{opens as opens_cell, cuts, joins as joins_cell}
use Rattle.alloc_bits.specs.Allocation.{Allocation, held_in}
use Rattle.locked_peers.specs.declared.floor_view.Size.{Size}
use Rattle.locked_peers.specs.declared.floor_view.View.{View}
use Rattle.locked_peers.specs.InnerFloor.View.{members, found_in, fresh_station, first_view, without_station, station_alone, joined, spent_view}
use Rattle.locked_peers.specs.InnerFloor.Deed.{station_part}
use Rattle.locked_peers.specs.InnerFloor.Rule.{Fits, Keeps}
use Rattle.locked_peers.proofs.FloorKeepLemmas.{stations_in, station_number}

-- The table of a new allocator meets the rule.
pub opens : (size : Size) (x : Allocation)
    → x.dim ≡ size.dim
    → ((s : ℕ) → held_in x s ≡ None)
    → Keeps size (opening (0 ∷ []) (x ∷ []) (first_view size))
opens size x dim free =
    let v = first_view size in
    let fits : Fits size [] x = record { dim = dim; held = free } in
    record {
      history = [];
      legal = tt;
      stations = first-tied stations_in station_number fresh_station (λ _. refl) size.stations v refl;
      about = only_view (λ u. 0 < members u → u.about ≡ size) v (λ _. refl);
      cell = opens_cell found_in members (Fits size []) v x refl fits;
    }

pub deals : (size : Size) (id : ℕ) (v : View)
    → v.found ≡ None
    → Splits (Keeps size) id v (without_station v) (station_alone v)
deals size id v none s k me =
    let left : View = without_station v in
    let right : View = station_alone v in
    let fewer : length left.stations + length right.stations ≡ length v.stations = cut-length v.stations in
    record {
      history = k.history;
      legal = k.legal;
      stations = splits stations_in station_number s.views k.stations id v me left right (cut-all (True stations_in station_number size.stations (station_part k.history)) v.stations) (λ n. cut-total (λ r. is_at n (station_number r)) v.stations);
      about = in_cut (λ u. 0 < members u → u.about ≡ size) s.views id left right (λ has. k.about id v me (omega (arith, has, fewer))) (λ has. k.about id v me (omega (arith, has, fewer))) k.about;
      cell = cuts found_in members s k.cell id v me left right none refl refl;
    }

-- Two views are joined.
pub joins_views : (size : Size) (id : ℕ) (v : View) (other : ℕ) (w : View)
    → v.found ≡ None
    → w.found ≡ None
    → 0 < members v
    → Joins (Keeps size) id v other w (joined v w) spent_view
joins_views size id v other w none none_too member s k me apart there =
    let both : View = joined v w in
    record {
      history = k.history;
      legal = k.legal;
      stations = joins stations_in station_number s.views k.stations id v me other w both spent_view apart there refl refl;
      about = in_joined (λ u. 0 < members u → u.about ≡ size) s.views id other both spent_view (λ has. k.about id v me member) (λ has. absurd (omega arith)) k.about;
      cell = joins_cell found_in members s k.cell id v me other w both spent_view none none_too none refl there;
    }
