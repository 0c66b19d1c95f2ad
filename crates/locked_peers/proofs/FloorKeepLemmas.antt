-- The rule of a locked allocator's table, as words, slots and views change.
use Rattle.std.proofs.Common.{◌≡◌, ℕ, ◌<◌, Some, None, List, [], ◌∷◌, length, get_or, set, refl, ◌∙◌}
use mathlib.Core.Option.{some}
use lib.ListN.{get_elem?}
use Rattle.atomic_table.specs.Table.{State, takes, gives, stepped}
use Rattle.ghost_history.specs.Views.{Tied}
use Rattle.ghost_history.proofs.ViewLemmas.{stays}
use Rattle.ghost_history.proofs.DealLemmas.{in_changed}
use Rattle.locked_peers.proofs.CellLemmas.{takes_value, gives_value}
use Rattle.alloc_bits.specs.Allocation.{Allocation}
use Rattle.locked_peers.specs.declared.floor_view.Size.{Size}
use Rattle.locked_peers.specs.declared.floor_view.StationRecord.{StationRecord}
use Rattle.locked_peers.specs.declared.floor_view.View.{View}
use Rattle.locked_peers.specs.InnerFloor.View.{holding, members, found_in}
use Rattle.locked_peers.specs.InnerFloor.Deed.{Deed, station_part, IsLegal}
use Rattle.locked_peers.specs.InnerFloor.Rule.{Fits, Keeps}

abbrev pub St : Type 0
St = State Allocation View

abbrev pub stations_in : View → List StationRecord
stations_in v = v.stations

abbrev pub station_number : StationRecord → ℕ
station_number r = r.number

module _ (size : Size) (s : St) (k : Keeps size s) (id : ℕ) (v : View)
    (me : get_elem? s.views id ≡ some v) where
  -- A station's seat takes the slot if the word is 0.
  pub takes_slot : (x : Allocation)
      → get_or s.words 0 0 ≡ 0
      → 0 < members v
      → v.found ≡ None
      → Fits size k.history x
      → Keeps size (stepped s 0 1 id [] (holding v x) (takes 0 x))
  takes_slot x free member none fits =
      let w : View = holding v x in
      record {
        history = k.history;
        legal = k.legal;
        stations = stays stations_in station_number s.views k.stations id v me (station_part k.history) w refl (λ _. refl);
        about = in_changed (λ u. 0 < members u → u.about ≡ size) s.views id w (λ _. k.about id v me member) k.about;
        cell = takes_value found_in members s k.cell id v me w x free none refl member fits;
      }

  -- A seat that found `x` gives `y` back. Its new view is `w`, and the history is `h` then.
  pub gives_slot : (x y : Allocation) (w : View) (h : List Deed)
      → v.found ≡ Some x
      → w.found ≡ None
      → w.about ≡ v.about
      → 0 < members v
      → length s.homes ≡ 1
      → IsLegal size h
      → Fits size h y
      → Tied stations_in station_number size.stations (station_part h) (set s.views id w)
      → Keeps size (stepped s 0 0 id ((0, y) ∷ []) w gives)
  gives_slot x y w h some_x none about member one_home legal fits stations = record {
    history = h;
    legal = legal;
    stations = stations;
    about = in_changed (λ u. 0 < members u → u.about ≡ size) s.views id w (λ _. about ∙ k.about id v me member) k.about;
    cell = gives_value found_in members s k.cell id v me (Fits size h) x y w some_x none one_home fits;
  }
