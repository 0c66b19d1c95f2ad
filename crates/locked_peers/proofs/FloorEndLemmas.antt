-- When all stations have come back and hold nothing, the bits are in their slot and wholly free.
use Rattle.std.proofs.Common.{◌≡◌, ℕ, None, List, [], ◌∷◌, length, sym, ap, ◌∙◌, subst, arith}
use Rattle.std.specs.List.{AllByRecursion}
use Rattle.std.proofs.lemmas.Bool.{cases_lt}
use mathlib.Core.Logic.{dite}
use mathlib.Core.Option.{some}
use native.Mathlib.Decide.{ℕ_discrete}
use lib.ListN.{get_elem?}
use Rattle.ghost_history.specs.Sums.{total, is_at}
use Rattle.ghost_history.proofs.SumLemmas.{is_at-other}
use Rattle.ghost_history.proofs.ViewLemmas.{True, has_everyone, nobody_else}
use Rattle.locked_peers.specs.Cell.{Leaves}
use Rattle.locked_peers.proofs.CellLemmas.{at_home}
use Rattle.alloc_bits.specs.Allocation.{Allocation, held_in}
use Rattle.locked_peers.specs.declared.floor_view.Size.{Size}
use Rattle.locked_peers.specs.declared.floor_view.StationRecord.{StationRecord}
use Rattle.locked_peers.specs.InnerFloor.View.{members, found_in}
use Rattle.locked_peers.specs.InnerFloor.Deed.{station_part, held_after}
use Rattle.locked_peers.specs.InnerFloor.Rule.{Fits, Keeps}
use Rattle.locked_peers.specs.InnerFloor.Step.{Sat}
use Rattle.locked_peers.specs.InnerFloor.End.{IsWhole}
use Rattle.locked_peers.proofs.FloorDeedLemmas.{held_beyond}
use Rattle.locked_peers.proofs.FloorKeepLemmas.{St, stations_in, station_number}

-- A station with a record in the list holds nothing, if no record there holds a block.
idle_there : (recorded : ℕ → StationRecord) (n k : ℕ) (rs : List StationRecord)
    → AllByRecursion (True stations_in station_number n recorded) rs
    → AllByRecursion (λ r. r.holds ≡ None) rs
    → total (λ r. is_at k (station_number r)) rs ≡ 1
    → (recorded k).holds ≡ None
idle_there recorded n k [] true idle one = absurd (omega arith)
idle_there recorded n k (r ∷ rs) true idle one =
    dite (ℕ_discrete r.number k)
    (λ e. subst (λ (j : ℕ). (recorded j).holds ≡ None) e (ap (λ (z : StationRecord). z.holds) (sym true.0.0) ∙ idle.0))
    (λ ne. idle_there recorded n k rs true.1 idle.1 (omega (arith, is_at-other k r.number ne)))

module _ (size : Size) (s : St) (k : Keeps size s) (id : ℕ) (m : Sat)
    (me : get_elem? s.views id ≡ some m.0) (whole : IsWhole size m) where
  the_value : (x : Allocation) × (get_elem? s.homes 0 ≡ some (some x)) × Fits size k.history x
  the_value = at_home found_in members s k.cell id m.0 me whole.found (λ j u apart there. ap length (nobody_else stations_in station_number s.views k.stations id m.0 me whole.stations j u apart there))

  all_idle : (station : ℕ) → held_after k.history station ≡ None
  all_idle station = elim (cases_lt station size.stations) [
    | Rattle.std.proofs.Common.inl below ↦ idle_there (station_part k.history) size.stations station m.0.stations (k.stations.each id m.0 me) whole.idle (has_everyone stations_in station_number s.views k.stations id m.0 me whole.stations station below)
    | Rattle.std.proofs.Common.inr beyond ↦ held_beyond size k.history station k.legal beyond
  ]

-- The bits at the end.
pub ends : (size : Size) (id : ℕ) (m : Sat) (x : Allocation)
    → Leaves (Keeps size) id m.0 x
    → IsWhole size m
    → (x.dim ≡ size.dim) × ((station : ℕ) → held_in x station ≡ None)
ends size id m x left whole =
    let s = left.0 in let k = left.1.0 in let me = left.1.1 in
    let t = the_value size s k id m me whole in
    subst (λ (z : Allocation). (z.dim ≡ size.dim) × ((station : ℕ) → held_in z station ≡ None)) (left.2 t.0 t.1) (t.2.dim, λ station. t.2.held station ∙ all_idle size s k id m me whole station)
