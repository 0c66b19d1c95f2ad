-- Each step of a seat on a locked allocator's table keeps the rule.
use Rattle.std.proofs.Common.{◌≡◌, ◌≢◌, ℕ, ◌<◌, ◌≤◌, true, false, eq-eqb, ne_eqb, Option, Some, None, [], ◌∷◌, length, sym, refl, ap, ◌∙◌, subst, arith}
use mathlib.Core.Logic.{dite}
use mathlib.Core.Option.{some}
use native.Mathlib.Decide.{ℕ_discrete}
use lib.ListN.{get_elem?}
use Rattle.atomic_table.specs.Table.{keeps, gives, stepped, Allows}
use Rattle.ghost_history.specs.Sums.{is_at}
use Rattle.ghost_history.proofs.SumLemmas.{is_at-same, term_le}
use Rattle.ghost_history.specs.Views.{shares}
use Rattle.ghost_history.proofs.ViewLemmas.{True, stays, steps, all_weaker}
use Rattle.locked_peers.specs.Cell.{MayTry}
use Rattle.locked_peers.proofs.CellLemmas.{changes_nothing, may_try}
use Rattle.cube_shape.specs.declared.region.Region.{Region}
use Rattle.cube_shape.specs.Machine.{Gives, TakesBack}
use Rattle.alloc_bits.specs.Allocation.{Allocation, held_in}
use Rattle.locked_peers.specs.declared.floor_view.Size.{Size}
use Rattle.locked_peers.specs.declared.floor_view.StationRecord.{StationRecord}
use Rattle.locked_peers.specs.declared.floor_view.View.{View}
use Rattle.locked_peers.specs.InnerFloor.View.{view, station_view, holding, members}
use Rattle.locked_peers.specs.InnerFloor.Deed.{Deed, gets, frees, is_by, station_after, station_part, held_after, May}
use Rattle.locked_peers.specs.InnerFloor.Rule.{Fits, Keeps}
use Rattle.locked_peers.specs.InnerFloor.Step.{Sat, IsIdle, Knows, granted, after_grant, after_free, after_nothing, IsOut, IsPair, AreHeldApart, AreFirstTwoApart}
use Rattle.locked_peers.proofs.FloorDeedLemmas.{part_own, part_other, lawful}
use Rattle.locked_peers.proofs.FloorKeepLemmas.{St, stations_in, station_number, takes_slot, gives_slot}

-- ---- the slot is taken

learns : (size : Size) (s : St) (k : Keeps size s) (id : ℕ) (v : View)
    (me : get_elem? s.views id ≡ some v) (x : Allocation)
    → 0 < members v
    → Fits size k.history x
    → Knows v x
learns size s k id v me x member fits = record {
  dim = fits.dim ∙ ap (λ (z : Size). z.dim) (sym (k.about id v me member));
  held = all_weaker (True stations_in station_number size.stations (station_part k.history)) (λ r. held_in x r.number ≡ r.holds)
      (λ r true. fits.held r.number ∙ ap (λ (z : StationRecord). z.holds) (sym true.0)) v.stations (k.stations.each id v me);
}

pub enters : (size : Size) (n id : ℕ) (m : Sat)
    → IsIdle m
    → MayTry holding Knows (Keeps size) n id m
enters size n id m idle = may_try holding Knows (Keeps size) n id m idle.0
    (λ s k me free.
    let t = k.cell.home free in let x : Allocation = t.0 in (
      x,
      t.1,
      takes_slot size s k id m.0 me x free idle.2 idle.1 t.2,
      learns size s k id m.0 me x idle.2 t.2,
    ))

-- ---- the slot is given back

module _ (size : Size) (s : St) (k : Keeps size s) (id : ℕ) (about : Size) (r : StationRecord)
    (x y : Allocation) (me : get_elem? s.views id ≡ some (view about (r ∷ []) (Some x)))
    (one_home : length s.homes ≡ 1) where
  found_fits : Fits size k.history x
  found_fits = k.cell.taken id (view about (r ∷ []) (Some x)) x me refl

  mine : (r ≡ station_part k.history r.number) × (r.number < size.stations)
  mine = (k.stations.each id (view about (r ∷ []) (Some x)) me).0

  gives_deed : (d : Deed)
      → is_by d r.number ≡ true
      → ((j : ℕ) → j ≢ r.number → is_by d j ≡ false)
      → (station_after d r).number ≡ r.number
      → May size k.history d
      → Fits size (d ∷ k.history) y
      → Keeps size (stepped s 0 0 id ((0, y) ∷ []) (station_view about (station_after d r)) gives)
  gives_deed d own others same_number may fits =
      let v : View = view about (r ∷ []) (Some x) in
      let w : View = station_view about (station_after d r) in
      gives_slot size s k id v me x y w (d ∷ k.history) refl refl refl (omega arith) one_home (may, k.legal) fits
      (steps stations_in station_number s.views k.stations id v me (station_part (d ∷ k.history)) w r (station_after d r) refl refl same_number (part_own d k.history r.number own ∙ ap (station_after d) (sym mine.0)) (λ j ne. part_other d k.history j (others j ne)))

  pub gives_region : (region : Region)
      → Gives x.dim r.number region.dim (held_in x) (held_in y) region
      → y.dim ≡ x.dim
      → Keeps size (stepped s 0 0 id ((0, y) ∷ [])
      (station_view about (station_after (gets r.number region) r)) gives)
  gives_region region given same_dim =
      let d : Deed = gets r.number region in
      let f = found_fits in
      let own : is_by d r.number ≡ true = eq-eqb r.number r.number refl in
      let others : (j : ℕ) → j ≢ r.number → is_by d j ≡ false = λ j ne. ne_eqb r.number j (λ e. ne (sym e)) in
      let held_here : held_after (d ∷ k.history) r.number ≡ Some region = ap (λ (z : StationRecord). z.holds) (part_own d k.history r.number own) in
      let held_there : (t : ℕ) → t ≢ r.number → held_after (d ∷ k.history) t ≡ held_after k.history t = λ t ne. ap (λ (z : StationRecord). z.holds) (part_other d k.history t (others t ne)) in
      gives_deed d own others refl (
        mine.1,
        record {
          idle = sym (f.held r.number) ∙ given.idle;
          aligned = subst (λ n. Rattle.cube_shape.specs.Region.IsAligned n region) f.dim given.aligned;
          dimension = refl;
          apart = λ t a is. given.apart t a (f.held t ∙ is);
          held = held_here;
          others = held_there;
        },
      )
      record {
        dim = same_dim ∙ f.dim;
        held = λ t. dite (ℕ_discrete t r.number)
            (λ e. subst (λ (j : ℕ). held_in y j ≡ held_after (d ∷ k.history) j) (sym e) (given.held ∙ sym held_here))
            (λ ne. given.others t ne ∙ (f.held t ∙ sym (held_there t ne)));
      }

  pub gives_free : (region : Region)
      → TakesBack r.number (held_in x) (held_in y) region
      → y.dim ≡ x.dim
      → Keeps size (stepped s 0 0 id ((0, y) ∷ [])
      (station_view about (station_after (frees r.number region) r)) gives)
  gives_free region taken same_dim =
      let d : Deed = frees r.number region in
      let f = found_fits in
      let own : is_by d r.number ≡ true = eq-eqb r.number r.number refl in
      let others : (j : ℕ) → j ≢ r.number → is_by d j ≡ false = λ j ne. ne_eqb r.number j (λ e. ne (sym e)) in
      let held_here : held_after (d ∷ k.history) r.number ≡ None = ap (λ (z : StationRecord). z.holds) (part_own d k.history r.number own) in
      let held_there : (t : ℕ) → t ≢ r.number → held_after (d ∷ k.history) t ≡ held_after k.history t = λ t ne. ap (λ (z : StationRecord). z.holds) (part_other d k.history t (others t ne)) in
      gives_deed d own others refl
      (mine.1, record { held = sym (f.held r.number) ∙ taken.held; idle = held_here; others = held_there })
      record {
        dim = same_dim ∙ f.dim;
        held = λ t. dite (ℕ_discrete t r.number)
            (λ e. subst (λ (j : ℕ). held_in y j ≡ held_after (d ∷ k.history) j) (sym e) (taken.idle ∙ sym held_here))
            (λ ne. taken.others t ne ∙ (f.held t ∙ sym (held_there t ne)));
      }

  pub gives_same : Keeps size (stepped s 0 0 id ((0, x) ∷ []) (station_view about r) gives)
  gives_same =
      let v : View = view about (r ∷ []) (Some x) in
      let w : View = station_view about r in
      gives_slot size s k id v me x x w k.history refl refl refl (omega arith) one_home k.legal found_fits
      (stays stations_in station_number s.views k.stations id v me (station_part k.history) w refl (λ _. refl))

pub grants_step : (size : Size) (n : ℕ)
    → n ≡ 1
    → (id : ℕ) (m : Sat) (r : StationRecord) (x y : Allocation) (region : Region)
    → IsOut m r x y
    → Gives x.dim r.number region.dim (held_in x) (held_in y) region
    → y.dim ≡ x.dim
    → Allows (Keeps size) n id m 0 (λ _. 0) (λ _ w. w ≡ after_grant m)
grants_step size n one id m r x y region is given same_dim = subst (λ (z : Sat). Allows (Keeps size) n id z 0 (λ _. 0) (λ _ w. w ≡ after_grant z)) (sym is)
    (λ s k homes me small. (
      station_view m.0.about (station_after (gets r.number region) r),
      gives,
      tt,
      gives_region size s k id m.0.about r x y me (homes ∙ one) region given same_dim,
      ap (λ (o : Option Region). (station_view m.0.about (granted r o), [])) (sym given.held),
    ))

pub frees_step : (size : Size) (n : ℕ)
    → n ≡ 1
    → (id : ℕ) (m : Sat) (r : StationRecord) (x y : Allocation) (region : Region)
    → IsOut m r x y
    → TakesBack r.number (held_in x) (held_in y) region
    → y.dim ≡ x.dim
    → Allows (Keeps size) n id m 0 (λ _. 0) (λ _ w. w ≡ after_free m)
frees_step size n one id m r x y region is taken same_dim = subst (λ (z : Sat). Allows (Keeps size) n id z 0 (λ _. 0) (λ _ w. w ≡ after_free z)) (sym is)
    (λ s k homes me small. (
      station_view m.0.about (station_after (frees r.number region) r),
      gives,
      tt,
      gives_free size s k id m.0.about r x y me (homes ∙ one) region taken same_dim,
      refl,
    ))

pub leaves_step : (size : Size) (n : ℕ)
    → n ≡ 1
    → (id : ℕ) (m : Sat) (r : StationRecord) (x : Allocation)
    → IsOut m r x x
    → Allows (Keeps size) n id m 0 (λ _. 0) (λ _ w. w ≡ after_nothing m)
leaves_step size n one id m r x is = subst (λ (z : Sat). Allows (Keeps size) n id z 0 (λ _. 0) (λ _ w. w ≡ after_nothing z)) (sym is)
    (λ s k homes me small. (station_view m.0.about r, gives, tt, gives_same size s k id m.0.about r x x me (homes ∙ one), refl))

-- ---- two stations at once

-- The records of two stations say that what they hold is apart.
pair_apart : (size : Size) (s : St) (k : Keeps size s) (id : ℕ) (about : Size) (a b : StationRecord)
    → get_elem? s.views id ≡ some (view about (a ∷ b ∷ []) None)
    → AreHeldApart a b
pair_apart size s k id about a b me p q is_p is_q =
    let v : View = view about (a ∷ b ∷ []) None in
    let true = k.stations.each id v me in
    let few : shares stations_in station_number a.number v ≤ 1 = omega (arith, k.stations.once a.number, term_le (shares stations_in station_number a.number) s.views id v me) in
    let other : a.number ≢ b.number = λ e.
    let first : is_at a.number a.number ≡ 1 = is_at-same a.number in
    let second : is_at a.number b.number ≡ 1 = ap (is_at a.number) (sym e) ∙ is_at-same a.number in
    omega arith in
    (lawful size k.history k.legal).apart a.number b.number p q other
    (ap (λ (z : StationRecord). z.holds) (sym true.0.0) ∙ is_p)
    (ap (λ (z : StationRecord). z.holds) (sym true.1.0.0) ∙ is_q)

pub compares : (size : Size) (n id : ℕ) (m : Sat) (a b : StationRecord)
    → IsPair m a b
    → Allows (Keeps size) n id m 0 (λ y. y) (λ found w. (w ≡ m) × AreFirstTwoApart m.0.stations)
compares size n id m a b is = subst (λ (z : Sat). Allows (Keeps size) n id z 0 (λ y. y) (λ found w. (w ≡ z) × AreFirstTwoApart z.0.stations)) (sym is)
    (λ s k homes me small. (
      view m.0.about (a ∷ b ∷ []) None,
      keeps,
      tt,
      changes_nothing (Keeps size) s k id (view m.0.about (a ∷ b ∷ []) None) me,
      (refl, pair_apart size s k id m.0.about a b me),
    ))
