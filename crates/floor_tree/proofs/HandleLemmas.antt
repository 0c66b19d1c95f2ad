-- The handles of a `TreeFloor`, before and after what they do.
use Rattle.std.proofs.Common.{◌≡◌, ℕ, zero, suc, ◌+◌, ◌-◌, ◌^◌, ◌<◌, ◌≤◌, inl, inr, List, [], ◌∷◌, ◌++◌, map, get_or, length, refl, sym, ◌∙◌, ap, subst, arith}
use Rattle.std.specs.Int.{trailing_zeros, w64}
use Rattle.std.specs.List.{All}
use Rattle.std.proofs.lemmas.Bool.{cases_eq}
use Rattle.std.proofs.lemmas.List.Elements.{All-nil, All-push}
use Rattle.std.proofs.lemmas.Nat.{pow_pos, pow_below}
use Rattle.std.proofs.lemmas.Nat.Bits.{bit_at-pow_other, bit_at-trailing_zeros}
use Rattle.atomic_table.specs.Seated.{TableId}
use Rattle.cube_shape.specs.declared.region.Region.{Region}
use Rattle.cube_shape.specs.Region.{IsAligned}
use Rattle.cube_core.specs.Held.{region_at}
use Rattle.tree_steps.specs.declared.view.Entry.{Entry}
use Rattle.tree_steps.specs.Rule.{idle_entries}
use Rattle.tree_steps.specs.Steps.{with_peeks}
use Rattle.tree_steps.specs.Tree.{id_of}
use Rattle.cube_tree.specs.declared.handles.Cube.{Cube}
use Rattle.cube_tree.specs.declared.handles.TreeStation.{TreeStation}
use Rattle.cube_tree.specs.declared.handles.Subcube.{Subcube}
use Rattle.cube_tree.specs.declared.refusal.Refusal.{Refusal}
use Rattle.cube_tree.specs.Handles.{cube_dim, cube_size, station_entry, subcube_entry, held_node, held_region, IsStationOf, IsSubcubeOf, IsSameSubcube, GivesBack}
use Rattle.cube_tree.specs.Search.{TakesNext, IsRefusedEach}
use Rattle.floor_tree.specs.Grants.{grants_in, dim_of, station_grants, subcube_grants}
use Rattle.floor_tree.specs.Inner.Handle.{floor_id, IsStation, IsHeld}
use Rattle.floor_tree.proofs.GrantLemmas.{given_more, given_back, tries_give}

-- ---- the dimension of a machine, from the number of its words

lowest_of_power : (k : ℕ) → k < 64 → trailing_zeros w64 (2 ^ k) ≡ k
lowest_of_power k few =
    let lowest = bit_at-trailing_zeros w64 (2 ^ k) (pow_pos k) (pow_below k 64 few) in
    elim (cases_eq (trailing_zeros w64 (2 ^ k)) k) [
      | inl same ↦ same
      | inr other ↦ absurd (let none = bit_at-pow_other k (trailing_zeros w64 (2 ^ k)) other in omega (arith, none, lowest.1))
    ]

dim_of_words : (n words : ℕ) → n < 63 → words ≡ 2 ^ (n + 1) → trailing_zeros w64 words - 1 ≡ n
dim_of_words n words few is =
    let place : trailing_zeros w64 (2 ^ (n + 1)) ≡ n + 1 = lowest_of_power (n + 1) (omega arith) in
    ap (λ w. trailing_zeros w64 w - 1) is ∙ ap (λ z. z - 1) place ∙ one_less n
  where
    one_less : (k : ℕ) → k + 1 - 1 ≡ k
    one_less k = omega arith

pub dim_of_cube : (cube : Cube) (table : TableId)
    → table ≡ id_of cube.tree
    → dim_of table ≡ cube_dim cube
dim_of_cube cube table is = ap dim_of is ∙ dim_of_words (cube_dim cube) (id_of cube.tree).words (omega (arith, cube.tree.dim_in_limits)) cube.tree.words

-- ---- handles and tables

pub own_table : (cube : Cube) (station : TreeStation)
    → IsStation (floor_id cube) station
    → IsStationOf cube station
own_table cube station of_floor = sym (ap (λ tables. get_or tables 0 (id_of cube.tree)) of_floor.table)

pub held_table : (cube : Cube) (subcube : Subcube)
    → IsHeld (floor_id cube) subcube
    → IsSubcubeOf cube subcube
held_table cube subcube of_floor = sym (ap (λ tables. get_or tables 0 (id_of cube.tree)) of_floor.table)

-- ---- takes

pub record Takes (cube : Cube) (station : TreeStation) (subcube : Subcube) : Type 0 where
  pub of_floor : IsHeld (floor_id cube) subcube
  pub granted : subcube_grants subcube ≡ station_grants station ++ held_region subcube ∷ []

pub takes : (cube : Cube) (j : ℕ) (station : TreeStation) (subcube : Subcube)
    → IsStation (floor_id cube) station
    → TakesNext cube j (station_entry station) subcube
    → Takes cube station subcube
takes cube j station subcube of_floor t = record {
  of_floor = record {
    table = ap (λ (table : TableId). table ∷ []) (sym t.taken.of_cube);
    below = subst (λ number. number < (cube_size cube).stations) (sym (t.taken.number ∙ earlier.0)) of_floor.below;
    granted = subst (All (IsAligned n)) (sym more) (All-push (IsAligned n) (station_grants station) (held_region subcube) of_floor.granted t.taken.aligned);
  };
  granted = more;
}
  where
    n : ℕ
    n = cube_dim cube

    earlier : (t.between.station ≡ (station_entry station).station)
        × ((d : ℕ) → grants_in d t.between.trail ≡ grants_in d (station_entry station).trail)
    earlier = tries_give (cube_dim cube) t.tries (with_peeks t.peeks (station_entry station)) t.between t.searches.refused

    more : subcube_grants subcube ≡ station_grants station ++ held_region subcube ∷ []
    more =
        ap (λ n. grants_in n (subcube_entry subcube).trail) (dim_of_cube cube _ t.taken.of_cube)
        ∙ given_more n (held_node subcube) t.between (subcube_entry subcube) t.taken.makes t.taken.holds
        ∙ ap (λ regions. regions ++ region_at n (held_node subcube) ∷ []) (earlier.1 n ∙ ap (λ d. grants_in d (station_entry station).trail) (sym (dim_of_cube cube _ (own_table cube station of_floor))))
        ∙ ap (λ (r : Region). station_grants station ++ r ∷ []) (sym t.taken.region_is)

-- if all tries were refused, the station is the same
pub stays : (cube : Cube) (j : ℕ) (old new : TreeStation) (r : Refusal)
    → IsStation (floor_id cube) old
    → IsStationOf cube new
    → IsRefusedEach (cube_dim cube) j (station_entry old) (station_entry new) r
    → IsStation (floor_id cube) new × (station_grants new ≡ station_grants old)
stays cube j old new r of_floor back t = (
  record {
    table = ap (λ (table : TableId). table ∷ []) (sym back);
    below = subst (λ number. number < (cube_size cube).stations) (sym kept.0) of_floor.below;
    granted = subst (All (IsAligned (cube_dim cube))) (sym same) of_floor.granted;
  },
  same,
) where
  kept : ((station_entry new).station ≡ (station_entry old).station)
      × ((d : ℕ) → grants_in d (station_entry new).trail ≡ grants_in d (station_entry old).trail)
  kept = tries_give (cube_dim cube) t.tries (with_peeks t.peeks (station_entry old)) (station_entry new) t.searches.refused

  same : station_grants new ≡ station_grants old
  same = ap (λ (table : TableId). grants_in (dim_of table) (station_entry new).trail) (back ∙ sym (own_table cube old of_floor)) ∙ kept.1 (dim_of old.seat.table_id)

-- ---- releases

pub comes_back : (cube : Cube) (held : Subcube) (station : TreeStation)
    → IsHeld (floor_id cube) held
    → GivesBack cube (held_node held) (subcube_entry held) station
    → IsStation (floor_id cube) station × (station_grants station ≡ subcube_grants held)
comes_back cube held station of_floor back = (
  record {
    table = ap (λ (table : TableId). table ∷ []) (sym back.of_cube);
    below = subst (λ number. number < (cube_size cube).stations) (sym back.number) of_floor.below;
    granted = subst (All (IsAligned (cube_dim cube))) (sym same) of_floor.granted;
  },
  same,
) where
  same : station_grants station ≡ subcube_grants held
  same = ap (λ (table : TableId). grants_in (dim_of table) (station_entry station).trail) (back.of_cube ∙ sym (held_table cube held of_floor)) ∙ given_back (dim_of held.seat.table_id) (held_node held) (subcube_entry held) (station_entry station) back.makes back.idle

-- ---- a comparison

pub stays_held : (cube : Cube) (old new : Subcube)
    → IsHeld (floor_id cube) old
    → IsSameSubcube old new
    → IsHeld (floor_id cube) new
stays_held cube old new of_floor same = record {
  table = of_floor.table ∙ ap (λ (table : TableId). table ∷ []) (sym same.table);
  below = subst (λ (e : Entry). e.station < (cube_size cube).stations) (sym same.entry) of_floor.below;
  granted = subst (All (IsAligned (cube_dim cube))) (sym kept) of_floor.granted;
}
  where
    kept : subcube_grants new ≡ subcube_grants old
    kept = ap (λ (table : TableId). grants_in (dim_of table) (subcube_entry new).trail) same.table ∙ ap (λ (e : Entry). grants_in (dim_of old.seat.table_id) e.trail) same.entry

-- ---- the opening

-- each of the idle entries from a number on is below the end, and has no event
record IsFresh (most : ℕ) (e : Entry) : Type 0 where
  below : e.station < most
  trail : e.trail ≡ []

fresh_at : (a count most i : ℕ) (list : List TreeStation) (d : TreeStation)
    → a + count ≤ most
    → map station_entry list ≡ idle_entries a count
    → i < length list
    → IsFresh most (station_entry (get_or list i d))
fresh_at a zero most i [] d le is below = absurd (omega arith)
fresh_at a zero most i (s ∷ list) d le is below = absurd (let none = ap length is in omega arith)
fresh_at a (suc count) most i [] d le is below = absurd (omega arith)
fresh_at a (suc count) most zero (s ∷ list) d le is below = subst (IsFresh most) (sym (ap (λ (l : List Entry). get_or l 0 (station_entry s)) is)) (record { below = omega arith; trail = refl })
fresh_at a (suc count) most (suc i) (s ∷ list) d le is below = fresh_at (suc a) count most i list d (omega arith) (ap tail is) (omega arith)
  where
    tail : List Entry → List Entry
    tail [] = []
    tail (e ∷ es) = es

pub opened_grants : (count : ℕ) (list : List TreeStation)
    → map station_entry list ≡ idle_entries 0 count
    → All (λ s. station_grants s ≡ []) list
opened_grants count list idle = λ i d below. ap (grants_in (dim_of (get_or list i d).seat.table_id)) (fresh_at 0 count count i list d (omega arith) idle below).trail

pub opened_stations : (cube : Cube) (count : ℕ) (list : List TreeStation)
    → (cube_size cube).stations ≡ count
    → All (IsStationOf cube) list
    → map station_entry list ≡ idle_entries 0 count
    → All (IsStation (floor_id cube)) list
opened_stations cube count list size of_cube idle = λ i d below. record {
  table = ap (λ (table : TableId). table ∷ []) (sym (of_cube i d below));
  below = subst (λ most. (station_entry (get_or list i d)).station < most) (sym size) (fresh_at 0 count count i list d (omega arith) idle below).below;
  granted = subst (All (IsAligned (cube_dim cube))) (sym (opened_grants count list idle i d below)) (All-nil (IsAligned (cube_dim cube)));
}

-- ---- the end

-- each region that a station of the floor was given is aligned
pub closed_grants : (cube : Cube) (list : List TreeStation)
    → All (IsStation (floor_id cube)) list
    → All (λ s. All (IsAligned (cube_dim cube)) (station_grants s)) list
closed_grants cube list of_floor = λ i d below. (of_floor i d below).granted
