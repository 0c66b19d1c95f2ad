-- What the seats of stations are, before, while and after they have taken the bits.
use Rattle.std.proofs.Common.{◌≡◌, ℕ, ◌<◌, Option, None, List, [], ◌∷◌, ◌++◌, sym, refl, ap, ◌∙◌, subst}
use Rattle.std.specs.List.{All, AllByRecursion}
use Rattle.std.proofs.lemmas.List.Elements.{All-push}
use Rattle.atomic_table.specs.Seated.{TableId}
use Rattle.cube_shape.specs.declared.limits.TheConstants.{MAX_STATIONS}
use Rattle.cube_shape.specs.declared.region.Region.{Region}
use Rattle.cube_shape.specs.Region.{IsAligned}
use Rattle.cube_shape.specs.Machine.{Gives, TakesBack}
use Rattle.alloc_bits.specs.Allocation.{Allocation, held_in}
use Rattle.floors.specs.Floor.{FloorId}
use Rattle.locked_peers.specs.declared.floor_view.Size.{Size}
use Rattle.locked_peers.specs.declared.floor_view.StationRecord.{StationRecord}
use Rattle.locked_peers.specs.InnerFloor.View.{view, station_view, holding, joined, station_alone, without_station}
use Rattle.locked_peers.specs.InnerFloor.Step.{Sat, Knows, Took, station_in, IsOut, IsPair, IsStationSeat, after_free}
use Rattle.locked_peers.specs.InnerFloor.Handle.{IsOf, grants_in}

pub station_seat : (m : Sat) (about : Size) (r : StationRecord) (number : ℕ) (holds : Option Region)
    → m ≡ (station_view about r, [])
    → r.number ≡ number
    → r.holds ≡ holds
    → number < MAX_STATIONS
    → IsStationSeat m number holds
station_seat m about r number holds is numbered held within = subst (λ (z : Sat). IsStationSeat z number holds) (sym is) record { alone = refl; numbered = numbered; held = held; within = within }

pub station_out : (m : Sat) (about : Size) (r : StationRecord) (x y : Allocation)
    → m ≡ (holding (station_view about r) x, (0, y) ∷ [])
    → IsOut m r x y
station_out m about r x y is = subst (λ (z : Sat). IsOut z r x y) (sym is) refl

-- The station has taken the bits.
pub station_took : (m n : Sat) (number : ℕ) (holds : Option Region)
    → IsStationSeat m number holds
    → (t : Took m n)
    → n ≡ (holding (station_view m.0.about (station_in m.0.stations)) t.0, (0, t.0) ∷ [])
station_took m n number holds seat t = t.1 ∙ ap (λ (z : Sat). (holding z.0 t.0, (0, t.0) ∷ [])) seat.alone

-- The bits say of the station what its record says.
pub station_holds : (m : Sat) (number : ℕ) (holds : Option Region) (x : Allocation)
    → IsStationSeat m number holds
    → Knows m.0 x
    → held_in x number ≡ holds
station_holds m number holds x seat knows =
    let all : AllByRecursion (λ r. held_in x r.number ≡ r.holds) (station_in m.0.stations ∷ []) = subst (λ (z : Sat). AllByRecursion (λ r. held_in x r.number ≡ r.holds) z.0.stations) seat.alone knows.held in
    ap (held_in x) (sym seat.numbered) ∙ (all.0 ∙ seat.held)

-- A step of the machine at the station's number, at its record's number.
pub gives_at_record : (m : Sat) (number k : ℕ) (x y : Allocation) (region : Region)
    → IsStationSeat m number None
    → Gives x.dim number k (held_in x) (held_in y) region
    → Gives x.dim (station_in m.0.stations).number region.dim (held_in x) (held_in y) region
gives_at_record m number k x y region seat given =
    subst (λ n. Gives x.dim n region.dim (held_in x) (held_in y) region) (sym seat.numbered)
    (subst (λ d. Gives x.dim number d (held_in x) (held_in y) region) (sym given.dimension) given)

pub takes_back_at_record : (m : Sat) (number : ℕ) (holds : Option Region) (x y : Allocation)
    (region : Region)
    → IsStationSeat m number holds
    → TakesBack number (held_in x) (held_in y) region
    → TakesBack (station_in m.0.stations).number (held_in x) (held_in y) region
takes_back_at_record m number holds x y region seat taken = subst (λ n. TakesBack n (held_in x) (held_in y) region) (sym seat.numbered) taken

-- The seats of two stations, joined.
pub pair_of : (m o n : Sat) (number other : ℕ) (holds other_holds : Option Region)
    → IsStationSeat m number holds
    → IsStationSeat o other other_holds
    → n ≡ (joined m.0 o.0, [])
    → IsPair n (station_in m.0.stations) (station_in o.0.stations)
pair_of m o n number other holds other_holds first second is =
    let a = station_in m.0.stations in
    let b = station_in o.0.stations in
    let both : n ≡ (view m.0.about (a ∷ b ∷ []) None, []) = is ∙ (ap (λ (z : Sat). (joined z.0 o.0, [])) first.alone ∙ ap (λ (z : Sat). (joined (station_view m.0.about a) z.0, [])) second.alone) in
    subst (λ (z : Sat). IsPair z a b) (sym both) refl

-- The grants of a station are aligned, as before or with one more aligned block.
pub same_grants : (n : ℕ) (old new : List Region)
    → new ≡ old
    → All (IsAligned n) old
    → All (IsAligned n) new
same_grants n old new same aligned = subst (All (IsAligned n)) (sym same) aligned

pub one_grant_more : (n : ℕ) (old new : List Region) (r : Region)
    → new ≡ old ++ r ∷ []
    → All (IsAligned n) old
    → IsAligned n r
    → All (IsAligned n) new
one_grant_more n old new r more aligned own = subst (All (IsAligned n)) (sym more) (All-push (IsAligned n) old r aligned own)

-- A seat whose view is of a machine of the same size.
pub of_same_size : (id : FloorId) (table other : TableId) (old new : Size)
    → IsOf id table old
    → id.tables ≡ other ∷ []
    → new ≡ old
    → IsOf id other new
of_same_size id table other old new of_floor tables same = (tables, ap (λ (z : Size). z.dim) same ∙ of_floor.1, ap (λ (z : Size). z.stations) same ∙ of_floor.2)

-- The seats of two stations, separated again.
pub first_again : (m n : Sat) (a b : StationRecord)
    → IsPair m a b
    → n ≡ (station_alone m.0, [])
    → (n.0.about ≡ m.0.about) × (grants_in n ≡ a.grants)
first_again m n a b pair is = (ap (λ (z : Sat). z.0.about) is, ap grants_in is ∙ ap (λ (z : Sat). grants_in (station_alone z.0, [])) pair)

pub second_again : (m n : Sat) (a b : StationRecord)
    → IsPair m a b
    → n ≡ (without_station m.0, [])
    → (n.0.about ≡ m.0.about) × (grants_in n ≡ b.grants)
second_again m n a b pair is = (ap (λ (z : Sat). z.0.about) is, ap grants_in is ∙ ap (λ (z : Sat). grants_in (without_station z.0, [])) pair)

-- The seat of a station that has released its block.
pub freed : (m w n : Sat) (x y : Allocation)
    → w ≡ (holding (station_view m.0.about (station_in m.0.stations)) x, (0, y) ∷ [])
    → n ≡ after_free w
    → (n.0.about ≡ m.0.about) × (grants_in n ≡ grants_in m)
freed m w n x y out is = let at = is ∙ ap after_free out in (ap (λ (z : Sat). z.0.about) at, ap grants_in at)
