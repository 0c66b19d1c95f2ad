-- What a legal history of a locked allocator says of its stations' records, and of what they hold.
use Rattle.std.proofs.Common.{◌≡◌, ℕ, ◌≤◌, true, false, cond, ne_eqb, None, List, [], ◌∷◌, refl, ap, ◌∙◌, arith}
use Rattle.cube_shape.specs.Machine.{IsLawful}
use Rattle.cube_shape.proofs.MachineLemmas.{IsLawful-none, IsLawful-gives, IsLawful-takes_back}
use Rattle.locked_peers.specs.declared.floor_view.Size.{Size}
use Rattle.locked_peers.specs.declared.floor_view.StationRecord.{StationRecord}
use Rattle.locked_peers.specs.InnerFloor.Deed.{Deed, gets, frees, is_by, station_after, station_part, held_after, IsLegal}

pub part_own : (d : Deed) (h : List Deed) (s : ℕ)
    → is_by d s ≡ true
    → station_part (d ∷ h) s ≡ station_after d (station_part h s)
part_own d h s own = ap (λ b. cond b (station_after d (station_part h s)) (station_part h s)) own

pub part_other : (d : Deed) (h : List Deed) (s : ℕ)
    → is_by d s ≡ false
    → station_part (d ∷ h) s ≡ station_part h s
part_other d h s other = ap (λ b. cond b (station_after d (station_part h s)) (station_part h s)) other

-- The steps of the machine keep its law.
pub lawful : (size : Size) (h : List Deed) → IsLegal size h → IsLawful size.dim (held_after h)
lawful size [] legal = IsLawful-none size.dim (held_after []) (λ s. refl)
lawful size (gets s r ∷ h) legal = IsLawful-gives size.dim s r.dim (held_after h) (held_after (gets s r ∷ h)) r (lawful size h legal.1) legal.0.1
lawful size (frees s r ∷ h) legal = IsLawful-takes_back size.dim s (held_after h) (held_after (frees s r ∷ h)) r (lawful size h legal.1) legal.0.1

-- A number that is no station's holds nothing.
pub held_beyond : (size : Size) (h : List Deed) (k : ℕ)
    → IsLegal size h
    → size.stations ≤ k
    → held_after h k ≡ None
held_beyond size [] k legal beyond = refl
held_beyond size (gets s r ∷ h) k legal beyond = ap (λ (z : StationRecord). z.holds) (part_other (gets s r) h k (ne_eqb s k (λ e. omega (arith, legal.0.0)))) ∙ held_beyond size h k legal.1 beyond
held_beyond size (frees s r ∷ h) k legal beyond = ap (λ (z : StationRecord). z.holds) (part_other (frees s r) h k (ne_eqb s k (λ e. omega (arith, legal.0.0)))) ∙ held_beyond size h k legal.1 beyond
