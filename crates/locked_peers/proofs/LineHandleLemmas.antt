-- What the seats of members are, before, while and after they have taken the state.
use Rattle.std.proofs.Common.{◌≡◌, ℕ, ◌+◌, ◌<◌, Option, None, [], ◌∷◌, length, get_or, sym, refl, ap, ◌∙◌, subst, arith}
use Rattle.std.specs.List.{AllByRecursion}
use Rattle.cube_shape.specs.declared.limits.TheConstants.{MAX_ENTRIES}
use Rattle.job_queue.specs.declared.job_line.Sizes.{Sizes}
use Rattle.job_queue.specs.declared.record.LaneRecord.{LaneRecord}
use Rattle.job_queue.specs.declared.record.PassRecord.{PassRecord}
use Rattle.locked_peers.specs.declared.store.Store.{Store}
use Rattle.job_queue.specs.Record.{accepted, IsSettled}
use Rattle.locked_peers.specs.InnerLine.View.{lane_view, pass_view, closer_view, holding}
use Rattle.locked_peers.specs.InnerLine.Step.{Sat, Knows, Took, lane_in, pass_in, IsLaneOut, IsPassOut, IsCloserOut, IsLaneSeat}
use Rattle.job_queue.proofs.AcceptedLemmas.{accepted-length}

-- ---- a lane

pub lane_seat : (m : Sat) (about : Sizes) (r : LaneRecord) (number entries : ℕ)
    → m ≡ (lane_view about r, [])
    → r.number ≡ number
    → length r.entries ≡ entries
    → IsSettled r
    → number < about.lanes
    → IsLaneSeat m number entries
lane_seat m about r number entries is numbered counted settled within = subst (λ (z : Sat). IsLaneSeat z number entries) (sym is) record { alone = refl; numbered = numbered; counted = counted; settled = settled; within = within }

pub lane_out : (m : Sat) (about : Sizes) (r : LaneRecord) (x y : Store)
    → m ≡ (holding (lane_view about r) x, (0, y) ∷ [])
    → IsLaneOut m r x y
lane_out m about r x y is = subst (λ (z : Sat). IsLaneOut z r x y) (sym is) refl

-- The lane has taken the state.
pub lane_took : (m n : Sat) (number entries : ℕ)
    → IsLaneSeat m number entries
    → (t : Took m n)
    → n ≡ (holding (lane_view m.0.about (lane_in m.0.lanes)) t.0, (0, t.0) ∷ [])
lane_took m n number entries seat t = t.1 ∙ ap (λ (z : Sat). (holding z.0 t.0, (0, t.0) ∷ [])) seat.alone

-- The state has the count of the lane's accepted jobs.
pub lane_seq : (m : Sat) (number entries : ℕ) (x : Store)
    → IsLaneSeat m number entries
    → Knows m.0 x
    → get_or x.accepted.items number 0 ≡ length (accepted (lane_in m.0.lanes).entries)
lane_seq m number entries x seat knows =
    let P : ℕ → LaneRecord → Type 0 = λ n r. get_or x.accepted.items n 0 ≡ length (accepted r.entries) in
    let all : AllByRecursion (λ r. P r.number r) (lane_in m.0.lanes ∷ []) = subst (λ (z : Sat). AllByRecursion (λ r. P r.number r) z.0.lanes) seat.alone knows.lanes in
    subst (λ (n : ℕ). P n (lane_in m.0.lanes)) seat.numbered all.0

pub lane_may_push : (m : Sat) (number entries : ℕ) (x : Store)
    → IsLaneSeat m number entries
    → Knows m.0 x
    → entries < MAX_ENTRIES
    → (number < length x.accepted.items) × (x.entries + 1 < 18446744073709551616)
    × (get_or x.accepted.items number 0 + 1 < 18446744073709551616)
lane_may_push m number entries x seat knows unspent = (
  omega (arith, seat.within, knows.lane_count),
  omega (arith, knows.entries),
  omega (arith, lane_seq m number entries x seat knows, accepted-length (lane_in m.0.lanes).entries, seat.counted),
)

-- ---- a pass

pub pass_seat : (m : Sat) (about : Sizes) (r : PassRecord)
    → m ≡ (pass_view about r, [])
    → m ≡ (pass_view m.0.about (pass_in m.0.passes), [])
pass_seat m about r is = subst (λ (z : Sat). z ≡ (pass_view z.0.about (pass_in z.0.passes), [])) (sym is) refl

pub pass_out : (m : Sat) (about : Sizes) (r : PassRecord) (x y : Store)
    → m ≡ (holding (pass_view about r) x, (0, y) ∷ [])
    → IsPassOut m r x y
pass_out m about r x y is = subst (λ (z : Sat). IsPassOut z r x y) (sym is) refl

pub pass_took : (m n : Sat)
    → m ≡ (pass_view m.0.about (pass_in m.0.passes), [])
    → (t : Took m n)
    → n ≡ (holding (pass_view m.0.about (pass_in m.0.passes)) t.0, (0, t.0) ∷ [])
pass_took m n alone t = t.1 ∙ ap (λ (z : Sat). (holding z.0 t.0, (0, t.0) ∷ [])) alone

-- ---- the closer

pub closer_seat : (m : Sat) (about : Sizes) (closed_at : Option ℕ)
    → m ≡ (closer_view about closed_at, [])
    → m ≡ (closer_view m.0.about closed_at, [])
closer_seat m about closed_at is = subst (λ (z : Sat). z ≡ (closer_view z.0.about closed_at, [])) (sym is) refl

pub closer_out : (m : Sat) (about : Sizes) (x y : Store)
    → m ≡ (holding (closer_view about None) x, (0, y) ∷ [])
    → IsCloserOut m x y
closer_out m about x y is = subst (λ (z : Sat). IsCloserOut z x y) (sym is) refl

pub closer_took : (m n : Sat)
    → m ≡ (closer_view m.0.about None, [])
    → (t : Took m n)
    → n ≡ (holding (closer_view m.0.about None) t.0, (0, t.0) ∷ [])
closer_took m n alone t = t.1 ∙ ap (λ (z : Sat). (holding z.0 t.0, (0, t.0) ∷ [])) alone
