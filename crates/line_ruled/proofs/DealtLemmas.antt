-- The members of a `RuledLine`, as they are given out and come back.
use Rattle.std.proofs.Common.{◌≡◌, ℕ, suc, ◌+◌, ◌<◌, ◌≤◌, List, [], ◌∷◌, length, length-set, get_or, get_or-set_same, get_or-set_other, set, sym, refl, ap, ◌∙◌, arith}
use Rattle.std.specs.List.{AllByRecursion}
use Rattle.ghost_history.specs.Sums.{total, is_at}
use Rattle.ghost_history.proofs.SumLemmas.{is_at-same}
use Rattle.atomic_table.specs.Seated.{TableId}
use Rattle.line_gate.specs.Gate.{GateId}
use Rattle.line_gate.specs.declared.record.LaneEntries.{LaneEntries}
use Rattle.line_gate.specs.declared.record.PassReadings.{PassReadings}
use Rattle.line_ring.specs.Ring.{RingId, RingOf}
use Rattle.line_gate.specs.Record.{fresh_lane as fresh_gate_lane, fresh_pass as fresh_gate_pass, lanes_from, passes_from}
use Rattle.line_ruled.specs.declared.handle.RuledLane.{RuledLane}
use Rattle.line_ruled.specs.declared.handle.RuledPass.{RuledPass}
use Rattle.line_ruled.specs.Inner.Handle.{line_of, IsOf, is_lane, is_pass, counts_after}

cons_first : {A : Type 0} {x y : A} {xs ys : List A} → x ∷ xs ≡ y ∷ ys → x ≡ y
cons_first e = cc

cons_rest : {A : Type 0} {x y : A} {xs ys : List A} → x ∷ xs ≡ y ∷ ys → xs ≡ ys
cons_rest e = cc

-- ---- which queue a member belongs to

module _ (gate : GateId) (ring : RingOf) where
  is_here : (g : TableId) (r : RingId)
      → IsOf (line_of gate ring) g r
      → (g ≡ gate.table) × (r ≡ ring.id)
  is_here g r of =
      let tables = of.0 in
      let table : r.table ≡ ring.id.table = sym (cons_first (cons_rest tables)) in
      (sym (cons_first tables), λ i. record { table = table i; machine = of.1 i })

  -- A member of this gate and of this ring belongs to the queue.
  pub is_of : (g : TableId) (r : RingId)
      → g ≡ gate.table
      → r ≡ ring.id
      → IsOf (line_of gate ring) g r
  is_of g r at_gate in_ring = (λ i. sym at_gate i ∷ (sym in_ring i).table ∷ [], ap (λ (x : RingId). x.machine) in_ring)

  pub lane_here : (lane : RuledLane)
      → is_lane (line_of gate ring) lane
      → (lane.gate.gate ≡ gate.table) × (lane.ring.ring ≡ ring.id)
      × (lane.ring.known.number < gate.counts.lanes)
  lane_here lane is = let e = is_here lane.gate.gate lane.ring.ring is.0 in (e.0, e.1, is.1)

  pub pass_here : (pass : RuledPass)
      → is_pass (line_of gate ring) pass
      → (pass.gate.gate ≡ gate.table) × (pass.ring.ring ≡ ring.id)
  pass_here pass is = is_here pass.gate.gate pass.ring.ring is

-- ---- the next member that is given out

pub next_lane : (first count : ℕ) (x : LaneEntries) (xs ys : List LaneEntries)
    → ys ≡ lanes_from first (suc count)
    → ys ≡ x ∷ xs
    → (x ≡ fresh_gate_lane first) × (xs ≡ lanes_from (first + 1) count)
next_lane first count x xs ys were dealt = let e = sym dealt ∙ were in (cons_first e, cons_rest e)

pub next_pass : (first count : ℕ) (x : PassReadings) (xs ys : List PassReadings)
    → ys ≡ passes_from first (suc count)
    → ys ≡ x ∷ xs
    → (x ≡ fresh_gate_pass first) × (xs ≡ passes_from (first + 1) count)
next_pass first count x xs ys were dealt = let e = sym dealt ∙ were in (cons_first e, cons_rest e)

-- ---- the counts of accepted jobs

abbrev pub number_of : RuledLane → ℕ
number_of lane = lane.ring.known.number

abbrev pub count_of : RuledLane → ℕ
count_of lane = length lane.ring.known.accepted

pub length-counts : (counts : List ℕ) (lanes : List RuledLane)
    → length (counts_after counts lanes) ≡ length counts
length-counts counts [] = refl
length-counts counts (l ∷ lanes) = length-counts (set counts (number_of l) (count_of l)) lanes ∙ length-set counts (number_of l) (count_of l)

-- A count stays if no later lane has its number.
counts_stay : (counts : List ℕ) (lanes : List RuledLane) (k : ℕ)
    → total (λ l. is_at k (number_of l)) lanes ≡ 0
    → get_or (counts_after counts lanes) k 0 ≡ get_or counts k 0
counts_stay counts [] k none = refl
counts_stay counts (l ∷ lanes) k none =
    counts_stay (set counts (number_of l) (count_of l)) lanes k (omega (arith, none))
    ∙ get_or-set_other counts (number_of l) k (count_of l) 0 (λ e. let here : is_at k (number_of l) ≡ 1 = ap (is_at k) (sym e) ∙ is_at-same k in absurd (omega (arith, here, none)))

-- If each number is there at most once, each lane's place has its count.
pub counts_right : (counts : List ℕ) (lanes : List RuledLane)
    → ((k : ℕ) → k < length counts → total (λ l. is_at k (number_of l)) lanes ≤ 1)
    → AllByRecursion (λ l. number_of l < length counts) lanes
    → AllByRecursion (λ l. get_or (counts_after counts lanes) (number_of l) 0 ≡ count_of l) lanes
counts_right counts [] few within = tt
counts_right counts (l ∷ lanes) few within =
    let k = number_of l in
    let next = set counts k (count_of l) in
    let alone : total (λ x. is_at k (number_of x)) lanes ≡ 0 = omega (arith, few k within.0, is_at-same k) in
    (counts_stay next lanes k alone ∙ get_or-set_same counts k (count_of l) 0 within.0, counts_right next lanes (λ j low. omega (arith, few j (omega (arith, low, length-set counts k (count_of l))))) (still_within lanes within.1))
  where
    still_within : (ls : List RuledLane)
        → AllByRecursion (λ x. number_of x < length counts) ls
        → AllByRecursion (λ x. number_of x < length (set counts (number_of l) (count_of l))) ls
    still_within [] all = tt
    still_within (x ∷ ls) all = (omega (arith, all.0, length-set counts (number_of l) (count_of l)), still_within ls all.1)
