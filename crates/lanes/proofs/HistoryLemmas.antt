-- What a legal history says of the lane's counts, and of the records of its producer and of the
-- workers.
use Rattle.std.proofs.Common.{◌≡◌, ◌≢◌, ℕ, ◌+◌, ◌^◌, ◌<◌, ◌≤◌, Bool, true, false, cond, eqb, eq-eqb, ne_eqb, Option, Some, None, List, [], ◌∷◌, length, length-append, sym, refl, ap, ◌∙◌, subst, arith}
use Rattle.std.proofs.lemmas.Bool.{true≢false}
use mathlib.Core.Logic.{dite}
use native.Mathlib.Decide.{ℕ_discrete}
use Rattle.lanes.specs.declared.sizes.TheConstants.{MAX_JOBS}
use Rattle.lanes.specs.declared.sizes.Sizes.{Sizes}
use Rattle.lanes.specs.declared.record.LaneRecord.{LaneRecord}
use Rattle.lanes.specs.declared.record.TakeRecord.{TakeRecord}
use Rattle.lanes.specs.Record.{job}
use Rattle.lanes.specs.History.{reads_count, finds_full, finds_room, puts_payload, puts_dim, accepts, finds_closed, TakeAct, reads_head, finds_none, finds_some, reads_payload, reads_dim, takes, loses, Deed, by_lane, by_worker, closes, count, taken, filled, filled_dims, payload_of, dim_of, closed_at, is_shut, lane_part, take_after, take_part, TakeMay, IsLegal}

none_some : {n : ℕ} → None ≡ Some n → ⊥
none_some e = cc

some_none : {n : ℕ} → Some n ≡ None → ⊥
some_none e = cc

abbrev pub number_of : Option ℕ → ℕ
number_of (Some n) = n
number_of None = 0

-- ---- the part of a worker after one more deed

pub take_own : (a : TakeAct) (h : List Deed) (k : ℕ)
    → take_part (by_worker k a ∷ h) k ≡ take_after a (take_part h k)
take_own a h k = ap (λ b. cond b (take_after a (take_part h k)) (take_part h k)) (eq-eqb k k refl)

pub take_other : (j : ℕ) (a : TakeAct) (h : List Deed) (k : ℕ)
    → k ≢ j
    → take_part (by_worker j a ∷ h) k ≡ take_part h k
take_other j a h k other = ap (λ b. cond b (take_after a (take_part h k)) (take_part h k)) (ne_eqb j k (λ e. other (sym e)))

-- what holds of a worker's part before its own deed, and of others' parts, holds after it
pub take_cases : (P : TakeRecord → Type 0) (j : ℕ) (a : TakeAct) (h : List Deed) (k : ℕ)
    → TakeMay h (take_part h j) a
    → P (take_part h k)
    → (TakeMay h (take_part h k) a → P (take_after a (take_part h k)))
    → P (take_part (by_worker j a ∷ h) k)
take_cases P j a h k may before after =
    dite (ℕ_discrete k j)
    (λ e. subst (λ i. P (take_part (by_worker i a ∷ h) k)) e (subst P (sym (take_own a h k)) (after (subst (λ i. TakeMay h (take_part h i) a) (sym e) may))))
    (λ ne. subst P (sym (take_other j a h k ne)) before)

-- ---- what a worker knows, and how it goes on to be true

-- the counts grow, and the jobs that are accepted stay
abbrev pub Grows : List Deed → List Deed → Type 0
Grows h h' = (taken h ≤ taken h') × (count h ≤ count h') × ((i : ℕ) → i < count h → payload_of h' i ≡ payload_of h i) × ((i : ℕ) → i < count h → dim_of h' i ≡ dim_of h i)

-- while the job at its head is not taken, what it has read in the cells is that job's
abbrev pub Knows : List Deed → TakeRecord → Type 0
Knows h r = (r.head ≤ taken h) × (r.tail ≤ count h) × ((p : ℕ) → r.payload ≡ Some p → (r.head < r.tail) × (taken h ≡ r.head → payload_of h r.head ≡ p)) × ((d : ℕ) → r.dim ≡ Some d → (r.head < r.tail) × (taken h ≡ r.head → dim_of h r.head ≡ d))

later : (h h' : List Deed) → Grows h h' → (r : TakeRecord) → Knows h r → Knows h' r
later h h' grows r knows = (
  omega (arith, knows.0, grows.0),
  omega (arith, knows.1, grows.1),
  (λ p is. let c = knows.2 p is in (c.0, λ at. let still : taken h ≡ r.head = omega (arith, knows.0, grows.0, at) in grows.2 r.head (omega (arith, c.0, knows.1)) ∙ c.1 still)),
  (λ d is. let c = knows.3 d is in (c.0, λ at. let still : taken h ≡ r.head = omega (arith, knows.0, grows.0, at) in grows.3 r.head (omega (arith, c.0, knows.1)) ∙ c.1 still)),
)

-- ---- all that a legal history says at once

abbrev pub Counts : ℕ → List Deed → Type 0
Counts capacity h = (taken h ≤ count h) × (count h ≤ filled h) × (count h ≤ filled_dims h) × (filled h ≤ taken h + capacity) × (filled_dims h ≤ taken h + capacity) × (count h ≤ MAX_JOBS)

abbrev pub LaneKnows : ℕ → ℕ → List Deed → LaneRecord → Type 0
LaneKnows capacity number h r = (r.number ≡ number) × (r.capacity ≡ capacity) × (length r.accepted ≡ count h) × (r.seen ≤ taken h)
    × ((p : ℕ) → r.payload ≡ Some p → (filled h ≡ count h + 1) × (payload_of h (count h) ≡ p))
    × ((d : ℕ) → r.dim ≡ Some d → (filled_dims h ≡ count h + 1) × (dim_of h (count h) ≡ d))

pub record Sound (sizes : Sizes) (number : ℕ) (h : List Deed) : Type 0 where
  pub counts : Counts sizes.capacity h
  pub lane : LaneKnows sizes.capacity number h (lane_part sizes.capacity number h)
  pub workers : (k : ℕ) → Knows h (take_part h k)
  pub dims : (i : ℕ) → dim_of h i < 2 ^ 32

small_cond : (b : Bool) (m n k : ℕ) → m < k → n < k → cond b m n < k
small_cond true m n k low high = low
small_cond false m n k low high = high

module _ (sizes : Sizes) (number : ℕ) where
  pub sound : (h : List Deed) → IsLegal sizes number h → Sound sizes number h
  sound [] legal = record {
    counts = (omega arith, omega arith, omega arith, omega arith, omega arith, omega arith);
    lane = (refl, refl, refl, omega arith, (λ p is. absurd (none_some is)), (λ d is. absurd (none_some is)));
    workers = λ k. (omega arith, omega arith, (λ p is. absurd (none_some is)), (λ d is. absurd (none_some is)));
    dims = λ i. omega arith;
  }
  sound (by_lane (reads_count n) ∷ h) legal = let b = sound h legal.1 in record { counts = b.counts; lane = b.lane; workers = b.workers; dims = b.dims }
  sound (by_lane (finds_full n) ∷ h) legal = let b = sound h legal.1 in record { counts = b.counts; lane = b.lane; workers = b.workers; dims = b.dims }
  sound (by_lane (finds_room n) ∷ h) legal = let b = sound h legal.1 in record { counts = b.counts; lane = (b.lane.0, b.lane.1, b.lane.2, omega (arith, legal.0.0), b.lane.4, b.lane.5); workers = b.workers; dims = b.dims }
  sound (by_lane (puts_payload p) ∷ h) legal =
      let b = sound h legal.1 in
      let now = by_lane (puts_payload p) ∷ h in
      record {
        counts = (b.counts.0, omega arith, b.counts.2, omega (arith, legal.0, b.lane.1, b.lane.3), b.counts.4, b.counts.5);
        lane = (b.lane.0, b.lane.1, b.lane.2, b.lane.3, (λ q is. (refl, ap (λ c. cond c p (payload_of h (count h))) (eq-eqb (count h) (count h) refl) ∙ ap number_of is)), b.lane.5);
        workers = λ k. later h now (omega arith, omega arith, (λ i low. ap (λ c. cond c p (payload_of h i)) (ne_eqb i (count h) (λ e. omega arith))), (λ i low. refl)) (take_part h k) (b.workers k);
        dims = b.dims;
      }
  sound (by_lane (puts_dim d) ∷ h) legal =
      let b = sound h legal.1 in
      let now = by_lane (puts_dim d) ∷ h in
      record {
        counts = (b.counts.0, b.counts.1, omega arith, b.counts.3, omega (arith, legal.0.0, b.lane.1, b.lane.3), b.counts.5);
        lane = (b.lane.0, b.lane.1, b.lane.2, b.lane.3, b.lane.4, (λ q is. (refl, ap (λ c. cond c d (dim_of h (count h))) (eq-eqb (count h) (count h) refl) ∙ ap number_of is)));
        workers = λ k. later h now (omega arith, omega arith, (λ i low. refl), (λ i low. ap (λ c. cond c d (dim_of h i)) (ne_eqb i (count h) (λ e. omega arith)))) (take_part h k) (b.workers k);
        dims = λ i. small_cond (eqb i (count h)) d (dim_of h i) (2 ^ 32) legal.0.1 (b.dims i);
      }
  sound (by_lane (accepts p d) ∷ h) legal =
      let b = sound h legal.1 in
      let now = by_lane (accepts p d) ∷ h in
      let full = b.lane.4 p legal.0.0 in
      let full_dims = b.lane.5 d legal.0.1 in
      let r = lane_part sizes.capacity number h in
      record {
        counts = (omega (arith, b.counts.0), omega (arith, full.0), omega (arith, full_dims.0), b.counts.3, b.counts.4, omega (arith, legal.0.3));
        lane = (b.lane.0, b.lane.1, omega (arith, length-append r.accepted (job (length r.accepted) p d ∷ []), b.lane.2), b.lane.3, (λ q is. absurd (none_some is)), (λ q is. absurd (none_some is)));
        workers = λ k. later h now (omega arith, omega arith, (λ i low. refl), (λ i low. refl)) (take_part h k) (b.workers k);
        dims = b.dims;
      }
  sound (by_lane (finds_closed n) ∷ h) legal = let b = sound h legal.1 in record { counts = b.counts; lane = (b.lane.0, b.lane.1, b.lane.2, b.lane.3, (λ q is. absurd (none_some is)), (λ q is. absurd (none_some is))); workers = b.workers; dims = b.dims }
  sound (by_worker j (reads_head n) ∷ h) legal =
      let b = sound h legal.1 in
      record { counts = b.counts; lane = b.lane; workers = λ k. take_cases (Knows h) j (reads_head n) h k legal.0.1 (b.workers k) (λ may. (omega (arith, may), (b.workers k).1, (λ p is. absurd (none_some is)), (λ d is. absurd (none_some is)))); dims = b.dims }
  sound (by_worker j (finds_none n closed) ∷ h) legal =
      let b = sound h legal.1 in
      record { counts = b.counts; lane = b.lane; workers = λ k. take_cases (Knows h) j (finds_none n closed) h k legal.0.1 (b.workers k) (λ may. b.workers k); dims = b.dims }
  sound (by_worker j (finds_some n) ∷ h) legal =
      let b = sound h legal.1 in
      record { counts = b.counts; lane = b.lane; workers = λ k. take_cases (Knows h) j (finds_some n) h k legal.0.1 (b.workers k) (λ may. ((b.workers k).0, omega (arith, may.0), (λ p is. absurd (none_some is)), (λ d is. absurd (none_some is)))); dims = b.dims }
  sound (by_worker j (reads_payload p) ∷ h) legal =
      let b = sound h legal.1 in
      record { counts = b.counts; lane = b.lane; workers = λ k. take_cases (Knows h) j (reads_payload p) h k legal.0.1 (b.workers k) (λ may. ((b.workers k).0, (b.workers k).1, (λ q is. (may.0, λ at. may.1 at ∙ ap number_of is)), (b.workers k).3)); dims = b.dims }
  sound (by_worker j (reads_dim d) ∷ h) legal =
      let b = sound h legal.1 in
      record { counts = b.counts; lane = b.lane; workers = λ k. take_cases (Knows h) j (reads_dim d) h k legal.0.1 (b.workers k) (λ may. ((b.workers k).0, (b.workers k).1, (b.workers k).2, (λ q is. (may.0, λ at. may.1 at ∙ ap number_of is)))); dims = b.dims }
  sound (by_worker j (takes p d) ∷ h) legal =
      let b = sound h legal.1 in
      let now = by_worker j (takes p d) ∷ h in
      let more : (k : ℕ) → Knows now (take_part h k) = λ k. later h now (omega arith, omega arith, (λ i low. refl), (λ i low. refl)) (take_part h k) (b.workers k) in
      record {
        counts = (omega (arith, legal.0.1.0, legal.0.1.3), b.counts.1, b.counts.2, omega (arith, b.counts.3), omega (arith, b.counts.4), b.counts.5);
        lane = (b.lane.0, b.lane.1, b.lane.2, omega (arith, b.lane.3), b.lane.4, b.lane.5);
        workers = λ k. take_cases (Knows now) j (takes p d) h k legal.0.1 (more k) (λ may. ((more k).0, (more k).1, (λ q is. absurd (none_some is)), (λ q is. absurd (none_some is))));
        dims = b.dims;
      }
  sound (by_worker j loses ∷ h) legal =
      let b = sound h legal.1 in
      record { counts = b.counts; lane = b.lane; workers = λ k. take_cases (Knows h) j loses h k legal.0.1 (b.workers k) (λ may. ((b.workers k).0, (b.workers k).1, (λ p is. absurd (none_some is)), (λ d is. absurd (none_some is)))); dims = b.dims }
  sound (closes n ∷ h) legal = let b = sound h legal.1 in record { counts = b.counts; lane = b.lane; workers = b.workers; dims = b.dims }

  -- ---- the close

  pub open_before : (h : List Deed) → closed_at h ≡ None → is_shut h ≡ false
  open_before [] none = refl
  open_before (by_lane a ∷ h) none = open_before h none
  open_before (by_worker k a ∷ h) none = open_before h none
  open_before (closes n ∷ h) none = absurd (some_none none)

  -- no job is accepted after the close
  pub closed_count : (h : List Deed) (n : ℕ)
      → IsLegal sizes number h
      → closed_at h ≡ Some n
      → (is_shut h ≡ true) × (count h ≡ n)
  closed_count [] n legal closed = absurd (none_some closed)
  closed_count (by_lane (reads_count m) ∷ h) n legal closed = closed_count h n legal.1 closed
  closed_count (by_lane (finds_full m) ∷ h) n legal closed = closed_count h n legal.1 closed
  closed_count (by_lane (finds_room m) ∷ h) n legal closed = closed_count h n legal.1 closed
  closed_count (by_lane (puts_payload p) ∷ h) n legal closed = closed_count h n legal.1 closed
  closed_count (by_lane (puts_dim d) ∷ h) n legal closed = closed_count h n legal.1 closed
  closed_count (by_lane (accepts p d) ∷ h) n legal closed = absurd (true≢false (sym (closed_count h n legal.1 closed).0 ∙ legal.0.2))
  closed_count (by_lane (finds_closed m) ∷ h) n legal closed = closed_count h n legal.1 closed
  closed_count (by_worker k a ∷ h) n legal closed = closed_count h n legal.1 closed
  closed_count (closes m ∷ h) n legal closed = (refl, sym legal.0.0 ∙ ap number_of closed)
