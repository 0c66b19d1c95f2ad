-- The ends of the gate and of the ring, joined: what they say of the queue's lanes and passes.
use Rattle.std.proofs.Common.{◌≡◌, ◌≢◌, ℕ, ◌+◌, ◌<◌, ◌≤◌, cond, eqb, eq-eqb, ne_eqb, List, [], ◌∷◌, ◌++◌, map, length, get_or, sym, refl, ap, ◌∙◌, subst, arith}
use Rattle.std.proofs.lemmas.List.{length-map}
use Rattle.std.specs.List.{AllByRecursion}
use mathlib.Core.Logic.{dite}
use native.Mathlib.Decide.{ℕ_discrete, dec_le}
use Rattle.ghost_history.specs.History.{Legal}
use Rattle.ghost_history.specs.Sums.{total, times, is_at}
use Rattle.ghost_history.proofs.SumLemmas.{total-map, total-same, is_at-same, is_at-other}
use Rattle.line_gate.specs.declared.record.LaneEntries.{LaneEntries}
use Rattle.line_gate.specs.declared.record.PassReadings.{PassReadings}
use Rattle.line_gate.specs.declared.record.Reading.{Reading as GateReading}
use Rattle.line_gate.specs.declared.record.SettledEntry.{SettledEntry}
use Rattle.line_gate.specs.Record.{IsSettled, Seals as SealsGate}
use Rattle.line_gate.specs.History.{Entering, numbers_by, AreEntries}
use Rattle.line_gate.specs.Run.{WholeGate}
use Rattle.line_ring.specs.declared.record.LaneRecord.{LaneRecord as RingLaneRecord}
use Rattle.line_ring.specs.declared.record.PassRecord.{PassRecord as RingPassRecord}
use Rattle.line_ring.specs.Record.{AreSeqs as AreRingSeqs, Rises as RingRises}
use Rattle.line_ring.specs.History.{Deed as RingDeed, lane_part, pass_part}
use Rattle.line_ring.specs.Run.{RingRun}
use Rattle.job_queue.specs.declared.record.QueuedJob.{QueuedJob}
use Rattle.job_queue.specs.declared.record.Entry.{Entry}
use Rattle.job_queue.specs.declared.record.LaneRecord.{LaneRecord}
use Rattle.job_queue.specs.declared.record.PassRecord.{PassRecord}
use Rattle.job_queue.specs.declared.record.Reading.{Reading}
use Rattle.line_ruled.specs.declared.handle.RuledLane.{RuledLane}
use Rattle.line_ruled.specs.declared.handle.RuledPass.{RuledPass}
use Rattle.job_queue.specs.Record.{accepted, AreSeqs, Rises, Seals}
use Rattle.job_queue.specs.History.{Deed, entries_by, taken_in, May, Lists}
use Rattle.job_queue.specs.Run.{WholeRun}
use Rattle.line_ruled.specs.Inner.Join.{accepted_count, with_jobs, reading_of}
use Rattle.job_queue.specs.Line.{LineId}
use Rattle.line_ruled.specs.Inner.Handle.{is_lane, lane_record, pass_record, gate_lanes, gate_passes, ring_lanes, ring_passes, counts_after}
use Rattle.line_ruled.proofs.JoinLemmas.{joined_accepted, total-with_jobs, each-with_jobs}
use Rattle.line_ruled.proofs.DealtLemmas.{number_of, count_of, counts_right}
use Rattle.job_queue.proofs.RisingLemmas.{all_ascend}
use Rattle.line_ruled.proofs.ListedLemmas.{lane_id, seq_id, numbers, no_numbers, put_by, taken_by, listed, listed_closed, listed_waiting, listed_left, listed_taken, listed_entries, listed_legal}

-- ---- from the parts of the members to the members

accepted_is : (l : RuledLane) → accepted (lane_record l).entries ≡ l.ring.known.accepted
accepted_is l = joined_accepted l.gate.known l.ring.known l.entries l.joined

each_ring_lane : (P : LaneRecord → Type 0) (Q : RingLaneRecord QueuedJob → Type 0)
    → ((l : RuledLane) → Q l.ring.known → P (lane_record l))
    → (ls : List RuledLane)
    → AllByRecursion Q (ring_lanes ls)
    → AllByRecursion P (map lane_record ls)
each_ring_lane P Q from [] all = tt
each_ring_lane P Q from (l ∷ ls) all = (from l all.0, each_ring_lane P Q from ls all.1)

each_gate_lane : (P : LaneRecord → Type 0) (Q : LaneEntries → Type 0)
    → ((l : RuledLane) → Q l.gate.known → P (lane_record l))
    → (ls : List RuledLane)
    → AllByRecursion Q (gate_lanes ls)
    → AllByRecursion P (map lane_record ls)
each_gate_lane P Q from [] all = tt
each_gate_lane P Q from (l ∷ ls) all = (from l all.0, each_gate_lane P Q from ls all.1)

each_ring_pass : (P : PassRecord → Type 0) (Q : RingPassRecord QueuedJob → Type 0)
    → ((p : RuledPass) → Q p.ring.known → P (pass_record p))
    → (ps : List RuledPass)
    → AllByRecursion Q (ring_passes ps)
    → AllByRecursion P (map pass_record ps)
each_ring_pass P Q from [] all = tt
each_ring_pass P Q from (p ∷ ps) all = (from p all.0, each_ring_pass P Q from ps all.1)

each_gate_pass : (P : PassRecord → Type 0) (Q : PassReadings → Type 0)
    → ((p : RuledPass) → Q p.gate.known → P (pass_record p))
    → (ps : List RuledPass)
    → AllByRecursion Q (gate_passes ps)
    → AllByRecursion P (map pass_record ps)
each_gate_pass P Q from [] all = tt
each_gate_pass P Q from (p ∷ ps) all = (from p all.0, each_gate_pass P Q from ps all.1)

pub all_settled : (ls : List RuledLane) → AllByRecursion IsSettled (gate_lanes ls)
all_settled [] = tt
all_settled (l ∷ ls) = (l.joined.settled, all_settled ls)

-- ---- sums

module _ (ls : List RuledLane) where
  jobs_total : (weight : QueuedJob → ℕ)
      → total (λ (l : LaneRecord). total weight (accepted l.entries)) (map lane_record ls)
      ≡ total (λ (r : RingLaneRecord QueuedJob). total weight r.accepted) (ring_lanes ls)
  jobs_total weight =
      total-map (λ (l : LaneRecord). total weight (accepted l.entries)) lane_record ls
      ∙ (total-same (λ (l : RuledLane). total weight (accepted (lane_record l).entries)) (λ (l : RuledLane). total weight l.ring.known.accepted) (λ l. ap (total weight) (accepted_is l)) ls
      ∙ sym (total-map (λ (r : RingLaneRecord QueuedJob). total weight r.accepted) (λ (l : RuledLane). l.ring.known) ls))

  entries_total : (weight : ℕ → ℕ)
      → total (λ (l : LaneRecord). total (λ (e : Entry). weight e.number) l.entries)
      (map lane_record ls) ≡ total (λ (g : LaneEntries). total
      (λ (e : SettledEntry). weight e.number) g.entries) (gate_lanes ls)
  entries_total weight =
      total-map (λ (l : LaneRecord). total (λ (e : Entry). weight e.number) l.entries) lane_record ls
      ∙ (total-same (λ (l : RuledLane). total (λ (e : Entry). weight e.number) (lane_record l).entries) (λ (l : RuledLane). total (λ (e : SettledEntry). weight e.number) l.gate.known.entries) (λ l. total-with_jobs weight l.gate.known.entries l.ring.known.accepted) ls
      ∙ sym (total-map (λ (g : LaneEntries). total (λ (e : SettledEntry). weight e.number) g.entries) (λ (l : RuledLane). l.gate.known) ls))

  pub numbers_total : (k : ℕ)
      → times k (map (λ (l : RuledLane). (lane_record l).number) ls)
      ≡ total (λ (r : RingLaneRecord QueuedJob). is_at k r.number) (ring_lanes ls)
  numbers_total k = total-map (is_at k) (λ (l : RuledLane). (lane_record l).number) ls ∙ sym (total-map (λ (r : RingLaneRecord QueuedJob). is_at k r.number) (λ (l : RuledLane). l.ring.known) ls)

taken_total : (ps : List RuledPass) (weight : QueuedJob → ℕ)
    → total (λ (p : PassRecord). total weight p.taken) (map pass_record ps)
    ≡ total (λ (r : RingPassRecord QueuedJob). total weight r.taken) (ring_passes ps)
taken_total ps weight = total-map (λ (p : PassRecord). total weight p.taken) pass_record ps ∙ sym (total-map (λ (r : RingPassRecord QueuedJob). total weight r.taken) (λ (p : RuledPass). p.ring.known) ps)

-- ---- the order of a lane's jobs

are_seqs : (lane seq : ℕ) (jobs : List QueuedJob)
    → AreRingSeqs lane_id seq_id lane seq jobs
    → AreSeqs lane seq jobs
are_seqs lane seq [] seqs = tt
are_seqs lane seq (job ∷ jobs) seqs = (λ i. record { lane = seqs.0 i; seq = seqs.1 i }, are_seqs lane (seq + 1) jobs seqs.2)

do_rise : (jobs : List QueuedJob) → RingRises lane_id seq_id jobs → Rises jobs
do_rise [] rises = tt
do_rise (job ∷ jobs) rises = (rises.0, do_rise jobs rises.1)

are_sealed : (note : ℕ) (rs : List GateReading)
    → AllByRecursion (λ (r : GateReading). SealsGate r → r.settled ≡ note) rs
    → AllByRecursion (λ (r : Reading). Seals r → r.settled ≡ note) (map reading_of rs)
are_sealed note [] all = tt
are_sealed note (r ∷ rs) all = (all.0, are_sealed note rs all.1)

-- ---- the lane of a number

at_member : (P : ℕ → Type 0) (k : ℕ) (ls : List RuledLane)
    → total (λ l. is_at k (number_of l)) ls ≡ 1
    → AllByRecursion (λ l. P (number_of l)) ls
    → P k
at_member P k [] one all = absurd (omega (arith, one))
at_member P k (l ∷ ls) one all = dite (ℕ_discrete (number_of l) k) (λ here. subst P here all.0) (λ other. at_member P k ls (omega (arith, one, is_at-other k (number_of l) other)) all.1)

none_past : (k n : ℕ) (ls : List RuledLane)
    → AllByRecursion (λ l. number_of l < n) ls
    → n ≤ k
    → total (λ l. is_at k (number_of l)) ls ≡ 0
none_past k n [] within high = refl
none_past k n (l ∷ ls) within high = omega (arith, is_at-other k (number_of l) (λ same. omega (arith, same, within.0)), none_past k n ls within.1 high)

-- The settled entries of the lane with this number.
abbrev entries_at : ℕ → List RuledLane → List SettledEntry
entries_at k [] = []
entries_at k (l ∷ ls) = cond (eqb (number_of l) k) l.gate.known.entries (entries_at k ls)

none_at : (k n : ℕ) (ls : List RuledLane)
    → AllByRecursion (λ l. number_of l < n) ls
    → n ≤ k
    → entries_at k ls ≡ []
none_at k n [] within high = refl
none_at k n (l ∷ ls) within high = ap (λ b. cond b l.gate.known.entries (entries_at k ls)) (ne_eqb (number_of l) k (λ same. omega (arith, same, within.0))) ∙ none_at k n ls within.1 high

apart_from : (k : ℕ) (ls : List RuledLane)
    → total (λ l. is_at k (number_of l)) ls ≡ 0
    → AllByRecursion (λ l. number_of l ≢ k) ls
apart_from k [] none = tt
apart_from k (l ∷ ls) none = ((λ same. let here : is_at k (number_of l) ≡ 1 = ap (is_at k) same ∙ is_at-same k in omega (arith, none, here)), apart_from k ls (omega (arith, none)))

found_later : (l : RuledLane) (ls ms : List RuledLane)
    → AllByRecursion (λ m. number_of m ≢ number_of l) ms
    → AllByRecursion (λ m. entries_at (number_of m) ls ≡ m.gate.known.entries) ms
    → AllByRecursion (λ m. entries_at (number_of m) (l ∷ ls) ≡ m.gate.known.entries) ms
found_later l ls [] others found = tt
found_later l ls (m ∷ ms) others found = (ap (λ b. cond b l.gate.known.entries (entries_at (number_of m) ls)) (ne_eqb (number_of l) (number_of m) (λ same. others.0 (sym same))) ∙ found.0, found_later l ls ms others.1 found.1)

entries_found : (ls : List RuledLane)
    → ((k : ℕ) → total (λ l. is_at k (number_of l)) ls ≤ 1)
    → AllByRecursion (λ l. entries_at (number_of l) ls ≡ l.gate.known.entries) ls
entries_found [] once = tt
entries_found (l ∷ ls) once =
    let n = number_of l in
    let none : total (λ m. is_at n (number_of m)) ls ≡ 0 = omega (arith, once n, is_at-same n) in (
      ap (λ b. cond b l.gate.known.entries (entries_at n ls)) (eq-eqb n n refl),
      found_later l ls ls (apart_from n ls none) (entries_found ls (λ k. omega (arith, once k))),
    )

-- ---- one history of the gate and the ring

module _ (whole : List RuledLane) where
  abbrev Found : List RuledLane → Type 0
  Found ms = AllByRecursion (λ l. entries_at (number_of l) whole ≡ l.gate.known.entries) ms

  each_numbers : (g : List Entering) (ms : List RuledLane)
      → Found ms
      → AllByRecursion (λ (r : LaneEntries). numbers_by g r.number ≡ numbers r.entries)
      (gate_lanes ms)
      → AllByRecursion (λ l. numbers_by g (number_of l) ≡ numbers (entries_at (number_of l) whole))
      ms
  each_numbers g [] found all = tt
  each_numbers g (l ∷ ms) found all = (ap (numbers_by g) (sym l.joined.numbered) ∙ (all.0 ∙ ap numbers (sym found.0)), each_numbers g ms found.1 all.1)

  each_enough : (h : List (RingDeed QueuedJob)) (ms : List RuledLane)
      → Found ms
      → AllByRecursion (λ (r : RingLaneRecord QueuedJob). r ≡ lane_part h r.number) (ring_lanes ms)
      → AllByRecursion (λ l. length (put_by h (number_of l))
      ≤ accepted_count (entries_at (number_of l) whole)) ms
  each_enough h [] found all = tt
  each_enough h (l ∷ ms) found all = (
    omega (arith, ap (λ (r : RingLaneRecord QueuedJob). length r.accepted) all.0, l.joined.paired, ap accepted_count found.0),
    each_enough h ms found.1 all.1,
  )

  each_part : (h : List (RingDeed QueuedJob)) (line : List Deed)
      → ((k : ℕ) → entries_by line k ≡ with_jobs (entries_at k whole) (put_by h k))
      → (ms : List RuledLane)
      → Found ms
      → AllByRecursion (λ (r : RingLaneRecord QueuedJob). r ≡ lane_part h r.number) (ring_lanes ms)
      → AllByRecursion (λ (l : LaneRecord). l.entries ≡ entries_by line l.number)
      (map lane_record ms)
  each_part h line parts [] found all = tt
  each_part h line parts (l ∷ ms) found all =
      let n = number_of l in
      let r = l.ring.known in
      let put : put_by h n ≡ r.accepted = ap (λ (x : RingLaneRecord QueuedJob). x.accepted) (sym all.0) in (
        sym (parts n ∙ (ap (λ (es : List SettledEntry). with_jobs es (put_by h n)) found.0 ∙ ap (with_jobs l.gate.known.entries) put)),
        each_part h line parts ms found.1 all.1,
      )

each_taken : (h : List (RingDeed QueuedJob)) (line : List Deed)
    → ((k : ℕ) → taken_in line k ≡ taken_by h k)
    → (ps : List RuledPass)
    → AllByRecursion (λ (r : RingPassRecord QueuedJob). r ≡ pass_part h r.number) (ring_passes ps)
    → AllByRecursion (λ (p : PassRecord). p.taken ≡ taken_in line p.number) (map pass_record ps)
each_taken h line parts [] all = tt
each_taken h line parts (p ∷ ps) all =
    let r = p.ring.known in
    (ap (λ (x : RingPassRecord QueuedJob). x.taken) all.0 ∙ sym (parts r.number), each_taken h line parts ps all.1)

module _ (ls : List RuledLane) (ps : List RuledPass) (rest : List QueuedJob) (note : ℕ)
    (within : AllByRecursion (λ l. number_of l < length ls) ls)
    (gate : WholeGate (gate_lanes ls) (gate_passes ps) note)
    (ring : RingRun lane_id seq_id (ring_lanes ls) (ring_passes ps) rest) where
  one_each : (k : ℕ) → k < length ls → total (λ l. is_at k (number_of l)) ls ≡ 1
  one_each k low =
      sym (total-map (λ (r : LaneEntries). is_at k r.number) (λ (l : RuledLane). l.gate.known) ls
      ∙ total-same (λ (l : RuledLane). is_at k l.gate.known.number) (λ (l : RuledLane). is_at k (number_of l)) (λ l. ap (is_at k) l.joined.numbered) ls)
      ∙ gate.numbers k (omega (arith, length-map ls (λ (l : RuledLane). l.gate.known)))

  at_most_one : (k : ℕ) → total (λ l. is_at k (number_of l)) ls ≤ 1
  at_most_one k = dite (dec_le (length ls) k) (λ high. omega (arith, none_past k (length ls) ls within high)) (λ low. omega (arith, one_each k (omega arith)))

  here : AllByRecursion (λ l. entries_at (number_of l) ls ≡ l.gate.known.entries) ls
  here = entries_found ls at_most_one

  all_entries : AreEntries (length ls) gate.entering
  all_entries = subst (λ (n : ℕ). AreEntries n gate.entering) (length-map ls (λ (l : RuledLane). l.gate.known)) gate.are_entries

  same_numbers : (k : ℕ) → numbers_by gate.entering k ≡ numbers (entries_at k ls)
  same_numbers k =
      dite (dec_le (length ls) k)
      (λ high. no_numbers (length ls) gate.entering k all_entries high ∙ sym (ap numbers (none_at k (length ls) ls within high)))
      (λ low. at_member (λ m. numbers_by gate.entering m ≡ numbers (entries_at m ls)) k ls (one_each k (omega arith)) (each_numbers ls gate.entering ls here gate.each_lane))

  enough : (k : ℕ) → length (put_by ring.listed.history k) ≤ accepted_count (entries_at k ls)
  enough k =
      let h = ring.listed.history in
      dite (dec_le (length ls) k)
      (λ high. omega (arith, ap (λ (r : RingLaneRecord QueuedJob). length r.accepted) (ring.no_other_lane k (omega (arith, length-map ls (λ (l : RuledLane). l.ring.known))))))
      (λ low. at_member (λ m. length (put_by h m) ≤ accepted_count (entries_at m ls)) k ls (one_each k (omega arith)) (each_enough ls h ls here ring.listed.each_lane))

  few : (k : ℕ) → length ps ≤ k → length (taken_by ring.listed.history k) ≡ 0
  few k high = ap (λ (r : RingPassRecord QueuedJob). length r.taken) (ring.no_other_pass k (omega (arith, length-map ps (λ (p : RuledPass). p.ring.known))))

  lists : Lists (map lane_record ls) (map pass_record ps) rest note
  lists =
      let h = ring.listed.history in
      let g = gate.entering in
      let es = λ (k : ℕ). entries_at k ls in
      let line = listed (length ls) (length ps) g es h in
      let legal = listed_legal (length ls) (length ps) g es all_entries same_numbers h ring.listed.legal enough few in
      record {
        history = line;
        legal = subst (λ (n : ℕ). Legal (May n (length (map pass_record ps))) line) (sym (length-map ls lane_record)) (subst (λ (n : ℕ). Legal (May (length ls) n) line) (sym (length-map ps pass_record)) legal);
        each_lane = each_part ls h line (λ k. listed_entries (length ls) (length ps) g es all_entries same_numbers h k enough) ls here ring.listed.each_lane;
        each_pass = each_taken h line (listed_taken (length ls) (length ps) g es h) ps ring.listed.each_pass;
        closed = listed_closed (length ls) (length ps) g es h ∙ gate.shut;
        end = listed_left (length ls) (length ps) g es h ∙ ring.listed.end;
        none_waits = listed_waiting (length ls) (length ps) g es h ∙ ring.listed.left;
      }

-- ---- the whole run

pub whole_run : (ls : List RuledLane) (ps : List RuledPass) (rest : List QueuedJob) (note : ℕ)
    → AllByRecursion (λ l. number_of l < length ls) ls
    → WholeGate (gate_lanes ls) (gate_passes ps) note
    → RingRun lane_id seq_id (ring_lanes ls) (ring_passes ps) rest
    → WholeRun (map lane_record ls) (map pass_record ps) rest note
whole_run ls ps rest note within gate ring = record {
  balance = λ weight. jobs_total ls weight ∙ (ring.balance weight ∙ ap (λ (n : ℕ). n + total weight rest) (sym (taken_total ps weight)));
  seqs = each_ring_lane (λ l. AreSeqs l.number 0 (accepted l.entries)) (λ r. AreRingSeqs lane_id seq_id r.number 0 r.accepted)
      (λ l seqs. subst (AreSeqs (lane_record l).number 0) (sym (accepted_is l)) (are_seqs l.ring.known.number 0 l.ring.known.accepted seqs)) ls ring.seqs;
  rises = each_ring_pass (λ p. Rises (p.taken ++ rest)) (λ r. RingRises lane_id seq_id (r.taken ++ rest)) (λ p. do_rise (p.ring.known.taken ++ rest)) ps ring.rises;
  rest_rises = do_rise rest ring.rest_rises;
  entries = λ weight. entries_total ls weight ∙ gate.entries weight;
  entered_before = each_gate_lane (λ l. AllByRecursion (λ e. e.number < note) l.entries) (λ g. AllByRecursion (λ e. e.number < note) g.entries) (λ l. each-with_jobs (λ n. n < note) l.gate.known.entries l.ring.known.accepted) ls gate.entered_before;
  seen = each_gate_lane (λ l. AllByRecursion (λ n. note ≤ n) l.seen) (λ g. AllByRecursion (λ n. note ≤ n) g.seen) (λ l all. all) ls gate.seen;
  sealed = each_gate_pass (λ p. AllByRecursion (λ r. Seals r → r.settled ≡ note) p.readings) (λ g. AllByRecursion (λ r. SealsGate r → r.settled ≡ note) g.readings) (λ p. are_sealed note p.gate.known.readings) ps gate.sealed;
  numbers_rise = all_ascend (map lane_record ls) (map pass_record ps) rest note (lists ls ps rest note within gate ring);
  listed = lists ls ps rest note within gate ring;
}

-- The same, for the records that both ends got.
pub end_joined : (ls : List RuledLane) (ps : List RuledPass) (rest : List QueuedJob)
    (note number : ℕ) (gs : List LaneEntries) (gps : List PassReadings)
    (rs : List (RingLaneRecord QueuedJob)) (rps : List (RingPassRecord QueuedJob))
    → AllByRecursion (λ l. number_of l < length ls) ls
    → gs ≡ gate_lanes ls
    → gps ≡ gate_passes ps
    → number ≡ note
    → rs ≡ ring_lanes ls
    → rps ≡ ring_passes ps
    → WholeGate gs gps number
    → RingRun lane_id seq_id rs rps rest
    → WholeRun (map lane_record ls) (map pass_record ps) rest note
end_joined ls ps rest note number gs gps rs rps within lanes passes same ring_ls ring_ps gate ring =
    let at_gate : WholeGate (gate_lanes ls) (gate_passes ps) note = subst (λ (n : ℕ). WholeGate (gate_lanes ls) (gate_passes ps) n) same
    (subst (λ (xs : List PassReadings). WholeGate (gate_lanes ls) xs number) passes (subst (λ (xs : List LaneEntries). WholeGate xs gps number) lanes gate)) in
    let in_ring : RingRun lane_id seq_id (ring_lanes ls) (ring_passes ps) rest = subst (λ (xs : List (RingPassRecord QueuedJob)). RingRun lane_id seq_id (ring_lanes ls) xs rest) ring_ps (subst (λ (xs : List (RingLaneRecord QueuedJob)). RingRun lane_id seq_id xs rps rest) ring_ls ring) in
    whole_run ls ps rest note within at_gate in_ring

-- ---- the counts of accepted jobs

pub within_line : (id : LineId) (ls : List RuledLane)
    → AllByRecursion (is_lane id) ls
    → AllByRecursion (λ (l : RuledLane). number_of l < id.sizes.lanes) ls
within_line id [] all = tt
within_line id (l ∷ ls) all = (all.0.1, within_line id ls all.1)

counted_jobs : (new : List ℕ) (ls : List RuledLane)
    → AllByRecursion (λ (l : RuledLane). get_or new (number_of l) 0 ≡ count_of l) ls
    → AllByRecursion (λ (l : RuledLane). get_or new (lane_record l).number 0
    ≡ length (accepted (lane_record l).entries)) ls
counted_jobs new [] all = tt
counted_jobs new (l ∷ ls) all = (all.0 ∙ ap length (sym (accepted_is l)), counted_jobs new ls all.1)

pub accepted_counts : (id : LineId) (counts new : List ℕ) (ls : List RuledLane)
    → length counts ≡ id.sizes.lanes
    → new ≡ counts_after counts ls
    → AllByRecursion (is_lane id) ls
    → ((k : ℕ) → k < id.sizes.lanes → total (λ (r : RingLaneRecord QueuedJob). is_at k r.number)
    (ring_lanes ls) ≡ 1)
    → AllByRecursion (λ (l : RuledLane). get_or new (lane_record l).number 0
    ≡ length (accepted (lane_record l).entries)) ls
accepted_counts id counts new ls long is of_line once =
    let few : (k : ℕ) → k < length counts → total (λ (l : RuledLane). is_at k (number_of l)) ls ≤ 1 = λ k low. omega (arith, sym (total-map (λ (r : RingLaneRecord QueuedJob). is_at k r.number) (λ (l : RuledLane). l.ring.known) ls) ∙ once k (omega (arith, low, long))) in
    let within = subst (λ (n : ℕ). AllByRecursion (λ (l : RuledLane). number_of l < n) ls) (sym long) (within_line id ls of_line) in
    counted_jobs new ls (subst (λ (ns : List ℕ). AllByRecursion (λ (l : RuledLane). get_or ns (number_of l) 0 ≡ count_of l) ls) (sym is) (counts_right counts ls few within))
