-- What a legal history says of the records of all lanes and passes together.
use Rattle.std.proofs.Common.{◌≡◌, ◌≢◌, ℕ, suc, ◌+◌, ◌<◌, ◌≤◌, ◌⊎◌, ⊎_elim, inl, inr, Bool, true, false, cond, eqb, eq-eqb, ne_eqb, Some, None, List, [], ◌∷◌, ◌++◌, length, length-append, append_assoc, sym, refl, ap, ◌∙◌, subst, arith}
use Rattle.std.proofs.lemmas.Bool.{true≢false}
use Rattle.std.specs.List.{AllByRecursion}
use mathlib.Core.Logic.{dite}
use native.Mathlib.Decide.{ℕ_discrete}
use Rattle.ghost_history.specs.Sums.{total, below}
use Rattle.ghost_history.proofs.SumLemmas.{total-push, below-grows, below-same, below-zero}
use Rattle.ghost_history.proofs.ViewLemmas.{all_weaker, all_append}
use Rattle.job_queue.specs.declared.job_line.Sizes.{Sizes}
use Rattle.job_queue.specs.declared.record.QueuedJob.{QueuedJob}
use Rattle.job_queue.specs.declared.record.Entry.{Entry}
use Rattle.job_queue.specs.declared.record.Reading.{Reading}
use Rattle.job_queue.specs.declared.record.LaneRecord.{LaneRecord}
use Rattle.job_queue.specs.declared.record.PassRecord.{PassRecord}
use Rattle.job_queue.specs.Record.{entry, accepted, job_id, AreSeqs, Rises}
use Rattle.ghost_history.specs.Lists.{rest_of}
use Rattle.locked_peers.specs.InnerLine.View.{reading}
use Rattle.locked_peers.specs.InnerLine.Deed.{Deed, accepts, fills, finds_closed, takes_job, finds_empty, closes, entered, waiting, is_closed, lane_after, lane_part, pass_after, pass_part, IsLegal}
use Rattle.job_queue.proofs.AcceptedLemmas.{accepted-push, accepted-full}
use Rattle.locked_peers.proofs.LineDeedLemmas.{lane_own, lane_other, pass_own, pass_other}

-- ---- lists of jobs

seqs-push : (lane seq : ℕ) (xs : List QueuedJob) (x : QueuedJob)
    → AreSeqs lane seq xs
    → x.id ≡ job_id lane (seq + length xs)
    → AreSeqs lane seq (xs ++ x ∷ [])
seqs-push lane seq [] x seqs next = (next ∙ (let e : seq + 0 ≡ seq = omega arith in ap (job_id lane) e), tt)
seqs-push lane seq (y ∷ xs) x seqs next = (seqs.0, seqs-push lane (seq + 1) xs x seqs.1 (next ∙ (let e : seq + suc (length xs) ≡ (seq + 1) + length xs = omega arith in ap (job_id lane) e)))

-- Job `x` comes later than `q` if both are of one lane.
abbrev Before : QueuedJob → QueuedJob → Type 0
Before x q = q.id.lane ≡ x.id.lane → q.id.seq < x.id.seq

rises-push : (xs : List QueuedJob) (x : QueuedJob)
    → Rises xs
    → AllByRecursion (Before x) xs
    → Rises (xs ++ x ∷ [])
rises-push [] x rises later = (tt, tt)
rises-push (y ∷ xs) x rises later =
    (all_append (λ q. q.id.lane ≡ y.id.lane → y.id.seq < q.id.seq) xs (x ∷ []) rises.0 ((λ same. later.0 (sym same)), tt), rises-push xs x rises.1 later.1)

all-middle : {A : Type 0} (P : A → Type 0) (xs : List A) (y : A) (ys : List A)
    → AllByRecursion P (xs ++ y ∷ ys)
    → AllByRecursion P (xs ++ ys)
all-middle P [] y ys all = all.1
all-middle P (x ∷ xs) y ys all = (all.0, all-middle P xs y ys all.1)

rises-middle : (xs : List QueuedJob) (y : QueuedJob) (ys : List QueuedJob)
    → Rises (xs ++ y ∷ ys)
    → Rises (xs ++ ys)
rises-middle [] y ys rises = rises.1
rises-middle (x ∷ xs) y ys rises = (all-middle (λ q. q.id.lane ≡ x.id.lane → x.id.seq < q.id.seq) xs y ys rises.0, rises-middle xs y ys rises.1)

pub rises-end : (xs ys : List QueuedJob) → Rises (xs ++ ys) → Rises ys
rises-end [] ys rises = rises
rises-end (x ∷ xs) ys rises = rises-end xs ys rises.1

-- ---- what a lane accepted

abbrev pub accepted_by : List Deed → ℕ → List QueuedJob
accepted_by h l = accepted (lane_part h l).entries

accepted-own : (lane number : ℕ) (job : QueuedJob) (h : List Deed)
    → accepted_by (accepts lane number job ∷ h) lane ≡ accepted_by h lane ++ job ∷ []
accepted-own lane number job h = ap (λ (r : LaneRecord). accepted r.entries) (lane_own (accepts lane number job) h lane (eq-eqb lane lane refl)) ∙ accepted-push (lane_part h lane).entries number job

accepted-else : (lane number : ℕ) (job : QueuedJob) (h : List Deed) (l : ℕ)
    → l ≢ lane
    → accepted_by (accepts lane number job ∷ h) l ≡ accepted_by h l
accepted-else lane number job h l other = ap (λ (r : LaneRecord). accepted r.entries) (lane_other (accepts lane number job) h l (ne_eqb lane l (λ e. other (sym e))))

accepted-fills : (lane number : ℕ) (h : List Deed) (l : ℕ)
    → accepted_by (fills lane number ∷ h) l ≡ accepted_by h l
accepted-fills lane number h l = elim (eqb lane l) as (λ b. accepted (cond b (lane_after (fills lane number) (lane_part h l)) (lane_part h l)).entries ≡ accepted_by h l) [ true ↦ accepted-full (lane_part h l).entries number | false ↦ refl ]

accepted-seen : (lane seen : ℕ) (h : List Deed) (l : ℕ)
    → accepted_by (finds_closed lane seen ∷ h) l ≡ accepted_by h l
accepted-seen lane seen h l = elim (eqb lane l) as (λ b. accepted (cond b (lane_after (finds_closed lane seen) (lane_part h l)) (lane_part h l)).entries ≡ accepted_by h l) [ true ↦ refl | false ↦ refl ]

-- ---- what a pass took

taken-own : (pass : ℕ) (job : QueuedJob) (h : List Deed)
    → (pass_part (takes_job pass job ∷ h) pass).taken ≡ (pass_part h pass).taken ++ job ∷ []
taken-own pass job h = ap (λ (r : PassRecord). r.taken) (pass_own (takes_job pass job) h pass (eq-eqb pass pass refl))

taken-else : (pass : ℕ) (job : QueuedJob) (h : List Deed) (p : ℕ)
    → p ≢ pass
    → (pass_part (takes_job pass job ∷ h) p).taken ≡ (pass_part h p).taken
taken-else pass job h p other = ap (λ (r : PassRecord). r.taken) (pass_other (takes_job pass job) h p (ne_eqb pass p (λ e. other (sym e))))

taken-read : (pass count : ℕ) (closed : Bool) (h : List Deed) (p : ℕ)
    → (pass_part (finds_empty pass count closed ∷ h) p).taken ≡ (pass_part h p).taken
taken-read pass count closed h p = elim (eqb pass p) as (λ b. (cond b (pass_after (finds_empty pass count closed) (pass_part h p)) (pass_part h p)).taken ≡ (pass_part h p).taken) [ true ↦ refl | false ↦ refl ]

-- What a pass took, and then what waits.
abbrev pub line_of : List Deed → ℕ → List QueuedJob
line_of h p = (pass_part h p).taken ++ waiting h

-- A job leaves the middle of the list, or it stays.
line-take : (pass : ℕ) (job : QueuedJob) (h : List Deed) (p : ℕ)
    → waiting h ≡ job ∷ rest_of (waiting h)
    → (line_of (takes_job pass job ∷ h) p ≡ line_of h p)
    ⊎ ((line_of (takes_job pass job ∷ h) p ≡ (pass_part h p).taken ++ rest_of (waiting h))
    × (line_of h p ≡ (pass_part h p).taken ++ job ∷ rest_of (waiting h)))
line-take pass job h p front =
    let rest = rest_of (waiting h) in
    dite (ℕ_discrete p pass)
    (λ e. let own : (pass_part (takes_job pass job ∷ h) p).taken ≡ (pass_part h p).taken ++ job ∷ [] = subst (λ (q : ℕ). (pass_part (takes_job pass job ∷ h) q).taken ≡ (pass_part h q).taken ++ job ∷ []) (sym e) (taken-own pass job h) in
    inl (ap (λ (ts : List QueuedJob). ts ++ rest) own ∙ (append_assoc (pass_part h p).taken (job ∷ []) rest ∙ ap (λ (ws : List QueuedJob). (pass_part h p).taken ++ ws) (sym front))))
    (λ ne. inr (ap (λ (ts : List QueuedJob). ts ++ rest) (taken-else pass job h p ne), ap (λ (ws : List QueuedJob). (pass_part h p).taken ++ ws) front))

module _ (sizes : Sizes) where
  -- ---- each accepted job was taken or waits

  pub balanced : (weight : QueuedJob → ℕ) (h : List Deed)
      → IsLegal sizes h
      → below (λ l. total weight (accepted_by h l)) sizes.lanes
      ≡ below (λ p. total weight (pass_part h p).taken) sizes.passes + total weight (waiting h)
  balanced weight [] legal = omega (arith, below-zero sizes.lanes, below-zero sizes.passes)
  balanced weight (accepts lane number job ∷ h) legal =
      let f = λ (l : ℕ). total weight (accepted_by h l) in
      let g = λ (l : ℕ). total weight (accepted_by (accepts lane number job ∷ h) l) in
      let mine : g lane ≡ f lane + weight job = ap (total weight) (accepted-own lane number job h) ∙ total-push weight (accepted_by h lane) job in
      omega (arith, below-grows f g sizes.lanes lane (weight job) legal.0.0.0 mine (λ j ne. ap (total weight) (accepted-else lane number job h j ne)), total-push weight (waiting h) job, balanced weight h legal.1)
  balanced weight (fills lane number ∷ h) legal =
      below-same (λ l. total weight (accepted_by (fills lane number ∷ h) l)) (λ l. total weight (accepted_by h l)) sizes.lanes (λ l within. ap (total weight) (accepted-fills lane number h l)) ∙ balanced weight h legal.1
  balanced weight (finds_closed lane seen ∷ h) legal =
      below-same (λ l. total weight (accepted_by (finds_closed lane seen ∷ h) l)) (λ l. total weight (accepted_by h l)) sizes.lanes (λ l within. ap (total weight) (accepted-seen lane seen h l)) ∙ balanced weight h legal.1
  balanced weight (takes_job pass job ∷ h) legal =
      let f = λ (p : ℕ). total weight (pass_part h p).taken in
      let g = λ (p : ℕ). total weight (pass_part (takes_job pass job ∷ h) p).taken in
      let mine : g pass ≡ f pass + weight job = ap (total weight) (taken-own pass job h) ∙ total-push weight (pass_part h pass).taken job in
      let front : total weight (waiting h) ≡ weight job + total weight (rest_of (waiting h)) = ap (total weight) legal.0.1 in
      omega (arith, below-grows f g sizes.passes pass (weight job) legal.0.0 mine (λ j ne. ap (total weight) (taken-else pass job h j ne)), front, balanced weight h legal.1)
  balanced weight (finds_empty pass count closed ∷ h) legal =
      let same : below (λ p. total weight (pass_part (finds_empty pass count closed ∷ h) p).taken) sizes.passes ≡ below (λ p. total weight (pass_part h p).taken) sizes.passes =
      below-same _ _ sizes.passes (λ p within. ap (total weight) (taken-read pass count closed h p)) in
      balanced weight h legal.1 ∙ ap (λ (n : ℕ). n + total weight (waiting h)) (sym same)
  balanced weight (closes number ∷ h) legal = balanced weight h legal.1

  -- ---- a lane's seqs

  pub seqs : (h : List Deed) (l : ℕ) → IsLegal sizes h → AreSeqs l 0 (accepted_by h l)
  seqs [] l legal = tt
  seqs (accepts lane number job ∷ h) l legal =
      dite (ℕ_discrete l lane)
      (λ e. subst (λ (k : ℕ). AreSeqs k 0 (accepted_by (accepts lane number job ∷ h) k)) (sym e)
      (subst (AreSeqs lane 0) (sym (accepted-own lane number job h)) (seqs-push lane 0 (accepted_by h lane) job (seqs h lane legal.1) (legal.0.2 ∙ (let z : length (accepted_by h lane) ≡ 0 + length (accepted_by h lane) = omega arith in ap (job_id lane) z)))))
      (λ ne. subst (AreSeqs l 0) (sym (accepted-else lane number job h l ne)) (seqs h l legal.1))
  seqs (fills lane number ∷ h) l legal = subst (AreSeqs l 0) (sym (accepted-fills lane number h l)) (seqs h l legal.1)
  seqs (finds_closed lane seen ∷ h) l legal = subst (AreSeqs l 0) (sym (accepted-seen lane seen h l)) (seqs h l legal.1)
  seqs (takes_job pass job ∷ h) l legal = seqs h l legal.1
  seqs (finds_empty pass count closed ∷ h) l legal = seqs h l legal.1
  seqs (closes number ∷ h) l legal = seqs h l legal.1

  -- ---- a lane's seqs rise in what a pass took, and then in what waits

  -- Each job in the list was accepted by its lane.
  abbrev Known : List Deed → QueuedJob → Type 0
  Known h q = q.id.seq < length (accepted_by h q.id.lane)

  known-accepts : (lane number : ℕ) (job : QueuedJob) (h : List Deed) (q : QueuedJob)
      → Known h q
      → Known (accepts lane number job ∷ h) q
  known-accepts lane number job h q known =
      dite (ℕ_discrete q.id.lane lane)
      (λ e. let more : length (accepted_by (accepts lane number job ∷ h) q.id.lane) ≡ length (accepted_by h q.id.lane ++ job ∷ []) =
      subst (λ (k : ℕ). length (accepted_by (accepts lane number job ∷ h) k) ≡ length (accepted_by h k ++ job ∷ [])) (sym e) (ap length (accepted-own lane number job h)) in
      omega (arith, more, length-append (accepted_by h q.id.lane) (job ∷ []), known))
      (λ ne. omega (arith, ap length (accepted-else lane number job h q.id.lane ne), known))

  known-own : (lane number : ℕ) (job : QueuedJob) (h : List Deed)
      → job.id ≡ job_id lane (length (accepted_by h lane))
      → Known (accepts lane number job ∷ h) job
  known-own lane number job h id =
      let at_lane : job.id.lane ≡ lane = ap (λ i. i.lane) id in
      let at_seq : job.id.seq ≡ length (accepted_by h lane) = ap (λ i. i.seq) id in
      let more : length (accepted_by (accepts lane number job ∷ h) job.id.lane) ≡ length (accepted_by h lane ++ job ∷ []) =
      ap (λ (k : ℕ). length (accepted_by (accepts lane number job ∷ h) k)) at_lane ∙ ap length (accepted-own lane number job h) in
      omega (arith, more, length-append (accepted_by h lane) (job ∷ []), at_seq)

  all_known : (h : List Deed) (p : ℕ) → IsLegal sizes h → AllByRecursion (Known h) (line_of h p)
  all_known [] p legal = tt
  all_known (accepts lane number job ∷ h) p legal =
      let after = accepts lane number job ∷ h in
      subst (AllByRecursion (Known after)) (append_assoc (pass_part h p).taken (waiting h) (job ∷ []))
      (all_append (Known after) (line_of h p) (job ∷ []) (all_weaker (Known h) (Known after) (known-accepts lane number job h) (line_of h p) (all_known h p legal.1)) (known-own lane number job h legal.0.2, tt))
  all_known (fills lane number ∷ h) p legal = all_weaker (Known h) (Known (fills lane number ∷ h)) (λ q known. omega (arith, ap length (accepted-fills lane number h q.id.lane), known)) (line_of h p) (all_known h p legal.1)
  all_known (finds_closed lane seen ∷ h) p legal = all_weaker (Known h) (Known (finds_closed lane seen ∷ h)) (λ q known. omega (arith, ap length (accepted-seen lane seen h q.id.lane), known)) (line_of h p) (all_known h p legal.1)
  all_known (takes_job pass job ∷ h) p legal =
      let before = all_known h p legal.1 in
      ⊎_elim (λ same. subst (AllByRecursion (Known h)) (sym same) before)
      (λ left. subst (AllByRecursion (Known h)) (sym left.0) (all-middle (Known h) (pass_part h p).taken job (rest_of (waiting h)) (subst (AllByRecursion (Known h)) left.1 before)))
      (line-take pass job h p legal.0.1)
  all_known (finds_empty pass count closed ∷ h) p legal = subst (λ (ts : List QueuedJob). AllByRecursion (Known h) (ts ++ waiting h)) (sym (taken-read pass count closed h p)) (all_known h p legal.1)
  all_known (closes number ∷ h) p legal = all_known h p legal.1

  pub rises : (h : List Deed) (p : ℕ) → IsLegal sizes h → Rises (line_of h p)
  rises [] p legal = tt
  rises (accepts lane number job ∷ h) p legal =
      let at_lane : job.id.lane ≡ lane = ap (λ i. i.lane) legal.0.2 in
      let at_seq : job.id.seq ≡ length (accepted_by h lane) = ap (λ i. i.seq) legal.0.2 in
      let earlier : (q : QueuedJob) → Known h q → Before job q = λ q known same.
      let there : length (accepted_by h q.id.lane) ≡ length (accepted_by h lane) = ap (λ (k : ℕ). length (accepted_by h k)) (same ∙ at_lane) in omega (arith, known) in
      subst Rises (append_assoc (pass_part h p).taken (waiting h) (job ∷ [])) (rises-push (line_of h p) job (rises h p legal.1) (all_weaker (Known h) (Before job) earlier (line_of h p) (all_known h p legal.1)))
  rises (fills lane number ∷ h) p legal = rises h p legal.1
  rises (finds_closed lane seen ∷ h) p legal = rises h p legal.1
  rises (takes_job pass job ∷ h) p legal =
      let before = rises h p legal.1 in
      ⊎_elim (λ same. subst Rises (sym same) before)
      (λ left. subst Rises (sym left.0) (rises-middle (pass_part h p).taken job (rest_of (waiting h)) (subst Rises left.1 before)))
      (line-take pass job h p legal.0.1)
  rises (finds_empty pass count closed ∷ h) p legal = subst (λ (ts : List QueuedJob). Rises (ts ++ waiting h)) (sym (taken-read pass count closed h p)) (rises h p legal.1)
  rises (closes number ∷ h) p legal = rises h p legal.1

  -- ---- entries, counts that were seen, and readings

  abbrev Entered : List Deed → Entry → Type 0
  Entered h e = e.number < entered h

  entered-more : (h : List Deed) (more : ℕ)
      → entered h ≤ more
      → (es : List Entry)
      → AllByRecursion (Entered h) es
      → AllByRecursion (λ e. e.number < more) es
  entered-more h more le es all = all_weaker (Entered h) (λ e. e.number < more) (λ e below_it. omega arith) es all

  pub entered_before : (h : List Deed) (l : ℕ)
      → IsLegal sizes h
      → AllByRecursion (λ e. e.number < entered h) (lane_part h l).entries
  entered_before [] l legal = tt
  entered_before (accepts lane number job ∷ h) l legal =
      let before = entered-more h (entered h + 1) (omega arith) (lane_part h l).entries (entered_before h l legal.1) in
      let here : number < entered h + 1 = omega (arith, legal.0.0.1) in
      elim (eqb lane l) as (λ b. AllByRecursion (λ e. e.number < entered h + 1) (cond b (lane_after (accepts lane number job) (lane_part h l)) (lane_part h l)).entries) [
        | true ↦ all_append (λ e. e.number < entered h + 1) (lane_part h l).entries (entry number (Some job) ∷ []) before (here, tt)
        | false ↦ before
      ]
  entered_before (fills lane number ∷ h) l legal =
      let before = entered-more h (entered h + 1) (omega arith) (lane_part h l).entries (entered_before h l legal.1) in
      let here : number < entered h + 1 = omega (arith, legal.0.0.1) in
      elim (eqb lane l) as (λ b. AllByRecursion (λ e. e.number < entered h + 1) (cond b (lane_after (fills lane number) (lane_part h l)) (lane_part h l)).entries) [
        | true ↦ all_append (λ e. e.number < entered h + 1) (lane_part h l).entries (entry number None ∷ []) before (here, tt)
        | false ↦ before
      ]
  entered_before (finds_closed lane seen ∷ h) l legal =
      let before = entered_before h l legal.1 in
      elim (eqb lane l) as (λ b. AllByRecursion (λ e. e.number < entered h) (cond b (lane_after (finds_closed lane seen) (lane_part h l)) (lane_part h l)).entries) [ true ↦ before | false ↦ before ]
  entered_before (takes_job pass job ∷ h) l legal = entered_before h l legal.1
  entered_before (finds_empty pass count closed ∷ h) l legal = entered_before h l legal.1
  entered_before (closes number ∷ h) l legal = entered_before h l legal.1

  -- A count that was read with the closed mark is the count that stays.
  abbrev pub Stands : List Deed → ℕ → Type 0
  Stands h n = (is_closed h ≡ true) × (n ≡ entered h)

  -- While the queue is open, no count was seen.
  none_stands : (h h' : List Deed)
      → is_closed h ≡ false
      → (ns : List ℕ)
      → AllByRecursion (Stands h) ns
      → AllByRecursion (Stands h') ns
  none_stands h h' still ns all = all_weaker (Stands h) (Stands h') (λ n stands. absurd (true≢false (sym stands.0 ∙ still))) ns all

  pub seen_stands : (h : List Deed) (l : ℕ)
      → IsLegal sizes h
      → AllByRecursion (Stands h) (lane_part h l).seen
  seen_stands [] l legal = tt
  seen_stands (accepts lane number job ∷ h) l legal =
      let before = none_stands h (accepts lane number job ∷ h) legal.0.0.2 (lane_part h l).seen (seen_stands h l legal.1) in
      elim (eqb lane l) as (λ b. AllByRecursion (Stands (accepts lane number job ∷ h)) (cond b (lane_after (accepts lane number job) (lane_part h l)) (lane_part h l)).seen) [ true ↦ before | false ↦ before ]
  seen_stands (fills lane number ∷ h) l legal =
      let before = none_stands h (fills lane number ∷ h) legal.0.0.2 (lane_part h l).seen (seen_stands h l legal.1) in
      elim (eqb lane l) as (λ b. AllByRecursion (Stands (fills lane number ∷ h)) (cond b (lane_after (fills lane number) (lane_part h l)) (lane_part h l)).seen) [ true ↦ before | false ↦ before ]
  seen_stands (finds_closed lane seen ∷ h) l legal =
      let before = seen_stands h l legal.1 in
      elim (eqb lane l) as (λ b. AllByRecursion (Stands h) (cond b (lane_after (finds_closed lane seen) (lane_part h l)) (lane_part h l)).seen) [
        | true ↦ all_append (Stands h) (lane_part h l).seen (seen ∷ []) before ((legal.0.1, legal.0.2), tt)
        | false ↦ before
      ]
  seen_stands (takes_job pass job ∷ h) l legal = seen_stands h l legal.1
  seen_stands (finds_empty pass count closed ∷ h) l legal = seen_stands h l legal.1
  seen_stands (closes number ∷ h) l legal = none_stands h (closes number ∷ h) legal.0.0 (lane_part h l).seen (seen_stands h l legal.1)

  abbrev pub Sealed : List Deed → Reading → Type 0
  Sealed h r = r.closed ≡ true → Stands h r.settled

  none_sealed : (h h' : List Deed)
      → is_closed h ≡ false
      → (rs : List Reading)
      → AllByRecursion (Sealed h) rs
      → AllByRecursion (Sealed h') rs
  none_sealed h h' still rs all = all_weaker (Sealed h) (Sealed h') (λ r sealed shut. absurd (true≢false (sym (sealed shut).0 ∙ still))) rs all

  pub readings_sealed : (h : List Deed) (p : ℕ)
      → IsLegal sizes h
      → AllByRecursion (Sealed h) (pass_part h p).readings
  readings_sealed [] p legal = tt
  readings_sealed (accepts lane number job ∷ h) p legal = none_sealed h (accepts lane number job ∷ h) legal.0.0.2 (pass_part h p).readings (readings_sealed h p legal.1)
  readings_sealed (fills lane number ∷ h) p legal = none_sealed h (fills lane number ∷ h) legal.0.0.2 (pass_part h p).readings (readings_sealed h p legal.1)
  readings_sealed (finds_closed lane seen ∷ h) p legal = readings_sealed h p legal.1
  readings_sealed (takes_job pass job ∷ h) p legal =
      let before = readings_sealed h p legal.1 in
      elim (eqb pass p) as (λ b. AllByRecursion (Sealed h) (cond b (pass_after (takes_job pass job) (pass_part h p)) (pass_part h p)).readings) [ true ↦ before | false ↦ before ]
  readings_sealed (finds_empty pass count closed ∷ h) p legal =
      let before = readings_sealed h p legal.1 in
      elim (eqb pass p) as (λ b. AllByRecursion (Sealed h) (cond b (pass_after (finds_empty pass count closed) (pass_part h p)) (pass_part h p)).readings) [
        | true ↦ all_append (Sealed h) (pass_part h p).readings (reading count count closed ∷ []) before ((λ shut. (sym legal.0.3 ∙ shut, legal.0.2)), tt)
        | false ↦ before
      ]
  readings_sealed (closes number ∷ h) p legal = none_sealed h (closes number ∷ h) legal.0.0 (pass_part h p).readings (readings_sealed h p legal.1)
