-- The history of a locked queue, as the history that its users see.
use Rattle.std.proofs.Common.{◌≡◌, ℕ, ◌+◌, ◌<◌, true, false, cond, eqb, eq-eqb, Some, None, List, [], ◌∷◌, ◌++◌, length, sym, refl, ap, ◌∙◌, subst}
use Rattle.std.proofs.lemmas.Bool.{true≢false}
use Rattle.std.specs.List.{AllByRecursion}
use Rattle.ghost_history.specs.History.{Legal}
use Rattle.job_queue.specs.declared.job_line.Sizes.{Sizes}
use Rattle.job_queue.specs.declared.record.QueuedJob.{QueuedJob}
use Rattle.job_queue.specs.declared.record.Entry.{Entry}
use Rattle.job_queue.specs.Record.{job_id, entry, accepted}
use Rattle.job_queue.specs.History.{Deed as LineDeed, enters, accepts_job, takes_first, closes_line, entered as line_entered, closed_at as line_closed_at, waiting as line_waiting, with_job, entries_by, taken_in, left_in, AwaitsJob, May as LineMay}
use Rattle.ghost_history.specs.Lists.{rest_of}
use Rattle.locked_peers.specs.InnerLine.Deed.{Deed, accepts, fills, finds_closed, takes_job, finds_empty, closes, entered, waiting, is_closed, lane_after, lane_part, pass_after, pass_part, closed_at, IsLegal}
use Rattle.job_queue.proofs.AcceptedLemmas.{accepted-full}
use Rattle.locked_peers.proofs.LineHistoryLemmas.{entered_before}
use Rattle.job_queue.proofs.ListLemmas.{fill_last, awaits_last}

abbrev pub listed : List Deed → List LineDeed
listed [] = []
listed (accepts lane number job ∷ h) = accepts_job lane number job ∷ enters lane number ∷ listed h
listed (fills lane number ∷ h) = enters lane number ∷ listed h
listed (finds_closed lane seen ∷ h) = listed h
listed (takes_job pass job ∷ h) = takes_first pass job ∷ listed h
listed (finds_empty pass count closed ∷ h) = listed h
listed (closes number ∷ h) = closes_line number ∷ listed h

listed_entered : (h : List Deed) → line_entered (listed h) ≡ entered h
listed_entered [] = refl
listed_entered (accepts lane number job ∷ h) = ap (λ (n : ℕ). n + 1) (listed_entered h)
listed_entered (fills lane number ∷ h) = ap (λ (n : ℕ). n + 1) (listed_entered h)
listed_entered (finds_closed lane seen ∷ h) = listed_entered h
listed_entered (takes_job pass job ∷ h) = listed_entered h
listed_entered (finds_empty pass count closed ∷ h) = listed_entered h
listed_entered (closes number ∷ h) = listed_entered h

pub listed_closed : (h : List Deed) → line_closed_at (listed h) ≡ closed_at h
listed_closed [] = refl
listed_closed (accepts lane number job ∷ h) = listed_closed h
listed_closed (fills lane number ∷ h) = listed_closed h
listed_closed (finds_closed lane seen ∷ h) = listed_closed h
listed_closed (takes_job pass job ∷ h) = listed_closed h
listed_closed (finds_empty pass count closed ∷ h) = listed_closed h
listed_closed (closes number ∷ h) = refl

still_open : (h : List Deed) → is_closed h ≡ false → line_closed_at (listed h) ≡ None
still_open [] still = refl
still_open (accepts lane number job ∷ h) still = still_open h still
still_open (fills lane number ∷ h) still = still_open h still
still_open (finds_closed lane seen ∷ h) still = still_open h still
still_open (takes_job pass job ∷ h) still = still_open h still
still_open (finds_empty pass count closed ∷ h) still = still_open h still
still_open (closes number ∷ h) still = absurd (true≢false still)

pub listed_waiting : (h : List Deed) → line_waiting (listed h) ≡ waiting h
listed_waiting [] = refl
listed_waiting (accepts lane number job ∷ h) = ap (λ (js : List QueuedJob). js ++ job ∷ []) (listed_waiting h)
listed_waiting (fills lane number ∷ h) = listed_waiting h
listed_waiting (finds_closed lane seen ∷ h) = listed_waiting h
listed_waiting (takes_job pass job ∷ h) = ap rest_of (listed_waiting h)
listed_waiting (finds_empty pass count closed ∷ h) = listed_waiting h
listed_waiting (closes number ∷ h) = listed_waiting h

pub listed_left : (h : List Deed) → left_in (listed h) ≡ []
listed_left [] = refl
listed_left (accepts lane number job ∷ h) = listed_left h
listed_left (fills lane number ∷ h) = listed_left h
listed_left (finds_closed lane seen ∷ h) = listed_left h
listed_left (takes_job pass job ∷ h) = listed_left h
listed_left (finds_empty pass count closed ∷ h) = listed_left h
listed_left (closes number ∷ h) = listed_left h

-- ---- the parts

one_more : (lane number k : ℕ) (h : List LineDeed)
    → lane ≡ k
    → entries_by (enters lane number ∷ h) k ≡ entries_by h k ++ entry number None ∷ []
one_more lane number k h own = ap (λ b. cond b (entries_by h k ++ entry number None ∷ []) (entries_by h k)) (eq-eqb lane k own)

module _ (sizes : Sizes) where
  pub listed_entries : (h : List Deed) (k : ℕ)
      → IsLegal sizes h
      → entries_by (listed h) k ≡ (lane_part h k).entries
  listed_entries [] k legal = refl
  listed_entries (accepts lane number job ∷ h) k legal =
      let es = (lane_part h k).entries in
      let before = listed_entries h k legal.1 in
      let low : AllByRecursion (λ (e : Entry). e.number < number) es = subst (λ (n : ℕ). AllByRecursion (λ (e : Entry). e.number < n) es) (sym legal.0.0.1) (entered_before sizes h k legal.1) in
      let filled : with_job number job (entries_by (listed h) k ++ entry number None ∷ []) ≡ es ++ entry number (Some job) ∷ [] =
      ap (λ (xs : List Entry). with_job number job (xs ++ entry number None ∷ [])) before ∙ fill_last number job es low in
      elim (eqb lane k) as (λ b. cond b (with_job number job (cond b (entries_by (listed h) k ++ entry number None ∷ []) (entries_by (listed h) k))) (cond b (entries_by (listed h) k ++ entry number None ∷ []) (entries_by (listed h) k)) ≡ (cond b (lane_after (accepts lane number job) (lane_part h k)) (lane_part h k)).entries) [
        | true ↦ filled
        | false ↦ before
      ]
  listed_entries (fills lane number ∷ h) k legal =
      let before = listed_entries h k legal.1 in
      elim (eqb lane k) as (λ b. cond b (entries_by (listed h) k ++ entry number None ∷ []) (entries_by (listed h) k) ≡ (cond b (lane_after (fills lane number) (lane_part h k)) (lane_part h k)).entries) [
        | true ↦ ap (λ (xs : List Entry). xs ++ entry number None ∷ []) before
        | false ↦ before
      ]
  listed_entries (finds_closed lane seen ∷ h) k legal =
      let before = listed_entries h k legal.1 in
      elim (eqb lane k) as (λ b. entries_by (listed h) k ≡ (cond b (lane_after (finds_closed lane seen) (lane_part h k)) (lane_part h k)).entries) [ true ↦ before | false ↦ before ]
  listed_entries (takes_job pass job ∷ h) k legal = listed_entries h k legal.1
  listed_entries (finds_empty pass count closed ∷ h) k legal = listed_entries h k legal.1
  listed_entries (closes number ∷ h) k legal = listed_entries h k legal.1

  pub listed_taken : (h : List Deed) (k : ℕ) → taken_in (listed h) k ≡ (pass_part h k).taken
  listed_taken [] k = refl
  listed_taken (accepts lane number job ∷ h) k = listed_taken h k
  listed_taken (fills lane number ∷ h) k = listed_taken h k
  listed_taken (finds_closed lane seen ∷ h) k = listed_taken h k
  listed_taken (takes_job pass job ∷ h) k =
      let before = listed_taken h k in
      elim (eqb pass k) as (λ b. cond b (taken_in (listed h) k ++ job ∷ []) (taken_in (listed h) k) ≡ (cond b (pass_after (takes_job pass job) (pass_part h k)) (pass_part h k)).taken) [
        | true ↦ ap (λ (js : List QueuedJob). js ++ job ∷ []) before
        | false ↦ before
      ]
  listed_taken (finds_empty pass count closed ∷ h) k =
      let before = listed_taken h k in
      elim (eqb pass k) as (λ b. taken_in (listed h) k ≡ (cond b (pass_after (finds_empty pass count closed) (pass_part h k)) (pass_part h k)).taken) [ true ↦ before | false ↦ before ]
  listed_taken (closes number ∷ h) k = listed_taken h k

  -- ---- it is legal

  pub listed_legal : (h : List Deed)
      → IsLegal sizes h
      → Legal (LineMay sizes.lanes sizes.passes) (listed h)
  listed_legal [] legal = tt
  listed_legal (accepts lane number job ∷ h) legal =
      let made = one_more lane number lane (listed h) refl in
      let had : accepted (entries_by (enters lane number ∷ listed h) lane) ≡ accepted (lane_part h lane).entries =
      ap accepted made ∙ (accepted-full (entries_by (listed h) lane) number ∙ ap accepted (listed_entries h lane legal.1)) in (
        (subst (AwaitsJob number) (sym made) (awaits_last number (entries_by (listed h) lane)), legal.0.2 ∙ ap (λ (js : List QueuedJob). job_id lane (length js)) (sym had)),
        ((legal.0.0.0, legal.0.0.1 ∙ sym (listed_entered h), still_open h legal.0.0.2), listed_legal h legal.1),
      )
  listed_legal (fills lane number ∷ h) legal = ((legal.0.0.0, legal.0.0.1 ∙ sym (listed_entered h), still_open h legal.0.0.2), listed_legal h legal.1)
  listed_legal (finds_closed lane seen ∷ h) legal = listed_legal h legal.1
  listed_legal (takes_job pass job ∷ h) legal =
      let waits = listed_waiting h in
      ((legal.0.0, waits ∙ (legal.0.1 ∙ ap (λ (js : List QueuedJob). job ∷ js) (ap rest_of (sym waits)))), listed_legal h legal.1)
  listed_legal (finds_empty pass count closed ∷ h) legal = listed_legal h legal.1
  listed_legal (closes number ∷ h) legal = ((legal.0.1 ∙ sym (listed_entered h), still_open h legal.0.0), listed_legal h legal.1)
