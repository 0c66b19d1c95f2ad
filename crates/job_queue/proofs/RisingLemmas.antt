-- In a legal history the entries of a lane have rising numbers.
use Rattle.std.proofs.Common.{◌≡◌, ℕ, ◌+◌, ◌<◌, Bool, true, false, cond, eqb, eq-eqb, ne_eqb, Option, Some, None, List, [], ◌∷◌, ◌++◌, map, length, sym, refl, ap, ◌∙◌, subst, arith}
use Rattle.std.specs.List.{AllByRecursion}
use mathlib.Core.Logic.{dite}
use native.Mathlib.Decide.{ℕ_discrete}
use Rattle.ghost_history.specs.History.{Legal}
use Rattle.ghost_history.proofs.ViewLemmas.{all_append, all_weaker}
use Rattle.job_queue.specs.declared.record.QueuedJob.{QueuedJob}
use Rattle.job_queue.specs.declared.record.Entry.{Entry}
use Rattle.job_queue.specs.declared.record.LaneRecord.{LaneRecord}
use Rattle.job_queue.specs.declared.record.PassRecord.{PassRecord}
use Rattle.job_queue.specs.Record.{entry, Ascend, number_of}
use Rattle.job_queue.specs.History.{Deed, enters, accepts_job, takes_first, closes_line, comes_out, entered, with_job, entries_by, May, Lists}
use Rattle.job_queue.proofs.ListLemmas.{ascend-push}

-- An entry that gets its job keeps its number.
with_job_keeps : (n : ℕ) (job : QueuedJob) (es : List Entry)
    → map number_of (with_job n job es) ≡ map number_of es
with_job_keeps n job [] = refl
with_job_keeps n job (e ∷ es) =
    let here : Bool → List ℕ = λ b. map number_of (cond b (entry n (Some job) ∷ es) (e ∷ with_job n job es)) in
    dite (ℕ_discrete e.number n)
    (λ same. ap here (eq-eqb e.number n same) ∙ ap (λ (m : ℕ). m ∷ map number_of es) (sym same))
    (λ other. ap here (ne_eqb e.number n other) ∙ ap (λ (ms : List ℕ). e.number ∷ ms) (with_job_keeps n job es))

numbers-push : (es : List Entry) (n : ℕ) (job : Option QueuedJob)
    → map number_of (es ++ entry n job ∷ []) ≡ map number_of es ++ n ∷ []
numbers-push [] n job = refl
numbers-push (e ∷ es) n job = ap (λ (ms : List ℕ). e.number ∷ ms) (numbers-push es n job)

module _ (lanes passes : ℕ) where
  -- The numbers are below the count of entries.
  numbers_low : (h : List Deed) (k : ℕ)
      → Legal (May lanes passes) h
      → AllByRecursion (λ n. n < entered h) (map number_of (entries_by h k))
  numbers_low [] k legal = tt
  numbers_low (enters lane number ∷ h) k legal =
      let es = entries_by h k in
      let below : AllByRecursion (λ n. n < entered h + 1) (map number_of es) = all_weaker (λ n. n < entered h) (λ n. n < entered h + 1) (λ n low. omega (arith, low)) (map number_of es) (numbers_low h k legal.1) in
      let last : number < entered h + 1 = omega (arith, legal.0.1) in
      elim (eqb lane k) as (λ b. AllByRecursion (λ n. n < entered h + 1) (map number_of (cond b (es ++ entry number None ∷ []) es))) [
        | true ↦ subst (AllByRecursion (λ n. n < entered h + 1)) (sym (numbers-push es number None)) (all_append (λ n. n < entered h + 1) (map number_of es) (number ∷ []) below (last, tt))
        | false ↦ below
      ]
  numbers_low (accepts_job lane number job ∷ h) k legal =
      let es = entries_by h k in
      let before = numbers_low h k legal.1 in
      elim (eqb lane k) as (λ b. AllByRecursion (λ n. n < entered h) (map number_of (cond b (with_job number job es) es))) [
        | true ↦ subst (AllByRecursion (λ n. n < entered h)) (sym (with_job_keeps number job es)) before
        | false ↦ before
      ]
  numbers_low (takes_first pass job ∷ h) k legal = numbers_low h k legal.1
  numbers_low (closes_line number ∷ h) k legal = numbers_low h k legal.1
  numbers_low (comes_out job ∷ h) k legal = numbers_low h k legal.1

  numbers_ascend : (h : List Deed) (k : ℕ)
      → Legal (May lanes passes) h
      → Ascend (map number_of (entries_by h k))
  numbers_ascend [] k legal = tt
  numbers_ascend (enters lane number ∷ h) k legal =
      let es = entries_by h k in
      let before = numbers_ascend h k legal.1 in
      let low : AllByRecursion (λ n. n < number) (map number_of es) = subst (λ (m : ℕ). AllByRecursion (λ n. n < m) (map number_of es)) (sym legal.0.1) (numbers_low h k legal.1) in
      elim (eqb lane k) as (λ b. Ascend (map number_of (cond b (es ++ entry number None ∷ []) es))) [
        | true ↦ subst Ascend (sym (numbers-push es number None)) (ascend-push (map number_of es) number before low)
        | false ↦ before
      ]
  numbers_ascend (accepts_job lane number job ∷ h) k legal =
      let es = entries_by h k in
      let before = numbers_ascend h k legal.1 in
      elim (eqb lane k) as (λ b. Ascend (map number_of (cond b (with_job number job es) es))) [
        | true ↦ subst Ascend (sym (with_job_keeps number job es)) before
        | false ↦ before
      ]
  numbers_ascend (takes_first pass job ∷ h) k legal = numbers_ascend h k legal.1
  numbers_ascend (closes_line number ∷ h) k legal = numbers_ascend h k legal.1
  numbers_ascend (comes_out job ∷ h) k legal = numbers_ascend h k legal.1

-- This holds of every queue whose records one legal history has.
pub all_ascend : (lanes : List LaneRecord) (passes : List PassRecord) (rest : List QueuedJob)
    (note : ℕ)
    → Lists lanes passes rest note
    → AllByRecursion (λ l. Ascend (map number_of l.entries)) lanes
all_ascend lanes passes rest note lists =
    all_weaker (λ l. l.entries ≡ entries_by lists.history l.number) (λ l. Ascend (map number_of l.entries))
    (λ l is. subst (λ (es : List Entry). Ascend (map number_of es)) (sym is) (numbers_ascend (length lanes) (length passes) lists.history l.number lists.legal)) lanes lists.each_lane
