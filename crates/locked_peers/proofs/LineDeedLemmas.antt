-- What a legal history says: of each record, and of all records together.
use Rattle.std.proofs.Common.{◌≡◌, ◌≢◌, ℕ, suc, ◌+◌, ◌*◌, ◌<◌, ◌≤◌, true, false, cond, eqb, eq-eqb, ne_eqb, Some, None, List, [], ◌∷◌, length, length-append, sym, refl, ap, ◌∙◌, subst, arith}
use Rattle.std.proofs.lemmas.Bool.{true≢false}
use Rattle.std.specs.List.{AllByRecursion}
use mathlib.Core.Logic.{dite}
use native.Mathlib.Decide.{ℕ_discrete}
use Rattle.ghost_history.specs.Sums.{total, below}
use Rattle.ghost_history.proofs.SumLemmas.{total-push, below-grows, below-same, below-zero, below-ones, below-bounded}
use Rattle.ghost_history.proofs.ViewLemmas.{all_append}
use Rattle.cube_shape.specs.declared.limits.TheConstants.{MAX_ENTRIES}
use Rattle.job_queue.specs.declared.job_line.Sizes.{Sizes}
use Rattle.job_queue.specs.declared.record.Entry.{Entry}
use Rattle.job_queue.specs.declared.record.LaneRecord.{LaneRecord}
use Rattle.job_queue.specs.Record.{entry}
use Rattle.job_queue.specs.Line.{IsMadeFor}
use Rattle.ghost_history.specs.Lists.{rest_of}
use Rattle.locked_peers.specs.InnerLine.Deed.{Deed, accepts, fills, finds_closed, takes_job, finds_empty, closes, entered, waiting, is_closed, is_by_lane, lane_after, lane_part, is_by_pass, pass_after, pass_part, closed_at, IsLegal}

-- ---- the record of a member after one more step

pub lane_own : (d : Deed) (h : List Deed) (l : ℕ)
    → is_by_lane d l ≡ true
    → lane_part (d ∷ h) l ≡ lane_after d (lane_part h l)
lane_own d h l own = ap (λ b. cond b (lane_after d (lane_part h l)) (lane_part h l)) own

pub lane_other : (d : Deed) (h : List Deed) (l : ℕ)
    → is_by_lane d l ≡ false
    → lane_part (d ∷ h) l ≡ lane_part h l
lane_other d h l other = ap (λ b. cond b (lane_after d (lane_part h l)) (lane_part h l)) other

pub pass_own : (d : Deed) (h : List Deed) (p : ℕ)
    → is_by_pass d p ≡ true
    → pass_part (d ∷ h) p ≡ pass_after d (pass_part h p)
pass_own d h p own = ap (λ b. cond b (pass_after d (pass_part h p)) (pass_part h p)) own

pub pass_other : (d : Deed) (h : List Deed) (p : ℕ)
    → is_by_pass d p ≡ false
    → pass_part (d ∷ h) p ≡ pass_part h p
pass_other d h p other = ap (λ b. cond b (pass_after d (pass_part h p)) (pass_part h p)) other

-- ---- counts

module _ (sizes : Sizes) where
  -- The entries of all lanes are as many as were made, and have their numbers.
  pub entries_below : (weight : ℕ → ℕ) (h : List Deed)
      → IsLegal sizes h
      → below (λ l. total (λ e. weight e.number) (lane_part h l).entries) sizes.lanes
      ≡ below weight (entered h)
  entries_below weight [] legal = below-zero sizes.lanes
  entries_below weight (accepts lane number job ∷ h) legal =
      let f = λ (l : ℕ). total (λ (e : Entry). weight e.number) (lane_part h l).entries in
      let g = λ (l : ℕ). total (λ (e : Entry). weight e.number) (lane_part (accepts lane number job ∷ h) l).entries in
      let mine : g lane ≡ f lane + weight number = ap (λ (r : LaneRecord). total (λ (e : Entry). weight e.number) r.entries) (lane_own (accepts lane number job) h lane (eq-eqb lane lane refl)) ∙ total-push (λ (e : Entry). weight e.number) (lane_part h lane).entries (entry number (Some job)) in
      let others : (j : ℕ) → j ≢ lane → g j ≡ f j = λ j ne. ap (λ (r : LaneRecord). total (λ (e : Entry). weight e.number) r.entries) (lane_other (accepts lane number job) h j (ne_eqb lane j (λ e. ne (sym e)))) in
      let up : below weight (entered h + 1) ≡ below weight (entered h) + weight (entered h) = below_more weight (entered h) in
      omega (arith, below-grows f g sizes.lanes lane (weight number) legal.0.0.0 mine others, entries_below weight h legal.1, up, ap weight legal.0.0.1)
    where
      below_more : (w : ℕ → ℕ) (n : ℕ) → below w (n + 1) ≡ below w n + w n
      below_more w n = let e : n + 1 ≡ suc n = omega arith in ap (below w) e
  entries_below weight (fills lane number ∷ h) legal =
      let f = λ (l : ℕ). total (λ (e : Entry). weight e.number) (lane_part h l).entries in
      let g = λ (l : ℕ). total (λ (e : Entry). weight e.number) (lane_part (fills lane number ∷ h) l).entries in
      let mine : g lane ≡ f lane + weight number = ap (λ (r : LaneRecord). total (λ (e : Entry). weight e.number) r.entries) (lane_own (fills lane number) h lane (eq-eqb lane lane refl)) ∙ total-push (λ (e : Entry). weight e.number) (lane_part h lane).entries (entry number None) in
      let others : (j : ℕ) → j ≢ lane → g j ≡ f j = λ j ne. ap (λ (r : LaneRecord). total (λ (e : Entry). weight e.number) r.entries) (lane_other (fills lane number) h j (ne_eqb lane j (λ e. ne (sym e)))) in
      let up : below weight (entered h + 1) ≡ below weight (entered h) + weight (entered h) = (let e : entered h + 1 ≡ suc (entered h) = omega arith in ap (below weight) e) in
      omega (arith, below-grows f g sizes.lanes lane (weight number) legal.0.0.0 mine others, entries_below weight h legal.1, up, ap weight legal.0.0.1)
  entries_below weight (finds_closed lane seen ∷ h) legal = below-same _ _ sizes.lanes (λ l within. seen_only lane seen h l) ∙ entries_below weight h legal.1
    where
      seen_only : (lane seen : ℕ) (h : List Deed) (l : ℕ)
          → total (λ (e : Entry). weight e.number)
          (lane_part (finds_closed lane seen ∷ h) l).entries
          ≡ total (λ (e : Entry). weight e.number) (lane_part h l).entries
      seen_only lane seen h l = elim (eqb lane l) as (λ b. total (λ (e : Entry). weight e.number) (cond b (lane_after (finds_closed lane seen) (lane_part h l)) (lane_part h l)).entries ≡ total (λ (e : Entry). weight e.number) (lane_part h l).entries) [ true ↦ refl | false ↦ refl ]
  entries_below weight (takes_job pass job ∷ h) legal = entries_below weight h legal.1
  entries_below weight (finds_empty pass count closed ∷ h) legal = entries_below weight h legal.1
  entries_below weight (closes number ∷ h) legal = entries_below weight h legal.1

  -- A lane makes at most MAX_ENTRIES entries.
  pub lane_entries : (h : List Deed) (l : ℕ)
      → IsLegal sizes h
      → length (lane_part h l).entries ≤ MAX_ENTRIES
  lane_entries [] l legal = omega arith
  lane_entries (accepts lane number job ∷ h) l legal =
      dite (ℕ_discrete lane l)
      (λ e. let few : length (lane_part h l).entries < MAX_ENTRIES = subst (λ (k : ℕ). length (lane_part h k).entries < MAX_ENTRIES) e legal.0.0.3 in
      omega (arith, ap (λ (r : LaneRecord). length r.entries) (lane_own (accepts lane number job) h l (eq-eqb lane l e)), length-append (lane_part h l).entries (entry number (Some job) ∷ []), few))
      (λ ne. omega (arith, ap (λ (r : LaneRecord). length r.entries) (lane_other (accepts lane number job) h l (ne_eqb lane l ne)), lane_entries h l legal.1))
  lane_entries (fills lane number ∷ h) l legal =
      dite (ℕ_discrete lane l)
      (λ e. let few : length (lane_part h l).entries < MAX_ENTRIES = subst (λ (k : ℕ). length (lane_part h k).entries < MAX_ENTRIES) e legal.0.0.3 in
      omega (arith, ap (λ (r : LaneRecord). length r.entries) (lane_own (fills lane number) h l (eq-eqb lane l e)), length-append (lane_part h l).entries (entry number None ∷ []), few))
      (λ ne. omega (arith, ap (λ (r : LaneRecord). length r.entries) (lane_other (fills lane number) h l (ne_eqb lane l ne)), lane_entries h l legal.1))
  lane_entries (finds_closed lane seen ∷ h) l legal =
      let before : length (lane_part h l).entries ≤ MAX_ENTRIES = lane_entries h l legal.1 in
      elim (eqb lane l) as (λ b. length (cond b (lane_after (finds_closed lane seen) (lane_part h l)) (lane_part h l)).entries ≤ MAX_ENTRIES) [ true ↦ before | false ↦ before ]
  lane_entries (takes_job pass job ∷ h) l legal = lane_entries h l legal.1
  lane_entries (finds_empty pass count closed ∷ h) l legal = lane_entries h l legal.1
  lane_entries (closes number ∷ h) l legal = lane_entries h l legal.1

  total_ones : (xs : List Entry) → total (λ (e : Entry). 1) xs ≡ length xs
  total_ones [] = refl
  total_ones (x ∷ xs) = omega (arith, total_ones xs)

  pub entered_bounded : (h : List Deed) → IsLegal sizes h → entered h ≤ sizes.lanes * MAX_ENTRIES
  entered_bounded h legal =
      let all : below (λ l. total (λ (e : Entry). 1) (lane_part h l).entries) sizes.lanes ≡ below (λ _. 1) (entered h) = entries_below (λ _. 1) h legal in
      omega (arith, all, below-ones (entered h), below-bounded (λ l. total (λ (e : Entry). 1) (lane_part h l).entries) MAX_ENTRIES sizes.lanes (λ l. omega (arith, total_ones (lane_part h l).entries, lane_entries h l legal)))

  -- ---- the jobs that wait

  all_rest : {A : Type 0} (P : A → Type 0) (xs : List A)
      → AllByRecursion P xs
      → AllByRecursion P (rest_of xs)
  all_rest P [] all = tt
  all_rest P (x ∷ xs) all = all.1

  pub waiting_made_for : (h : List Deed)
      → IsLegal sizes h
      → AllByRecursion (IsMadeFor sizes.machine) (waiting h)
  waiting_made_for [] legal = tt
  waiting_made_for (accepts lane number job ∷ h) legal = all_append (IsMadeFor sizes.machine) (waiting h) (job ∷ []) (waiting_made_for h legal.1) (legal.0.3, tt)
  waiting_made_for (fills lane number ∷ h) legal = waiting_made_for h legal.1
  waiting_made_for (finds_closed lane seen ∷ h) legal = waiting_made_for h legal.1
  waiting_made_for (takes_job pass job ∷ h) legal = all_rest (IsMadeFor sizes.machine) (waiting h) (waiting_made_for h legal.1)
  waiting_made_for (finds_empty pass count closed ∷ h) legal = waiting_made_for h legal.1
  waiting_made_for (closes number ∷ h) legal = waiting_made_for h legal.1

  rest_shorter : {A : Type 0} (xs : List A) → length (rest_of xs) ≤ length xs
  rest_shorter [] = omega arith
  rest_shorter (x ∷ xs) = omega arith

  pub waiting_fits : (h : List Deed) → IsLegal sizes h → length (waiting h) ≤ sizes.capacity
  waiting_fits [] legal = omega arith
  waiting_fits (accepts lane number job ∷ h) legal = omega (arith, length-append (waiting h) (job ∷ []), legal.0.1)
  waiting_fits (fills lane number ∷ h) legal = waiting_fits h legal.1
  waiting_fits (finds_closed lane seen ∷ h) legal = waiting_fits h legal.1
  waiting_fits (takes_job pass job ∷ h) legal = omega (arith, rest_shorter (waiting h), waiting_fits h legal.1)
  waiting_fits (finds_empty pass count closed ∷ h) legal = waiting_fits h legal.1
  waiting_fits (closes number ∷ h) legal = waiting_fits h legal.1

  -- ---- the close

  pub open_before : (h : List Deed) → closed_at h ≡ None → is_closed h ≡ false
  open_before [] none = refl
  open_before (accepts lane number job ∷ h) none = open_before h none
  open_before (fills lane number ∷ h) none = open_before h none
  open_before (finds_closed lane seen ∷ h) none = open_before h none
  open_before (takes_job pass job ∷ h) none = open_before h none
  open_before (finds_empty pass count closed ∷ h) none = open_before h none
  open_before (closes number ∷ h) none = cc

  -- After the close, the count of entries is the close number.
  pub closed_count : (h : List Deed) (n : ℕ)
      → IsLegal sizes h
      → closed_at h ≡ Some n
      → (is_closed h ≡ true) × (entered h ≡ n)
  closed_count [] n legal some = cc
  closed_count (accepts lane number job ∷ h) n legal some = absurd (true≢false (sym (closed_count h n legal.1 some).0 ∙ legal.0.0.2))
  closed_count (fills lane number ∷ h) n legal some = absurd (true≢false (sym (closed_count h n legal.1 some).0 ∙ legal.0.0.2))
  closed_count (finds_closed lane seen ∷ h) n legal some = closed_count h n legal.1 some
  closed_count (takes_job pass job ∷ h) n legal some = closed_count h n legal.1 some
  closed_count (finds_empty pass count closed ∷ h) n legal some = closed_count h n legal.1 some
  closed_count (closes number ∷ h) n legal some = let same : number ≡ n = cc in (refl, sym legal.0.1 ∙ same)
