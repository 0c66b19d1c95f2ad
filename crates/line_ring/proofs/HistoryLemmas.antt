-- What a legal history of a ring says of the records of all lanes and passes together.
use Rattle.std.proofs.Common.{◌≡◌, ◌≢◌, ℕ, ◌+◌, ◌<◌, Bool, true, false, cond, eqb, eq-eqb, ne_eqb, List, [], ◌∷◌, ◌++◌, length, length-append, append_assoc, sym, refl, ap, ◌∙◌, subst, arith}
use Rattle.std.specs.List.{AllByRecursion}
use mathlib.Core.Logic.{dite}
use native.Mathlib.Decide.{ℕ_discrete}
use Rattle.ghost_history.specs.Sums.{total, below}
use Rattle.ghost_history.proofs.SumLemmas.{total-push, below-grows, below-zero}
use Rattle.ghost_history.proofs.ViewLemmas.{all_weaker, all_append}
use Rattle.cube_shape.specs.declared.limits.TheConstants.{MAX_LANES, MAX_PASSES}
use Rattle.line_ring.specs.declared.record.LaneRecord.{LaneRecord}
use Rattle.line_ring.specs.declared.record.PassRecord.{PassRecord}
use Rattle.line_ring.specs.Record.{AreSeqs, Rises}
use Rattle.ghost_history.specs.Lists.{rest_of}
use Rattle.line_ring.specs.History.{Deed, accepts, takes_piece, drains, waiting, lane_after, lane_part, pass_after, pass_part, IsLegal, rest_part}
use Rattle.line_ring.proofs.ListLemmas.{all-middle, leaves, seqs-push, Before, rises-push, rises-middle}

module _ {T : Type 0} where
  -- ---- what a lane put in, and what a pass took

  abbrev pub accepted_by : List (Deed T) → ℕ → List T
  accepted_by h l = (lane_part h l).accepted

  abbrev pub taken_by : List (Deed T) → ℕ → List T
  taken_by h p = (pass_part h p).taken

  abbrev pub drained : List (Deed T) → List T
  drained h = (rest_part h 0).drained

  -- The member's own record gains the step, and no other record does.
  pub lane_own : (lane : ℕ) (piece : T) (h : List (Deed T))
      → lane_part (accepts lane piece ∷ h) lane ≡ lane_after (accepts lane piece) (lane_part h lane)
  lane_own lane piece h = ap (λ b. cond b (lane_after (accepts lane piece) (lane_part h lane)) (lane_part h lane)) (eq-eqb lane lane refl)

  pub lane_other : (lane : ℕ) (piece : T) (h : List (Deed T)) (l : ℕ)
      → l ≢ lane
      → lane_part (accepts lane piece ∷ h) l ≡ lane_part h l
  lane_other lane piece h l other = ap (λ b. cond b (lane_after (accepts lane piece) (lane_part h l)) (lane_part h l)) (ne_eqb lane l (λ e. other (sym e)))

  pub pass_own : (pass : ℕ) (piece : T) (h : List (Deed T))
      → pass_part (takes_piece pass piece ∷ h) pass
      ≡ pass_after (takes_piece pass piece) (pass_part h pass)
  pass_own pass piece h = ap (λ b. cond b (pass_after (takes_piece pass piece) (pass_part h pass)) (pass_part h pass)) (eq-eqb pass pass refl)

  pub pass_other : (pass : ℕ) (piece : T) (h : List (Deed T)) (p : ℕ)
      → p ≢ pass
      → pass_part (takes_piece pass piece ∷ h) p ≡ pass_part h p
  pass_other pass piece h p other = ap (λ b. cond b (pass_after (takes_piece pass piece) (pass_part h p)) (pass_part h p)) (ne_eqb pass p (λ e. other (sym e)))

  accepted-own : (lane : ℕ) (piece : T) (h : List (Deed T))
      → accepted_by (accepts lane piece ∷ h) lane ≡ accepted_by h lane ++ piece ∷ []
  accepted-own lane piece h = ap (λ (r : LaneRecord T). r.accepted) (lane_own lane piece h)

  accepted-else : (lane : ℕ) (piece : T) (h : List (Deed T)) (l : ℕ)
      → l ≢ lane
      → accepted_by (accepts lane piece ∷ h) l ≡ accepted_by h l
  accepted-else lane piece h l other = ap (λ (r : LaneRecord T). r.accepted) (lane_other lane piece h l other)

  -- ---- what went out by some of the passes, or at the end

  abbrev gone : (ℕ → Bool) → Bool → List (Deed T) → List T
  gone by at_end [] = []
  gone by at_end (accepts lane piece ∷ h) = gone by at_end h
  gone by at_end (takes_piece pass piece ∷ h) = cond (by pass) (gone by at_end h ++ piece ∷ []) (gone by at_end h)
  gone by at_end (drains piece ∷ h) = cond at_end (gone by at_end h ++ piece ∷ []) (gone by at_end h)

  gone_by_pass : (p : ℕ) (h : List (Deed T)) → gone (λ q. eqb q p) false h ≡ taken_by h p
  gone_by_pass p [] = refl
  gone_by_pass p (accepts lane piece ∷ h) = gone_by_pass p h
  gone_by_pass p (takes_piece pass piece ∷ h) =
      let before = gone_by_pass p h in
      elim (eqb pass p) as (λ b. cond b (gone (λ q. eqb q p) false h ++ piece ∷ []) (gone (λ q. eqb q p) false h) ≡ (cond b (pass_after (takes_piece pass piece) (pass_part h p)) (pass_part h p)).taken) [ true ↦ ap (λ (ps : List T). ps ++ piece ∷ []) before | false ↦ before ]
  gone_by_pass p (drains piece ∷ h) = gone_by_pass p h

  gone_at_end : (h : List (Deed T)) → gone (λ _. false) true h ≡ drained h
  gone_at_end [] = refl
  gone_at_end (accepts lane piece ∷ h) = gone_at_end h
  gone_at_end (takes_piece pass piece ∷ h) = gone_at_end h
  gone_at_end (drains piece ∷ h) = ap (λ (ps : List T). ps ++ piece ∷ []) (gone_at_end h)

module _ {T : Type 0} (lane_of seq_of : T → ℕ) where
  abbrev Legal : List (Deed T) → Type 0
  Legal = IsLegal lane_of seq_of

  -- ---- each accepted piece was taken, or came out at the end, or waits

  pub balanced : (weight : T → ℕ) (lanes passes : ℕ) (h : List (Deed T))
      → Legal h
      → lanes ≡ MAX_LANES
      → passes ≡ MAX_PASSES
      → below (λ l. total weight (accepted_by h l)) lanes
      ≡ below (λ p. total weight (taken_by h p)) passes + total weight (drained h) + total
      weight (waiting h)
  balanced weight lanes passes [] legal few_lanes few_passes = omega (arith, below-zero lanes, below-zero passes)
  balanced weight lanes passes (accepts lane piece ∷ h) legal few_lanes few_passes =
      let f = λ (l : ℕ). total weight (accepted_by h l) in
      let g = λ (l : ℕ). total weight (accepted_by (accepts lane piece ∷ h) l) in
      let mine : g lane ≡ f lane + weight piece = ap (total weight) (accepted-own lane piece h) ∙ total-push weight (accepted_by h lane) piece in
      omega (arith, below-grows f g lanes lane (weight piece) (omega (arith, legal.0.0, few_lanes)) mine (λ j ne. ap (total weight) (accepted-else lane piece h j ne)), total-push weight (waiting h) piece, balanced weight lanes passes h legal.1 few_lanes few_passes)
  balanced weight lanes passes (takes_piece pass piece ∷ h) legal few_lanes few_passes =
      let f = λ (p : ℕ). total weight (taken_by h p) in
      let g = λ (p : ℕ). total weight (taken_by (takes_piece pass piece ∷ h) p) in
      let mine : g pass ≡ f pass + weight piece = ap (λ (r : PassRecord T). total weight r.taken) (pass_own pass piece h) ∙ total-push weight (taken_by h pass) piece in
      let front : total weight (waiting h) ≡ weight piece + total weight (rest_of (waiting h)) = ap (total weight) legal.0.1 in
      omega (arith, below-grows f g passes pass (weight piece) (omega (arith, legal.0.0, few_passes)) mine (λ j ne. ap (λ (r : PassRecord T). total weight r.taken) (pass_other pass piece h j ne)), front, balanced weight lanes passes h legal.1 few_lanes few_passes)
  balanced weight lanes passes (drains piece ∷ h) legal few_lanes few_passes =
      let front : total weight (waiting h) ≡ weight piece + total weight (rest_of (waiting h)) = ap (total weight) legal.0 in
      omega (arith, total-push weight (drained h) piece, front, balanced weight lanes passes h legal.1 few_lanes few_passes)

  -- ---- a lane's seqs

  pub seqs : (h : List (Deed T)) (l : ℕ) → Legal h → AreSeqs lane_of seq_of l 0 (accepted_by h l)
  seqs [] l legal = tt
  seqs (accepts lane piece ∷ h) l legal =
      dite (ℕ_discrete l lane)
      (λ e. subst (λ (k : ℕ). AreSeqs lane_of seq_of k 0 (accepted_by (accepts lane piece ∷ h) k)) (sym e)
      (subst (AreSeqs lane_of seq_of lane 0) (sym (accepted-own lane piece h)) (seqs-push lane_of seq_of lane 0 (accepted_by h lane) piece (seqs h lane legal.1) legal.0.1 (omega (arith, legal.0.2)))))
      (λ ne. subst (AreSeqs lane_of seq_of l 0) (sym (accepted-else lane piece h l ne)) (seqs h l legal.1))
  seqs (takes_piece pass piece ∷ h) l legal = seqs h l legal.1
  seqs (drains piece ∷ h) l legal = seqs h l legal.1

  -- ---- a lane's seqs rise in what went out one way, and then in what waits

  -- The piece was accepted by its lane.
  abbrev Known : List (Deed T) → T → Type 0
  Known h q = seq_of q < length (accepted_by h (lane_of q))

  known-accepts : (lane : ℕ) (piece : T) (h : List (Deed T)) (q : T)
      → Known h q
      → Known (accepts lane piece ∷ h) q
  known-accepts lane piece h q known =
      dite (ℕ_discrete (lane_of q) lane)
      (λ e. let more : length (accepted_by (accepts lane piece ∷ h) (lane_of q)) ≡ length (accepted_by h (lane_of q) ++ piece ∷ []) =
      subst (λ (k : ℕ). length (accepted_by (accepts lane piece ∷ h) k) ≡ length (accepted_by h k ++ piece ∷ [])) (sym e) (ap length (accepted-own lane piece h)) in
      omega (arith, more, length-append (accepted_by h (lane_of q)) (piece ∷ []), known))
      (λ ne. omega (arith, ap length (accepted-else lane piece h (lane_of q) ne), known))

  known-own : (lane : ℕ) (piece : T) (h : List (Deed T))
      → lane_of piece ≡ lane
      → seq_of piece ≡ length (accepted_by h lane)
      → Known (accepts lane piece ∷ h) piece
  known-own lane piece h at_lane at_seq =
      let more : length (accepted_by (accepts lane piece ∷ h) (lane_of piece)) ≡ length (accepted_by h lane ++ piece ∷ []) =
      ap (λ (k : ℕ). length (accepted_by (accepts lane piece ∷ h) k)) at_lane ∙ ap length (accepted-own lane piece h) in
      omega (arith, more, length-append (accepted_by h lane) (piece ∷ []), at_seq)

  module _ (by : ℕ → Bool) (at_end : Bool) where
    abbrev line_of : List (Deed T) → List T
    line_of h = gone by at_end h ++ waiting h

    all_known : (h : List (Deed T)) → Legal h → AllByRecursion (Known h) (line_of h)
    all_known [] legal = tt
    all_known (accepts lane piece ∷ h) legal =
        let after = accepts lane piece ∷ h in
        subst (AllByRecursion (Known after)) (append_assoc (gone by at_end h) (waiting h) (piece ∷ []))
        (all_append (Known after) (line_of h) (piece ∷ []) (all_weaker (Known h) (Known after) (known-accepts lane piece h) (line_of h) (all_known h legal.1)) (known-own lane piece h legal.0.1 legal.0.2, tt))
    all_known (takes_piece pass piece ∷ h) legal = leaves (AllByRecursion (Known h)) (all-middle (Known h)) (by pass) (gone by at_end h) (waiting h) piece legal.0.1 (all_known h legal.1)
    all_known (drains piece ∷ h) legal = leaves (AllByRecursion (Known h)) (all-middle (Known h)) at_end (gone by at_end h) (waiting h) piece legal.0 (all_known h legal.1)

    line_rises : (h : List (Deed T)) → Legal h → Rises lane_of seq_of (line_of h)
    line_rises [] legal = tt
    line_rises (accepts lane piece ∷ h) legal =
        let earlier : (q : T) → Known h q → Before lane_of seq_of piece q = λ q known same.
        let there : length (accepted_by h (lane_of q)) ≡ length (accepted_by h lane) = ap (λ (k : ℕ). length (accepted_by h k)) (same ∙ legal.0.1) in omega (arith, known, legal.0.2) in
        subst (Rises lane_of seq_of) (append_assoc (gone by at_end h) (waiting h) (piece ∷ [])) (rises-push lane_of seq_of (line_of h) piece (line_rises h legal.1) (all_weaker (Known h) (Before lane_of seq_of piece) earlier (line_of h) (all_known h legal.1)))
    line_rises (takes_piece pass piece ∷ h) legal = leaves (Rises lane_of seq_of) (rises-middle lane_of seq_of) (by pass) (gone by at_end h) (waiting h) piece legal.0.1 (line_rises h legal.1)
    line_rises (drains piece ∷ h) legal = leaves (Rises lane_of seq_of) (rises-middle lane_of seq_of) at_end (gone by at_end h) (waiting h) piece legal.0 (line_rises h legal.1)

  pub rises : (h : List (Deed T)) (p : ℕ)
      → Legal h
      → Rises lane_of seq_of (taken_by h p ++ waiting h)
  rises h p legal = subst (λ (ps : List T). Rises lane_of seq_of (ps ++ waiting h)) (gone_by_pass p h) (line_rises (λ q. eqb q p) false h legal)

  pub rest_rises : (h : List (Deed T)) → Legal h → Rises lane_of seq_of (drained h ++ waiting h)
  rest_rises h legal = subst (λ (ps : List T). Rises lane_of seq_of (ps ++ waiting h)) (gone_at_end h) (line_rises (λ _. false) true h legal)
