-- What the records of all members say together when one view has them all.
use Rattle.std.proofs.Common.{◌≡◌, ◌≢◌, ℕ, zero, suc, ◌+◌, ◌<◌, List, [], ◌∷◌, ◌++◌, cond, ne_eqb, sym, refl, ap, ◌∙◌, subst, arith}
use Rattle.std.specs.List.{AllByRecursion}
use mathlib.Core.Option.{some}
use lib.ListN.{get_elem?}
use Rattle.crossbeam_queue.specs.Fifo.{Pops, Learns}
use Rattle.ghost_history.specs.Sums.{total, below}
use Rattle.ghost_history.proofs.SumLemmas.{total-below}
use Rattle.ghost_history.proofs.ViewLemmas.{True, all_weaker, has_everyone, steps, stays}
use Rattle.cube_shape.specs.declared.limits.TheConstants.{MAX_LANES, MAX_PASSES}
use Rattle.line_ring.specs.declared.record.LaneRecord.{LaneRecord}
use Rattle.line_ring.specs.declared.record.PassRecord.{PassRecord}
use Rattle.line_ring.specs.declared.record.RestRecord.{RestRecord}
use Rattle.line_ring.specs.declared.rule.View.{View}
use Rattle.line_ring.specs.Record.{AreSeqs, Rises}
use Rattle.ghost_history.specs.Lists.{rest_of}
use Rattle.line_ring.specs.History.{drains, waiting, lane_part, pass_part, rest_part}
use Rattle.line_ring.specs.Inner.View.{view, rest_record, lanes_in, passes_in, rests_in, lane_number, pass_number, rest_number, members}
use Rattle.line_ring.specs.Inner.Rule.{Keeps}
use Rattle.line_ring.specs.Inner.Step.{drained_in, IsWhole, RunsTo, Drains}
use Rattle.line_ring.proofs.HistoryLemmas.{balanced, seqs, rises, rest_rises}
use Rattle.line_ring.proofs.KeepLemmas.{about_set}

module _ {T : Type 0} (lane_of seq_of : T → ℕ) (is_for : ℕ → T → Type 0) where
  abbrev K : List T → List (View T) → Type 0
  K = Keeps lane_of seq_of is_for

  module _ (items : List T) (views : List (View T)) (k : K items views) (id : ℕ) (v : View T)
      (me : get_elem? views id ≡ some v) (whole : IsWhole v) where
    each_lane : (P : LaneRecord T → Type 0)
        → ((l : ℕ) → P (lane_part k.history l))
        → AllByRecursion P (lanes_in v)
    each_lane P holds = all_weaker (True lanes_in lane_number MAX_LANES (lane_part k.history)) P (λ r true. subst P (sym true.0) (holds r.number)) (lanes_in v) (k.lanes.each id v me)

    each_pass : (P : PassRecord T → Type 0)
        → ((p : ℕ) → P (pass_part k.history p))
        → AllByRecursion P (passes_in v)
    each_pass P holds = all_weaker (True passes_in pass_number MAX_PASSES (pass_part k.history)) P (λ r true. subst P (sym true.0) (holds r.number)) (passes_in v) (k.passes.each id v me)

    sum_lanes : (f : LaneRecord T → ℕ)
        → total f (lanes_in v) ≡ below (λ l. f (lane_part k.history l)) MAX_LANES
    sum_lanes f = total-below lane_number MAX_LANES (λ l. f (lane_part k.history l)) f (lanes_in v)
        (all_weaker (True lanes_in lane_number MAX_LANES (lane_part k.history)) (λ r. (f r ≡ f (lane_part k.history r.number)) × (r.number < MAX_LANES)) (λ r true. (ap f true.0, true.1)) (lanes_in v) (k.lanes.each id v me))
        (has_everyone lanes_in lane_number views k.lanes id v me whole.lanes)

    sum_passes : (f : PassRecord T → ℕ)
        → total f (passes_in v) ≡ below (λ p. f (pass_part k.history p)) MAX_PASSES
    sum_passes f = total-below pass_number MAX_PASSES (λ p. f (pass_part k.history p)) f (passes_in v)
        (all_weaker (True passes_in pass_number MAX_PASSES (pass_part k.history)) (λ r. (f r ≡ f (pass_part k.history r.number)) × (r.number < MAX_PASSES)) (λ r true. (ap f true.0, true.1)) (passes_in v) (k.passes.each id v me))
        (has_everyone passes_in pass_number views k.passes id v me whole.passes)

    drained_is : drained_in v.rests ≡ (rest_part k.history 0).drained
    drained_is =
        let all : AllByRecursion (True rests_in rest_number 1 (rest_part k.history)) (rest_record (drained_in v.rests) ∷ []) = subst (AllByRecursion (True rests_in rest_number 1 (rest_part k.history))) whole.rests (k.rests.each id v me) in
        ap (λ (r : RestRecord T). r.drained) all.0.0

    sums_of : (weight : T → ℕ) (n m a b : ℕ)
        → n ≡ MAX_LANES
        → m ≡ MAX_PASSES
        → a ≡ below (λ l. total weight (lane_part k.history l).accepted) n
        → b ≡ below (λ p. total weight (pass_part k.history p).taken) m
        → a ≡ b + total weight (drained_in v.rests) + total weight items
    sums_of weight n m a b few_lanes few_passes lanes passes =
        omega (arith, lanes, passes, balanced lane_of seq_of weight n m k.history k.legal few_lanes few_passes, ap (total weight) drained_is, ap (total weight) k.waits)

    pub runs_to : RunsTo lane_of seq_of v items
    runs_to =
        let h = k.history in
        record {
          balance = λ weight. sums_of weight MAX_LANES MAX_PASSES _ _ refl refl (sum_lanes (λ l. total weight l.accepted)) (sum_passes (λ p. total weight p.taken));
          seqs = all_weaker (True lanes_in lane_number MAX_LANES (lane_part h)) (λ r. AreSeqs lane_of seq_of r.number 0 r.accepted)
              (λ r true. subst (λ (z : LaneRecord T). AreSeqs lane_of seq_of r.number 0 z.accepted) (sym true.0) (seqs lane_of seq_of h r.number k.legal)) (lanes_in v) (k.lanes.each id v me);
          rises = each_pass (λ r. Rises lane_of seq_of (r.taken ++ items)) (λ p. subst (λ (ws : List T). Rises lane_of seq_of ((pass_part h p).taken ++ ws)) (sym k.waits) (rises lane_of seq_of h p k.legal));
          rest_rises = subst (λ (ws : List T). Rises lane_of seq_of (drained_in v.rests ++ ws)) (sym k.waits) (subst (λ (ds : List T). Rises lane_of seq_of (ds ++ waiting h)) (sym drained_is) (rest_rises lane_of seq_of h k.legal));
          numbers = has_everyone lanes_in lane_number views k.lanes id v me whole.lanes;
          listed = record {
            history = h;
            legal = k.legal;
            each_lane = all_weaker (True lanes_in lane_number MAX_LANES (lane_part h)) (λ l. l ≡ lane_part h l.number) (λ l true. true.0) (lanes_in v) (k.lanes.each id v me);
            each_pass = all_weaker (True passes_in pass_number MAX_PASSES (pass_part h)) (λ p. p ≡ pass_part h p.number) (λ p true. true.0) (passes_in v) (k.passes.each id v me);
            end = sym drained_is;
            left = sym k.waits;
          };
        }

  pub learns_run : (id : ℕ) (v : View T) → IsWhole v → Learns K id v (RunsTo lane_of seq_of v)
  learns_run id v whole items views k me = runs_to items views k id v me whole

  -- ---- a piece comes out at the end

  drain_here : (id m : ℕ) (spare_lanes lanes : List (LaneRecord T))
      (spare_passes passes : List (PassRecord T)) (ds : List T)
      → IsWhole (view m spare_lanes lanes spare_passes passes (rest_record ds ∷ []))
      → Pops K id (view m spare_lanes lanes spare_passes passes (rest_record ds ∷ []))
      (Drains lane_of seq_of is_for (view m spare_lanes lanes spare_passes passes
      (rest_record ds ∷ [])))
  drain_here id m spare_lanes lanes spare_passes passes ds whole x items views k me =
      let v = view m spare_lanes lanes spare_passes passes (rest_record ds ∷ []) in
      let w = view m spare_lanes lanes spare_passes passes (rest_record (ds ++ x ∷ []) ∷ []) in
      let h = drains x ∷ k.history in
      let mine = (k.rests.each id v me).0 in
      let member : 0 < members v = omega arith in
      let about : m ≡ k.machine = k.about id v me member in
      let left : items ≡ rest_of (waiting k.history) = ap rest_of k.waits in (
        w,
        record {
          history = h;
          machine = k.machine;
          legal = (sym k.waits ∙ ap (λ (xs : List T). x ∷ xs) left, k.legal);
          waits = left;
          made_for = k.made_for.1;
          lanes = stays lanes_in lane_number views k.lanes id v me (lane_part h) w refl (λ _. refl);
          passes = stays passes_in pass_number views k.passes id v me (pass_part h) w refl (λ _. refl);
          rests = steps rests_in rest_number views k.rests id v me (rest_part h) w (rest_record ds) (rest_record (ds ++ x ∷ [])) refl refl refl
              (ap (λ (r : RestRecord T). rest_record (r.drained ++ x ∷ [])) (sym mine.0)) others;
          about = about_set lane_of seq_of is_for views k id v w me member refl;
        },
        (refl, subst (λ (n : ℕ). is_for n x) (sym about) k.made_for.0, (items, runs_to (x ∷ items) views k id v me whole)),
      )
    where
      others : (j : ℕ) → j ≢ 0 → rest_part (drains x ∷ k.history) j ≡ rest_part k.history j
      others zero other = absurd (other refl)
      others (suc j) other = ap (λ b. cond b (rest_record ((rest_part k.history (suc j)).drained ++ x ∷ [])) (rest_part k.history (suc j))) (ne_eqb 0 (suc j) (λ e. omega arith))

  pub drains_piece : (id : ℕ) (v : View T)
      → IsWhole v
      → Pops K id v (Drains lane_of seq_of is_for v)
  drains_piece id v whole =
      let same : v ≡ view v.machine v.spare_lanes v.lanes v.spare_passes v.passes (rest_record (drained_in v.rests) ∷ []) = ap (λ (rs : List (RestRecord T)). view v.machine v.spare_lanes v.lanes v.spare_passes v.passes rs) whole.rests in
      subst (λ (u : View T). Pops K id u (Drains lane_of seq_of is_for u)) (sym same) (drain_here id v.machine v.spare_lanes v.lanes v.spare_passes v.passes (drained_in v.rests) (subst IsWhole same whole))
