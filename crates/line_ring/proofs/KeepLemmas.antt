-- The rule of a ring, as pieces come in and go out.
use Rattle.std.proofs.Common.{◌≡◌, ℕ, ◌<◌, List, [], ◌∷◌, ◌++◌, length, set, sym, refl, ap, ◌∙◌, subst, arith}
use mathlib.Core.Option.{some}
use lib.ListN.{get_elem?}
use Rattle.ghost_history.proofs.DealLemmas.{in_changed}
use Rattle.ghost_history.proofs.ViewLemmas.{all_append, steps, stays}
use Rattle.crossbeam_queue.specs.Fifo.{Pushes, Pops, Learns}
use Rattle.line_ring.specs.declared.record.LaneRecord.{LaneRecord}
use Rattle.line_ring.specs.declared.record.PassRecord.{PassRecord}
use Rattle.line_ring.specs.declared.rule.View.{View}
use Rattle.ghost_history.specs.Lists.{rest_of}
use Rattle.line_ring.specs.History.{accepts, takes_piece, waiting, lane_part, pass_part, rest_part}
use Rattle.line_ring.specs.Inner.View.{lane_in, pass_in, lane_view, pass_view, lanes_in, passes_in, rests_in, lane_number, pass_number, rest_number, members}
use Rattle.line_ring.specs.Inner.Rule.{Keeps}
use Rattle.line_ring.specs.Inner.Step.{after_push, IsLaneView, IsPassView, LaneLearns, PassLearns, Takes}
use Rattle.line_ring.proofs.HistoryLemmas.{lane_own, lane_other, pass_own, pass_other}

module _ {T : Type 0} (lane_of seq_of : T → ℕ) (is_for : ℕ → T → Type 0) where
  abbrev K : List T → List (View T) → Type 0
  K = Keeps lane_of seq_of is_for

  -- The seat's new view is for the same machine.
  pub about_set : {items : List T} (views : List (View T)) (k : K items views) (id : ℕ)
      (v w : View T)
      → get_elem? views id ≡ some v
      → 0 < members v
      → w.machine ≡ v.machine
      → (j : ℕ) (u : View T)
      → get_elem? (set views id w) j ≡ some u
      → 0 < members u
      → u.machine ≡ k.machine
  about_set views k id v w me member same = in_changed (λ u. 0 < members u → u.machine ≡ k.machine) views id w (λ _. same ∙ k.about id v me member) k.about

  -- ---- a lane puts a piece in

  push_here : (n id m : ℕ) (r : LaneRecord T) (x : T)
      → lane_of x ≡ r.number
      → seq_of x ≡ length r.accepted
      → is_for m x
      → Pushes K n id (lane_view m r) x (λ w. w ≡ after_push (lane_view m r) x)
  push_here n id m r x own next for_machine items views room k me =
      let v = lane_view m r in
      let r' : LaneRecord T = record r { accepted = r.accepted ++ x ∷ [] } in
      let w = lane_view m r' in
      let h = accepts r.number x ∷ k.history in
      let mine = (k.lanes.each id v me).0 in
      let about : m ≡ k.machine = k.about id v me (omega arith) in (
        w,
        record {
          history = h;
          machine = k.machine;
          legal = ((mine.1, own, next ∙ ap (λ (l : LaneRecord T). length l.accepted) mine.0), k.legal);
          waits = ap (λ (xs : List T). xs ++ x ∷ []) k.waits;
          made_for = all_append (is_for k.machine) items (x ∷ []) k.made_for (subst (λ (n : ℕ). is_for n x) about for_machine, tt);
          lanes = steps lanes_in lane_number views k.lanes id v me (lane_part h) w r r' refl refl refl
              (lane_own r.number x k.history ∙ ap (λ (l : LaneRecord T). record l { accepted = l.accepted ++ x ∷ [] }) (sym mine.0)) (lane_other r.number x k.history);
          passes = stays passes_in pass_number views k.passes id v me (pass_part h) w refl (λ _. refl);
          rests = stays rests_in rest_number views k.rests id v me (rest_part h) w refl (λ _. refl);
          about = about_set views k id v w me (omega arith) refl;
        },
        refl,
      )

  pub pushes : (n id number accepted : ℕ) (v : View T) (x : T)
      → IsLaneView number accepted v
      → lane_of x ≡ (lane_in v.lanes).number
      → seq_of x ≡ length (lane_in v.lanes).accepted
      → is_for v.machine x
      → Pushes K n id v x (λ w. w ≡ after_push v x)
  pushes n id number accepted v x is own next for_machine =
      subst (λ (u : View T). Pushes K n id u x (λ w. w ≡ after_push u x)) (sym is.alone) (push_here n id v.machine (lane_in v.lanes) x own next for_machine)

  pub lane_learns : (id number accepted : ℕ) (v : View T)
      → IsLaneView number accepted v
      → Learns K id v (LaneLearns lane_of seq_of v)
  lane_learns id number accepted v is =
      subst (λ (u : View T). Learns K id u (LaneLearns lane_of seq_of u)) (sym is.alone)
      (λ items views k me. (k.history, k.legal, sym (k.lanes.each id (lane_view v.machine (lane_in v.lanes)) me).0.0, ap length (sym k.waits)))

  -- ---- a pass takes the piece at the front

  take_here : (id m : ℕ) (r : PassRecord T)
      → Pops K id (pass_view m r) (Takes is_for (pass_view m r))
  take_here id m r x items views k me =
      let v = pass_view m r in
      let r' : PassRecord T = record r { taken = r.taken ++ x ∷ [] } in
      let w = pass_view m r' in
      let h = takes_piece r.number x ∷ k.history in
      let mine = (k.passes.each id v me).0 in
      let about : m ≡ k.machine = k.about id v me (omega arith) in
      let left : items ≡ rest_of (waiting k.history) = ap rest_of k.waits in (
        w,
        record {
          history = h;
          machine = k.machine;
          legal = ((mine.1, sym k.waits ∙ ap (λ (xs : List T). x ∷ xs) left), k.legal);
          waits = left;
          made_for = k.made_for.1;
          lanes = stays lanes_in lane_number views k.lanes id v me (lane_part h) w refl (λ _. refl);
          passes = steps passes_in pass_number views k.passes id v me (pass_part h) w r r' refl refl refl
              (pass_own r.number x k.history ∙ ap (λ (p : PassRecord T). record p { taken = p.taken ++ x ∷ [] }) (sym mine.0)) (pass_other r.number x k.history);
          rests = stays rests_in rest_number views k.rests id v me (rest_part h) w refl (λ _. refl);
          about = about_set views k id v w me (omega arith) refl;
        },
        (refl, subst (λ (n : ℕ). is_for n x) (sym about) k.made_for.0),
      )

  pub takes : (id : ℕ) (v : View T) → IsPassView v → Pops K id v (Takes is_for v)
  takes id v is = subst (λ (u : View T). Pops K id u (Takes is_for u)) (sym is) (take_here id v.machine (pass_in v.passes))

  pub pass_learns : (id : ℕ) (v : View T)
      → IsPassView v
      → Learns K id v (PassLearns lane_of seq_of v)
  pass_learns id v is =
      subst (λ (u : View T). Learns K id u (PassLearns lane_of seq_of u)) (sym is)
      (λ items views k me. (k.history, k.legal, sym (k.passes.each id (pass_view v.machine (pass_in v.passes)) me).0.0, ap length (sym k.waits)))
