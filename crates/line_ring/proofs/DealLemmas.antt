-- Views are split off the first view, and joined again.
use Rattle.std.proofs.Common.{◌≡◌, ◌≢◌, ℕ, zero, suc, ◌+◌, ◌-◌, ◌<◌, ⊎_elim, List, [], ◌∷◌, ◌++◌, length, append_assoc, set, sym, refl, ap, ◌∙◌, subst, arith}
use Rattle.std.proofs.lemmas.List.{append-nil}
use Rattle.std.specs.List.{AllByRecursion}
use mathlib.Core.Option.{some}
use lib.ListN.{get_elem?}
use Rattle.atomic_table.proofs.Lists.{at_set, at_snoc}
use Rattle.crossbeam_queue.specs.Fifo.{Forks, Merges}
use Rattle.ghost_history.specs.Lists.{first_of, rest_of}
use Rattle.ghost_history.specs.Sums.{total, is_at}
use Rattle.ghost_history.proofs.DealLemmas.{only_view, in_cut, in_joined, first-tied, one-tied}
use Rattle.ghost_history.proofs.ViewLemmas.{True, splits, joins, nobody_else}
use Rattle.cube_shape.specs.declared.limits.TheConstants.{MAX_LANES, MAX_PASSES}
use Rattle.line_ring.specs.declared.record.LaneRecord.{LaneRecord}
use Rattle.line_ring.specs.declared.record.PassRecord.{PassRecord}
use Rattle.line_ring.specs.declared.rule.View.{View}
use Rattle.line_ring.specs.Record.{fresh_lane, fresh_pass}
use Rattle.line_ring.specs.History.{lane_part, pass_part, rest_part}
use Rattle.line_ring.specs.Inner.View.{view, rest_record, lanes_in, passes_in, rests_in, lane_number, pass_number, rest_number, members, lanes_from, passes_from, first_view, empty_view, without_lane, lane_alone, without_pass, pass_alone, joined}
use Rattle.line_ring.specs.Inner.Rule.{Keeps}
use Rattle.line_ring.specs.Inner.Step.{IsEndView, IsWhole}
use Rattle.line_ring.proofs.ListLemmas.{no_pieces}
use Rattle.line_ring.proofs.EndLemmas.{runs_to}

-- ---- a list is cut

cut-all : {A : Type 0} (P : A → Type 0) (xs ys : List A)
    → AllByRecursion P (xs ++ ys)
    → AllByRecursion P (rest_of xs ++ ys) × AllByRecursion P (first_of xs)
cut-all P [] ys all = (all, tt)
cut-all P (x ∷ xs) ys all = (all.1, (all.0, tt))

cut-total : {A : Type 0} (f : A → ℕ) (xs ys : List A)
    → total f (rest_of xs ++ ys) + total f (first_of xs) ≡ total f (xs ++ ys)
cut-total f [] ys = omega arith
cut-total f (x ∷ xs) ys = omega arith

cut-length : {A : Type 0} (xs ys : List A)
    → length (rest_of xs ++ ys) + length (first_of xs) ≡ length (xs ++ ys)
cut-length [] ys = omega arith
cut-length (x ∷ xs) ys = omega arith

-- ---- fresh records

module _ {T : Type 0} where
  -- If a fresh record weighs nothing, neither do several.
  pub fresh_lanes_weigh : (f : LaneRecord T → ℕ)
      → ((number : ℕ) → f (record { number = number; accepted = [] }) ≡ 0)
      → (first count : ℕ)
      → total f (lanes_from first count) ≡ 0
  fresh_lanes_weigh f none first zero = refl
  fresh_lanes_weigh f none first (suc count) = omega (arith, none first, fresh_lanes_weigh f none (first + 1) count)

  pub fresh_passes_weigh : (f : PassRecord T → ℕ)
      → ((number : ℕ) → f (record { number = number; taken = [] }) ≡ 0)
      → (first count : ℕ)
      → total f (passes_from first count) ≡ 0
  fresh_passes_weigh f none first zero = refl
  fresh_passes_weigh f none first (suc count) = omega (arith, none first, fresh_passes_weigh f none (first + 1) count)

  -- The first view of a ring for this machine.
  abbrev pub whole_view : ℕ → View T
  whole_view machine = view machine (lanes_from 0 MAX_LANES) [] (passes_from 0 MAX_PASSES) [] (rest_record [] ∷ [])

  is_whole : (machine : ℕ) → IsWhole (whole_view machine)
  is_whole machine = record { lanes = refl; passes = refl; rests = refl }

  -- One more lane, or pass, is given out.
  pub lane_dealt : (lanes passes : ℕ) (v w : View T)
      → IsEndView lanes passes v
      → lanes < MAX_LANES
      → w ≡ without_lane v
      → IsEndView (lanes + 1) passes w
  lane_dealt lanes passes v w is few dealt =
      let one_more : MAX_LANES - lanes ≡ suc (MAX_LANES - (lanes + 1)) = omega (arith, few) in
      subst (IsEndView (lanes + 1) passes) (sym dealt) (record {
        few_lanes = omega (arith, few);
        few_passes = is.few_passes;
        spare_lanes = ap rest_of is.spare_lanes ∙ ap (λ (n : ℕ). rest_of (lanes_from lanes n)) one_more;
        spare_passes = is.spare_passes;
        rests = is.rests;
      })

  pub pass_dealt : (lanes passes : ℕ) (v w : View T)
      → IsEndView lanes passes v
      → passes < MAX_PASSES
      → w ≡ without_pass v
      → IsEndView lanes (passes + 1) w
  pass_dealt lanes passes v w is few dealt =
      let one_more : MAX_PASSES - passes ≡ suc (MAX_PASSES - (passes + 1)) = omega (arith, few) in
      subst (IsEndView lanes (passes + 1)) (sym dealt) (record {
        few_lanes = is.few_lanes;
        few_passes = omega (arith, few);
        spare_lanes = is.spare_lanes;
        spare_passes = ap rest_of is.spare_passes ∙ ap (λ (n : ℕ). rest_of (passes_from passes n)) one_more;
        rests = is.rests;
      })

  nobody : (u : View T) → lanes_in u ≡ [] → passes_in u ≡ [] → rests_in u ≡ [] → members u ≡ 0
  nobody u lanes passes rests = omega (arith, ap length lanes, ap length passes, ap length rests)

module _ {T : Type 0} (lane_of seq_of : T → ℕ) (is_for : ℕ → T → Type 0) where
  abbrev K : List T → List (View T) → Type 0
  K = Keeps lane_of seq_of is_for

  -- ---- the ring opens

  pub opens : K [] (first_view ∷ [])
  opens = record {
    history = [];
    machine = 0;
    legal = tt;
    waits = refl;
    made_for = tt;
    lanes = first-tied lanes_in lane_number fresh_lane (λ _. refl) MAX_LANES first_view (append-nil (lanes_from 0 MAX_LANES));
    passes = first-tied passes_in pass_number fresh_pass (λ _. refl) MAX_PASSES first_view (append-nil (passes_from 0 MAX_PASSES));
    rests = one-tied rests_in rest_number (rest_part []) first_view (rest_record []) refl refl refl;
    about = only_view (λ u. 0 < members u → u.machine ≡ 0) first_view (λ _. refl);
  }

  -- ---- a view is cut

  module _ (items : List T) (views : List (View T)) (k : K items views) (id : ℕ)
      (v left right : View T) (me : get_elem? views id ≡ some v) where
    cuts : left.machine ≡ v.machine
        → right.machine ≡ v.machine
        → members left + members right ≡ members v
        → (AllByRecursion (True lanes_in lane_number MAX_LANES (lane_part k.history)) (lanes_in v)
        → AllByRecursion (True lanes_in lane_number MAX_LANES (lane_part k.history))
        (lanes_in left) × AllByRecursion
        (True lanes_in lane_number MAX_LANES (lane_part k.history)) (lanes_in right))
        → (AllByRecursion (True passes_in pass_number MAX_PASSES (pass_part k.history))
        (passes_in v) → AllByRecursion (True passes_in pass_number MAX_PASSES
        (pass_part k.history)) (passes_in left)
        × AllByRecursion (True passes_in pass_number MAX_PASSES (pass_part k.history))
        (passes_in right))
        → ((n : ℕ) → total (λ r. is_at n (lane_number r)) (lanes_in left) + total
        (λ r. is_at n (lane_number r)) (lanes_in right)
        ≡ total (λ r. is_at n (lane_number r)) (lanes_in v))
        → ((n : ℕ) → total (λ r. is_at n (pass_number r)) (passes_in left) + total
        (λ r. is_at n (pass_number r)) (passes_in right)
        ≡ total (λ r. is_at n (pass_number r)) (passes_in v))
        → left.rests ≡ v.rests
        → right.rests ≡ []
        → K items (set views id left ++ right ∷ [])
    cuts left_machine right_machine sums lanes passes lane_sums pass_sums left_rests right_rests =
        let rests_true = True rests_in rest_number 1 (rest_part k.history) in
        record {
          history = k.history;
          machine = k.machine;
          legal = k.legal;
          waits = k.waits;
          made_for = k.made_for;
          lanes = splits lanes_in lane_number views k.lanes id v me left right lanes lane_sums;
          passes = splits passes_in pass_number views k.passes id v me left right passes pass_sums;
          rests = splits rests_in rest_number views k.rests id v me left right (λ all. (subst (AllByRecursion rests_true) (sym left_rests) all, subst (AllByRecursion rests_true) (sym right_rests) tt))
              (λ n. omega (arith, ap (total (λ r. is_at n (rest_number r))) left_rests, ap (total (λ r. is_at n (rest_number r))) right_rests));
          about = in_cut (λ u. 0 < members u → u.machine ≡ k.machine) views id left right
              (λ has. left_machine ∙ k.about id v me (omega (arith, has, sums))) (λ has. right_machine ∙ k.about id v me (omega (arith, has, sums))) k.about;
        }

  pub deals_lane : (id : ℕ) (v : View T) → Forks K id v (without_lane v) (lane_alone v)
  deals_lane id v items views k me = cuts items views k id v (without_lane v) (lane_alone v) me refl refl
      (omega (arith, cut-length v.spare_lanes v.lanes)) (cut-all _ v.spare_lanes v.lanes) (λ all. (all, tt))
      (λ n. cut-total (λ r. is_at n (lane_number r)) v.spare_lanes v.lanes) (λ n. omega arith) refl refl

  pub deals_pass : (id : ℕ) (v : View T) → Forks K id v (without_pass v) (pass_alone v)
  deals_pass id v items views k me = cuts items views k id v (without_pass v) (pass_alone v) me refl refl
      (omega (arith, cut-length v.spare_passes v.passes)) (λ all. (all, tt)) (cut-all _ v.spare_passes v.passes)
      (λ n. omega arith) (λ n. cut-total (λ r. is_at n (pass_number r)) v.spare_passes v.passes) refl refl

  -- ---- a view of all members, none of which has done anything, is for another machine

  pub next_machine : (id m : ℕ) → Forks K id (whole_view m) (whole_view (m + 1)) empty_view
  next_machine id m items views k me =
      let v : View T = whole_view m in
      let left : View T = whole_view (m + 1) in
      let alone : (j : ℕ) (u : View T) → j ≢ id → get_elem? views j ≡ some u → members u ≡ 0 = λ j u apart there. nobody u
      (nobody_else lanes_in lane_number views k.lanes id v me refl j u apart there)
      (nobody_else passes_in pass_number views k.passes id v me refl j u apart there)
      (nobody_else rests_in rest_number views k.rests id v me refl j u apart there) in
      let none_put : total (λ l. total (λ (x : T). 1) l.accepted) (lanes_in v) ≡ 0 = fresh_lanes_weigh (λ l. total (λ (x : T). 1) l.accepted) (λ _. refl) 0 MAX_LANES in
      let empty : items ≡ [] = no_pieces items (omega (arith, (runs_to lane_of seq_of is_for items views k id v me (is_whole m)).balance (λ _. 1), none_put)) in
      record {
        history = k.history;
        machine = m + 1;
        legal = k.legal;
        waits = k.waits;
        made_for = subst (AllByRecursion (is_for (m + 1))) (sym empty) tt;
        lanes = splits lanes_in lane_number views k.lanes id v me left empty_view (λ all. (all, tt)) (λ n. omega arith);
        passes = splits passes_in pass_number views k.passes id v me left empty_view (λ all. (all, tt)) (λ n. omega arith);
        rests = splits rests_in rest_number views k.rests id v me left empty_view (λ all. (all, tt)) (λ n. omega arith);
        about = λ j u there has. ⊎_elim
            (λ (q : get_elem? (set views id left) j ≡ some u). ⊎_elim
            (λ (p : (j ≡ id) × (left ≡ u)). ap (λ (y : View T). y.machine) (sym p.1))
            (λ (p : (j ≢ id) × (get_elem? views j ≡ some u)). absurd (omega (arith, has, alone j u p.0 p.1)))
            (at_set views id j left u q))
            (λ (q : empty_view ≡ u). absurd (omega (arith, has, ap members q)))
            (at_snoc (set views id left) empty_view u j there);
      }

  -- ---- two views are joined

  gathers_here : (id : ℕ) (v : View T) (other m : ℕ) (ls : List (LaneRecord T))
      (ps : List (PassRecord T))
      → 0 < members v
      → Merges K id v other (view m [] ls [] ps []) (joined v (view m [] ls [] ps [])) empty_view
  gathers_here id v other m ls ps member items views k me apart there =
      let w : View T = view m [] ls [] ps [] in
      let both : View T = joined v w in
      record {
        history = k.history;
        machine = k.machine;
        legal = k.legal;
        waits = k.waits;
        made_for = k.made_for;
        lanes = joins lanes_in lane_number views k.lanes id v me other w both empty_view apart there (sym (append_assoc v.spare_lanes v.lanes ls)) refl;
        passes = joins passes_in pass_number views k.passes id v me other w both empty_view apart there (sym (append_assoc v.spare_passes v.passes ps)) refl;
        rests = joins rests_in rest_number views k.rests id v me other w both empty_view apart there (sym (append-nil v.rests)) refl;
        about = in_joined (λ u. 0 < members u → u.machine ≡ k.machine) views id other both empty_view (λ _. k.about id v me member) (λ has. absurd (omega (arith, has))) k.about;
      }

  pub gathers : (id : ℕ) (v : View T) (other : ℕ) (w : View T)
      → 0 < members v
      → w ≡ view w.machine [] w.lanes [] w.passes []
      → Merges K id v other w (joined v w) empty_view
  gathers id v other w member is = subst (λ (u : View T). Merges K id v other u (joined v u) empty_view) (sym is) (gathers_here id v other w.machine w.lanes w.passes member)
