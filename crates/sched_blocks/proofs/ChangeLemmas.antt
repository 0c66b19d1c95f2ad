-- The blocks after a call.
use Rattle.std.proofs.Common.{◌≡◌, ◌≢◌, ℕ, ◌+◌, ◌^◌, ◌<◌, ◌⊎◌, inl, inr, Bool, true, false, List, Some, None, refl, sym, ◌∙◌, ap, subst, arith}
use Rattle.std.proofs.lemmas.Bool.{cases_eq, true≢false}
use Rattle.cube_shape.specs.declared.region.Region.{Region}
use Rattle.cube_shape.specs.Region.{AreApart, IsAligned}
use Rattle.cube_shape.specs.Machine.{Gives, TakesBack}
use Rattle.cube_shape.specs.Node.{IsInCube, IsNodeOf}
use Rattle.std.proofs.lemmas.Nat.{pow_pos}
use Rattle.cube_shape.proofs.PathLemmas.{OnPath-self}
use Rattle.cube_shape.proofs.RegionLemmas.{IsNodeOf-in_cube, IsNodeOf-of_aligned, IsNodeOf-one_node, IsNodeOf-one_region}
use Rattle.fit_tree.specs.Fit.{Fit, held_in}
use Rattle.sched_law.specs.declared.job.SchedWait.{SchedWait}
use Rattle.sched_law.specs.declared.job.SchedRun.{SchedRun}
use Rattle.sched_law.specs.State.{Sched, IsVacant, Runs, Waits, block_of, end_after, finish, occupy, set, start, vacate}
use Rattle.sched_law.specs.Law.{IsSafe}
use Rattle.sched_law.proofs.SetLemmas.{look, none_is_some, same, set_else, set_here}
use Rattle.sched_law.proofs.SafeLemmas.{finish_safe, occupy_safe, start_safe, vacate_safe}
use Rattle.sched_blocks.specs.Ends.{AreEnds, HasNoEndBeside}
use Rattle.sched_blocks.specs.Busy.{AreBusy, HasNoneBeside}
use Rattle.sched_blocks.specs.Use.{AreOwnEnds, AreUsed, IsInUse, Tracks}
use Rattle.sched_blocks.proofs.FollowLemmas.{finish_own, finish_used, occupy_own, occupy_used, start_own, start_used, vacate_own, vacate_used}
use Rattle.sched_blocks.proofs.EndLemmas.{ends_alike}
use Rattle.sched_blocks.proofs.UseLemmas.{idle_no_end, no_end_beside, used_alone, vacant_idle}
use Rattle.sched_blocks.specs.Layout.{Layout}
use Rattle.sched_blocks.specs.Shows.{Shows}
use Rattle.sched_blocks.proofs.LatestLemmas.{in_use_aligned}

-- What a call notes in the tree of ends, and in that of busy processors.
abbrev pub NotesEnd : ℕ → Region → ℕ → List ℕ → List ℕ → Type 0
NotesEnd n r end old new =
    (own : ℕ → ℕ) (v : ℕ) → IsNodeOf n v r → AreEnds n own old → HasNoEndBeside n own v → AreEnds n (set own v end) new

abbrev pub NotesUse : ℕ → Region → Bool → List ℕ → List ℕ → Type 0
NotesUse n r is_used old new =
    (used : ℕ → Bool) (v : ℕ) → IsNodeOf n v r → AreBusy n used old → HasNoneBeside n used v → AreBusy n (set used v is_used) new

-- ---- which blocks are held

module _ (w v : Sched) (b c : Layout) (r : Region) (x : ℕ) (k : Shows w b) (safe : IsSafe v) (dims : v.dim ≡ w.dim) (sizes : c.dim ≡ b.dim) (of_r : IsNodeOf w.dim x r)
    (own : ℕ → ℕ) (owns : AreOwnEnds v own) (ends : AreEnds v.dim own c.ends) (out : (s : ℕ) → held_in c.out s ≡ v.occupied s) where
  safe_w : IsSafe w
  safe_w = k.trees.2.safe

  was : AreUsed w k.trees.1
  was = k.trees.2.uses

  dim_is : v.dim ≡ c.dim
  dim_is = dims ∙ k.dim ∙ sym sizes

  node_w : (a : Region) → IsInUse w a → (u : ℕ) × IsNodeOf w.dim u a
  node_w a in_use = IsNodeOf-of_aligned w.dim a (in_use_aligned w a safe_w in_use)

  node_v : (a : Region) → IsInUse v a → (u : ℕ) × IsNodeOf w.dim u a
  node_v a in_use = IsNodeOf-of_aligned w.dim a (subst (λ n. IsAligned n a) dims (in_use_aligned v a safe in_use))

  at_v : (u : ℕ) (a : Region) → IsNodeOf w.dim u a → IsNodeOf v.dim u a
  at_v u a named = subst (λ n. IsNodeOf n u a) (sym dims) named

  -- the block of node x is this one
  here_is : (u : ℕ) (a : Region) → IsNodeOf w.dim u a → u ≡ x → a ≡ r
  here_is u a named here = IsNodeOf-one_region w.dim x a r (subst (λ y. IsNodeOf w.dim y a) here named) of_r

  module _ (is_used : Bool) (uses : AreUsed v (set k.trees.1 x is_used)) where
    -- another block was in use before, and one that was in use still is
    from : (a : Region) → IsInUse v a → ((a ≡ r) × (is_used ≡ true)) ⊎ ((a ≢ r) × IsInUse w a)
    from a in_use =
        let u = node_v a in_use in
        elim (look k.trees.1 x is_used u.0 true ((uses.each u.0 a (at_v u.0 a u.1)).1 in_use)) [
          | inl (here, is) ↦ inl (here_is u.0 a u.1 here, is)
          | inr (other, is) ↦
              inr (λ one. other (IsNodeOf-one_node w.dim u.0 x r (subst (IsNodeOf w.dim u.0) one u.1) of_r), (was.each u.0 a u.1).0 is)
        ]

    to : (a : Region) → a ≢ r → IsInUse w a → IsInUse v a
    to a other in_use =
        let u = node_w a in_use in
        let apart : u.0 ≢ x = λ here. other (here_is u.0 a u.1 here) in
        (uses.each u.0 a (at_v u.0 a u.1)).0 (set_else k.trees.1 x is_used u.0 apart ∙ (was.each u.0 a u.1).1 in_use)

  pub shows_more : AreUsed v (set k.trees.1 x true) → AreBusy v.dim (set k.trees.1 x true) c.busy → (n d : ℕ) → Gives n r.base d (held_in b.used) (held_in c.used) r → Shows v c
  shows_more uses busy n d gives = record {
    dim = dim_is;
    holds = holds;
    only = only;
    out = out;
    trees = (own, set k.trees.1 x true, record { safe = safe; owns = owns; uses = uses; latest = ends; counted = busy });
  }
    where
      in_use_now : IsInUse v r
      in_use_now = (uses.each x r (at_v x r of_r)).0 (set_here k.trees.1 x true)

      -- a block that was held begins elsewhere
      elsewhere : (s : ℕ) (a : Region) → held_in b.used s ≡ Some a → s ≢ r.base
      elsewhere s a is at_base = none_is_some (sym gives.idle ∙ sym (ap (held_in b.used) at_base) ∙ is)

      holds : (a : Region) → IsInUse v a → held_in c.used a.base ≡ Some a
      holds a in_use = elim (from true uses a in_use) [
        | inl (one, is) ↦ subst (λ (y : Region). held_in c.used y.base ≡ Some y) (sym one) gives.held
        | inr (other, before) ↦
            let old : held_in b.used a.base ≡ Some a = k.holds a before in
            gives.others a.base (elsewhere a.base a old) ∙ old
      ]

      only : (s : ℕ) (a : Region) → held_in c.used s ≡ Some a → (a.base ≡ s) × IsInUse v a
      only s a is = elim (cases_eq s r.base) [
        | inl at_base ↦
            let one : r ≡ a = same (sym gives.held ∙ sym (ap (held_in c.used) at_base) ∙ is) in
            (sym (ap (λ (y : Region). y.base) one) ∙ sym at_base, subst (IsInUse v) one in_use_now)
        | inr other ↦
            let old : held_in b.used s ≡ Some a = sym (gives.others s other) ∙ is in
            let found = k.only s a old in
            (found.0, to true uses a (λ one. other (sym found.0 ∙ ap (λ (y : Region). y.base) one)) found.1)
      ]

  pub shows_less : AreUsed v (set k.trees.1 x false) → AreBusy v.dim (set k.trees.1 x false) c.busy → TakesBack r.base (held_in b.used) (held_in c.used) r → Shows v c
  shows_less uses busy back = record {
    dim = dim_is;
    holds = holds;
    only = only;
    out = out;
    trees = (own, set k.trees.1 x false, record { safe = safe; owns = owns; uses = uses; latest = ends; counted = busy });
  }
    where
      holds : (a : Region) → IsInUse v a → held_in c.used a.base ≡ Some a
      holds a in_use = elim (from false uses a in_use) [
        | inl (one, is) ↦ absurd (true≢false (sym is))
        | inr (other, before) ↦
            let old : held_in b.used a.base ≡ Some a = k.holds a before in
            let elsewhere : a.base ≢ r.base = λ at_base. other (same (sym old ∙ ap (held_in b.used) at_base ∙ back.held)) in
            back.others a.base elsewhere ∙ old
      ]

      only : (s : ℕ) (a : Region) → held_in c.used s ≡ Some a → (a.base ≡ s) × IsInUse v a
      only s a is = elim (cases_eq s r.base) [
        | inl at_base ↦ absurd (none_is_some (sym back.idle ∙ sym (ap (held_in c.used) at_base) ∙ is))
        | inr other ↦
            let old : held_in b.used s ≡ Some a = sym (back.others s other) ∙ is in
            let found = k.only s a old in
            (found.0, to false uses a (λ one. other (sym found.0 ∙ ap (λ (y : Region). y.base) one)) found.1)
      ]

-- ---- the calls

module _ (w : Sched) (b c : Layout) (r : Region) (k : Shows w b) (sizes : c.dim ≡ b.dim) where
  tracks : Tracks w k.trees.0 k.trees.1 b.ends b.busy
  tracks = k.trees.2

  end_step : (end : ℕ) → NotesEnd b.dim r end b.ends c.ends → NotesEnd w.dim r end b.ends c.ends
  end_step end step = subst (λ n. NotesEnd n r end b.ends c.ends) (sym k.dim) step

  use_step : (is_used : Bool) → NotesUse b.dim r is_used b.busy c.busy → NotesUse w.dim r is_used b.busy c.busy
  use_step is_used step = subst (λ n. NotesUse n r is_used b.busy c.busy) (sym k.dim) step

  beside_vacant : (x : ℕ) → IsNodeOf w.dim x r → IsVacant w r → HasNoneBeside w.dim k.trees.1 x
  beside_vacant x of_r vacant u within on other = vacant_idle w tracks.safe k.trees.1 tracks.uses x r of_r vacant u within on

  beside_used : (x : ℕ) → IsNodeOf w.dim x r → IsInUse w r → HasNoneBeside w.dim k.trees.1 x
  beside_used x of_r in_use = used_alone w tracks.safe k.trees.1 tracks.uses x (IsNodeOf-in_cube w.dim x r of_r) ((tracks.uses.each x r of_r).1 in_use)

  no_end : (x : ℕ) → HasNoneBeside w.dim k.trees.1 x → HasNoEndBeside w.dim k.trees.0 x
  no_end x none = no_end_beside w tracks.safe k.trees.1 tracks.uses k.trees.0 tracks.owns x none

  node_of_r : IsAligned b.dim r → (x : ℕ) × IsNodeOf w.dim x r
  node_of_r aligned = IsNodeOf-of_aligned w.dim r (subst (λ n. IsAligned n r) (sym k.dim) aligned)

  pub start_shows : (j : ℕ) (wait : SchedWait) (end n d : ℕ) → IsAligned b.dim r → Waits w j wait → IsVacant w r → r.dim ≡ wait.job.dim → end ≡ end_after w.now wait.job.estimate
      → c.out ≡ b.out → Gives n r.base d (held_in b.used) (held_in c.used) r
      → NotesEnd b.dim r end b.ends c.ends → NotesUse b.dim r true b.busy c.busy → Shows (start j wait.job r w) c
  start_shows j wait end n d aligned waits vacant size at_end outs gives ends busy =
      let x = node_of_r aligned in
      let none = beside_vacant x.0 x.1 vacant in
      let later : AreEnds w.dim (set k.trees.0 x.0 (end_after w.now wait.job.estimate)) c.ends =
      subst (λ e. AreEnds w.dim (set k.trees.0 x.0 e) c.ends) at_end (end_step end ends k.trees.0 x.0 x.1 tracks.latest (no_end x.0 none)) in
      shows_more w (start j wait.job r w) b c r x.0 k
      (start_safe w j wait r tracks.safe waits (subst (λ n. IsAligned n r) (sym k.dim) aligned) size vacant) refl sizes x.1
      (set k.trees.0 x.0 (end_after w.now wait.job.estimate))
      (start_own w k.trees.0 tracks.owns j x.0 wait wait.job r waits vacant.0 x.1) later
      (λ s. ap (λ (f : Fit). held_in f s) outs ∙ k.out s)
      (start_used w k.trees.1 tracks.uses j x.0 wait wait.job r waits x.1)
      (use_step true busy k.trees.1 x.0 x.1 tracks.counted none) n d gives

  pub finish_shows : (j : ℕ) (run : SchedRun) → Runs w j run → run.block ≡ r → c.out ≡ b.out → TakesBack r.base (held_in b.used) (held_in c.used) r
      → NotesEnd b.dim r 0 b.ends c.ends → NotesUse b.dim r false b.busy c.busy → Shows (finish j w) c
  finish_shows j run runs is outs back ends busy =
      let in_use : IsInUse w r = inl (j, ap block_of runs ∙ ap (λ (y : Region). Some y) is) in
      let x = IsNodeOf-of_aligned w.dim r (in_use_aligned w r tracks.safe in_use) in
      let of_run : IsNodeOf w.dim x.0 run.block = subst (IsNodeOf w.dim x.0) (sym is) x.1 in
      let none = beside_used x.0 x.1 in_use in
      shows_less w (finish j w) b c r x.0 k (finish_safe w j run tracks.safe runs) refl sizes x.1 (set k.trees.0 x.0 0)
      (finish_own w k.trees.0 tracks.owns j x.0 run tracks.safe runs of_run)
      (end_step 0 ends k.trees.0 x.0 x.1 tracks.latest (no_end x.0 none))
      (λ s. ap (λ (f : Fit). held_in f s) outs ∙ k.out s)
      (finish_used w k.trees.1 tracks.uses j x.0 run tracks.safe runs of_run)
      (use_step false busy k.trees.1 x.0 x.1 tracks.counted none) back

  -- an end of 0 where none was changes none
  own_same : (x u : ℕ) → k.trees.0 x ≡ 0 → set k.trees.0 x 0 u ≡ k.trees.0 u
  own_same x u none = elim (cases_eq u x) [
    | inl here ↦ ap (set k.trees.0 x 0) here ∙ set_here k.trees.0 x 0 ∙ sym none ∙ ap k.trees.0 (sym here)
    | inr other ↦ set_else k.trees.0 x 0 u other
  ]

  -- so the tree of ends is still right for the old ones
  ends_stay : (x : ℕ) → IsNodeOf w.dim x r → k.trees.0 x ≡ 0 → HasNoneBeside w.dim k.trees.1 x → NotesEnd b.dim r 0 b.ends c.ends → AreEnds w.dim k.trees.0 c.ends
  ends_stay x of_r zero_end none ends =
      ends_alike w.dim (set k.trees.0 x 0) k.trees.0 c.ends (λ u within. own_same x u zero_end) (end_step 0 ends k.trees.0 x of_r tracks.latest (no_end x none))

  pub occupy_shows : (n d m e : ℕ) → IsAligned b.dim r → IsVacant w r → Gives n r.base d (held_in b.used) (held_in c.used) r → Gives m r.base e (held_in b.out) (held_in c.out) r
      → NotesEnd b.dim r 0 b.ends c.ends → NotesUse b.dim r true b.busy c.busy → Shows (occupy r w) c
  occupy_shows n d m e aligned vacant gives out_gives ends busy =
      let x = node_of_r aligned in
      let none = beside_vacant x.0 x.1 vacant in
      let cube = IsNodeOf-in_cube w.dim x.0 r x.1 in
      let idle : k.trees.1 x.0 ≡ false = vacant_idle w tracks.safe k.trees.1 tracks.uses x.0 r x.1 vacant x.0 cube (inl (OnPath-self x.0 cube.0)) in
      let zero_end : k.trees.0 x.0 ≡ 0 = idle_no_end w tracks.safe k.trees.1 tracks.uses k.trees.0 tracks.owns x.0 cube idle in
      shows_more w (occupy r w) b c r x.0 k (occupy_safe w r tracks.safe (subst (λ n. IsAligned n r) (sym k.dim) aligned) vacant) refl sizes x.1 k.trees.0
      (occupy_own w k.trees.0 tracks.owns r) (ends_stay x.0 x.1 zero_end none ends) out
      (occupy_used w k.trees.1 tracks.uses x.0 r tracks.safe vacant x.1)
      (use_step true busy k.trees.1 x.0 x.1 tracks.counted none) n d gives
    where
      out : (s : ℕ) → held_in c.out s ≡ set w.occupied r.base (Some r) s
      out s = elim (cases_eq s r.base) [
        | inl at_base ↦ ap (held_in c.out) at_base ∙ out_gives.held ∙ sym (ap (set w.occupied r.base (Some r)) at_base ∙ set_here w.occupied r.base (Some r))
        | inr other ↦ out_gives.others s other ∙ k.out s ∙ sym (set_else w.occupied r.base (Some r) s other)
      ]

  pub vacate_shows : w.occupied r.base ≡ Some r → TakesBack r.base (held_in b.used) (held_in c.used) r → TakesBack r.base (held_in b.out) (held_in c.out) r
      → NotesEnd b.dim r 0 b.ends c.ends → NotesUse b.dim r false b.busy c.busy → Shows (vacate r w) c
  vacate_shows is back out_back ends busy =
      let in_use : IsInUse w r = inr (r.base, is) in
      let x = IsNodeOf-of_aligned w.dim r (in_use_aligned w r tracks.safe in_use) in
      let none = beside_used x.0 x.1 in_use in
      let cube = IsNodeOf-in_cube w.dim x.0 r x.1 in
      shows_less w (vacate r w) b c r x.0 k (vacate_safe w r tracks.safe) refl sizes x.1 k.trees.0
      (vacate_own w k.trees.0 tracks.owns r) (ends_stay x.0 x.1 (no_own x.0 x.1 cube) none ends) out
      (vacate_used w k.trees.1 tracks.uses x.0 r tracks.safe is x.1)
      (use_step false busy k.trees.1 x.0 x.1 tracks.counted none) back
    where
      -- what is out of service has no end
      no_own : (x : ℕ) → IsNodeOf w.dim x r → IsInCube w.dim x → k.trees.0 x ≡ 0
      no_own x of_r cube = elim (tracks.owns.none x cube) [
        | inl none ↦ none
        | inr (j, run, runs, named) ↦
            let one : run.block ≡ r = IsNodeOf-one_region w.dim x run.block r named of_r in
            let apart : AreApart run.block r = tracks.safe.apart j r.base run.block r (ap block_of runs) is in
            let apart_self : AreApart r r = subst (λ (y : Region). AreApart y r) one apart in
            let inside : r.base < r.base + 2 ^ r.dim = omega (arith, pow_pos r.dim) in
            absurd (apart_self r.base (omega arith, inside) (omega arith, inside))
      ]

      out : (s : ℕ) → held_in c.out s ≡ set w.occupied r.base None s
      out s = elim (cases_eq s r.base) [
        | inl at_base ↦ ap (held_in c.out) at_base ∙ out_back.idle ∙ sym (ap (set w.occupied r.base None) at_base ∙ set_here w.occupied r.base None)
        | inr other ↦ out_back.others s other ∙ k.out s ∙ sym (set_else w.occupied r.base None s other)
      ]
