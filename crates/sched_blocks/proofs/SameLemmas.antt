-- Calls that leave the blocks.
use Rattle.std.proofs.Common.{◌≡◌, ℕ, Option, refl, sym, ◌∙◌, ap, subst}
use Rattle.cube_shape.specs.declared.region.Region.{Region}
use Rattle.cube_shape.specs.Node.{IsNodeOf}
use Rattle.cube_shape.proofs.RegionLemmas.{IsNodeOf-of_aligned}
use Rattle.sched_law.specs.declared.job.SchedJob.{SchedJob}
use Rattle.sched_law.specs.declared.job.SchedWait.{SchedWait}
use Rattle.sched_law.specs.State.{Sched, Waits, at, cancel, pass, reserve, submit}
use Rattle.sched_law.specs.Policy.{IsHead, Prepares}
use Rattle.sched_law.specs.Policy as policy
use Rattle.sched_law.specs.Law.{IsSafe, IsSound}
use Rattle.sched_law.proofs.SafeLemmas.{at_safe, cancel_safe, pass_safe, prepare_safe, submit_safe}
use Rattle.sched_blocks.specs.Ends.{AreEnds}
use Rattle.sched_blocks.specs.Busy.{AreBusy}
use Rattle.sched_blocks.specs.Use.{AreOwnEnds, AreUsed, IsInUse}
use Rattle.sched_blocks.proofs.FollowLemmas.{at_own, at_used, cancel_own, cancel_used, pass_own, pass_used, reserve_own, reserve_used, submit_own, submit_used}
use Rattle.sched_blocks.specs.Layout.{Layout}
use Rattle.sched_blocks.specs.Shows.{Shows}
use Rattle.sched_blocks.proofs.LatestLemmas.{in_use_aligned}

module _ (w v : Sched) (b : Layout) (k : Shows w b) (safe : IsSafe v) (dims : v.dim ≡ w.dim) where
  pub shows_same : AreOwnEnds v k.trees.0 → AreUsed v k.trees.1 → v.occupied ≡ w.occupied → Shows v b
  shows_same owns uses outs = record {
    dim = dims ∙ k.dim;
    holds = λ a in_use. k.holds a (into a in_use);
    only = λ s a is. let found = k.only s a is in (found.0, back a found.1);
    out = λ s. k.out s ∙ ap (λ (f : ℕ → Option Region). f s) (sym outs);
    trees = (
      k.trees.0,
      k.trees.1,
      record {
        safe = safe;
        owns = owns;
        uses = uses;
        latest = subst (λ n. AreEnds n k.trees.0 b.ends) (sym dims) k.trees.2.latest;
        counted = subst (λ n. AreBusy n k.trees.1 b.busy) (sym dims) k.trees.2.counted;
      },
    );
  }
    where
      into : (a : Region) → IsInUse v a → IsInUse w a
      into a in_use =
          let u = IsNodeOf-of_aligned v.dim a (in_use_aligned v a safe in_use) in
          (k.trees.2.uses.each u.0 a (subst (λ n. IsNodeOf n u.0 a) dims u.1)).0 ((uses.each u.0 a u.1).1 in_use)

      back : (a : Region) → IsInUse w a → IsInUse v a
      back a in_use =
          let u = IsNodeOf-of_aligned w.dim a (in_use_aligned w a k.trees.2.safe in_use) in
          (uses.each u.0 a (subst (λ n. IsNodeOf n u.0 a) (sym dims) u.1)).0 ((k.trees.2.uses.each u.0 a u.1).1 in_use)

module _ (w : Sched) (b : Layout) (k : Shows w b) where
  pub submit_shows : (job : SchedJob) → IsSound w.dim job → Shows (submit job w) b
  submit_shows job sound =
      shows_same w (submit job w) b k (submit_safe w job k.trees.2.safe sound) refl (submit_own w k.trees.0 k.trees.2.owns job k.trees.2.safe) (submit_used w k.trees.1 k.trees.2.uses job k.trees.2.safe) refl

  pub cancel_shows : (j : ℕ) (wait : SchedWait) → Waits w j wait → Shows (cancel j w) b
  cancel_shows j wait waits =
      shows_same w (cancel j w) b k (cancel_safe w j k.trees.2.safe) refl (cancel_own w k.trees.0 k.trees.2.owns j wait waits) (cancel_used w k.trees.1 k.trees.2.uses j wait waits) refl

  pub at_shows : (t : ℕ) → Shows (at t w) b
  at_shows t = shows_same w (at t w) b k (at_safe w t k.trees.2.safe) refl (at_own w k.trees.0 k.trees.2.owns t) (at_used w k.trees.1 k.trees.2.uses t) refl

  pub pass_shows : (h : ℕ) (head : SchedWait) (d : ℕ) → Waits w h head → Shows (pass h head d w) b
  pass_shows h head d waits =
      shows_same w (pass h head d w) b k (pass_safe w h head d k.trees.2.safe waits) refl (pass_own w k.trees.0 k.trees.2.owns h head d waits) (pass_used w k.trees.1 k.trees.2.uses h head d waits) refl

  pub reserve_shows : (j : ℕ) (r : Region) → IsSafe (reserve j r w) → Shows (reserve j r w) b
  reserve_shows j r safe =
      shows_same w (reserve j r w) b k safe refl (reserve_own w k.trees.0 k.trees.2.owns j r) (reserve_used w k.trees.1 k.trees.2.uses j r) refl

pub prepare_shows : (w v : Sched) (b : Layout) → Shows w b → (h : ℕ) (head : SchedWait) → IsHead w h head → Prepares w h head v → Shows v b
prepare_shows w _ b k h head is (policy.keeps reserved stands) = k
prepare_shows w _ b k h head is (policy.defers r none chooses latest few) = k
prepare_shows w _ b k h head is (policy.reserves r t none chooses latest enough) =
    reserve_shows w b k h r (prepare_safe w (reserve h r w) h head k.trees.2.safe is (policy.reserves r t none chooses latest enough))
