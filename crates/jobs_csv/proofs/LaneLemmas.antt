-- Lanes of jobs.
use Rattle.std.proofs.Common.{◌≡◌, ℕ, ◌+◌, List, [], ◌∷◌, ◌++◌, All, length, Global, refl, arith}
use Rattle.std.specs.declared.collections.VecDeque.{VecDeque}
use Rattle.std.proofs.lemmas.List.{length_push}
use Rattle.std.proofs.lemmas.List.Elements.{All-push}
use Rattle.job_types.specs.Job.{JobData}
use Rattle.cube_shape.specs.declared.limits.TheConstants.{MAX_LANES}
use Rattle.jobs_csv.specs.Lanes.{AreLanes}

-- `count` queues with no job
pub record AreEmpty (lanes : List (VecDeque JobData Global)) (count : ℕ) : Type 0 where
  pub length : length lanes ≡ count
  pub empty : All (λ lane. lane.items ≡ []) lanes

pub one_more_empty : (lanes : List (VecDeque JobData Global)) (count : ℕ)
    (lane : VecDeque JobData Global) → AreEmpty lanes count → lane.items ≡ []
    → AreEmpty (lanes ++ lane ∷ []) (count + 1)
one_more_empty lanes count lane k none = record {
  length = omega (arith, k.length, length_push lanes lane);
  empty = All-push (λ (l : VecDeque JobData Global). l.items ≡ []) lanes lane k.empty none;
}

pub no_lanes : AreEmpty [] 0
no_lanes = record { length = refl; empty = λ k d lt. absurd (omega (arith, lt)) }

pub none_in_lanes : (lanes : List (VecDeque JobData Global))
    → AreEmpty lanes MAX_LANES
    → AreLanes lanes []
none_in_lanes lanes k = record {
  count = k.length;
  below = λ j d lt. absurd (omega (arith, lt));
  each = λ lane none lt. k.empty lane none (omega (arith, lt, k.length));
}
