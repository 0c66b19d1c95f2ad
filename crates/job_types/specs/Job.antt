-- What a contract sees of a job, and which requests are refused.
use Rattle.std.specs.Prelude.{ℕ, ◌^◌, Bool, false, not, List, length, Option, Some, None, nat_lt, ◌==◌, if◌then◌else◌}
use Rattle.job_types.specs.declared.kind.Kind.{Kind}
use Rattle.job_types.specs.declared.kind.Kind.TheVariants.{Broadcast, Reduce}
use Rattle.job_types.specs.declared.request.JobRefused.{JobRefused}
use Rattle.job_types.specs.declared.request.JobRefused.TheVariants.{Empty, TooLarge, BadRoot}

-- A job: the dimension of its machine, the lane that it was made for, its collective and its items.
pub record JobData : Type 0 where
  pub machine : ℕ
  pub lane : ℕ
  pub kind : Kind
  pub items : List ℕ

-- The collective has a root, and it is none of the first `places` places.
abbrev pub has_bad_root : Kind → ℕ → Bool
has_bad_root (Broadcast root) places = not (nat_lt root places)
has_bad_root (Reduce op root) places = not (nat_lt root places)
has_bad_root _ places = false

-- The first reason why a machine of dimension `n` refuses these items, or `None`. Either there are
-- none, or more than `2^n`, or the root is not the place of an item.
abbrev pub refusal_of : ℕ → Kind → List ℕ → Option JobRefused
refusal_of n kind items =
    if length items == 0 then Some Empty
    else if nat_lt (2 ^ n) (length items) then Some TooLarge
    else if has_bad_root kind (length items) then Some BadRoot
    else None
