use Rattle.std.proofs.Common.{◌≡◌, take}
use Rattle.job_types.proofs.rounds.copy_numbers.Given as goal

-- the numbers so far are those of their places
abbrev pub invariant-loop-place : goal.invariant-loop-place
invariant-loop-place g l = take l.place l.numbers ≡ take l.place l.places
