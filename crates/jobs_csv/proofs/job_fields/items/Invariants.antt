use Rattle.std.proofs.Common.{◌≡◌, ◌==◌, ◌++◌, length, drop, option_map}
use Rattle.std.specs.List.{slice_split}
use Rattle.jobs_csv.specs.JobFields.{all_numbers}
use Rattle.jobs_csv.proofs.job_fields.items.Given as goal

-- the items so far are the numbers of the pieces so far
abbrev pub invariant-loop-piece : goal.invariant-loop-piece
invariant-loop-piece l =
    let pieces = slice_split (λ byte. byte == 32) l.field in
    all_numbers pieces ≡ option_map (λ more. l.items.items ++ more) (all_numbers (drop (length l.yielded) pieces))
