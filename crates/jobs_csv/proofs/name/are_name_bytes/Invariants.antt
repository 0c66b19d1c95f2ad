use Rattle.std.proofs.Common.{◌≡◌, drop}
use Rattle.std.specs.List.{list_all}
use Rattle.jobs_csv.specs.Inner.Name.{is_name_byte}
use Rattle.jobs_csv.proofs.name.are_name_bytes.Given as goal

-- the result depends only on the bytes that are left
abbrev pub invariant-loop-byte : goal.invariant-loop-byte
invariant-loop-byte l = list_all is_name_byte (drop l.byte-index l.text) ≡ list_all is_name_byte l.text
