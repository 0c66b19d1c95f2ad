use Rattle.std.proofs.Common.{◌-◌, ◌^◌, ◌*◌, ◌%◌, rules, refl, ap, arith}
use Rattle.std.proofs.lemmas.Nat.{one_shl}
use Rattle.cube_tree.proofs.EndLemmas.{missing_bits}
use Rattle.cube_tree.proofs.ends.missing_in.Goals as goal

pub returns : goal.returns
returns c = missing_bits c.args.stations c.args.roll (1 * 2 ^ c.args.stations % 2 ^ 64 - 1) _ c.requires (search rules) (ap (λ x. x - 1) (one_shl c.args.stations 64 (omega arith))) refl
