use Rattle.std.proofs.Common.{ℕ, ◌<◌, ◌≤◌, length, slice_set, take, arith, rules}
use Rattle.cli_commands.specs.Inner.Names.{AreNamedBelow}
use Rattle.cli_commands.proofs.NameLemmas.{named_below_front, named_below_set}
use Rattle.cli_commands.proofs.names.Names.set.Goals as goal

pub invariant_of-self : goal.invariant_of-self
invariant_of-self c =
    let names = c.self.inside.list.items in
    let used : ℕ = c.self.inside.used in
    let most : ℕ = c.max.result in
    let fits : c.args.station < length names = search rules in
    let more : used ≤ most = omega (arith, c.max.ensures) in
    let in_most : c.args.station < most = omega (arith, c.max.ensures) in
    let within : most ≤ length names = omega (arith, c.max.ensures, fits, c.self.invariant.within) in
    let front : AreNamedBelow c.used_in-self-inside.result (take most (slice_set names c.args.station c.args.name)) = search rules in
    named_below_front _ most (named_below_set names used c.self.invariant c.args.station most c.args.name more in_most within) c.used_in-self-inside.result front
