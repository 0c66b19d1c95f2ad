use Rattle.std.proofs.Common.{rules}
use Rattle.cube_shape.specs.declared.limits.TheConstants.{MAX_STATIONS}
use Rattle.cli_commands.proofs.NameLemmas.{named_below_none}
use Rattle.cli_commands.proofs.names.Names.new.Goals as goal

pub returns : goal.returns
returns c = c.in_ok-vec.ensures.items_if_clones_equal (λ y clone. search rules)

pub invariant_of-result : goal.invariant_of-result
invariant_of-result c = named_below_none _ MAX_STATIONS (c.in_ok-vec.ensures.items_if_clones_equal (λ y clone. search rules))
