use Rattle.alloc_bits.specs.Allocation.{held_in}
use Rattle.cli_commands.proofs.StationLemmas.{names_agree_none, named_holdings_none}
use Rattle.cli_commands.proofs.stations.Stations.new.Goals as goal

pub returns-clause-made : goal.returns-clause-made
returns-clause-made c = names_agree_none _ (held_in c.in_ok-new.field-0) c.in_ok-new-2.ensures c.in_ok-new.ensures.free

pub returns-clause-free : goal.returns-clause-free
returns-clause-free c =
    named_holdings_none _ (held_in c.in_ok-new.field-0) (names_agree_none _ (held_in c.in_ok-new.field-0) c.in_ok-new-2.ensures c.in_ok-new.ensures.free) c.in_ok-new.ensures.free
