use Rattle.cube_ledger.proofs.AncestorLemmas.{ancestor_found, ancestor_seen}
use Rattle.cube_ledger.proofs.RegionLemmas.{empty_machine}
use Rattle.cube_ledger.proofs.counting.occupancy.Goals as goal

pub returns-clause-wholly_free : goal.returns-clause-wholly_free
returns-clause-wholly_free c = empty_machine c.args.n c.args.words.now
    record { free = c.free_by_dim-free.result; held = c.held_processors.result; largest = c.largest_free.result }
    c.free_by_dim-free.ensures.free c.free_by_dim-free.ensures.none_above c.held_processors.ensures c.largest_free.ensures

pub returns-clause-above : goal.returns-clause-above
returns-clause-above c = λ node levels deep within. (ancestor_found c.args.words.now levels node deep, ancestor_seen c.args.words.now levels node deep within)
