-- There is one count for each dimension.
use Rattle.std.proofs.Common.{sym}
use Rattle.fit_tree.proofs.CheckLemmas.{counted_moves, counted_same}
use Rattle.fit_tree.proofs.checks.are_counted.Goals as goal

pub returns : goal.returns
returns c = (
  λ is. counted_moves c.args.n c.count_all.new.counts c.args.counts.now c.args.rooms.now (λ d. sym (c.are_equal.ensures.0 is d)) c.count_all.ensures,
  λ counted. c.are_equal.ensures.1 (counted_same c.args.n c.args.counts.now c.count_all.new.counts c.args.rooms.now counted c.count_all.ensures),
)
