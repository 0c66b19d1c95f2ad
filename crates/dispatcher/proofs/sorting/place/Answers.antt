use Rattle.std.proofs.lemmas.List.Sorted.{IsPermutation-trans}
use Rattle.dispatcher.proofs.sorting.place.Goals as goal

pub loop-preserved : goal.loop-preserved
loop-preserved c = IsPermutation-trans c.args.replies.now c.loop.replies c.swap-in-loop.new.self c.loop.invariant c.swap-in-loop.ensures.permutation
