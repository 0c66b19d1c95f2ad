use Rattle.std.proofs.Common.{IsPermutation}
use Rattle.dispatcher.proofs.sorting.place.Given as goal

-- The replies are in another order.
abbrev pub invariant-loop : goal.invariant-loop
invariant-loop l = IsPermutation l.initial.replies l.replies
