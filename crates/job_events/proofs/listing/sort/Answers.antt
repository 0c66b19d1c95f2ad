use Rattle.std.proofs.Common.{rules}
use Rattle.std.proofs.lemmas.List.Sorted.{IsNonDecreasingBy-from_sort_by_key}
use Rattle.job_events.proofs.listing.sort.Goals as goal

pub returns-in_default-clause-sorted : goal.returns-in_default-clause-sorted
returns-in_default-clause-sorted c = IsNonDecreasingBy-from_sort_by_key (λ event. event.number) _ c.sort_unstable_by_key.ensures.sorted (λ a r q k. search rules)

pub returns-clause-sorted : goal.returns-clause-sorted
returns-clause-sorted c = IsNonDecreasingBy-from_sort_by_key (λ event. event.number) _ c.in-Ok.ensures.sorted (λ a r q k. search rules)
