use Rattle.std.proofs.Common.{◌≡◌, [], ◌++◌, drop, length, take, ap, subst, ◌∙◌, arith, rules}
use Rattle.std.specs.List.Sorted.{IsPermutation}
use Rattle.std.proofs.lemmas.List.{append-nil, drop_all, take_all}
use Rattle.std.proofs.lemmas.List.Sorted.{IsPermutation-trans, answers_always, length_permutation}
use Rattle.dispatcher.proofs.sorting.sort.Goals as goal

pub returns-clause-same : goal.returns-clause-same
returns-clause-same c =
    let before = c.args.replies.now.items in
    let placed = c.place_all.new.replies in
    let sorted = c.sort_unstable_by_key.new.self.items in
    let same : c.deref_mut.result.now ≡ before = search rules in
    let moved = subst (λ then. IsPermutation then placed) same c.place_all.ensures in
    let count = length_permutation before placed moved in
    let rest : drop (length placed) before ≡ [] = drop_all (length placed) before (omega (arith, count)) in
    let len : c.args.replies.now.len ≡ length before = search rules in
    let whole : take c.args.replies.now.len (placed ++ drop (length placed) before) ≡ placed =
    ap (λ more. take c.args.replies.now.len (placed ++ more)) rest
    ∙ ap (take c.args.replies.now.len) (append-nil placed)
    ∙ take_all c.args.replies.now.len placed (omega (arith, count, len)) in
    IsPermutation-trans before placed sorted moved
    (subst (λ now. IsPermutation now sorted) whole c.sort_unstable_by_key.ensures.permutation)

pub returns-clause-sorted : goal.returns-clause-sorted
returns-clause-sorted c = c.sort_unstable_by_key.ensures.sorted (λ r. r.id) (answers_always _ _ _ (λ f a r g h. search rules))
