use Rattle.std.proofs.Common.{◌≡◌, ◌+◌, Bool, Some, true, false, is_lt, slice_index_or, refl, ap, subst, ◌∙◌, rules}
use Rattle.std.specs.Cmp.{IsTotalOrder, Some-then}
use Rattle.std.specs.List.{IsAllAdjacentAnswer}
use Rattle.std.specs.Ordering.{is_le, is_some_and, nat_cmp, ordering_reverse, partial_ordering_then}
use Rattle.std.specs.declared.cmp.Ordering.{Ordering}
use Rattle.std.specs.declared.cmp.Ordering.TheVariants.{Less, Equal, Greater}
use Rattle.std.proofs.lemmas.Bool.{true≢false}
use Rattle.std.proofs.lemmas.Cmp.{nat_cmp_total, on_total, then_total}
use Rattle.std.proofs.lemmas.List.Sorted.{answers_always}
use Rattle.job_types.specs.Reply.{ReplyData}
use Rattle.dispatcher.specs.Order.{by_id}
use Rattle.dispatcher.proofs.sorting.are_sorted.Goals as goal

-- The order is one in which each two replies compare.
by_id_total : IsTotalOrder by_id
by_id_total = then_total (on_total (λ r. r.id.lane) nat_cmp_total) (on_total (λ r. r.id.seq) nat_cmp_total)

-- What is not after another is before it or beside it.
not_back : (o : Ordering) → true ≡ is_le o → is_lt (ordering_reverse o) ≡ false
not_back Less upto = refl
not_back Equal upto = refl
not_back Greater upto = absurd (true≢false upto)

-- What the test says of two neighbours.
abbrev upto : ReplyData → ReplyData → Bool
upto a b = is_some_and is_le (partial_ordering_then (Some (nat_cmp a.id.lane b.id.lane)) (Some (nat_cmp a.id.seq b.id.seq)))

pub returns : goal.returns
returns c = λ yes k d low within.
    let replies = c.args.replies.now in
    let first = slice_index_or replies k d in
    let second = slice_index_or replies (k + 1) d in
    let tested = subst (IsAllAdjacentAnswer (λ x y b. b ≡ upto x y) replies) yes
    (c.is_sorted_by_key.ensures.cases (λ r. r.id) (answers_always _ _ _ (λ f a r g h. search rules))) in
    ap is_lt (by_id_total.antisymm second first) ∙ not_back (by_id first second) (tested k d within ∙ ap (is_some_and is_le) (Some-then (nat_cmp first.id.lane second.id.lane) (nat_cmp first.id.seq second.id.seq)))
