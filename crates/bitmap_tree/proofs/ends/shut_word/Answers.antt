use Rattle.std.proofs.Common.{rules, ◌≡◌, ◌<◌, ◌-◌, ◌/◌, ◌%◌, refl, arith, length, length-set, slice_index, slice_set}
use Rattle.std.proofs.lemmas.List.{get_or_read_under}
use Rattle.bitmap_tree.proofs.CloseLemmas.{shut_here, shut_kept_at}
use Rattle.bitmap_tree.proofs.ends.shut_word.Goals as goal

pub returns-then-index-ne0-clause-shut : goal.returns-then-index-ne0-clause-shut
returns-then-index-ne0-clause-shut c = λ held shut. shut_kept_at c.args.n held c.args.word c.index.result.now c.args.words.now.items c.requires.word.1
    (get_or_read_under c.args.words.now.items c.args.word (length c.args.words.now.items) c.index.result.now 0 c.index.ensures c.requires.word.1 refl) (search rules) c.if-index-ne0.true shut

pub returns-clause-shut : goal.returns-clause-shut
returns-clause-shut c = λ held shut.
    let read : c.index.result.now ≡ slice_index c.args.words.now.items c.args.word = get_or_read_under c.args.words.now.items c.args.word (length c.args.words.now.items) c.index.result.now 0 c.index.ensures c.requires.word.1 refl in
    let empty : slice_index c.args.words.now.items c.args.word ≡ 0 = omega (arith, read, c.if-index-ne0.false) in
    let long : length (slice_set c.args.words.now.items c.args.word 18446744073709551615) ≡ length c.args.words.now.items = length-set c.args.words.now.items c.args.word 18446744073709551615 in
    let low : (c.args.word - 1) / 64 < length (slice_set c.args.words.now.items c.args.word 18446744073709551615) = omega (arith, long, c.requires.word.1) in
    let kept : c.index-2.result.now ≡ slice_index (slice_set c.args.words.now.items c.args.word 18446744073709551615) ((c.args.word - 1) / 64) =
    get_or_read_under (slice_set c.args.words.now.items c.args.word 18446744073709551615) ((c.args.word - 1) / 64) (length (slice_set c.args.words.now.items c.args.word 18446744073709551615)) c.index-2.result.now 0 c.index-2.ensures low refl in
    shut_here c.args.n held c.args.word ((c.args.word - 1) / 64) ((c.args.word - 1) % 64) c.index-2.result.now c.mask_of-mask.result c.args.words.now.items c.requires.word.0 c.requires.word.1 empty refl refl c.mask_of-mask.ensures kept shut
