-- The level is done, by a load or without one.
use Rattle.std.proofs.Common.{◌≡◌, ◌+◌, ◌<◌, arith, ap, sym, subst, ◌∙◌}
use Rattle.bitmap_tree.specs.Handles.{dim_of}
use Rattle.bitmap_tree.specs.Rule.{word_count}
use Rattle.bitmap_occupancy.proofs.LevelLemmas.{word_here}
use Rattle.bitmap_occupancy.proofs.ReadLemmas.{read_more, read_none}
use Rattle.bitmap_occupancy.specs.InnerPass.{word_at, IsReadTo}
use Rattle.bitmap_occupancy.proofs.pass.read_word.Goals as goal

pub returns-in_default-clause-read : goal.returns-in_default-clause-read
returns-in_default-clause-read c = read_none (dim_of c.args.tree.now) c.args.processor c.args.level c.args.seat.now.me.0.trail c.in_default.ensures.other c.requires.read

pub read-requires-clause-word : goal.read-requires-clause-word
read-requires-clause-word c =
    let n = dim_of c.args.tree.now in let p = c.args.processor in let level = c.args.level in
    let is : c.in-Some.word ≡ word_at n level p = c.in-Some.ensures.first.1 ∙ ap (λ d. word_at d level p) c.dim.ensures.dim in
    subst (λ w. w < word_count n) (sym is) (word_here n level p (omega (arith, c.requires.level)) c.requires.processor)

pub returns-clause-read : goal.returns-clause-read
returns-clause-read c =
    let n = dim_of c.args.tree.now in let p = c.args.processor in let level = c.args.level in
    let is : c.in-Some.word ≡ word_at n level p = c.in-Some.ensures.first.1 ∙ ap (λ d. word_at d level p) c.dim.ensures.dim in
    subst (IsReadTo n p (level + 1)) (sym c.read.ensures.read)
    (read_more n p level c.in-Some.word c.read.result c.args.seat.now.me.0.trail c.requires.processor c.requires.level c.in-Some.ensures.first.0 is c.requires.read)
