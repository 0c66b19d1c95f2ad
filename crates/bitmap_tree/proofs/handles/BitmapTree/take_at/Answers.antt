use Rattle.std.proofs.Common.{slice_index, subst, sym}
use Rattle.bitmap_tree.specs.Handles.{dim_of}
use Rattle.bitmap_tree.specs.Trail.{IsAlone, WasBlockTaken}
use Rattle.bitmap_tree.proofs.BlockLemmas.{in_aligned}
use Rattle.bitmap_tree.proofs.LayoutLemmas.{base_in}
use Rattle.bitmap_tree.proofs.handles.BitmapTree.take_at.Goals as goal

pub word_near-requires : goal.word_near-requires
word_near-requires c =
    let n = dim_of c.args.self.now in
    base_in n c.args.block.dim c.args.block (in_aligned n c.args.block c.requires.aligned)

pub take_named-requires-clause-block : goal.take_named-requires-clause-block
take_named-requires-clause-block c = in_aligned (dim_of c.args.self.now) c.args.block c.requires.aligned

pub returns-in-Err-clause-refused : goal.returns-in-Err-clause-refused
returns-in-Err-clause-refused c = λ calm. subst (WasBlockTaken (dim_of c.args.self.now) c.args.block) (sym c.refuse.ensures.trail) (c.in-Err.ensures.refused (c.refuse.ensures.quiet calm))

pub returns-in-Err-clause-alone : goal.returns-in-Err-clause-alone
returns-in-Err-clause-alone c = λ words alone. c.in-Err.ensures.alone words (subst (IsAlone (slice_index words)) c.refuse.ensures.trail alone)
