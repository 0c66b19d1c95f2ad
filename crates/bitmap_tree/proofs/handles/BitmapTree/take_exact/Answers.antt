use Rattle.std.proofs.Common.{slice_index, subst, sym}
use Rattle.bitmap_tree.specs.Handles.{dim_of}
use Rattle.bitmap_tree.specs.Trail.{IsAlone, WasRefused}
use Rattle.bitmap_tree.proofs.handles.BitmapTree.take_exact.Goals as goal

pub returns-in-Err-clause-refused : goal.returns-in-Err-clause-refused
returns-in-Err-clause-refused c = λ calm. subst (WasRefused (dim_of c.args.self.now) c.args.k) (sym c.refuse.ensures.trail) (c.in-Err.ensures.refused (c.refuse.ensures.quiet calm))

pub returns-in-Err-clause-alone : goal.returns-in-Err-clause-alone
returns-in-Err-clause-alone c = λ words alone. c.in-Err.ensures.alone words (subst (IsAlone (slice_index words)) c.refuse.ensures.trail alone)
