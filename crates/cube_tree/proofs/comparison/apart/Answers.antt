use Rattle.std.proofs.Common.{◌∙◌, sym}
use Rattle.cube_tree.specs.Handles.{subcube_entry}
use Rattle.cube_tree.proofs.ApartLemmas.{both_there, two_off, regions_apart}
use Rattle.cube_tree.proofs.comparison.apart.Goals as goal

pub returns-clause-apart : goal.returns-clause-apart
returns-clause-apart c = regions_apart c.args.a c.args.b (c.requires.first ∙ sym c.requires.second)
    (two_off _ (subcube_entry c.args.a) (subcube_entry c.args.b) (both_there _ c.args.a.holds c.args.b.holds c.merge.ensures.merged) c.compare.ensures.apart)
