-- The fields of a tag do not overlap.
use Rattle.std.proofs.Common.{arith}
use Rattle.cubejobs_regions.proofs.TagLemmas.{base_is_in, held_tag, region_tag}
use Rattle.cubejobs_regions.proofs.tag.tag_of.Goals as goal

pub returns-clause-held : goal.returns-clause-held
returns-clause-held c = let r = c.args.region in
    held_tag r.base r.dim c.args.n (base_is_in r.base r.dim c.args.n c.requires.n c.requires.within)
    (omega (arith, c.requires.n, c.requires.dim)) (omega (arith, c.requires.n))

pub returns-clause-region : goal.returns-clause-region
returns-clause-region c = let r = c.args.region in
    region_tag r c.args.n (base_is_in r.base r.dim c.args.n c.requires.n c.requires.within)
    (omega (arith, c.requires.n, c.requires.dim)) (omega (arith, c.requires.n))
