use Rattle.alloc_bits.proofs.RepresentsLemmas.{Represents-given}
use Rattle.alloc_bits.proofs.regions.set_region.Goals as goal

pub returns-clause-given : goal.returns-clause-given
returns-clause-given c = λ station k old new represents gives.
    Represents-given c.args.n station old new c.args.bits.now c.write.new.bits c.args.region c.write.ensures.len c.write.ensures.outside represents k gives c.write.ensures.inside
