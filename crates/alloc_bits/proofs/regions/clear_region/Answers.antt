use Rattle.alloc_bits.proofs.RepresentsLemmas.{Represents-taken_back}
use Rattle.alloc_bits.proofs.regions.clear_region.Goals as goal

pub returns-clause-taken_back : goal.returns-clause-taken_back
returns-clause-taken_back c = λ station old new represents back.
    Represents-taken_back c.args.n station old new c.args.bits.now c.write.new.bits c.args.region c.write.ensures.len c.write.ensures.outside represents back c.write.ensures.inside
