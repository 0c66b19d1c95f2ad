use Rattle.std.proofs.Common.{false, arith}
use Rattle.alloc_bits.proofs.BitLemmas.{all-part, part-all}
use Rattle.alloc_bits.proofs.bits.is_clear.Goals as goal

pub returns : goal.returns
returns c = (
  λ is. all-part false c.args.bits.now c.args.region c.bit_range-start.result.0 c.bit_range-start.result.1 c.bit_range-start.ensures.start c.bit_range-start.ensures.end (omega arith) (c.none_set.ensures.0 is),
  λ all. c.none_set.ensures.1 (part-all false c.args.bits.now c.args.region c.bit_range-start.result.0 c.bit_range-start.result.1 c.bit_range-start.ensures.start c.bit_range-start.ensures.end (omega arith) all),
)
