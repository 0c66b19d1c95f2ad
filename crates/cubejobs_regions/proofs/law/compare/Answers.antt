-- The blocks are those that the machine's own comparison found apart.
use Rattle.std.proofs.Common.{subst}
use Rattle.cube_shape.specs.Region.{AreApart}
use Rattle.bitmap_tree.specs.Handles.{held_region}
use Rattle.cubejobs_regions.specs.Held.{held_at}
use Rattle.cubejobs_regions.specs.Machine.{number_of}
use Rattle.cubejobs_regions.proofs.law.compare.Goals as goal

pub returns-clause-apart : goal.returns-clause-apart
returns-clause-apart c = λ yes.
    let number = number_of c.args.machine.now in let both = c.apart-first.result in let e = c.apart-first.ensures in
    record {
      first = held_at number c.take_out-first.result;
      second = held_at number c.take_out-second.result;
      first_after = held_at c.number-number.result both.0;
      second_after = held_at c.number-number.result both.1;
      was_first = c.take_out-first.ensures.held;
      was_second = c.take_out-second.ensures.held;
      is_first = c.put.ensures;
      is_second = c.put-2.ensures;
      same_first = e.first_region;
      same_second = e.second_region;
      apart = subst (λ r. AreApart r (held_region c.take_out-second.result)) e.first_region
          (subst (λ r. AreApart (held_region both.0) r) e.second_region e.apart);
    }
