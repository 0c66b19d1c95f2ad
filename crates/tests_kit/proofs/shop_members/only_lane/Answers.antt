use Rattle.std.proofs.Common.{ap}
use Rattle.tests_kit.proofs.PairLemmas.{only_of_one}
use Rattle.tests_kit.proofs.OnlyLemmas.{one_mapped, only_mapped}
use Rattle.tests_kit.proofs.shop_members.only_lane.Goals as goal

pub only-requires : goal.only-requires
only-requires g c = one_mapped g.L.JobLine.lane_record _ _ c.requires.fresh

pub returns-clause-lane : goal.returns-clause-lane
returns-clause-lane g c = only_of_one (g.L.JobLine.is_lane c.args.shop.now.line) _ _ c.only.ensures.member c.requires.lanes

pub returns-clause-number : goal.returns-clause-number
returns-clause-number g c = ap (λ lane. lane.number) (only_mapped g.L.JobLine.lane_record _ _ _ c.only.ensures.member c.requires.fresh)
