use Rattle.std.proofs.Common.{map}
use Rattle.std.proofs.lemmas.List.Elements.{All-push, All-same, All-pop}
use Rattle.dispatcher.specs.Reply.{region_of}
use Rattle.dispatcher.proofs.GrantLemmas.{granted_last}
use Rattle.dispatcher.proofs.finishing.answer_rest.Goals as goal

pub returns-clause-stations : goal.returns-clause-stations
returns-clause-stations g c =
    let floor = g.F.Floor in
    let P = floor.is_station (floor.id c.args.floor.now) in
    let others = (All-pop P c.args.stations.items c.pop.new.self.items c.pop.result c.pop.ensures.items c.requires.stations).0 in
    All-same P _ _ c.push_reserved.ensures.items (All-push P c.pop.new.self.items c.answer_jobs-back.result.0 others c.answer_jobs-back.ensures.station)

pub returns-clause-granted : goal.returns-clause-granted
returns-clause-granted g c =
    let grants = g.F.Floor.grants in
    granted_last grants c.pop.new.self.items c.args.stations.items c.push_reserved.new.self.items c.in-Some.station c.answer_jobs-back.result.0 (map region_of c.answer_jobs-back.result.1.items)
    c.in-Some.ensures.items c.push_reserved.ensures.items c.answer_jobs-back.ensures.granted
