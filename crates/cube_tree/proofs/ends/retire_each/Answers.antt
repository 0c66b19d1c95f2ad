use Rattle.std.proofs.Common.{rules, ◌++◌, ◌∙◌, ap, arith, append-nil}
use Rattle.std.proofs.lemmas.List.Elements.{All-pop}
use Rattle.tree_steps.specs.Steps.{Known}
use Rattle.tree_steps.specs.Tree.{id_of}
use Rattle.cube_tree.specs.Handles.{HasTable}
use Rattle.cube_tree.proofs.HandleLemmas.{retired_seat}
use Rattle.cube_tree.proofs.EndLemmas.{gone_more, there_more, none_left}
use Rattle.cube_tree.proofs.ends.retire_each.Goals as goal

pub loop-station-preserved : goal.loop-station-preserved
loop-station-preserved c =
    let own = retired_seat c.in-Some.station.idle c.into_retired-retired.ensures.retires.0 c.into_retired-retired.ensures.retires.1 in
    let merged = c.merge.ensures.merged in record {
      table = search rules;
      slots = ap (λ (m : Known). m.1) merged ∙ c.loop-station.invariant.slots;
      loads = ap (λ (m : Known). m.0.loads) merged ∙ ap (λ l. c.loop-station.seat.me.0.loads ++ l) own.no_loads ∙ append-nil _ ∙ c.loop-station.invariant.loads;
      of_tree = (All-pop (HasTable (id_of c.args.tree.now)) c.loop-station.stations.items c.pop.new.self.items _ c.pop.ensures.items c.loop-station.invariant.of_tree).0;
      gone = gone_more c.loop-station.seat.me _ _ own merged c.loop-station.invariant.gone;
      there = λ s. there_more s c.loop-station.seat.me c.into_retired-retired.result.me _ c.loop-station.stations.items c.pop.new.self.items c.in-Some.station own.entry own.one own.number_is merged c.in-Some.ensures.items c.in-Some.station.idle.number_is ∙ c.loop-station.invariant.there s;
    }

pub returns-clause-there : goal.returns-clause-there
returns-clause-there c = λ s. none_left c.loop-station.stations.items s _ _ (omega (arith, c.loop-station.stations.ok.0, c.in_default.ensures.cases.0)) (c.loop-station.invariant.there s)
