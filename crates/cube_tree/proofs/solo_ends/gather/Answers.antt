use Rattle.std.proofs.Common.{rules, ◌∙◌, ap}
use Rattle.std.proofs.lemmas.List.Elements.{All-pop}
use Rattle.tree_steps.specs.Steps.{Known, first_of}
use Rattle.tree_steps.specs.Tree.{id_of}
use Rattle.cube_tree.specs.Handles.{HasTable}
use Rattle.cube_tree.proofs.EndLemmas.{all_more, idle_more}
use Rattle.cube_tree.proofs.solo_ends.gather.Goals as goal

pub loop-station-preserved : goal.loop-station-preserved
loop-station-preserved c =
    let own = c.in-Some.station.idle in
    let merged = c.merge.ensures.merged in record {
      table = search rules;
      slots = ap (λ (m : Known). m.1) merged ∙ c.loop-station.invariant.slots;
      of_tree = (All-pop (HasTable (id_of c.args.tree.now)) c.loop-station.list.items c.pop.new.self.items _ c.pop.ensures.items c.loop-station.invariant.of_tree).0;
      idle = idle_more c.loop-station.seat.me _ _ own merged c.loop-station.invariant.idle;
      all = λ s below. all_more s c.loop-station.seat.me c.in-Some.station.seat.me _ c.loop-station.list.items c.pop.new.self.items c.in-Some.station (first_of c.in-Some.station.seat.me) own.one own.number_is merged c.in-Some.ensures.items own.number_is (c.loop-station.invariant.all s below);
    }
