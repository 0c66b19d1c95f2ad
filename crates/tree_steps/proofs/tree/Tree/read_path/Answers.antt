use Rattle.std.proofs.Common.{◌∙◌, subst, arith}
use Rattle.cube_shape.proofs.PathLemmas.{OnPath-parent, OnPath-trans}
use Rattle.cube_core.specs.Phase.{IsAtRest}
use Rattle.tree_steps.specs.Steps.{Known, first_of}
use Rattle.tree_steps.specs.Alone.{IsAlone, TellsWord}
use Rattle.tree_steps.proofs.ReadLemmas.{path_read, others_read}
use Rattle.tree_steps.proofs.tree.Tree.read_path.Goals as goal

pub loop-at-preserved : goal.loop-at-preserved
loop-at-preserved c =
    let on = c.loop-at.invariant.on_path (omega (arith, c.loop-at-test.true)) in let inside = c.loop-at.invariant.in_cube in let same = c.loop-at.invariant.same in record {
      table = c.loop-at.invariant.table;
      size = c.loop-at.invariant.size;
      seat = c.read-word.ensures.seat ∙ c.loop-at.invariant.seat;
      same = c.read-word.ensures.same ∙ same;
      in_cube = omega (arith, inside);
      on_path = λ positive. OnPath-trans _ _ _ (OnPath-parent c.loop-at.at positive) on;
      path = λ alone rest. path_read c.loop-at.self.room.items c.loop-at.at c.args.node.0 c.read-word.result c.args.seat.now.me.0.stations (omega (arith, inside, c.loop-at.self.has_room, c.loop-at.self.room.ok.0)) on
          (subst (λ (m : Known). IsAlone m → IsAtRest (first_of m).phase → TellsWord c.loop-at.at c.read-word.result m.0.stations) same c.read-word.ensures.word alone rest)
          (c.loop-at.invariant.path alone rest);
      others = λ v off. others_read c.loop-at.self.room.items c.loop-at.at c.args.node.0 c.read-word.result c.args.seat.now.me.0.stations on v off ∙ c.loop-at.invariant.others v off;
    }
