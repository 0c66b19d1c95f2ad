use Rattle.std.proofs.Common.{◌+◌, ◌-◌, ◌^◌, refl, sym, ◌∙◌, subst, arith}
use Rattle.cube_shape.specs.Node.{IsInCube}
use Rattle.cube_core.specs.declared.phase.Phase.TheVariants.{Idle, Looking}
use Rattle.tree_steps.specs.declared.view.Size.{Size}
use Rattle.std.specs.Prelude.{IfSome}
use Rattle.tree_steps.specs.Answer.{ancestor_of}
use Rattle.tree_steps.specs.Alone.{IsBlocked, HasHolder, unpicked}
use Rattle.tree_steps.specs.Tree.{dim_of}
use Rattle.tree_steps.proofs.AloneLemmas.{alone_begun}
use Rattle.cube_tree.proofs.TryLemmas.{on_level}
use Rattle.cube_tree.proofs.MovedLemmas.{brought, walked}
use Rattle.cube_tree.proofs.SearchLemmas.{is_onward}
use Rattle.cube_tree.proofs.FitLemmas.{blocked_more}
use Rattle.cube_tree.proofs.ToldLemmas.{told_turned}
use Rattle.cube_tree.proofs.solo_calls.take_first.Goals as goal

pub loop-node-init : goal.loop-node-init
loop-node-init c =
    let front = brought c.args.station Idle c.args.seat.now.me c.turn.new.seat.me c.requires.all c.requires.there c.requires.idle c.turn.ensures.turns in
    let count = c.region_count-first.ensures.value in record {
      same = refl;
      size = refl;
      table = c.turn.ensures.seat;
      moved = front.0;
      alone = front.1;
      told = told_turned c.requires.told c.turn.ensures.turns;
      low = omega (arith, count);
      blocked = λ v low before. absurd (omega (arith, count, low, before));
    }

pub take_alone-requires-clause-node : goal.take_alone-requires-clause-node
take_alone-requires-clause-node c =
    let count = c.region_count-first.ensures.value in
    subst (λ (size : Size). IsInCube size.dim c.loop-node.node.0) (sym c.loop-node.invariant.size)
    (on_level (dim_of c.args.tree.now) (dim_of c.args.tree.now - c.args.k) c.loop-node.node.0 (omega arith) c.loop-node.invariant.low (omega (arith, count, c.loop-node-test.true))).0

pub returns-in-Ok-clause-moved : goal.returns-in-Ok-clause-moved
returns-in-Ok-clause-moved c = walked c.loop-node.seat.me (Looking c.loop-node.node.0) c.loop-node.invariant.moved c.take_alone.ensures.walks c.in-Ok.ensures.phase

pub loop-node-preserved : goal.loop-node-preserved
loop-node-preserved c =
    let after = c.node_after-node.ensures in let onward = is_onward c.in-Err.why c.loop-node.node.0 c.node_after-node.result.0 after in let low = c.loop-node.invariant.low in record {
      same = c.take_alone.ensures.same.0 ∙ c.loop-node.invariant.same;
      size = c.take_alone.ensures.same.1 ∙ c.loop-node.invariant.size;
      table = c.take_alone.ensures.table ∙ c.loop-node.invariant.table;
      moved = walked c.loop-node.seat.me (Looking c.loop-node.node.0) c.loop-node.invariant.moved c.take_alone.ensures.walks c.in-Err.ensures.phase;
      alone = alone_begun (Looking c.loop-node.node.0) c.loop-node.seat.me c.take_alone.ensures.walks c.loop-node.invariant.alone;
      told = c.take_alone.ensures.told;
      low = omega (arith, onward, low);
      blocked = blocked_more (2 ^ (dim_of c.args.tree.now - c.args.k)) c.loop-node.node.0 c.node_after-node.result.0 c.in-Err.why (unpicked c.args.station c.args.seat.now.me.0.stations) c.in-Err.ensures.names
          (subst (IsBlocked c.loop-node.node.0) c.loop-node.invariant.moved.rest c.in-Err.ensures.exact)
          (subst (λ entries. IfSome (ancestor_of c.in-Err.why) (λ at. HasHolder at entries)) c.loop-node.invariant.moved.rest c.in-Err.ensures.holder) after c.loop-node.invariant.blocked;
    }

pub returns-in-Ok-clause-first : goal.returns-in-Ok-clause-first
returns-in-Ok-clause-first c =
    let count = c.region_count-first.ensures.value in let from = c.loop-node.invariant.low in record {
      m = c.loop-node.node.0 - 2 ^ (dim_of c.args.tree.now - c.args.k);
      there = omega (arith, count, c.loop-node-test.true);
      node_is = omega (arith, from);
      before = λ i below. c.loop-node.invariant.blocked (2 ^ (dim_of c.args.tree.now - c.args.k) + i) (omega arith) (omega (arith, from, below));
      off = c.in-Ok.ensures.off;
    }

pub returns-clause-none : goal.returns-clause-none
returns-clause-none c =
    let count = c.region_count-first.ensures.value in
    λ i below. c.loop-node.invariant.blocked (2 ^ (dim_of c.args.tree.now - c.args.k) + i) (omega arith) (omega (arith, count, below, c.loop-node-test.false))
