use Rattle.std.proofs.Common.{◌∙◌, ap, subst}
use Rattle.tree_steps.specs.declared.view.Size.{Size}
use Rattle.tree_steps.specs.Steps.{Known}
use Rattle.cube_tree.specs.Ends.{IsWhole}
use Rattle.cube_tree.proofs.EndLemmas.{whole_roll, whole_of_gone}
use Rattle.cube_tree.proofs.solo.Solo.close.Goals as goal

pub finish-requires-clause-retired : goal.finish-requires-clause-retired
finish-requires-clause-retired c = whole_roll c.load_roll.ensures.loads
    (whole_of_gone _ c.load_roll.result c.retire_all.new.seat.me c.retire_all.ensures.all c.retire_all.ensures.gone c.load_roll.ensures.loads.bits)

pub returns-clause-roll : goal.returns-clause-roll
returns-clause-roll c =
    let loaded = ap (λ (m : Known). m.0.loads) c.load_roll.ensures.loads.kept in (
      c.retire_all.new.seat.me.0.loads,
      record {
        roll = c.load_roll.result;
        loads = c.finish.ensures.loads ∙ loaded;
        whole = subst (λ (k : Size). IsWhole k.stations c.load_roll.result) c.release_all.ensures.size
            (whole_of_gone _ c.load_roll.result c.retire_all.new.seat.me c.retire_all.ensures.all c.retire_all.ensures.gone c.load_roll.ensures.loads.bits);
        word = c.finish.ensures.roll c.load_roll.result _ loaded;
      },
    )
