use Rattle.std.proofs.Common.{refl, ap}
use Rattle.cube_core.specs.declared.phase.Phase.TheVariants.{Looking}
use Rattle.tree_steps.specs.declared.view.Size.{Size}
use Rattle.cube_tree.proofs.ToldLemmas.{idle_holds, only_holds, told_idle, told_read}
use Rattle.cube_tree.proofs.solo_calls.take_alone.Goals as goal

pub returns-in-Ok-clause-told : goal.returns-in-Ok-clause-told
returns-in-Ok-clause-told c = told_read (Looking c.args.node.0) c.requires.told c.requires.alone c.requires.phase c.take.ensures.walks c.in-Ok.ensures.phase tt
    (idle_holds c.args.node.0) (only_holds c.args.node.0) c.compare.ensures.same c.read_path.ensures.same (ap (λ (size : Size). size.dim) c.read_path.ensures.size)
    c.read_path.ensures.path c.read_path.ensures.others

pub returns-in-Err-InUse-clause-told : goal.returns-in-Err-InUse-clause-told
returns-in-Err-InUse-clause-told c = told_idle (Looking c.args.node.0) c.requires.told c.requires.phase c.take.ensures.walks c.in-Err-InUse.ensures.phase

pub returns-in-Err-clause-told : goal.returns-in-Err-clause-told
returns-in-Err-clause-told c = told_read (Looking c.args.node.0) c.requires.told c.requires.alone c.requires.phase c.take.ensures.walks c.in-Err.ensures.phase tt
    (idle_holds c.args.node.0) (idle_holds c.args.node.0) refl c.read_path-in-Err.ensures.same (ap (λ (size : Size). size.dim) c.read_path-in-Err.ensures.size)
    c.read_path-in-Err.ensures.path c.read_path-in-Err.ensures.others
