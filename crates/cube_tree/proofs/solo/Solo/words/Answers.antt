use Rattle.std.proofs.Common.{ℕ, List, slice_index, sym, subst}
use Rattle.cube_shape.specs.Node.{IsInCube}
use Rattle.cube_tree.specs.Solo.{solo_dim, held_by, TellsHeld}
use Rattle.cube_tree.proofs.ToldLemmas.{told_held}
use Rattle.cube_tree.proofs.solo.Solo.words.Goals as goal

pub returns-clause-told : goal.returns-clause-told
returns-clause-told c =
    subst (λ (words : List ℕ). (v : ℕ) → IsInCube (solo_dim c.args.self.now) v → TellsHeld (solo_dim c.args.self.now) (held_by c.args.self.now) v (slice_index words v)) (sym c.words.ensures.words)
    (told_held c.args.self.now.state c.args.self.now.told)
