-- There is a room for each node.
use Rattle.std.proofs.Common.{◌≡◌, ◌*◌, ◌%◌, ◌^◌, ap, ◌∙◌, length, arith}
use Rattle.std.proofs.lemmas.Nat.{shl_whole}
use Rattle.std.proofs.lemmas.List.{length-replicate}
use Rattle.fit_tree.proofs.NodeLemmas.{all_nodes}
use Rattle.fit_tree.proofs.fit.FitTree.new_in.Goals as goal

pub open-requires-clause-rooms : goal.open-requires-clause-rooms
open-requires-clause-rooms c =
    let size : 2 * 2 ^ c.args.n % 2 ^ 64 ≡ 2 * 2 ^ c.args.n = shl_whole 2 2 c.args.n 64 (omega arith) (omega (arith, c.requires)) in
    omega (arith, size, all_nodes c.args.n, ap length c.deref_mut.ensures.value ∙ ap length c.in_ok-rooms.ensures.items ∙ length-replicate _ 0)
