use Rattle.cube_tree.proofs.HandleLemmas.{at_of, seat_peeked}
use Rattle.tree_steps.proofs.PeekLemmas.{entry_after_peek}
use Rattle.cube_tree.proofs.handles.TreeStation.peek.Goals as goal

pub invariant_of-result : goal.invariant_of-result
invariant_of-result c = record {
  idle = seat_peeked c.args.self.idle c.args.at.0 c.peek-word.result c.peek-word.ensures.notes;
  limit = c.args.self.limit;
}

pub returns-clause-finds : goal.returns-clause-finds
returns-clause-finds c = record {
  word = c.peek-word.result;
  entry = entry_after_peek (at_of c.args.self.idle) c.args.at.0 c.peek-word.result c.peek-word.ensures.notes;
  answer = c.is_occupied-is_occupied.ensures;
}
