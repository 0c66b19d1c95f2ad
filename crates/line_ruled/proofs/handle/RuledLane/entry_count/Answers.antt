use Rattle.std.proofs.Common.{sym}
use Rattle.line_ruled.proofs.JoinLemmas.{joined_length}
use Rattle.line_ruled.proofs.handle.RuledLane.entry_count.Goals as goal

pub returns : goal.returns
returns c = let lane = c.args.self.now in sym (joined_length lane.gate.known lane.ring.known lane.entries lane.joined)
