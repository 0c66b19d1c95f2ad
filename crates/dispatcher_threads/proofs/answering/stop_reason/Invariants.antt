use Rattle.std.proofs.Common.{◌≡◌, take}
use Rattle.std.specs.List.{list_any}
use Rattle.dispatcher_threads.specs.Done.{is_cut_off, is_spent}
use Rattle.dispatcher_threads.proofs.answering.stop_reason.Given as goal

abbrev pub invariant-loop-lane : goal.invariant-loop-lane
invariant-loop-lane g l =
    (l.spent ≡ list_any (λ one. is_spent one.stop) (take l.lane-index l.lane-items))
    × (l.cut_off ≡ list_any (λ one. is_cut_off one.stop) (take l.lane-index l.lane-items))
