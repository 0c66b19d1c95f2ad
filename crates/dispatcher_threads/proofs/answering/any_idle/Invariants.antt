use Rattle.std.proofs.Common.{◌≡◌, false, take}
use Rattle.std.specs.List.{list_any}
use Rattle.dispatcher_threads.specs.Done.{is_idle}
use Rattle.dispatcher_threads.proofs.answering.any_idle.Given as goal

abbrev pub invariant-loop-stop : goal.invariant-loop-stop
invariant-loop-stop l = list_any is_idle (take l.stop-index l.stops) ≡ false
