use Rattle.std.proofs.Common.{◌≡◌, ◌++◌, map, take}
use Rattle.cube_ledger.specs.Ledger.{slip_of}
use Rattle.cube_ledger.proofs.ledger.Ledger.add_all.Given as goal

-- The slips of the replies so far are added.
abbrev pub invariant-loop-reply : goal.invariant-loop-reply
invariant-loop-reply l = l.self ≡ l.initial.self ++ map slip_of (take l.reply-index l.replies)
