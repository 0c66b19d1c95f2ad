use Rattle.std.proofs.Common.{◌≡◌, ◌≤◌, ℕ, Some, length}
use Rattle.dispatcher.specs.InnerShop.{HasServed}
use Rattle.dispatcher.proofs.dispatching.Shift.work.Given as goal

abbrev pub invariant-loop : goal.invariant-loop
invariant-loop g l = let line = g.L.JobLine in let floor = g.F.Floor in
    line.is_pass (line.id l.fn.line) l.shift.pass × floor.is_station (floor.id l.fn.floor) l.shift.station
    × HasServed (floor.id l.fn.floor).dim (line.pass_record l.shift.pass).taken (floor.grants l.shift.station) l.shift.replies.items
    × ((most : ℕ) → l.fn.limit ≡ Some most → length l.shift.replies.items ≤ most)
    × (l.fn.limit ≡ Some 0 → line.pass_record l.shift.pass ≡ line.pass_record l.fn.self.pass)
