use Rattle.std.proofs.Common.{length, List, sym, ap, ◌∙◌, arith}
use Rattle.line_gate.specs.Record.{after_enter}
use Rattle.job_queue.specs.declared.record.QueuedJob.{QueuedJob}
use Rattle.job_queue.specs.Record.{job_id}
use Rattle.line_ruled.proofs.JoinLemmas.{joined_accepted, joined_length, joined_few, joined_put, put_gains_job, put_gains_none}
use Rattle.line_ruled.proofs.job_line.RuledLineJobLine.submit.Goals as goal

pub returns-then-lane-ge-MAX_ENTRIES-clause-spent_only : goal.returns-then-lane-ge-MAX_ENTRIES-clause-spent_only
returns-then-lane-ge-MAX_ENTRIES-clause-spent_only g c = let lane = c.args.lane.now in λ _. omega (arith, joined_length lane.gate.known lane.ring.known lane.entries lane.joined, c.if-lane-ge-MAX_ENTRIES.true)

pub returns-in-Some-clause-spent_first : goal.returns-in-Some-clause-spent_first
returns-in-Some-clause-spent_first g c = let lane = c.args.lane.now in λ all. absurd (omega (arith, all, joined_length lane.gate.known lane.ring.known lane.entries lane.joined, c.if-lane-ge-MAX_ENTRIES.false))

pub returns-in-Err-clause-spent_first : goal.returns-in-Err-clause-spent_first
returns-in-Err-clause-spent_first g c = let lane = c.args.lane.now in λ all. absurd (omega (arith, all, joined_length lane.gate.known lane.ring.known lane.entries lane.joined, c.if-lane-ge-MAX_ENTRIES.false))

pub put-requires-clause-count : goal.put-requires-clause-count
put-requires-clause-count g c = let lane = c.args.lane.now in omega (arith, joined_few lane.gate.known lane.ring.known lane.entries lane.joined, c.if-lane-ge-MAX_ENTRIES.false)

pub invariant_of-lane-2 : goal.invariant_of-lane-2
invariant_of-lane-2 g c =
    let lane = c.args.lane.now in
    let pending = c.in-Ok.ensures.known ∙ ap (after_enter c.in-Ok.entered) c.in_default.ensures.known in
    record { joined = joined_put lane.gate.known lane.ring.known lane.entries lane.joined c.in-Ok.entered c.args.job c.put.result c.enter.new.lane.known c.put.new.gate.known c.put.new.ring.known (omega (arith, c.if-lane-ge-MAX_ENTRIES.false)) pending c.put.ensures.puts }

pub returns-in-Ok-put-clause-accepted : goal.returns-in-Ok-put-clause-accepted
returns-in-Ok-put-clause-accepted g c =
    let lane = c.args.lane.now in
    let pending = c.in-Ok.ensures.known ∙ ap (after_enter c.in-Ok.entered) c.in_default.ensures.known in
    put_gains_job lane.gate.known lane.ring.known lane.entries lane.joined c.in-Ok.entered c.args.job c.enter.new.lane.known c.put.new.gate.known c.put.new.ring.known pending c.in-Ok-put.receipt c.in-Ok-put.ensures.puts

pub returns-in-Ok-put-clause-id : goal.returns-in-Ok-put-clause-id
returns-in-Ok-put-clause-id g c =
    let lane = c.args.lane.now in
    let r = lane.ring.known in
    c.in-Ok-put.ensures.puts.1 ∙ ap (λ (js : List QueuedJob). job_id r.number (length js)) (sym (joined_accepted lane.gate.known r lane.entries lane.joined))

pub returns-in-Ok-put-clause-spent_first : goal.returns-in-Ok-put-clause-spent_first
returns-in-Ok-put-clause-spent_first g c = let lane = c.args.lane.now in λ all. absurd (omega (arith, all, joined_length lane.gate.known lane.ring.known lane.entries lane.joined, c.if-lane-ge-MAX_ENTRIES.false))

pub returns-in-Err-put-clause-refused : goal.returns-in-Err-put-clause-refused
returns-in-Err-put-clause-refused g c =
    let lane = c.args.lane.now in
    let pending = c.in-Ok.ensures.known ∙ ap (after_enter c.in-Ok.entered) c.in_default.ensures.known in
    (c.in-Ok.entered, put_gains_none lane.gate.known lane.ring.known lane.entries lane.joined c.in-Ok.entered c.args.job c.enter.new.lane.known c.put.new.gate.known c.put.new.ring.known pending c.in-Err-put.job c.in-Err-put.ensures.puts)

pub returns-in-Err-put-clause-spent_first : goal.returns-in-Err-put-clause-spent_first
returns-in-Err-put-clause-spent_first g c = let lane = c.args.lane.now in λ all. absurd (omega (arith, all, joined_length lane.gate.known lane.ring.known lane.entries lane.joined, c.if-lane-ge-MAX_ENTRIES.false))
