use Rattle.std.proofs.Common.{◌++◌, length, length-append, flat_map, map, ap, arith}
use Rattle.dispatcher.specs.Answers.{all_replies}
use Rattle.dispatcher.proofs.sorting.gather.Goals as goal

pub move_all-requires : goal.move_all-requires
move_all-requires c =
    let rest = c.args.rest.items in
    let others = c.args.others.items in
    let given = all_replies (map (λ rs. rs.items) c.args.by_worker.items) rest in
    let all = c.loop-replies.all.items in
    let left = all_replies (map (λ rs. rs.items) c.loop-replies.left.items) rest in
    let first = c.in-Some.replies.items in
    let more = flat_map (λ replies. replies) (map (λ rs. rs.items) c.pop_front.new.self.items) in
    omega (
      arith,
      c.requires,
      c.loop-replies.invariant.1,
      ap length c.loop-replies.invariant.0,
      ap (λ ls. length (all_replies (map (λ rs. rs.items) ls) rest)) c.in-Some.ensures.items,
      length-append all left,
      length-append others given,
      length-append (first ++ more) rest,
      length-append first more,
    )

pub move_all-requires-2 : goal.move_all-requires-2
move_all-requires-2 c =
    let rest = c.args.rest.items in
    let others = c.args.others.items in
    let given = all_replies (map (λ rs. rs.items) c.args.by_worker.items) rest in
    let all = c.loop-replies.all.items in
    let left = all_replies (map (λ rs. rs.items) c.loop-replies.left.items) rest in
    let more = flat_map (λ replies. replies) (map (λ rs. rs.items) c.loop-replies.left.items) in
    omega (
      arith,
      c.requires,
      c.loop-replies.invariant.1,
      ap length c.loop-replies.invariant.0,
      length-append all left,
      length-append others given,
      length-append more rest,
    )
