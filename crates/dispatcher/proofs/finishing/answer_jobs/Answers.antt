use Rattle.std.proofs.Common.{◌++◌, ◌∷◌, [], List, map, length, sym, ap, ◌∙◌, append_assoc, arith}
use Rattle.std.proofs.lemmas.List.{map-append}
use Rattle.std.proofs.lemmas.List.Elements.{All-nil, All-rest, All-push, All-same}
use Rattle.job_types.specs.Reply.{ReplyData}
use Rattle.job_queue.specs.declared.record.QueuedJob.{QueuedJob}
use Rattle.job_queue.specs.Line.{IsMadeFor}
use Rattle.dispatcher.specs.Reply.{answered, region_of, IsRight}
use Rattle.dispatcher.proofs.GrantLemmas.{granted_one, granted_none}
use Rattle.dispatcher.proofs.finishing.answer_jobs.Goals as goal

pub loop-queued-preserved : goal.loop-queued-preserved
loop-queued-preserved g c =
    let floor = g.F.Floor in
    let dim = (floor.id c.args.floor.now).dim in
    let inv = c.loop-queued.invariant in
    let items = c.in-Some.ensures.items in
    let left = c.pop_front.new.self.items in
    let pushed = c.push_reserved.ensures.items in
    let reply = c.serve-back.result.1 in
    let old = c.loop-queued.rest.items in (
      c.serve-back.ensures.station,
      All-rest (IsMadeFor dim) c.in-Some.queued left _ items inv.1,
      ap (λ (rs : List ReplyData). map answered rs ++ left) pushed
          ∙ (ap (λ (qs : List QueuedJob). qs ++ left) (map-append answered old (reply ∷ []))
          ∙ (append_assoc (map answered old) (answered reply ∷ []) left
          ∙ (ap (λ (q : QueuedJob). map answered old ++ q ∷ left) c.serve-back.ensures.answers
          ∙ (ap (λ (qs : List QueuedJob). map answered old ++ qs) (sym items) ∙ inv.2)))),
      All-same (IsRight dim) _ _ pushed (All-push (IsRight dim) old reply inv.3 c.serve-back.ensures.right),
      granted_one region_of (floor.grants c.args.station) (floor.grants c.loop-queued.station) (floor.grants c.serve-back.result.0)
          old c.push_reserved.new.self.items reply inv.4 c.serve-back.ensures.granted pushed,
      omega (arith, inv.5, c.push_reserved.ensures.len, c.push_reserved.ensures.capacity, ap length items),
    )

pub loop-queued-init : goal.loop-queued-init
loop-queued-init g c =
    let floor = g.F.Floor in
    let Right = IsRight (floor.id c.args.floor.now).dim in
    let empty = c.requires.empty in (
      c.requires.station,
      c.requires.made_for,
      ap (λ (rs : List ReplyData). map answered rs ++ c.args.jobs.items) empty,
      All-same Right c.args.rest.items [] empty (All-nil Right),
      granted_none region_of (floor.grants c.args.station) c.args.rest.items empty,
      omega (arith, c.requires.room, ap length empty),
    )
