use Rattle.std.proofs.Common.{◌≡◌, ◌++◌, [], map, take, subst, sym, ap, ◌∙◌, rules, arith}
use Rattle.std.specs.Prelude.{get_or}
use Rattle.cube_ledger.specs.Ledger.{HasAllSlips, slip_of}
use Rattle.std.proofs.lemmas.List.{take_all}
use Rattle.cube_ledger.proofs.TotalLemmas.{slips_more, slips_whole}
use Rattle.cube_ledger.proofs.ledger.Ledger.of.Goals as goal

pub loop-replies-preserved : goal.loop-replies-preserved
loop-replies-preserved g c =
    let workers = c.args.finished.now.by_worker.items in
    let worker = c.replies-item.result in
    let here : get_or workers c.loop-replies.replies-index worker ≡ worker = search rules in
    let added : c.add_all.new.self ≡ c.loop-replies.ledger ++ map slip_of worker.items = search rules in
    slips_more (λ replies. replies.items) workers c.loop-replies.replies-index worker c.loop-replies.ledger c.add_all.new.self (omega arith) c.loop-replies.invariant
    (added ∙ ap (λ w. c.loop-replies.ledger ++ map slip_of w.items) (sym here))

pub returns : goal.returns
returns g c =
    let by_worker = map (λ replies. replies.items) c.args.finished.now.by_worker.items in
    let rest = c.args.finished.now.rest.items in
    let workers = c.args.finished.now.by_worker.items in
    let all : take c.loop-replies.replies-index workers ≡ workers = take_all c.loop-replies.replies-index workers (omega arith) in
    let had : HasAllSlips by_worker [] c.loop-replies.ledger = subst (λ ws. HasAllSlips (map (λ replies. replies.items) ws) [] c.loop-replies.ledger) all c.loop-replies.invariant in
    let added : c.add_all-2.new.self ≡ c.loop-replies.ledger ++ map slip_of rest = search rules in
    subst (λ slips. HasAllSlips by_worker rest slips) (sym added) (slips_whole by_worker rest c.loop-replies.ledger had)
