-- The rounds' contracts, stated of the items and the operation of a job.
use Rattle.std.proofs.Common.{◌∙◌, sym, ap, subst}
use Rattle.job_types.specs.Collective.{join, unit_of}
use Rattle.job_types.specs.Inner.Collective.{operation_of, MakesResult}
use Rattle.job_types.proofs.ResultLemmas.{broadcast_result, reduce_result, all_reduce_result, scan_result, exscan_result}
use Rattle.job_types.proofs.rounds.run_rounds.Goals as goal

pub returns-in-Broadcast-clause-result : goal.returns-in-Broadcast-clause-result
returns-in-Broadcast-clause-result g c =
    let old = c.args.places.now in
    let new = c.broadcast-tally.new.items in
    subst (λ kind. MakesResult kind c.args.k old new) (sym c.in-Broadcast.is)
    (broadcast_result c.args.k c.in-Broadcast.root old new c.broadcast-tally.ensures.held)

pub returns-in-Reduce-clause-result : goal.returns-in-Reduce-clause-result
returns-in-Reduce-clause-result g c =
    let old = c.args.places.now in
    let new = c.reduce-tally.new.items in
    let unit = c.requires.unit ∙ ap (λ kind. unit_of (operation_of kind)) c.in-Reduce.is in
    let joined = c.requires.join ∙ ap (λ kind. join (operation_of kind)) c.in-Reduce.is in
    subst (λ kind. MakesResult kind c.args.k old new) (sym c.in-Reduce.is)
    (reduce_result c.in-Reduce.op unit joined g.met.O.Operator.laws c.args.k old new c.requires.values c.in-Reduce.root c.reduce-tally.ensures.held)

pub returns-in-AllReduce-clause-result : goal.returns-in-AllReduce-clause-result
returns-in-AllReduce-clause-result g c =
    let old = c.args.places.now in
    let new = c.all_reduce-tally.new.items in
    let unit = c.requires.unit ∙ ap (λ kind. unit_of (operation_of kind)) c.in-AllReduce.is in
    let joined = c.requires.join ∙ ap (λ kind. join (operation_of kind)) c.in-AllReduce.is in
    subst (λ kind. MakesResult kind c.args.k old new) (sym c.in-AllReduce.is)
    (all_reduce_result c.in-AllReduce.op unit joined g.met.O.Operator.laws c.args.k old new c.requires.values c.all_reduce-tally.ensures.held)

pub returns-in-Scan-clause-result : goal.returns-in-Scan-clause-result
returns-in-Scan-clause-result g c =
    let old = c.args.places.now in
    let new = c.scan-tally.new.items in
    let unit = c.requires.unit ∙ ap (λ kind. unit_of (operation_of kind)) c.in-Scan.is in
    let joined = c.requires.join ∙ ap (λ kind. join (operation_of kind)) c.in-Scan.is in
    subst (λ kind. MakesResult kind c.args.k old new) (sym c.in-Scan.is)
    (scan_result c.in-Scan.op unit joined g.met.O.Operator.laws c.args.k old new c.requires.values c.scan-tally.ensures.held)

pub returns-in-ExScan-clause-result : goal.returns-in-ExScan-clause-result
returns-in-ExScan-clause-result g c =
    let old = c.args.places.now in
    let new = c.exscan-tally.new.items in
    let unit = c.requires.unit ∙ ap (λ kind. unit_of (operation_of kind)) c.in-ExScan.is in
    let joined = c.requires.join ∙ ap (λ kind. join (operation_of kind)) c.in-ExScan.is in
    subst (λ kind. MakesResult kind c.args.k old new) (sym c.in-ExScan.is)
    (exscan_result c.in-ExScan.op unit joined g.met.O.Operator.laws c.args.k old new c.requires.values c.exscan-tally.ensures.held)
