use Rattle.std.proofs.Common.{◌≡◌, [], map, length, sym, ap, ◌∙◌, arith}
use Rattle.std.proofs.lemmas.List.{length-map}
use Rattle.job_queue.specs.declared.record.PassRecord.{PassRecord}
use Rattle.dispatcher.specs.Shop.{ShopId}
use Rattle.dispatcher.specs.Members.{IsWorkerOf}
use Rattle.dispatcher.proofs.OpenLemmas.{of_their_parts, of_two_parts, none_taken, map_twice, passes_count}
use Rattle.dispatcher.proofs.opening.open_all.Goals as goal

pub pair_up-requires-clause-beside : goal.pair_up-requires-clause-beside
pair_up-requires-clause-beside g c =
    let both = c.in-Ok-open_both.ensures in
    sym (length-map c.in-Ok-open_both.opened.passes.items g.L.JobLine.pass_record) ∙ (ap length both.fresh_passes ∙ (passes_count c.args.sizes.passes ∙ sym both.count))

pub pair_up-requires-clause-room : goal.pair_up-requires-clause-room
pair_up-requires-clause-room g c =
    let count = sym (length-map c.in-Ok-open_both.opened.passes.items g.L.JobLine.pass_record) ∙ (ap length c.in-Ok-open_both.ensures.fresh_passes ∙ passes_count c.args.sizes.passes) in
    omega (arith, count, c.in-Ok.ensures.exact)

pub pair_up-requires-clause-none_taken : goal.pair_up-requires-clause-none_taken
pair_up-requires-clause-none_taken g c = of_their_parts (λ (r : PassRecord). r.taken ≡ []) g.L.JobLine.pass_record c.in-Ok-open_both.opened.passes.items _ c.in-Ok-open_both.ensures.fresh_passes (none_taken c.args.sizes.passes)

pub returns-clause-workers : goal.returns-clause-workers
returns-clause-workers g c =
    let line = g.L.JobLine in
    let floor = g.F.Floor in
    let both = c.in-Ok-open_both.ensures in
    let shop : ShopId = record { line = line.id c.in-Ok-open_both.opened.line; floor = floor.id c.in-Ok-open_both.floor } in
    of_two_parts (line.is_pass shop.line) (floor.is_station shop.floor) (IsWorkerOf shop) (λ w. w.pass) (λ w. w.station) (λ w pass station. record { pass = pass; station = station }) c.pair_up.result.items _ _
    c.pair_up.ensures.passes c.pair_up.ensures.stations both.passes both.stations

pub returns-clause-fresh_passes : goal.returns-clause-fresh_passes
returns-clause-fresh_passes g c =
    sym (map_twice (λ w. w.pass) g.L.JobLine.pass_record c.pair_up.result.items) ∙ (ap (map g.L.JobLine.pass_record) c.pair_up.ensures.passes ∙ c.in-Ok-open_both.ensures.fresh_passes)
