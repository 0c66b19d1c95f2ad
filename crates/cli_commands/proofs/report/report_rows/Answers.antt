use Rattle.std.proofs.Common.{◌≡◌, arith, ap, ◌∙◌, ◌++◌, map, length, List, ℕ}
use Rattle.std.specs.List.{range_with_len}
use Rattle.jobs_csv.specs.declared.report_rows.ReportRow.{ReportRow}
use Rattle.cli_commands.specs.Inner.ReportRows.{lane_row_in}
use Rattle.cli_commands.proofs.ReportLemmas.{rows_are}
use Rattle.cli_commands.proofs.report.report_rows.Goals as goal

pub returns : goal.returns
returns g c jobs permuted right =
    let lanes : c.len.result ≡ length c.args.finished.now.accepted.items = omega (arith, c.len.ensures, c.args.finished.now.accepted.ok) in
    rows_are c.args.n jobs _ _ c.in_ok-ledger.ledger c.in_ok-ledger.ensures permuted right
    (length c.args.finished.now.accepted.items)
    c.push_lanes.new.rows.items c.push_dims.new.rows.items c.push_free.new.rows.items c.push_total.new.rows.items
    (c.in_ok-push_lanes.ensures
    ∙ ap (λ (k : ℕ). c.new-rows.result.items ++ map (lane_row_in c.in_ok-ledger.ledger) (range_with_len 0 k)) lanes
    ∙ ap (λ (front : List ReportRow). front ++ map (lane_row_in c.in_ok-ledger.ledger) (range_with_len 0 (length c.args.finished.now.accepted.items))) c.new-rows.ensures.items)
    c.in_ok-push_dims.ensures c.in_ok-push_free.ensures c.in_ok-push_total.ensures
