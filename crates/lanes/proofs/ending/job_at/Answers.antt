use Rattle.std.proofs.Common.{◌≡◌, ◌+◌, ◌%◌, ◌^◌, get_or, sym, ap, ◌∙◌}
use Rattle.std.specs.Mem.Slots.{slots_items}
use Rattle.lanes.specs.Layout.{lane_start, cell_of}
use Rattle.lanes.specs.Inner.Rule.{reads}
use Rattle.lanes.proofs.RestLemmas.{read_word}
use Rattle.lanes.proofs.ending.job_at.Goals as goal

pub returns : goal.returns
returns c =
    let ws = slots_items c.args.closed.now.words in
    let plan = c.args.plan in
    let cell = cell_of plan.sizes.capacity c.args.seq in
    let payload : c.word-payload.result ≡ reads plan ws c.args.lane cell =
    sym (read_word ws c.word_of.result c.word-payload.result c.word-payload.ensures) ∙ ap (λ i. get_or ws i 0) (c.word_of.ensures.word ∙ ap (λ o. lane_start plan c.args.lane + o) c.cell_at-cell.ensures.cell) in
    let dim : c.word-dim.result ≡ reads plan ws c.args.lane (cell + 1) =
    sym (read_word ws c.word_of-2.result c.word-dim.result c.word-dim.ensures) ∙ ap (λ i. get_or ws i 0) (c.word_of-2.ensures.word ∙ ap (λ o. lane_start plan c.args.lane + (o + 1)) c.cell_at-cell.ensures.cell) in
    λ z. record { seq = c.args.seq; payload = payload z; dim = dim z % 2 ^ 32 }
