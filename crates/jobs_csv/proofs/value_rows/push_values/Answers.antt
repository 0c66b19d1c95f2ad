use Rattle.std.proofs.Common.{◌≡◌, ◌++◌, List, ℕ, Option, length, ap₂, refl, sym, subst, ap, ◌∙◌, append-nil, rules}
use Rattle.job_types.specs.declared.reply.JobId.{JobId}
use Rattle.jobs_csv.specs.Inner.ValueRows.{value_in, value_lines}
use Rattle.jobs_csv.specs.ValueRows.{value_at, values_of}
use Rattle.jobs_csv.proofs.SentLemmas.{IsSentOrBuffered, more_buffered, more_sent, nothing_sent}
use Rattle.jobs_csv.proofs.ValueLemmas.{all_values, first_values, next_value}
use Rattle.jobs_csv.proofs.value_rows.push_values.Goals as goal

pub loop-place-init : goal.loop-place-init
loop-place-init g c = nothing_sent _ _ _ (sym (append-nil c.args.lines))

pub loop-place-preserved : goal.loop-place-preserved
loop-place-preserved g c =
    let old = g.W.Write.contents c.args.writer.now in
    let now = g.W.Write.contents c.loop-place.writer in
    let next = g.W.Write.contents c.push_value.new.writer in
    let text = c.args.lines ++ value_lines (first_values c.args.reply.now c.loop-place.place) in
    let line = value_lines (value_at c.args.reply.now c.loop-place.place) in
    let (out, writes, all) = c.in_ok-lines.ensures in
    let here : value_lines (value_in c.id-id.result c.loop-place.place c.at.result) ≡ line =
    ap₂ (λ (id : JobId) (value : Option ℕ). value_lines (value_in id c.loop-place.place value)) c.id-id.ensures c.at.ensures in
    let buffered = more_buffered old now c.loop-place.lines (c.loop-place.lines ++ line) line text c.loop-place.invariant refl in
    let sent = more_sent old now next (c.loop-place.lines ++ line) c.in_ok-lines.lines out (text ++ line) buffered writes (all ∙ ap (λ (more : List ℕ). c.loop-place.lines ++ more) here) in
    subst (IsSentOrBuffered old next c.in_ok-lines.lines) (next_value c.args.lines c.args.reply.now c.loop-place.place) sent

pub returns : goal.returns
unfolding values_of
returns g c =
    let reply = c.args.reply.now in
    let k = c.loop-place.invariant in
    let last : c.loop-place.place ≡ length reply.job.items = search rules in
    (k.sent, k.out, k.all ∙ all_values c.args.lines reply c.loop-place.place (ap (first_values reply) last))
