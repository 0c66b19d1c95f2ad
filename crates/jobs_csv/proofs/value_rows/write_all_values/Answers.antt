use Rattle.std.proofs.Common.{◌≡◌, ◌+◌, ◌∷◌, [], ◌++◌, take, refl, sym, subst, ap, ◌∙◌, rules}
use Rattle.std.proofs.lemmas.List.{take_more}
use Rattle.jobs_csv.specs.Inner.ValueRows.{value_lines}
use Rattle.jobs_csv.specs.ValueRows.{values_of, values_text}
use Rattle.jobs_csv.proofs.SentLemmas.{IsSentOrBuffered, more_buffered, more_sent}
use Rattle.jobs_csv.proofs.ValueLemmas.{next_reply}
use Rattle.jobs_csv.proofs.value_rows.write_all_values.Goals as goal

pub loop-reply-preserved : goal.loop-reply-preserved
loop-reply-preserved g c =
    let old = g.W.Write.contents c.args.writer.now in
    let now = g.W.Write.contents c.loop-reply.writer in
    let next = g.W.Write.contents c.push_values.new.writer in
    let replies = take c.loop-reply.reply-index c.args.replies.now in
    let lines = value_lines (values_of c.reply-item.result) in
    let more : take (c.loop-reply.reply-index + 1) c.args.replies.now ≡ replies ++ c.reply-item.result ∷ [] = search (rules, take_more) in
    let (out, writes, all) = c.in_ok-lines-2.ensures in
    let buffered = more_buffered old now c.loop-reply.lines (c.loop-reply.lines ++ lines) lines (values_text replies) c.loop-reply.invariant refl in
    let sent = more_sent old now next (c.loop-reply.lines ++ lines) c.in_ok-lines-2.lines out (values_text replies ++ lines) buffered writes all in
    subst (IsSentOrBuffered old next c.in_ok-lines-2.lines) (next_reply replies c.reply-item.result ∙ ap values_text (sym more)) sent
