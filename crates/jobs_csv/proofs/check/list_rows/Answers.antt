use Rattle.std.proofs.Common.{◌≡◌, ◌∷◌, [], ◌++◌, ℕ, List, refl, sym, subst, ap, ap₂, ◌+◌, ◌∙◌, append-nil, arith, rules}
use Rattle.std.proofs.lemmas.List.{length-append}
use Rattle.std.specs.Io.KnownBytes.{Appends}
use Rattle.csv.specs.Records.{fields_of}
use Rattle.jobs_csv.specs.Inner.Refused.{rows_in}
use Rattle.jobs_csv.specs.Refusals.{refusal_lines}
use Rattle.jobs_csv.proofs.RefusalLemmas.{at_end, at_limit, more_lines, none_listed, one_read}
use Rattle.jobs_csv.proofs.SentLemmas.{IsSentOrBuffered, all_sent, more_buffered, more_sent, nothing_sent}
use Rattle.jobs_csv.proofs.check.list_rows.Goals as goal

pub loop-number-init : goal.loop-number-init
loop-number-init g c = record {
  plain = c.requires;
  bound = omega arith;
  listed = (
    [],
    refl,
    nothing_sent _ _ _ (sym (append-nil c.args.lines)),
    λ text header given. none_listed (g.F.Format.row_of c.args.format.now) g.F.Checked.bad_field g.R.Read.remaining text header c.args.reader.now given,
  );
}

pub returns-then-not-found : goal.returns-then-not-found
returns-then-not-found g c =
    let old = g.W.Write.contents c.args.writer.now in
    let now = g.W.Write.contents c.loop-number.writer in
    let next = g.W.Write.contents c.finish.new.writer in
    let (rows, count, sent, so_far) = c.loop-number.invariant.listed in
    let writes : Appends now next c.loop-number.lines = rw (← c.in_ok-found.ensures.unwritten, ← c.in_ok-found.ensures.lines) c.in_ok-finish.ensures in (
      rows,
      count,
      all_sent old now next c.loop-number.lines (c.args.lines ++ refusal_lines rows) sent writes,
      λ text header given.
          let k = so_far text header given in
          at_end (g.F.Format.row_of c.args.format.now) g.F.Checked.bad_field g.R.Read.remaining text header c.loop-number.number rows c.loop-number.reader (omega arith) k (c.in_ok-found.ensures.end (search rules) text (header ∷ k.front) k.given),
    )

pub loop-number-preserved : goal.loop-number-preserved
loop-number-preserved g c =
    let old = g.W.Write.contents c.args.writer.now in
    let now = g.W.Write.contents c.loop-number.writer in
    let next = g.W.Write.contents c.push_found.new.writer in
    let (rows, count, sent, so_far) = c.loop-number.invariant.listed in
    let (out, writes, all, pushed) = c.in_ok-more.ensures.pushed in
    let found = rows_in c.in_ok-refusal.refusal in
    let lines = c.loop-number.lines in
    let wrote : Appends now next out = rw (← c.in_ok-found.ensures.unwritten) writes in
    let buffered = more_buffered old now lines (lines ++ refusal_lines found) (refusal_lines found) (c.args.lines ++ refusal_lines rows) sent refl in
    let same : out ++ c.in_ok-more.more ≡ lines ++ refusal_lines found = all ∙ ap (λ (l : List ℕ). l ++ refusal_lines found) c.in_ok-found.ensures.lines in
    let more = more_sent old now next (lines ++ refusal_lines found) c.in_ok-more.more out ((c.args.lines ++ refusal_lines rows) ++ refusal_lines found) buffered wrote same in
    record {
      plain = c.in_ok-found.ensures.plain;
      bound = omega (arith, c.in_ok-more.ensures.one);
      listed = (
        rows ++ found,
        length-append rows found ∙ ap₂ ◌+◌ count pushed,
        subst (IsSentOrBuffered old next c.in_ok-more.more) (more_lines c.args.lines rows found) more,
        λ text header given.
            let k = so_far text header given in
            one_read (g.F.Format.row_of c.args.format.now) g.F.Checked.bad_field g.R.Read.remaining text header c.loop-number.number rows c.loop-number.reader c.next_or_finish.new.reader (fields_of c.next_or_finish.new.«record») found k (c.in_ok-found.ensures.more (search rules) text (header ∷ k.front) k.given) c.in_ok-refusal.ensures,
      );
    }

pub returns : goal.returns
returns g c =
    let old = g.W.Write.contents c.args.writer.now in
    let now = g.W.Write.contents c.loop-number.writer in
    let next = g.W.Write.contents c.finish-2.new.writer in
    let (rows, count, sent, so_far) = c.loop-number.invariant.listed in (
      rows,
      count,
      all_sent old now next c.loop-number.lines (c.args.lines ++ refusal_lines rows) sent c.in_ok-finish-2.ensures,
      λ text header given.
          let k = so_far text header given in
          at_limit (g.F.Format.row_of c.args.format.now) g.F.Checked.bad_field g.R.Read.remaining text header c.loop-number.number rows c.loop-number.reader (omega arith) k,
    )
