use Rattle.std.proofs.Common.{◌∷◌, [], ◌++◌, rules, arith}
use Rattle.std.proofs.lemmas.List.Elements.{All-push}
use Rattle.csv.specs.Records.{fields_of}
use Rattle.jobs_csv.proofs.FileLemmas.{all_gathered, bad_row, header_read, one_more_read, too_many}
use Rattle.jobs_csv.proofs.format.read_rows.Goals as goal

pub loop-number-init : goal.loop-number-init
loop-number-init g c = record {
  plain = c.requires.plain;
  read = (
    [],
    c.requires.empty,
    λ k d lt. absurd (omega (arith, lt)),
    λ text header given good. header_read g.F.Format.header_of (g.F.Format.row_of c.args.format.now) g.R.Read.remaining text header c.args.reader.now given good,
  );
}

pub returns-then-not-branch-clause-parse : goal.returns-then-not-branch-clause-parse
returns-then-not-branch-clause-parse g c =
    let (rows, held, good, so_far) = c.loop-number.invariant.read in
    λ text header given is_good.
    let k = so_far text header given is_good in
    all_gathered g.G.RowSink.contents g.F.Format.header_of (g.F.Format.row_of c.args.format.now) g.R.Read.remaining text c.loop-number.number rows c.loop-number.rows c.loop-number.reader held k (c.in_ok-next_record.ensures.end (search rules) _ (k.header ∷ k.front) k.given)

pub returns-in-Err-clause-parse : goal.returns-in-Err-clause-parse
returns-in-Err-clause-parse g c =
    let (rows, held, good, so_far) = c.loop-number.invariant.read in
    λ text header given is_good.
    let k = so_far text header given is_good in
    rw c.fault_at.ensures (bad_row g.F.Format.header_of (g.F.Format.row_of c.args.format.now) g.R.Read.remaining text c.loop-number.number rows c.loop-number.reader c.next_record.new.reader (fields_of c.next_record.new.row) c.in-Err.what k (c.in_ok-next_record.ensures.more (search rules) _ (k.header ∷ k.front) k.given) (omega arith) c.in-Err.ensures.parse)

pub push-requires : goal.push-requires
push-requires g c =
    let (rows, held, good, so_far) = c.loop-number.invariant.read in
    (rows, held)

pub loop-number-preserved : goal.loop-number-preserved
loop-number-preserved g c =
    let (rows, held, good, so_far) = c.loop-number.invariant.read in
    record {
      plain = c.in_ok-next_record.ensures.plain;
      read = (
        rows ++ c.in-Ok.row ∷ [],
        search rules,
        All-push (g.F.Format.is_row c.args.format.now) rows c.in-Ok.row good c.in-Ok.ensures.good,
        λ text header given is_good.
            let k = so_far text header given is_good in
            one_more_read g.F.Format.header_of (g.F.Format.row_of c.args.format.now) g.R.Read.remaining text c.loop-number.number rows c.loop-number.reader c.next_record.new.reader (fields_of c.next_record.new.row) c.in-Ok.row k (c.in_ok-next_record.ensures.more (search rules) _ (k.header ∷ k.front) k.given) (omega arith) c.in-Ok.ensures.parse,
      );
    }

pub returns-then-branch-clause-parse : goal.returns-then-branch-clause-parse
returns-then-branch-clause-parse g c =
    let (rows, held, good, so_far) = c.loop-number.invariant.read in
    λ text header given is_good.
    let k = so_far text header given is_good in
    too_many g.F.Format.header_of (g.F.Format.row_of c.args.format.now) g.R.Read.remaining text c.loop-number.number rows c.loop-number.reader c.next_record-2.new.reader (fields_of c.next_record-2.new.row) k (c.in_ok-next_record-2.ensures.more (search rules) _ (k.header ∷ k.front) k.given) (omega arith)

pub returns-clause-parse : goal.returns-clause-parse
returns-clause-parse g c =
    let (rows, held, good, so_far) = c.loop-number.invariant.read in
    λ text header given is_good.
    let k = so_far text header given is_good in
    all_gathered g.G.RowSink.contents g.F.Format.header_of (g.F.Format.row_of c.args.format.now) g.R.Read.remaining text c.loop-number.number rows c.loop-number.rows c.loop-number.reader held k (c.in_ok-next_record-2.ensures.end (search rules) _ (k.header ∷ k.front) k.given)
