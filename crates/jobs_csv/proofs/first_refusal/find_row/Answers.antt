use Rattle.std.proofs.Common.{◌∷◌, [], arith, rules}
use Rattle.csv.specs.Records.{fields_of}
use Rattle.jobs_csv.proofs.RefusalLemmas.{at_end, at_limit, none_found, none_listed, one_found, one_read}
use Rattle.jobs_csv.proofs.first_refusal.find_row.Goals as goal

pub loop-number-init : goal.loop-number-init
loop-number-init g c = record {
  plain = c.requires;
  good = λ text header given. none_listed (g.F.Format.row_of c.args.format.now) g.F.Checked.bad_field g.R.Read.remaining text header c.args.reader.now given;
}

pub returns-then-not-is_found : goal.returns-then-not-is_found
returns-then-not-is_found g c = λ text header given.
    let k = c.loop-number.invariant.good text header given in
    none_found (g.F.Format.row_of c.args.format.now) g.F.Checked.bad_field text header
    (at_end (g.F.Format.row_of c.args.format.now) g.F.Checked.bad_field g.R.Read.remaining text header c.loop-number.number [] c.loop-number.reader (omega arith) k (c.in-Ok.ensures.end (search rules) text (header ∷ k.front) k.given))

pub returns-in-Some : goal.returns-in-Some
returns-in-Some g c = λ text header given.
    let k = c.loop-number.invariant.good text header given in
    one_found (g.F.Format.row_of c.args.format.now) g.F.Checked.bad_field g.R.Read.remaining text header c.loop-number.number c.in-Some.row c.loop-number.reader c.next_record.new.reader (fields_of c.next_record.new.row) (omega arith) k
    (c.in-Ok.ensures.more (search rules) text (header ∷ k.front) k.given) (search rules)

pub loop-number-preserved : goal.loop-number-preserved
loop-number-preserved g c = record {
  plain = c.in-Ok.ensures.plain;
  good = λ text header given.
      let k = c.loop-number.invariant.good text header given in
      one_read (g.F.Format.row_of c.args.format.now) g.F.Checked.bad_field g.R.Read.remaining text header c.loop-number.number [] c.loop-number.reader c.next_record.new.reader (fields_of c.next_record.new.row) [] k
      (c.in-Ok.ensures.more (search rules) text (header ∷ k.front) k.given) (search rules);
}

pub returns : goal.returns
returns g c = λ text header given.
    let k = c.loop-number.invariant.good text header given in
    none_found (g.F.Format.row_of c.args.format.now) g.F.Checked.bad_field text header
    (at_limit (g.F.Format.row_of c.args.format.now) g.F.Checked.bad_field g.R.Read.remaining text header c.loop-number.number [] c.loop-number.reader (omega arith) k)
