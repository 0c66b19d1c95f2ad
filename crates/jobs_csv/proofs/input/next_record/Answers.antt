use Rattle.std.proofs.Common.{inl, ◌∙◌}
use Rattle.csv.specs.Records.{fields_of}
use Rattle.jobs_csv.proofs.Given.{all_given, more_given, stops}
use Rattle.jobs_csv.proofs.input.next_record.Goals as goal

pub stopped_for-requires : goal.stopped_for-requires
stopped_for-requires g c =
    stops g.R.Read.remaining c.args.reader.now c.read_byte_record.new.self _ c.requires.flexible (c.in-Err.ensures.why c.requires.ready)

pub returns-clause-plain : goal.returns-clause-plain
returns-clause-plain g c =
    let read = c.in-Ok.ensures.reads c.requires.trim c.requires.ready in
    record {
      trim = read.3 ∙ c.requires.trim;
      ready = inl (c.in-Ok.ensures.ready c.requires.trim);
      config = read.2 ∙ c.requires.config;
      flexible = c.in-Ok.ensures.flexible ∙ c.requires.flexible;
    }

pub returns-clause-more : goal.returns-clause-more
returns-clause-more g c = λ yes bytes rows given.
    more_given g.R.Read.remaining c.args.reader.now c.read_byte_record.new.self (fields_of c.read_byte_record.new.row) bytes rows c.requires given (rw yes at (c.in-Ok.ensures.reads c.requires.trim c.requires.ready))

pub returns-clause-end : goal.returns-clause-end
returns-clause-end g c = λ no bytes rows given.
    all_given g.R.Read.remaining c.args.reader.now c.read_byte_record.new.self (fields_of c.read_byte_record.new.row) bytes rows c.requires given (rw no at (c.in-Ok.ensures.reads c.requires.trim c.requires.ready))
