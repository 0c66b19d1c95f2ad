-- The rows of the replies, which the job and its id determine.
use Rattle.std.specs.Prelude.{ℕ, List, [], ◌∷◌, map, length, codes}
use Rattle.std.specs.List.{join_with_byte, range_with_len}
use Rattle.std.specs.Fmt.{decimal}
use Rattle.collectives.specs.Shape.{tally_of}
use Rattle.collectives.specs.declared.shape.Tally.{Tally}
use Rattle.job_types.specs.Collective.{result_at, shape_of}
use Rattle.job_types.specs.Dim.{dim_of}
use Rattle.job_types.specs.Job.{JobData}
use Rattle.job_types.specs.Reply.{ReplyData}
use Rattle.job_types.specs.declared.kind.Kind.{Kind}
use Rattle.job_types.specs.declared.kind.Kind.TheVariants as kind
use Rattle.jobs_csv.specs.Text.{number_text}

-- The keyword of a collective.
abbrev pub collective_keyword : Kind → List ℕ
collective_keyword (kind.Broadcast root) = codes "broadcast"
collective_keyword (kind.Reduce op root) = codes "reduce"
collective_keyword (kind.AllReduce op) = codes "allreduce"
collective_keyword (kind.Scan op) = codes "scan"
collective_keyword (kind.ExScan op) = codes "exscan"

-- What the first `ranks` places hold at the end, with a space between each two. A place that holds
-- nothing has a dash.
unfoldable pub places_text : ℕ → JobData → List ℕ
places_text ranks job =
    join_with_byte 32 (map (λ rank. number_text (result_at job.kind job.items rank))
    (range_with_len 0 ranks))

-- The rounds and messages of a job's collective.
abbrev pub tally_for : JobData → Tally
tally_for job = tally_of (shape_of job.kind) (dim_of (length job.items))

-- The columns of the rows of replies.
abbrev pub reply_columns : List (List ℕ)
reply_columns =
    codes "lane" ∷ codes "seq" ∷ codes "kind" ∷ codes "dim" ∷ codes "result" ∷ codes "rounds"
    ∷ codes "messages" ∷ []

-- The fields of the row of a reply.
abbrev pub reply_fields : ReplyData → List (List ℕ)
reply_fields reply =
    decimal reply.id.lane ∷ decimal reply.id.seq ∷ collective_keyword reply.job.kind ∷ decimal
    (dim_of (length reply.job.items))
    ∷ places_text (length reply.job.items) reply.job ∷ decimal (tally_for reply.job).rounds
    ∷ decimal (tally_for reply.job).messages ∷ []
