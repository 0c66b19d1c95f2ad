use Rattle.std.proofs.Common.{◌≡◌, string_bytes}
use Rattle.jobs_csv.specs.Text.{IsPlainField}
use Rattle.jobs_csv.specs.Replies.{places_text}
use Rattle.jobs_csv.proofs.replies.places.Given as goal

abbrev pub invariant-loop-rank : goal.invariant-loop-rank
invariant-loop-rank l = record {
  text : string_bytes l.text ≡ places_text l.rank l.reply.job;
  plain : IsPlainField (string_bytes l.text);
}
