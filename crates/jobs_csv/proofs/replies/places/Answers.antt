use Rattle.std.proofs.Common.{◌≡◌, ◌++◌, ◌∷◌, [], ◌==◌, if◌then◌else◌, string_bytes, ap, sym, ◌∙◌}
use Rattle.jobs_csv.specs.Replies.{places_text}
use Rattle.jobs_csv.specs.Text.{number_text}
use Rattle.jobs_csv.proofs.PlainLemmas.{all_both, plain_nothing, plain_separator}
use Rattle.jobs_csv.proofs.PlaceTextLemmas.{next_place, no_places}
use Rattle.jobs_csv.proofs.replies.places.Goals as goal

pub loop-rank-init : goal.loop-rank-init
loop-rank-init c = record {
  text = c.requires.empty ∙ sym (no_places c.args.reply.now.job);
  plain = rw c.requires.empty plain_nothing;
}

pub loop-rank-preserved : goal.loop-rank-preserved
loop-rank-preserved c =
    let next = (if c.loop-rank.rank == 0 then [] else 32 ∷ []) ++ number_text c.at.result in
    let pushed : string_bytes c.push_place.new.text ≡ string_bytes c.loop-rank.text ++ next = c.in_ok-push_place.ensures.text in
    record {
      text = pushed ∙ ap (λ t. t ++ next) c.loop-rank.invariant.text ∙ ap (λ p. places_text c.loop-rank.rank c.args.reply.now.job ++ ((if c.loop-rank.rank == 0 then [] else 32 ∷ []) ++ number_text p)) c.at.ensures ∙ sym (next_place c.loop-rank.rank c.args.reply.now.job);
      plain = rw pushed (all_both (string_bytes c.loop-rank.text) next c.loop-rank.invariant.plain (all_both _ (number_text c.at.result) (plain_separator (c.loop-rank.rank == 0)) c.in_ok-push_place.ensures.plain));
    }
