use Rattle.std.proofs.Common.{sym, ap, ◌∙◌}
use Rattle.line_gate.specs.declared.gate.Counts.{Counts}
use Rattle.line_ruled.proofs.DealtLemmas.{is_of}
use Rattle.line_ruled.proofs.job_line.RuledLineJobLine.open.Goals as goal

pub returns-clause-closer : goal.returns-clause-closer
returns-clause-closer c =
    let dealt = c.deal_lanes-lanes.ensures in
    let all = c.deal_passes-passes.ensures in
    let counts = c.in_ok-gate.ensures.counts in (
      is_of c.in_ok-gate.gate c.in-Ok-open.ring _ _ (c.into_closer.ensures ∙ all.members) all.end.0,
      record {
        lanes = all.lanes ∙ (dealt.end.1 ∙ sym (ap (λ (x : Counts). x.lanes) counts));
        passes = all.end.1 ∙ sym (ap (λ (x : Counts). x.passes) counts);
        no_lanes = all.back.0 ∙ (dealt.back.0 ∙ c.in-Ok-open.ensures.none_back.0);
        no_passes = all.back.1 ∙ (dealt.back.1 ∙ c.in-Ok-open.ensures.none_back.1);
      },
    )
