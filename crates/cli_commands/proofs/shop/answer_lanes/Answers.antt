use Rattle.std.proofs.Common.{◌≡◌, ◌≤◌, Err, length, map, sym, subst, arith}
use Rattle.std.proofs.lemmas.List.{length-map}
use Rattle.cube_shape.specs.declared.limits.TheConstants.{MAX_LANES}
use Rattle.jobs_csv.specs.declared.fault.FaultKind.TheVariants.{Spent}
use Rattle.cli_commands.specs.FileRun.{HasSpentLane, ReturnsRun}
use Rattle.cli_commands.specs.declared.shop.AnswerError.{AnswerError}
use Rattle.cli_commands.proofs.LaneLemmas.{few_lanes, made_for}
use Rattle.cli_commands.proofs.RunLemmas.{as_many, file_answered, file_unanswered, spent_lane}
use Rattle.cli_commands.proofs.shop.answer_lanes.Goals as goal

pub answer_all-requires-clause-lanes : goal.answer_all-requires-clause-lanes
answer_all-requires-clause-lanes g c κs within =
    let (jobs, are, machine) = c.requires.lanes in
    let few : length (map (λ list. list.items) c.open_lanes-lists.result.items) ≤ MAX_LANES =
    few_lanes c.args.lanes.items _ jobs are (c.open_lanes-lists.ensures jobs are) in
    omega (arith, few, length-map c.open_lanes-lists.result.items (λ list. list.items))

pub answer_all-requires-clause-made_for : goal.answer_all-requires-clause-made_for
answer_all-requires-clause-made_for g c κs within =
    let (jobs, are, machine) = c.requires.lanes in
    λ lane lt. made_for c.args.sizes.dim _ jobs (c.open_lanes-lists.ensures jobs are) machine lane
    (omega (arith, lt, length-map c.open_lanes-lists.result.items (λ list. list.items)))

pub returns-in-Ok-clause-answered : goal.returns-in-Ok-clause-answered
returns-in-Ok-clause-answered g c parse are =
    file_answered g.F.Floor.machine_words c.args.sizes.dim parse c.args.lanes (map (λ list. list.items) c.open_lanes-lists.result.items)
    c.in-Ok.end are c.open_lanes-lists.ensures c.in-Ok.ensures.answered.run c.in-Ok.ensures.answered.answers
    (as_many _ _ _ c.open_lanes-lists.result.items c.in-Ok.ensures.answered.accepted)

pub returns-in-Err-clause-answered : goal.returns-in-Err-clause-answered
returns-in-Err-clause-answered g c parse are =
    subst (λ (u : AnswerError _). ReturnsRun g.F.Floor.machine_words c.args.sizes.dim parse (Err u)) (sym c.to_error.ensures)
    (file_unanswered g.F.Floor.machine_words c.args.sizes parse c.args.lanes c.open_lanes-lists.result
    c.in-Err.stopped are c.open_lanes-lists.ensures c.in-Err.ensures.unfinished)

pub returns-in-Err-clause-spent : goal.returns-in-Err-clause-spent
returns-in-Err-clause-spent g c =
    subst (λ (u : AnswerError _). u.fault.what ≡ Spent → HasSpentLane u.end) (sym c.to_error.ensures)
    (spent_lane g.F.Floor.machine_words c.args.sizes c.open_lanes-lists.result c.in-Err.stopped c.in-Err.ensures.unfinished)
