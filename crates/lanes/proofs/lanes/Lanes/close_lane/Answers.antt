use Rattle.std.proofs.Common.{subst, ◌<◌, ◌∙◌, sym, ap}
use mathlib.Core.Option.{none}
use Rattle.atomic_table.specs.Table.{step}
use Rattle.lanes.specs.Inner.Pool.{known_sat}
use Rattle.lanes.specs.declared.sizes.TheConstants.{CLOSED}
use Rattle.lanes.specs.Lanes.{LanesId}
use Rattle.lanes.specs.Inner.Step.{closes_at}
use Rattle.lanes.proofs.AskLemmas.{asked_close}
use Rattle.lanes.proofs.CloseSteps.{close_step, closed_next}
use Rattle.lanes.proofs.lanes.Lanes.close_lane.Goals as goal

pub fetch_add-requires : goal.fetch_add-requires
fetch_add-requires c =
    let m = (known_sat c.args.seat.now.me) in
    let so_far = c.requires.closing in
    let here : LanesId = c.args.self.now in (
      c.requires.table ∙ sym (ap (λ (x : LanesId). x.table) c.self.view_is),
      subst (λ (x : LanesId). c.word-tail.result < x.table.words) (sym c.self.view_is) c.word-tail.ensures.inside,
      asked_close here c.self.inside.table.shared.key c.args.seat.now.id c.word-tail.result c.args.lane c.args.seat.now.me (closes_at (step c.self.inside.table.shared.table_id.slots c.word-tail.result CLOSED 0 none) m)
          (c.self.invariant.2 ∙ ap (λ (x : LanesId). x.plan) c.self.view_is) c.word-tail.ensures.word c.requires.lane c.self.inside.table.shared.table_id.slots
          (close_step here.plan _ _ c.word-tail.result c.args.lane m so_far.0 so_far.1 c.requires.lane so_far.2 c.word-tail.ensures.word),
    )

pub returns-clause-closing : goal.returns-clause-closing
returns-clause-closing c = λ counts long is. closed_next c.args.self.now.plan c.word-tail.result c.args.lane c.fetch_add.result (known_sat c.args.seat.now.me) (known_sat c.fetch_add.new.seat.me) counts long c.requires.lane c.word-tail.ensures.word is c.fetch_add.ensures.2.0.1
