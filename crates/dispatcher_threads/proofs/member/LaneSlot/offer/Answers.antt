use Rattle.std.proofs.Common.{◌≡◌, ◌++◌, ◌∷◌, ℕ, List, Option, length, ap, sym, subst, ◌∙◌}
use Rattle.std.specs.List.{All}
use Rattle.std.proofs.lemmas.List.Elements.{All-rest, All-same}
use Rattle.job_types.specs.Job.{JobData}
use Rattle.job_queue.specs.declared.record.LaneRecord.{LaneRecord}
use Rattle.job_queue.specs.Record.{accepted_jobs}
use Rattle.job_queue.specs.Line.{IsFor}
use Rattle.job_queue.proofs.FeedLemmas.{refused_number}
use Rattle.dispatcher.specs.Shop.{ShopId}
use Rattle.dispatcher.specs.Stop.{given_back}
use Rattle.dispatcher_threads.proofs.MemberLemmas.{none_back, one_more, as_before, is_again, given_up, is_back, stop_of}
use Rattle.dispatcher_threads.proofs.member.LaneSlot.offer.Goals as goal

pub invariant_of-self-in_default-submit : goal.invariant_of-self-in_default-submit
invariant_of-self-in_default-submit g c =
    let line = g.L.JobLine in
    let machine = g.J.Naming.shop.line.sizes.machine in
    let inv = c.self.invariant in
    let old = line.lane_record c.self.inside.lane in
    let new = line.lane_record c.submit.new.lane in
    let gains = c.in_default-submit.ensures.accepted in
    let rest = c.pop_front.new.self.items in
    let none = none_back old c.self.inside.back c.self.inside.left.items c.self.inside.progress inv.3 c.in_default.not-Stopped in (
      subst (λ (s : ShopId). line.is_lane s.line c.submit.new.lane) c.requires c.in_default-submit.ensures.lane,
      subst (λ (n : ℕ). All (IsFor machine n) rest) (ap (λ (r : LaneRecord). r.number) (sym gains)) (All-rest (IsFor machine old.number) c.in-Some.job rest _ c.in-Some.ensures.items inv.1),
      one_more old new _ _ c.self.inside.back c.self.inside.left.items rest g.J.Naming.jobs none gains c.in-Some.ensures.items inv.2,
      none,
      inv.4 ∙ ap (λ (r : LaneRecord). length (g.J.Naming.jobs r.number)) (sym gains),
    )

pub invariant_of-self-in_default-take_back : goal.invariant_of-self-in_default-take_back
invariant_of-self-in_default-take_back g c =
    let line = g.L.JobLine in
    let machine = g.J.Naming.shop.line.sizes.machine in
    let inv = c.self.invariant in
    let old = line.lane_record c.self.inside.lane in
    let new = line.lane_record c.submit.new.lane in
    let rest = c.pop_front.new.self.items in
    let again = c.take_back.new.left.items in
    let back = c.self.inside.back in
    let after = c.take_back.new.back in
    let is = is_again c.in-Err.refused c.in-Err.job rest again back after c.take_back.result c.take_back.ensures c.in_default-take_back.is in
    let gains = (rw is.0 at c.in-Err.ensures.refused) in
    let items : again ≡ c.self.inside.left.items = is.1 ∙ (ap (λ (j : JobData). j ∷ rest) c.in-Err.ensures.gives_back ∙ sym c.in-Some.ensures.items) in
    let none = none_back old back c.self.inside.left.items c.self.inside.progress inv.3 c.in_default.not-Stopped in (
      subst (λ (s : ShopId). line.is_lane s.line c.submit.new.lane) c.requires c.in-Err.ensures.lane,
      subst (λ (r : LaneRecord). All (IsFor machine r.number) again) (sym gains.1) (All-same (IsFor machine old.number) again c.self.inside.left.items items inv.1),
      subst (λ (b : Option JobData). accepted_jobs new ++ given_back b ++ again ≡ g.J.Naming.jobs new.number) (sym is.2) (as_before old new gains.0 back c.self.inside.left.items again g.J.Naming.jobs gains.1 items inv.2),
      is.2 ∙ none,
      inv.4 ∙ ap (λ (r : LaneRecord). length (g.J.Naming.jobs r.number)) (sym gains.1),
    )

pub invariant_of-self-2 : goal.invariant_of-self-2
invariant_of-self-2 g c =
    let line = g.L.JobLine in
    let machine = g.J.Naming.shop.line.sizes.machine in
    let inv = c.self.invariant in
    let old = line.lane_record c.self.inside.lane in
    let new = line.lane_record c.submit.new.lane in
    let why = c.in-Err.refused in
    let job = c.in-Err.job in
    let gains = c.in-Err.ensures.refused in
    let rest = c.pop_front.new.self.items in
    let again = c.take_back.new.left.items in
    let back = c.self.inside.back in
    let after = c.take_back.new.back in
    let stop = c.in-Some-take_back.stop in
    let is = is_back why job rest again back after c.take_back.result stop c.take_back.ensures c.in-Some-take_back.is in
    let number = refused_number old why new gains in
    let items : job ∷ again ≡ c.self.inside.left.items =
    ap (λ (js : List JobData). job ∷ js) is.1 ∙ (ap (λ (j : JobData). j ∷ rest) c.in-Err.ensures.gives_back ∙ sym c.in-Some.ensures.items) in
    let none = none_back old back c.self.inside.left.items c.self.inside.progress inv.3 c.in_default.not-Stopped in (
      subst (λ (s : ShopId). line.is_lane s.line c.submit.new.lane) c.requires c.in-Err.ensures.lane,
      subst (λ (n : ℕ). All (IsFor machine n) again) (sym number) (All-same (IsFor machine old.number) again rest is.1 (All-rest (IsFor machine old.number) c.in-Some.job rest c.self.inside.left.items c.in-Some.ensures.items inv.1)),
      given_up old new why job back after c.self.inside.left.items again g.J.Naming.jobs gains none is.2 items inv.2 number,
      stop_of old new why job after again stop gains c.in-Err.ensures.spent_only is.2 is.0,
      inv.4 ∙ ap (λ (n : ℕ). length (g.J.Naming.jobs n)) (sym number),
    )
