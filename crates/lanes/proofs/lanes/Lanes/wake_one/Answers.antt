use Rattle.std.proofs.Common.{◌≡◌, List, ◌∷◌, inl, inr, refl, sym, ap, ◌∙◌, arith}
use Rattle.wake_pool.specs.Words.{word_count}
use Rattle.wake_pool.specs.declared.phase.WakePhase.TheVariants.{Idle, Giving, Waking}
use Rattle.wake_calls.specs.declared.waking.Wake.{Wake}
use Rattle.wake_calls.specs.declared.waking.Wake.TheVariants.{Worker, Again}
use Rattle.lanes.specs.declared.sizes.Plan.{Plan}
use Rattle.lanes.specs.Lanes.{LanesId, LaneOf}
use Rattle.lanes.specs.Inner.Step.{lane_in}
use Rattle.wake_calls.specs.Thread.{moved}
use Rattle.wake_calls.specs.declared.deed.WakeDeed.{WakeDeed}
use Rattle.wake_calls.specs.declared.deed.WakeDeed.TheVariants.{Gave}
use Rattle.lanes.specs.Inner.Pool.{BothSat, goes}
use Rattle.lanes.proofs.AskLemmas.{producer_first, producer_next, producer_noted, producer_last, producer_in, over_idle, under_waking}
use Rattle.lanes.proofs.lanes.Lanes.wake_one.Goals as goal

pub give-requires-clause-phase : goal.give-requires-clause-phase
give-requires-clause-phase c =
    producer_in c.lane.inside.plan c.self.inside.plan c.self.inside.table.shared.key c.lane.inside.number c.lane.inside.seen (Giving c.in-Worker.worker) c.wake_check-woken.new.seat.me
    (producer_next c.lane.inside.plan c.lane.inside.number c.lane.inside.seen c.lane.invariant.2.phase (Giving c.in-Worker.worker) c.lane.inside.seat.me c.wake_check-woken.new.seat.me (producer_first c.lane.inside.plan c.lane.inside.number c.lane.inside.seen c.lane.inside.seat.me c.lane.invariant.0 c.lane.invariant.2) (c.wake_check-woken.ensures.woken c.in-Worker.worker c.in-Worker.is))
    (ap (λ (x : LanesId). x.plan) (ap (λ (x : LaneOf). x.id) c.lane.view_is ∙ (c.requires.id ∙ sym c.self.view_is)))
    c.self.invariant.2

pub invariant_of-lane : goal.invariant_of-lane
invariant_of-lane c =
    let last = (producer_last c.lane.inside.plan c.lane.inside.number c.lane.inside.seen Idle c.give.new.seat.me (producer_noted c.lane.inside.plan c.lane.inside.number c.lane.inside.seen Idle (Gave c.in-Worker.worker) (moved goes Idle c.wake_check-woken.new.seat.me) c.give.new.seat.me (producer_next c.lane.inside.plan c.lane.inside.number c.lane.inside.seen (Giving c.in-Worker.worker) Idle c.wake_check-woken.new.seat.me (moved goes Idle c.wake_check-woken.new.seat.me) (producer_next c.lane.inside.plan c.lane.inside.number c.lane.inside.seen c.lane.invariant.2.phase (Giving c.in-Worker.worker) c.lane.inside.seat.me c.wake_check-woken.new.seat.me (producer_first c.lane.inside.plan c.lane.inside.number c.lane.inside.seen c.lane.inside.seat.me c.lane.invariant.0 c.lane.invariant.2) (c.wake_check-woken.ensures.woken c.in-Worker.worker c.in-Worker.is)) refl) c.give.ensures.idle) (inl refl)) in
    let words = ap (λ (p : Plan). word_count p.sleepers) (ap (λ (x : LanesId). x.plan) (ap (λ (x : LaneOf). x.id) c.lane.view_is ∙ (c.requires.id ∙ sym c.self.view_is))) in
    (last.0, c.lane.invariant.1, last.1, last.2 ∙ sym (over_idle (word_count c.lane.inside.plan.sleepers) c.word_count-words.result (omega (arith, words, c.word_count-words.ensures.count))))

pub returns-in-Worker-clause-known : goal.returns-in-Worker-clause-known
returns-in-Worker-clause-known c =
    ap (λ (z : BothSat). lane_in z.0.known.lanes) c.give.ensures.idle ∙ (ap (λ (z : BothSat). lane_in z.0.known.lanes) (c.wake_check-woken.ensures.woken c.in-Worker.worker c.in-Worker.is) ∙ ap (λ (x : LaneOf). x.known) c.lane.view_is)

pub returns-in-Worker-clause-deeds : goal.returns-in-Worker-clause-deeds
returns-in-Worker-clause-deeds c =
    ap (λ (z : BothSat). z.0.deeds) c.give.ensures.idle
    ∙ ap (λ (ds : List WakeDeed). Gave c.in-Worker.worker ∷ ds) (ap (λ (z : BothSat). z.0.deeds) (c.wake_check-woken.ensures.woken c.in-Worker.worker c.in-Worker.is) ∙ ap (λ (x : LaneOf). x.deeds) c.lane.view_is)

pub returns-in-Again-clause-deeds : goal.returns-in-Again-clause-deeds
returns-in-Again-clause-deeds c =
    ap (λ (z : BothSat). z.0.deeds) (c.wake_check-woken.ensures.again c.in-Again.left c.in-Again.is) ∙ ap (λ (x : LaneOf). x.deeds) c.lane.view_is

pub invariant_of-lane-in-Again : goal.invariant_of-lane-in-Again
invariant_of-lane-in-Again c =
    let last = (producer_last c.lane.inside.plan c.lane.inside.number c.lane.inside.seen (Waking c.in-Again.left) c.wake_check-woken.new.seat.me (producer_next c.lane.inside.plan c.lane.inside.number c.lane.inside.seen c.lane.invariant.2.phase (Waking c.in-Again.left) c.lane.inside.seat.me c.wake_check-woken.new.seat.me (producer_first c.lane.inside.plan c.lane.inside.number c.lane.inside.seen c.lane.inside.seat.me c.lane.invariant.0 c.lane.invariant.2) (c.wake_check-woken.ensures.again c.in-Again.left c.in-Again.is)) (inr (c.in-Again.left, refl))) in
    let words = ap (λ (p : Plan). word_count p.sleepers) (ap (λ (x : LanesId). x.plan) (ap (λ (x : LaneOf). x.id) c.lane.view_is ∙ (c.requires.id ∙ sym c.self.view_is))) in
    (last.0, c.lane.invariant.1, last.1, last.2 ∙ sym (under_waking (word_count c.lane.inside.plan.sleepers) c.in-Again.left (omega (arith, words, c.wake_check-woken.ensures.left c.in-Again.left c.in-Again.is))))

pub returns-in-Again-clause-id : goal.returns-in-Again-clause-id
returns-in-Again-clause-id c =
    (λ i. record { table = c.wake_check-woken.ensures.table i; plan = c.lane.inside.plan }) ∙ (ap (λ (x : LaneOf). x.id) c.lane.view_is ∙ c.requires.id)

pub returns-in-Again-clause-known : goal.returns-in-Again-clause-known
returns-in-Again-clause-known c =
    ap (λ (z : BothSat). lane_in z.0.known.lanes) (c.wake_check-woken.ensures.again c.in-Again.left c.in-Again.is) ∙ ap (λ (x : LaneOf). x.known) c.lane.view_is

pub returns-in-Again-clause-worker : goal.returns-in-Again-clause-worker
returns-in-Again-clause-worker c =
    λ x told. absurd (let e : ◌≡◌ {A = Wake} (Again c.in-Again.left) (Worker x) = told in cc)
