use Rattle.std.proofs.Common.{◌≡◌, [], ◌∷◌, length, sym, ap, ◌∙◌, subst}
use Rattle.std.specs.Mem.Slots.{slots_items}
use Rattle.atomic_table.specs.Table.{Seen, Final}
use Rattle.lanes.specs.Inner.Pool.{known_sat}
use Rattle.lanes.specs.declared.sizes.Plan.{Plan}
use Rattle.lanes.specs.Lanes.{LanesId, EndOf}
use Rattle.lanes.specs.Run.{WholeLanes}
use Rattle.lanes.specs.Inner.Pool.{KeepsBoth}
use Rattle.lanes.proofs.PoolLemmas.{final_lanes}
use Rattle.lanes.specs.Inner.Step.{Sat, counts_in, has_closed}
use Rattle.lanes.proofs.RestLemmas.{range, ends}
use Rattle.lanes.proofs.lanes.Lanes.into_rest.Goals as goal

pub drain-requires-clause-range : goal.drain-requires-clause-range
drain-requires-clause-range c =
    let plan = c.self.inside.plan in
    let m = (known_sat c.end.inside.seat.me) in
    let same : c.end.inside.plan ≡ plan = ap (λ (x : LanesId). x.plan) (ap (λ (x : EndOf). x.id) c.end.view_is ∙ (c.requires.end ∙ sym c.self.view_is)) in
    let closers : m.0.closers ≡ has_closed plan (counts_in m) ∷ [] = ap (λ (z : Sat). z.0.closers) c.end.invariant ∙ ap (λ (p : Plan). has_closed p (counts_in m) ∷ []) same in
    range plan c.end.inside.seat.id m.0 (counts_in m) (slots_items c.close_with-closed.result.words) (slots_items c.close_with-closed.result.slots)
    (final_lanes plan c.end.inside.seat.id c.end.inside.seat.me.0 (slots_items c.close_with-closed.result.words) (slots_items c.close_with-closed.result.slots)
    (subst (λ (p : Plan). Final (Seen (KeepsBoth p) c.end.inside.seat.id c.end.inside.seat.me.0) (slots_items c.close_with-closed.result.words) (slots_items c.close_with-closed.result.slots)) c.self.invariant.2 c.close_with-closed.ensures.values.2)) closers

pub returns : goal.returns
returns c =
    let plan = c.self.inside.plan in
    let m = (known_sat c.end.inside.seat.me) in
    let left = c.drain.new.rest.items in
    let same : c.end.inside.plan ≡ plan = ap (λ (x : LanesId). x.plan) (ap (λ (x : EndOf). x.id) c.end.view_is ∙ (c.requires.end ∙ sym c.self.view_is)) in
    let closers : m.0.closers ≡ has_closed plan (counts_in m) ∷ [] = ap (λ (z : Sat). z.0.closers) c.end.invariant ∙ ap (λ (p : Plan). has_closed p (counts_in m) ∷ []) same in
    let all_lanes : length m.0.lanes ≡ plan.sizes.lanes = ap (λ (x : EndOf). length x.lanes) c.end.view_is ∙ (c.requires.lanes ∙ sym (ap (λ (x : LanesId). x.plan.sizes.lanes) c.self.view_is)) in
    let all_workers : length m.0.workers ≡ plan.sizes.workers = ap (λ (x : EndOf). length x.workers) c.end.view_is ∙ (c.requires.workers ∙ sym (ap (λ (x : LanesId). x.plan.sizes.workers) c.self.view_is)) in
    let whole : WholeLanes plan.sizes m.0.lanes m.0.workers left (counts_in m) =
    ends plan c.end.inside.seat.id m.0 (counts_in m) (slots_items c.close_with-closed.result.words) (slots_items c.close_with-closed.result.slots)
    (final_lanes plan c.end.inside.seat.id c.end.inside.seat.me.0 (slots_items c.close_with-closed.result.words) (slots_items c.close_with-closed.result.slots)
    (subst (λ (p : Plan). Final (Seen (KeepsBoth p) c.end.inside.seat.id c.end.inside.seat.me.0) (slots_items c.close_with-closed.result.words) (slots_items c.close_with-closed.result.slots)) c.self.invariant.2 c.close_with-closed.ensures.values.2)) closers all_lanes all_workers left c.drain.ensures in
    subst (λ (x : EndOf). WholeLanes c.args.self.plan.sizes x.lanes x.workers left x.counts) c.end.view_is
    (subst (λ (x : LanesId). WholeLanes x.plan.sizes m.0.lanes m.0.workers left (counts_in m)) c.self.view_is whole)
