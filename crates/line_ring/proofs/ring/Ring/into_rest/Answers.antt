use Rattle.std.proofs.Common.{◌-◌, ◌<◌, ◌∷◌, ◌++◌, [], ℕ, length, length-append, sym, refl, ap, ◌∙◌, subst, arith}
use Rattle.std.specs.List.{AllByRecursion}
use Rattle.std.proofs.lemmas.List.Elements.{All-from_recursion}
use Rattle.crossbeam_queue.specs.Passes.{view, ruled_capacity}
use Rattle.line_ring.specs.Ring.{RingOf}
use Rattle.line_ring.proofs.SeatLemmas.{one_table, one_machine, ring_is, end_ring}
use Rattle.line_ring.proofs.EndLemmas.{learns_run, drains_piece}
use Rattle.line_ring.proofs.DrainLemmas.{is_last, all_in, begins, begins_with, has_room, drains_on, ring_ends, lanes_back}
use Rattle.line_ring.proofs.ring.Ring.into_rest.Goals as goal

pub len_as-requires-clause-rule : goal.len_as-requires-clause-rule
len_as-requires-clause-rule g c =
    let last = is_last _ _ _ _ _ _ c.end.view_is refl refl c.end.invariant.known c.requires.lanes c.requires.passes in
    learns_run _ _ _ _ _ (all_in _ _ _ [] last (begins_with _ _ _ last.known))

pub loop-piece-init : goal.loop-piece-init
loop-piece-init g c =
    let queue = c.len_as.ensures.queue in
    let last = is_last _ _ _ _ _ _ c.end.view_is refl queue.1 c.end.invariant.known c.requires.lanes c.requires.passes in (
      (queue.0.0 ∙ one_table (end_ring c.end.view_is c.requires.end ∙ sym (ring_is c.self.view_is)), queue.0.2 ∙ c.end.invariant.none_out),
      begins _ _ _ _ _ _ _ _ (begins_with _ _ _ last.known) queue.1 c.self.invariant.0 c.len_as.ensures.rule.0 c.len_as.ensures.rule.1,
      c.self.invariant.1,
    )

pub pop_as-requires-clause-rule : goal.pop_as-requires-clause-rule
pop_as-requires-clause-rule g c =
    let last = is_last _ _ _ _ _ _ c.end.view_is refl c.len_as.ensures.queue.1 c.end.invariant.known c.requires.lanes c.requires.passes in
    let here = all_in _ _ _ _ last c.loop-piece.invariant.1.is in
    (drains_piece _ _ _ _ _ here, learns_run _ _ _ _ _ here)

pub push_back_reserved-requires : goal.push_back_reserved-requires
push_back_reserved-requires g c =
    let rest = c.loop-piece.rest in
    omega (arith, has_room _ _ _ _ _ _ _ _ _ c.loop-piece.invariant.1 c.in-Some.ensures.rule, c.loop-piece.invariant.2, rest.ok)

pub loop-piece-preserved : goal.loop-piece-preserved
loop-piece-preserved g c =
    let inv = c.loop-piece.invariant in
    let queue = c.in-Some.ensures.queue in (
      (queue.0 ∙ inv.0.0, queue.2 ∙ inv.0.1),
      drains_on g.T.Piece.lane g.T.Piece.seq g.T.Piece.is_for _ (view c.len_as.new.pass) (view c.loop-piece.seat) (view c.pop_as.new.pass) c.loop-piece.rest.items c.push_back_reserved.new.self.items c.in-Some.piece c.push_back_reserved.ensures.items inv.1 c.in-Some.ensures.rule,
      omega (arith, c.push_back_reserved.ensures.capacity, inv.2),
    )

pub loop-piece-smaller : goal.loop-piece-smaller
loop-piece-smaller g c =
    let capacity : ℕ = ruled_capacity c.self.inside.queue in
    let out = c.loop-piece.rest.items in
    let room = has_room _ _ _ _ _ _ _ _ _ c.loop-piece.invariant.1 c.in-Some.ensures.rule in
    let less : capacity - length c.push_back_reserved.new.self.items < capacity - length out =
    omega (arith, ap length {x = c.push_back_reserved.new.self.items} {y = out ++ c.in-Some.piece ∷ []} c.push_back_reserved.ensures.items, length-append out (c.in-Some.piece ∷ []), room) in
    less

pub returns-clause-run : goal.returns-clause-run
returns-clause-run g c =
    let last = is_last _ _ _ _ _ _ c.end.view_is refl c.len_as.ensures.queue.1 c.end.invariant.known c.requires.lanes c.requires.passes in
    ring_ends _ _ _ _ _ _ _ _ last c.loop-piece.invariant.1 c.in_default.ensures.rule.1

pub returns-clause-numbers : goal.returns-clause-numbers
returns-clause-numbers g c =
    let last = is_last _ _ _ _ _ _ c.end.view_is refl c.len_as.ensures.queue.1 c.end.invariant.known c.requires.lanes c.requires.passes in
    lanes_back _ _ _ _ _ _ _ _ last c.loop-piece.invariant.1 c.in_default.ensures.rule.1

pub returns-clause-fits : goal.returns-clause-fits
returns-clause-fits g c = omega (arith, c.loop-piece.invariant.1.fits, ap (λ (r : RingOf). r.capacity) c.self.view_is)

pub returns-clause-machine : goal.returns-clause-machine
returns-clause-machine g c =
    let last = is_last _ _ _ _ _ _ c.end.view_is refl c.len_as.ensures.queue.1 c.end.invariant.known c.requires.lanes c.requires.passes in
    All-from_recursion (g.T.Piece.is_for c.args.self.id.machine) _ (subst (λ (m : ℕ). AllByRecursion (g.T.Piece.is_for m) c.loop-piece.rest.items) (last.machine ∙ one_machine c.requires.end) c.loop-piece.invariant.1.made_for)
