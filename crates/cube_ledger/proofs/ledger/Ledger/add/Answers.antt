use Rattle.std.proofs.Common.{◌≡◌, ◌+◌, ◌<◌, ◌≤◌, ◌^◌, ◌++◌, [], ◌∷◌, get_or, length, rules, set, subst, sym, ap, ◌∙◌}
use Rattle.cube_ledger.specs.declared.ledger.Ledger.TheInside.{Inside}
use Rattle.cube_ledger.specs.declared.ledger.Totals.{Totals}
use Rattle.cube_ledger.specs.declared.slip.Slip.{Slip}
use Rattle.cube_ledger.specs.Ledger.{is_any, is_of_dim, is_of_lane}
use Rattle.cube_ledger.specs.Inner.Tables.{HasRoom, HasTables, and_slip}
use Rattle.cube_ledger.proofs.TableLemmas.{added_in, added_out, room_for, totals_same}
use Rattle.cube_ledger.proofs.ledger.Ledger.add.Goals as goal
use Rattle.cube_ledger.proofs.ledger.Ledger.add.Goals.{then-lane-lt-LANES, else-lane-lt-LANES+in_ok-push}

pub add_at-requires-clause-room : goal.add_at-requires-clause-room
add_at-requires-clause-room c =
    let few : c.self.inside.total.jobs + 1 < 2 ^ 64 = search rules in
    let lane = c.args.slip.now.id.lane in
    let known : lane < length c.self.inside.lanes = search rules in
    λ d. subst HasRoom (sym (c.self.invariant.by_lane lane d known)) (room_for _ _ _ _ _ c.args.slip.now c.self.invariant (is_of_lane lane) few)

pub add_at-requires-2-clause-room : goal.add_at-requires-2-clause-room
add_at-requires-2-clause-room c =
    let few : c.self.inside.total.jobs + 1 < 2 ^ 64 = search rules in
    let dim = c.args.slip.now.region.dim in
    let known : dim < length c.self.inside.dims = search rules in
    let same : c.if-lane-lt-LANES.self-inside.dims ≡ c.self.inside.dims =
    elim c.if-lane-lt-LANES.branch [ then-lane-lt-LANES w ↦ ap (λ i. i.dims) w.self-inside-is | else-lane-lt-LANES+in_ok-push w ↦ ap (λ i. i.dims) w.self-inside-is ] in
    λ d. subst (λ dims. HasRoom (get_or dims dim d)) (sym same)
    (subst HasRoom (sym (c.self.invariant.by_dim dim d known)) (room_for _ _ _ _ _ c.args.slip.now c.self.invariant (is_of_dim dim) few))

pub add_if-self-inside-requires-clause-processors : goal.add_if-self-inside-requires-clause-processors
add_if-self-inside-requires-clause-processors c =
    let few : c.self.inside.total.jobs + 1 < 2 ^ 64 = search rules in
    let same : c.if-lane-lt-LANES.self-inside.total ≡ c.self.inside.total =
    elim c.if-lane-lt-LANES.branch [ then-lane-lt-LANES w ↦ ap (λ i. i.total) w.self-inside-is | else-lane-lt-LANES+in_ok-push w ↦ ap (λ i. i.total) w.self-inside-is ] in
    let room = subst HasRoom (sym (same ∙ c.self.invariant.in_all)) (room_for _ _ _ _ _ c.args.slip.now c.self.invariant is_any few) in
    room.processors

pub add_if-self-inside-requires-clause-idle : goal.add_if-self-inside-requires-clause-idle
add_if-self-inside-requires-clause-idle c =
    let few : c.self.inside.total.jobs + 1 < 2 ^ 64 = search rules in
    let same : c.if-lane-lt-LANES.self-inside.total ≡ c.self.inside.total =
    elim c.if-lane-lt-LANES.branch [ then-lane-lt-LANES w ↦ ap (λ i. i.total) w.self-inside-is | else-lane-lt-LANES+in_ok-push w ↦ ap (λ i. i.total) w.self-inside-is ] in
    let room = subst HasRoom (sym (same ∙ c.self.invariant.in_all)) (room_for _ _ _ _ _ c.args.slip.now c.self.invariant is_any few) in
    room.idle

-- The tables with one more slip, after it went to its lane.
abbrev more : Slip → Totals → Inside → Type 0
more s d i = HasTables i.lanes (set i.dims s.region.dim (and_slip (get_or i.dims s.region.dim d) s)) (and_slip i.total s) i.others.items (i.slips.items ++ s ∷ [])

pub invariant_of-self-2 : goal.invariant_of-self-2
invariant_of-self-2 c =
    let s = c.args.slip.now in
    let first = c.self.inside in
    let then = c.if-lane-lt-LANES.self-inside in
    let d = first.total in
    let known : s.region.dim < length first.dims = search rules in
    let done : more s d then =
    elim c.if-lane-lt-LANES.branch [
      | then-lane-lt-LANES w ↦
          let here : s.id.lane < length first.lanes = search rules in
          subst (more s d) (sym w.self-inside-is)
          (subst (λ lanes. HasTables lanes (set first.dims s.region.dim (and_slip (get_or first.dims s.region.dim d) s)) (and_slip first.total s) first.others.items (first.slips.items ++ s ∷ [])) (sym (w.add_at.ensures d))
          (added_in first.lanes first.dims first.total first.others.items first.slips.items s c.self.invariant d c.requires.dim c.requires.idle known here))
      | else-lane-lt-LANES+in_ok-push w ↦
          let above : length first.lanes ≤ s.id.lane = search rules in
          subst (more s d) (sym w.self-inside-is)
          (subst (λ others. HasTables first.lanes (set first.dims s.region.dim (and_slip (get_or first.dims s.region.dim d) s)) (and_slip first.total s) others (first.slips.items ++ s ∷ [])) (sym w.in_ok-push.ensures.items)
          (added_out first.lanes first.dims first.total first.others.items first.slips.items s c.self.invariant d c.requires.dim c.requires.idle known above))
    ] in
    let summed : c.add_if-self-inside.result ≡ and_slip then.total s = totals_same _ _ c.add_if-self-inside.ensures.jobs c.add_if-self-inside.ensures.processors c.add_if-self-inside.ensures.idle in
    subst (λ dims. HasTables then.lanes dims c.add_if-self-inside.result then.others.items c.and-self-inside.result.items) (sym (c.add_at-2.ensures d))
    (subst (λ all. HasTables then.lanes (set then.dims s.region.dim (and_slip (get_or then.dims s.region.dim d) s)) all then.others.items c.and-self-inside.result.items) (sym summed)
    (subst (HasTables then.lanes (set then.dims s.region.dim (and_slip (get_or then.dims s.region.dim d) s)) (and_slip then.total s) then.others.items) (sym c.and-self-inside.ensures) done))
