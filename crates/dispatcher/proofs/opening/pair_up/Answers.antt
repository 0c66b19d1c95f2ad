use Rattle.std.proofs.Common.{◌≡◌, ◌++◌, [], map, length, ap, ◌∙◌, arith}
use Rattle.std.proofs.lemmas.List.Elements.{All-rest, All-same}
use Rattle.dispatcher.proofs.GoesOverLemmas.{none_behind}
use Rattle.dispatcher.proofs.OpenLemmas.{moved}
use Rattle.dispatcher.proofs.opening.pair_up.Goals as goal

pub loop-pass-preserved : goal.loop-pass-preserved
loop-pass-preserved g c =
    let inv = c.loop-pass.invariant in
    let old = c.loop-pass.workers.items in
    let new = c.push_reserved.new.self.items in
    let passes = c.pop_front.new.self.items in
    let stations = c.pop_front-in-Some.new.self.items in (
      All-rest (λ p. (g.L.JobLine.pass_record p).taken ≡ []) c.in-Some.pass passes _ c.in-Some.ensures.items inv.0,
      All-rest (λ s. g.F.Floor.grants s ≡ []) c.in-Some-pop_front.station stations _ c.in-Some-pop_front.ensures.items inv.1,
      moved (λ w. w.pass) c.args.passes.items c.loop-pass.passes.items passes old new _ inv.2 c.in-Some.ensures.items c.push_reserved.ensures.items,
      moved (λ w. w.station) c.args.stations.items c.loop-pass.stations.items stations old new _ inv.3 c.in-Some-pop_front.ensures.items c.push_reserved.ensures.items,
      omega (arith, inv.4, ap length c.in-Some.ensures.items, ap length c.in-Some-pop_front.ensures.items),
      omega (arith, inv.5, c.push_reserved.ensures.len, c.push_reserved.ensures.capacity, ap length c.in-Some.ensures.items),
    )

pub loop-pass-init : goal.loop-pass-init
loop-pass-init g c =
    let passes = c.from_vec-passes.ensures.items in
    let stations = c.from_vec-stations.ensures.items in (
      All-same (λ p. (g.L.JobLine.pass_record p).taken ≡ []) _ _ passes c.requires.none_taken,
      All-same (λ s. g.F.Floor.grants s ≡ []) _ _ stations c.requires.none_granted,
      ap (λ ws. map (λ w. w.pass) ws ++ c.from_vec-passes.result.items) c.requires.empty ∙ passes,
      ap (λ ws. map (λ w. w.station) ws ++ c.from_vec-stations.result.items) c.requires.empty ∙ stations,
      omega (arith, ap length passes, ap length stations, c.requires.beside),
      omega (arith, ap length c.requires.empty, ap length passes, c.requires.room),
    )

pub returns-clause-passes : goal.returns-clause-passes
returns-clause-passes g c =
    let none : length c.loop-pass.passes.items ≡ 0 = omega (arith, c.loop-pass.passes.ok, c.in_default.ensures.cases.0) in
    none_behind (map (λ w. w.pass) c.loop-pass.workers.items) c.args.passes.items c.loop-pass.passes.items none c.loop-pass.invariant.2

pub returns-clause-stations : goal.returns-clause-stations
returns-clause-stations g c =
    let none : length c.loop-pass.stations.items ≡ 0 = omega (arith, c.loop-pass.passes.ok, c.in_default.ensures.cases.0, c.loop-pass.invariant.4) in
    none_behind (map (λ w. w.station) c.loop-pass.workers.items) c.args.stations.items c.loop-pass.stations.items none c.loop-pass.invariant.3
