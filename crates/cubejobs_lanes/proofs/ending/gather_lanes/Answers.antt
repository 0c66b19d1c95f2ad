use Rattle.std.proofs.Common.{◌++◌, ◌∷◌, [], refl, sym, ap, subst, ◌∙◌}
use Rattle.std.specs.List.{All}
use Rattle.std.proofs.lemmas.List.Elements.{All-rest}
use Rattle.cubejobs_lanes.specs.Ending.{kept_lanes, IsLaneIn}
use Rattle.cubejobs_lanes.specs.declared.kept.KeptLane.{KeptLane}
use Rattle.cubejobs_lanes.proofs.PlaceLemmas.{goes_over}
use Rattle.cubejobs_lanes.proofs.ending.gather_lanes.Goals as goal

pub loop-place-init : goal.loop-place-init
loop-place-init c = let items = c.from_vec-places.ensures.items in record {
  id = c.requires.end;
  left = subst (All (IsLaneIn c.args.lanes.now)) (sym items) c.requires.lanes;
  gone = ap (λ xs. c.args.end.now.lanes ++ kept_lanes xs) items;
  workers = refl;
  counts = refl;
}

pub loop-place-preserved : goal.loop-place-preserved
loop-place-preserved c =
    let inv = c.loop-place.invariant in let items = c.in-Some.ensures.items in let left = c.pop_front.new.self.items in record {
      id = c.gather_lane.ensures.id;
      left = All-rest (IsLaneIn c.args.lanes.now) c.in-Some.place left _ items inv.left;
      gone = goes_over (λ (kept : KeptLane). kept.lane.known) c.loop-place.end.lanes c.gather_lane.new.end.lanes (c.args.end.now.lanes ++ kept_lanes c.args.places.items) c.in-Some.place c.in-Some-place.kept c.loop-place.places.items left
          inv.gone items c.in-Some-place.is (c.gather_lane.ensures.lanes ∙ ap (λ l. c.loop-place.end.lanes ++ l.known ∷ []) c.into_lane.ensures);
      workers = c.gather_lane.ensures.workers ∙ inv.workers;
      counts = c.gather_lane.ensures.counts ∙ inv.counts;
    }
