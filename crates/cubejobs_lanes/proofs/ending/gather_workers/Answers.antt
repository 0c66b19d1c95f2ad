use Rattle.std.proofs.Common.{◌++◌, ◌∷◌, [], refl, sym, ap, subst, ◌∙◌}
use Rattle.std.specs.List.{All}
use Rattle.std.proofs.lemmas.List.Elements.{All-rest}
use Rattle.cubejobs_lanes.specs.Ending.{kept_workers, IsWorkerIn}
use Rattle.cubejobs_lanes.specs.declared.kept.KeptWorker.{KeptWorker}
use Rattle.cubejobs_lanes.proofs.PlaceLemmas.{goes_over}
use Rattle.cubejobs_lanes.proofs.ending.gather_workers.Goals as goal

pub loop-place-init : goal.loop-place-init
loop-place-init c = let items = c.from_vec-places.ensures.items in record {
  id = c.requires.end;
  left = subst (All (IsWorkerIn c.args.lanes.now)) (sym items) c.requires.workers;
  gone = ap (λ xs. c.args.end.now.workers ++ kept_workers xs) items;
  lanes = refl;
  counts = refl;
}

pub loop-place-preserved : goal.loop-place-preserved
loop-place-preserved c =
    let inv = c.loop-place.invariant in let items = c.in-Some.ensures.items in let left = c.pop_front.new.self.items in record {
      id = c.gather_worker.ensures.id;
      left = All-rest (IsWorkerIn c.args.lanes.now) c.in-Some.place left _ items inv.left;
      gone = goes_over (λ (kept : KeptWorker). kept.worker.known) c.loop-place.end.workers c.gather_worker.new.end.workers (c.args.end.now.workers ++ kept_workers c.args.places.items) c.in-Some.place c.in-Some-place.kept c.loop-place.places.items left
          inv.gone items c.in-Some-place.is (c.gather_worker.ensures.workers ∙ ap (λ l. c.loop-place.end.workers ++ l.known ∷ []) c.into_worker.ensures);
      lanes = c.gather_worker.ensures.lanes ∙ inv.lanes;
      counts = c.gather_worker.ensures.counts ∙ inv.counts;
    }
