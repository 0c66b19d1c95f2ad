use Rattle.std.proofs.Common.{ℕ, ◌<◌, ap, sym, subst, ◌∙◌}
use Rattle.job_queue.specs.declared.job_line.Sizes.{Sizes}
use Rattle.dispatcher.proofs.OpenLemmas.{has_dispatchers}
use Rattle.dispatcher.proofs.opening.open_both.Goals as goal

pub returns-clause-one_machine : goal.returns-clause-one_machine
returns-clause-one_machine g c = record {
  machine = ap (λ (s : Sizes). s.machine) c.in-Ok.ensures.sizes ∙ sym c.in_ok-floor.ensures.dim;
  stations = ap (λ (s : Sizes). s.passes) c.in-Ok.ensures.sizes ∙ sym c.in_ok-floor.ensures.stations;
  some = subst (λ (count : ℕ). 0 < count) (sym c.in_ok-floor.ensures.stations) (has_dispatchers c.args.sizes.machine c.args.sizes.lanes c.args.sizes.passes c.args.sizes.capacity c.requires);
}

pub returns-clause-sizes : goal.returns-clause-sizes
returns-clause-sizes g c =
    let sizes = c.in-Ok.ensures.sizes in
    record {
      dim = c.in_ok-floor.ensures.dim;
      machine = ap (λ (s : Sizes). s.machine) sizes;
      lanes_are = ap (λ (s : Sizes). s.lanes) sizes;
      workers = ap (λ (s : Sizes). s.passes) sizes;
      holds = ap (λ (s : Sizes). s.capacity) sizes;
    }

pub returns-clause-fresh_passes : goal.returns-clause-fresh_passes
returns-clause-fresh_passes g c = c.in-Ok.ensures.fresh_passes
