use Rattle.std.proofs.Common.{ℕ, length, subst}
use Rattle.dispatcher.specs.declared.opening.ShopSizes.{ShopSizes}
use Rattle.dispatcher_threads.specs.Members.{RanIn}
use Rattle.dispatcher_threads.proofs.EndLemmas.{sizes_are}
use Rattle.dispatcher_threads.proofs.running.run.Goals as goal

pub returns-clause-ran_in : goal.returns-clause-ran_in
returns-clause-ran_in g c =
    let line = g.L.JobLine in
    let floor = g.F.Floor in
    let shop = c.in_ok-ready.ready.opened.shop in
    let has = c.in_ok-ready.ensures.sizes in
    let end = c.run_named.result in
    subst (λ (lanes : ℕ). RanIn line floor c.args.sizes lanes end) has.lanes_are
    (subst (λ (asked : ShopSizes). RanIn line floor asked shop.line.sizes.lanes end) (sizes_are c.args.sizes (length c.args.jobs.items) shop has) c.run_named.ensures.ran_in)
