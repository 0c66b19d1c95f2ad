use Rattle.std.proofs.Common.{ℕ, ◌<◌, ◌≤◌, IfSome, IfNone}
use Rattle.fit_tree.specs.Fit.{held_in}
use Rattle.fit_tree.specs.FirstApart.{HasNoneApart}
use Rattle.fit_tree.specs.Image.{fit_in}
use Rattle.fit_tree.proofs.ValueLemmas.{none_in, of_view, some_in}
use Rattle.fit_tree.proofs.fit.FitTree.largest_apart.Goals as goal

pub returns-clause-fits : goal.returns-clause-fits
returns-clause-fits c =
    of_view (λ n held. IfSome c.largest_apart.result (λ k. HasNoneApart n k held c.args.avoid → ⊥)) c.self.inside.dim c.self.inside.rooms.items c.args.self.now c.self.view_is
    (some_in c.self.inside.dim c.self.inside.head c.self.inside.rooms.items c.largest_apart.result (λ k. HasNoneApart c.self.inside.dim k (held_in (fit_in c.self.inside.dim c.self.inside.rooms.items)) c.args.avoid → ⊥) c.self.invariant (rw c.deref.ensures.value at c.largest_apart.ensures.fits))

pub returns-clause-larger : goal.returns-clause-larger
returns-clause-larger c =
    of_view (λ n held. IfSome c.largest_apart.result (λ k. (j : ℕ) → k < j → j ≤ n → HasNoneApart n j held c.args.avoid)) c.self.inside.dim c.self.inside.rooms.items c.args.self.now c.self.view_is
    (some_in c.self.inside.dim c.self.inside.head c.self.inside.rooms.items c.largest_apart.result (λ k. (j : ℕ) → k < j → j ≤ c.self.inside.dim → HasNoneApart c.self.inside.dim j (held_in (fit_in c.self.inside.dim c.self.inside.rooms.items)) c.args.avoid) c.self.invariant (rw c.deref.ensures.value at c.largest_apart.ensures.larger))

pub returns-clause-none : goal.returns-clause-none
returns-clause-none c =
    of_view (λ n held. IfNone c.largest_apart.result ((k : ℕ) → k ≤ n → HasNoneApart n k held c.args.avoid)) c.self.inside.dim c.self.inside.rooms.items c.args.self.now c.self.view_is
    (none_in c.self.inside.dim c.self.inside.head c.self.inside.rooms.items c.largest_apart.result ((k : ℕ) → k ≤ c.self.inside.dim → HasNoneApart c.self.inside.dim k (held_in (fit_in c.self.inside.dim c.self.inside.rooms.items)) c.args.avoid) c.self.invariant (rw c.deref.ensures.value at c.largest_apart.ensures.none))
