-- Both children are asked whether they have a usable block.
use Rattle.std.proofs.Common.{◌+◌, ◌*◌, ◌^◌, ◌≤◌, refl, sym, ◌∙◌, subst, arith}
use Rattle.std.proofs.lemmas.Bool.{true≢false}
use Rattle.std.proofs.Math.Pow.{pow_mono}
use Rattle.cube_shape.specs.declared.limits.TheConstants.{MAX_BITMAP_DIM}
use Rattle.cube_shape.specs.Node.{IsNodeOf}
use Rattle.sched_blocks.specs.Layout.{Layout}
use Rattle.sched_blocks.specs.Shows.{Shows}
use Rattle.sched_blocks.proofs.ChildLemmas.{high_usable, low_usable, to_better, to_high, to_low}
use Rattle.sched_blocks.proofs.PartLemmas.{earlier_at}
use Rattle.sched_blocks.proofs.blocks.Blocks.better_child.Goals as goal

pub overflow_mul-lower : goal.overflow_mul-lower
overflow_mul-lower c =
    let most : 2 ^ c.args.self.now.dim ≤ 2 ^ MAX_BITMAP_DIM = pow_mono c.requires.machine in omega (arith, most, c.requires.node)

pub overflow_add-upper : goal.overflow_add-upper
overflow_add-upper c =
    let most : 2 ^ c.args.self.now.dim ≤ 2 ^ MAX_BITMAP_DIM = pow_mono c.requires.machine in omega (arith, most, c.requires.node)

pub returns-then-not-has_fit_at-clause-goes : goal.returns-then-not-has_fit_at-clause-goes
returns-then-not-has_fit_at-clause-goes c = λ w part half shows named of_half less has.
    let inner = subst (Shows w) (sym c.self.view_is) shows in
    let here = subst (λ (b : Layout). IsNodeOf b.dim c.args.node part) (sym c.self.view_is) named in
    let there = subst (λ (b : Layout). IsNodeOf b.dim (2 * c.args.node) half) (sym c.self.view_is) of_half in
    to_low w _ inner c.self.invariant.out_dim c.args.k c.args.node part here less has half there (λ up.
    let is = (high_usable w _ inner c.self.invariant.out_dim c.args.k c.args.node part here less has c.has_fit_at.result c.has_fit_at.ensures).1 up in
    absurd (true≢false (sym is ∙ c.if-not-has_fit_at.true)))

pub returns-then-not-has_fit_at-2-clause-goes : goal.returns-then-not-has_fit_at-2-clause-goes
returns-then-not-has_fit_at-2-clause-goes c = λ w part half shows named of_half less has.
    let inner = subst (Shows w) (sym c.self.view_is) shows in
    let here = subst (λ (b : Layout). IsNodeOf b.dim c.args.node part) (sym c.self.view_is) named in
    let there = subst (λ (b : Layout). IsNodeOf b.dim (2 * c.args.node + 1) half) (sym c.self.view_is) of_half in
    let up = (high_usable w _ inner c.self.invariant.out_dim c.args.k c.args.node part here less has c.has_fit_at.result c.has_fit_at.ensures).0 c.if-not-has_fit_at.false in
    to_high w _ inner c.self.invariant.out_dim c.args.k c.args.node part here less has half there up (λ low.
    let is = (low_usable w _ inner c.self.invariant.out_dim c.args.k c.args.node part here less has c.has_fit_at-2.result c.has_fit_at-2.ensures).1 low in
    absurd (true≢false (sym is ∙ c.if-not-has_fit_at-2.true)))

pub returns-then-is_earlier-clause-goes : goal.returns-then-is_earlier-clause-goes
returns-then-is_earlier-clause-goes c = λ w part half shows named of_half less has.
    let inner = subst (Shows w) (sym c.self.view_is) shows in
    let here = subst (λ (b : Layout). IsNodeOf b.dim c.args.node part) (sym c.self.view_is) named in
    let there = subst (λ (b : Layout). IsNodeOf b.dim (2 * c.args.node + 1) half) (sym c.self.view_is) of_half in
    let up = (high_usable w _ inner c.self.invariant.out_dim c.args.k c.args.node part here less has c.has_fit_at.result c.has_fit_at.ensures).0 c.if-not-has_fit_at.false in
    let low = (low_usable w _ inner c.self.invariant.out_dim c.args.k c.args.node part here less has c.has_fit_at-2.result c.has_fit_at-2.ensures).0 c.if-not-has_fit_at-2.false in
    let test = earlier_at c.is_earlier.result c.deref.result.now c.deref-2.result.now c.self.inside.ends.items c.self.inside.busy.items (2 * c.args.node + 1) (2 * c.args.node) c.deref.ensures.value c.deref-2.ensures.value c.is_earlier.ensures in
    to_better w _ inner c.self.invariant.out_dim c.args.k c.args.node part here less has c.is_earlier.result (2 * c.args.node + 1) half (λ _. refl) (λ is. absurd (true≢false (sym c.if-is_earlier.true ∙ is))) test low up there

pub returns-clause-goes : goal.returns-clause-goes
returns-clause-goes c = λ w part half shows named of_half less has.
    let inner = subst (Shows w) (sym c.self.view_is) shows in
    let here = subst (λ (b : Layout). IsNodeOf b.dim c.args.node part) (sym c.self.view_is) named in
    let there = subst (λ (b : Layout). IsNodeOf b.dim (2 * c.args.node) half) (sym c.self.view_is) of_half in
    let up = (high_usable w _ inner c.self.invariant.out_dim c.args.k c.args.node part here less has c.has_fit_at.result c.has_fit_at.ensures).0 c.if-not-has_fit_at.false in
    let low = (low_usable w _ inner c.self.invariant.out_dim c.args.k c.args.node part here less has c.has_fit_at-2.result c.has_fit_at-2.ensures).0 c.if-not-has_fit_at-2.false in
    let test = earlier_at c.is_earlier.result c.deref.result.now c.deref-2.result.now c.self.inside.ends.items c.self.inside.busy.items (2 * c.args.node + 1) (2 * c.args.node) c.deref.ensures.value c.deref-2.ensures.value c.is_earlier.ensures in
    to_better w _ inner c.self.invariant.out_dim c.args.k c.args.node part here less has c.is_earlier.result (2 * c.args.node) half (λ is. absurd (true≢false (sym is ∙ c.if-is_earlier.false))) (λ _. refl) test low up there
