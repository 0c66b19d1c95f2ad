use Rattle.std.proofs.Common.{◌≡◌, ◌^◌, ◌+◌, ◌≤◌, sym, ◌∙◌, ap, subst, arith}
use Rattle.std.proofs.lemmas.Nat.{pow_pos}
use Rattle.cube_shape.specs.Node.{IsNodeOf}
use Rattle.cube_shape.proofs.RegionLemmas.{IsAligned-end, IsNodeOf-of_aligned}
use Rattle.sched_law.specs.Policy.{IsLatest}
use Rattle.sched_blocks.specs.Ends.{entry_of}
use Rattle.sched_blocks.specs.Shows.{Shows}
use Rattle.sched_blocks.proofs.LatestLemmas.{in_use_aligned, latest_alone, latest_over, latest_under}
use Rattle.sched_blocks.proofs.blocks.Blocks.latest.Goals as goal

pub block_with-requires : goal.block_with-requires
block_with-requires c =
    let dims : c.args.self.now.dim ≡ c.self.inside.dim = ap (λ b. b.dim) (sym c.self.view_is) in
    let fits : c.args.region.base + 2 ^ c.args.region.dim ≤ 2 ^ c.args.self.now.dim = IsAligned-end c.args.self.now.dim c.args.region c.requires in
    let size : 2 ^ c.args.self.now.dim ≡ 2 ^ c.self.inside.used.dim = ap (λ n. 2 ^ n) (dims ∙ sym c.self.invariant.used_dim) in
    omega (arith, fits, size, pow_pos c.args.region.dim)

pub returns-in_default : goal.returns-in_default
returns-in_default c = λ w shows.
    let inner = subst (Shows w) (sym c.self.view_is) shows in
    let named = subst (λ n. IsNodeOf n c.node_of-own.result c.args.region) (sym inner.dim) c.node_of-own.ensures.named in
    let is : c.end_at.result ≡ entry_of c.self.inside.ends.items c.node_of-own.result = c.end_at.ensures ∙ ap (λ xs. entry_of xs c.node_of-own.result) c.deref.ensures.value in
    subst (IsLatest w c.args.region) (sym is) (latest_alone w _ inner c.args.region c.node_of-own.result named c.in_default.ensures.free)

pub returns-then-above-region : goal.returns-then-above-region
returns-then-above-region c = λ w shows.
    let inner = subst (Shows w) (sym c.self.view_is) shows in
    let named = subst (λ n. IsNodeOf n c.node_of-own.result c.args.region) (sym inner.dim) c.node_of-own.ensures.named in
    let is : c.end_at-then-above-region.result ≡ entry_of c.self.inside.ends.items c.node_of-own.result = c.end_at-then-above-region.ensures ∙ ap (λ xs. entry_of xs c.node_of-own.result) c.deref-then-above-region.ensures.value in
    let aligned = in_use_aligned w c.in-Some.above inner.trees.2.safe (inner.only c.in-Some.above.base c.in-Some.above c.in-Some.ensures.held).1 in
    let x = IsNodeOf-of_aligned w.dim c.in-Some.above aligned in
    subst (IsLatest w c.args.region) (sym is)
    (latest_over w _ inner c.args.region c.node_of-own.result named x.0 c.in-Some.above x.1 c.in-Some.ensures.held c.in-Some.ensures.covers c.if-above-region.true)

pub returns : goal.returns
returns c = λ w shows.
    let inner = subst (Shows w) (sym c.self.view_is) shows in
    let named = subst (λ n. IsNodeOf n c.node_of-own.result c.args.region) (sym inner.dim) c.node_of-own.ensures.named in
    let is : c.end_at-2.result ≡ entry_of c.self.inside.ends.items c.node_of.result = c.end_at-2.ensures ∙ ap (λ xs. entry_of xs c.node_of.result) c.deref-2.ensures.value in
    let of_above = subst (λ n. IsNodeOf n c.node_of.result c.in-Some.above) (c.dim.ensures.dim ∙ c.self.invariant.used_dim ∙ sym inner.dim) c.node_of.ensures.named in
    subst (IsLatest w c.args.region) (sym is)
    (latest_under w _ inner c.args.region c.node_of-own.result named c.node_of.result c.in-Some.above of_above c.in-Some.ensures.held c.in-Some.ensures.covers (omega (arith, c.if-above-region.false)))
