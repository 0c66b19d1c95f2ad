use Rattle.std.proofs.Common.{◌≡◌, ◌*◌, ◌%◌, ◌^◌, refl, sym, ◌∙◌, ap, arith}
use Rattle.std.proofs.lemmas.Nat.{one_shl}
use Rattle.std.proofs.lemmas.Bool.{true≢false}
use Rattle.fit_tree.proofs.HeldLemmas.{aligned_at, aligned_base}
use Rattle.fit_tree.proofs.names.is_aligned.Goals as goal

pub returns-then-n-region : goal.returns-then-n-region
returns-then-n-region c = (
  λ is. absurd (true≢false (sym is)),
  λ aligned. absurd (omega (arith, (aligned_base c.args.n c.args.region aligned).0)),
)

pub returns-then-n-region-2 : goal.returns-then-n-region-2
returns-then-n-region-2 c =
    let all : 1 * 2 ^ c.args.n % 2 ^ 64 ≡ 2 ^ c.args.n = one_shl c.args.n 64 (omega (arith, c.requires)) in (
      λ is. absurd (true≢false (sym is)),
      λ aligned. absurd (omega (arith, all, (aligned_base c.args.n c.args.region aligned).1)),
    )

pub returns-then-region-ne0 : goal.returns-then-region-ne0
returns-then-region-ne0 c =
    let size : 1 * 2 ^ c.args.region.dim % 2 ^ 64 ≡ 2 ^ c.args.region.dim = one_shl c.args.region.dim 64 (omega (arith, c.requires)) in (
      λ is. absurd (true≢false (sym is)),
      λ aligned. absurd (c.if-region-ne0.true (ap (λ x. c.args.region.base % x) size ∙ (aligned_base c.args.n c.args.region aligned).2)),
    )

pub returns : goal.returns
returns c =
    let all : 1 * 2 ^ c.args.n % 2 ^ 64 ≡ 2 ^ c.args.n = one_shl c.args.n 64 (omega (arith, c.requires)) in
    let size : 1 * 2 ^ c.args.region.dim % 2 ^ 64 ≡ 2 ^ c.args.region.dim = one_shl c.args.region.dim 64 (omega (arith, c.requires)) in (
      λ is. aligned_at c.args.n c.args.region (omega arith) (omega (arith, all)) (sym (ap (λ x. c.args.region.base % x) size) ∙ c.if-region-ne0.false),
      λ aligned. refl,
    )
