-- The block begins at a multiple of its size.
use Rattle.std.proofs.Common.{◌≡◌, ◌<◌, ◌≤◌, ◌-◌, ◌^◌, ◌*◌, ◌/◌, ◌%◌, ◌∙◌, arith, rules, subst, sym}
use Rattle.std.proofs.lemmas.Bool.{eq-eqb, eqb-true}
use Rattle.std.proofs.lemmas.Nat.{one_shl}
use Rattle.cubejobs_regions.proofs.AlignLemmas.{begins_at, few_before, is_aligned, no_wrap}
use Rattle.cubejobs_regions.proofs.aligned.is_block.Goals as goal

pub returns : goal.returns
returns c =
    let n = c.args.n in let r = c.args.block in
    let value : 1 * 2 ^ (n - r.dim) % 2 ^ 64 ≡ 2 ^ (n - r.dim) = one_shl (n - r.dim) 64 (omega (arith, c.requires.n)) in
    let few : r.base / 2 ^ r.dim < 2 ^ (n - r.dim) = subst (λ m. r.base / 2 ^ r.dim < m) value c.if-number-n.false in
    let whole = no_wrap n r c.requires.n c.requires.dim few in (
      λ yes. is_aligned n r c.requires.dim few (sym whole ∙ eqb-true (r.base / 2 ^ r.dim * 2 ^ r.dim % 2 ^ 64) r.base yes),
      λ is. eq-eqb (r.base / 2 ^ r.dim * 2 ^ r.dim % 2 ^ 64) r.base (whole ∙ begins_at n r is),
    )

pub returns-then-number-n : goal.returns-then-number-n
returns-then-number-n c =
    let n = c.args.n in let r = c.args.block in
    let value : 1 * 2 ^ (n - r.dim) % 2 ^ 64 ≡ 2 ^ (n - r.dim) = one_shl (n - r.dim) 64 (omega (arith, c.requires.n)) in
    let many : 2 ^ (n - r.dim) ≤ r.base / 2 ^ r.dim = subst (λ m. m ≤ r.base / 2 ^ r.dim) value c.if-number-n.true in
    (λ yes. search rules, λ is. let few = few_before n r is in absurd (omega (arith, few, many)))
