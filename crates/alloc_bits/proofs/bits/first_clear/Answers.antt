use Rattle.std.proofs.Common.{◌≡◌, ◌+◌, ◌/◌, ◌*◌, ◌%◌, ◌^◌, ◌<◌, ◌≤◌, refl, sym, ◌∙◌, ap, subst, arith}
use Rattle.std.proofs.lemmas.Bool.{true≢false}
use Rattle.std.proofs.lemmas.Nat.{one_shl}
use Rattle.std.proofs.Math.Nat.{add-mod_right}
use Rattle.alloc_bits.proofs.ScanLemmas.{block_is, IsAligned-at, IsFirstClear-at, before_next, none_clear}
use Rattle.alloc_bits.proofs.bits.first_clear.Goals as goal

pub is_clear-requires-clause-region : goal.is_clear-requires-clause-region
is_clear-requires-clause-region c =
    let all : 1 * 2 ^ c.args.n % 2 ^ 64 ≡ 2 ^ c.args.n = one_shl c.args.n 64 (omega arith) in
    IsAligned-at c.args.n c.args.k c.loop-base.base c.requires.dim (omega (arith, all, c.loop-base-test.true)) c.loop-base.invariant.begins

pub returns-then-is_clear-clause-found : goal.returns-then-is_clear-clause-found
returns-then-is_clear-clause-found c =
    let all : 1 * 2 ^ c.args.n % 2 ^ 64 ≡ 2 ^ c.args.n = one_shl c.args.n 64 (omega arith) in (
      c.loop-base.base / 2 ^ c.args.k,
      block_is c.args.k c.loop-base.base c.loop-base.invariant.begins,
      IsFirstClear-at c.args.n c.args.k c.loop-base.base c.args.bits.now c.loop-base.invariant.before c.requires.dim (omega (arith, all, c.loop-base-test.true)) c.loop-base.invariant.begins (c.if-is_clear.ensures.0 refl),
    )

pub loop-base-preserved : goal.loop-base-preserved
loop-base-preserved c =
    let size : 1 * 2 ^ c.args.k % 2 ^ 64 ≡ 2 ^ c.args.k = one_shl c.args.k 64 (omega arith) in
    let next = before_next c.args.n c.args.k c.loop-base.base c.args.bits.now c.loop-base.invariant.before c.loop-base.invariant.begins
    (λ clear. true≢false (sym (c.is_clear.ensures.1 clear) ∙ c.if-is_clear.false)) in
    record {
      begins = ap (λ x. (c.loop-base.base + x) % 2 ^ c.args.k) size ∙ add-mod_right c.loop-base.base (2 ^ c.args.k) ∙ c.loop-base.invariant.begins;
      before = λ i below. next i (subst (λ x. i * 2 ^ c.args.k < c.loop-base.base + x) size below);
    }

pub returns-clause-none : goal.returns-clause-none
returns-clause-none c =
    let all : 1 * 2 ^ c.args.n % 2 ^ 64 ≡ 2 ^ c.args.n = one_shl c.args.n 64 (omega arith) in
    none_clear c.args.n c.args.k c.loop-base.base c.args.bits.now c.loop-base.invariant.before c.requires.dim (omega (arith, all, c.loop-base-test.false))

-- the next base would be past the last one
pub returns-else-is_clear-clause-none : goal.returns-else-is_clear-clause-none
returns-else-is_clear-clause-none c =
    let all : 1 * 2 ^ c.args.n % 2 ^ 64 ≡ 2 ^ c.args.n = one_shl c.args.n 64 (omega arith) in
    let size : 1 * 2 ^ c.args.k % 2 ^ 64 ≡ 2 ^ c.args.k = one_shl c.args.k 64 (omega arith) in
    let next = before_next c.args.n c.args.k c.loop-base.base c.args.bits.now c.loop-base.invariant.before c.loop-base.invariant.begins
    (λ clear. true≢false (sym (c.is_clear.ensures.1 clear) ∙ c.if-is_clear.false)) in
    let past : 2 ^ c.args.n ≤ c.loop-base.base + 2 ^ c.args.k = omega arith in
    none_clear c.args.n c.args.k (c.loop-base.base + 2 ^ c.args.k) c.args.bits.now next c.requires.dim past
