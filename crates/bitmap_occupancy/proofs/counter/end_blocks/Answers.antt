-- One dimension more has its count.
use Rattle.std.proofs.Common.{◌≡◌, ℕ, ◌+◌, ◌/◌, ◌%◌, ◌^◌, ◌<◌, ◌≤◌, inl, inr, length, slice_index, rules, arith, sym, subst, ◌∙◌}
use Rattle.std.proofs.lemmas.Bool.{cases_lt}
use Rattle.cube_shape.specs.Region.{block}
use Rattle.alloc_bits.specs.Count.{IsCount}
use Rattle.bitmap_occupancy.proofs.CountLemmas.{set_counted, set_few, set_past}
use Rattle.bitmap_occupancy.proofs.RunLemmas.{ends_more, ends_same, none_later, EndsNone}
use Rattle.bitmap_occupancy.specs.Occupancy.{IsFreeAt}
use Rattle.bitmap_occupancy.proofs.counter.end_blocks.Goals as goal

pub returns-then-not-ends_free-clause-counted : goal.returns-then-not-ends_free-clause-counted
returns-then-not-ends_free-clause-counted c = λ words run before k le.
    let n = c.args.n in let p = c.args.processor in let from = c.args.from in
    let none : EndsNone (p + 1) from c.loop-k.k = search (rules, c.if-not-ends_free.true, c.ends_free.ensures.not) in
    elim (cases_lt k c.loop-k.k) [
      | inl less ↦ c.loop-k.invariant.counted words run before k less
      | inr most ↦
          subst (λ x. IsCount (λ m. IsFreeAt n words (block k m)) ((p + 1) / 2 ^ k) x) (sym (c.loop-k.invariant.others k most))
          (ends_same n words from p k (slice_index c.args.free.now k) run c.requires.from (none_later (p + 1) from c.loop-k.k k most none) (before k le))
    ]

pub loop-k-preserved : goal.loop-k-preserved
loop-k-preserved c =
    let n = c.args.n in let p = c.args.processor in let from = c.args.from in
    let k = c.loop-k.k in let free = c.loop-k.free in let count = slice_index free k in
    let within : k < length free = omega (arith, c.loop-k.invariant.places, c.loop-k-test.true, c.requires.machine) in
    let same : count ≡ slice_index c.args.free.now k = c.loop-k.invariant.others k (omega arith) in
    let ends : ((p + 1) % 2 ^ k ≡ 0) × (from + 2 ^ k ≤ p + 1) = search (rules, c.if-not-ends_free.false, c.ends_free.ensures.ends) in
    record {
      places = search rules;
      counted = λ words run before j lt.
          let P : ℕ → ℕ → Type 0 = λ i x. IsCount (λ m. IsFreeAt n words (block i m)) ((p + 1) / 2 ^ i) x in
          let had = subst (λ x. IsCount (λ m. IsFreeAt n words (block k m)) (p / 2 ^ k) x) (sym same) (before k (omega (arith, c.loop-k-test.true))) in
          set_counted P free k (count + 1) within (ends_more n words from p k count run ends.0 ends.1 had) (c.loop-k.invariant.counted words run before) j lt;
      others = λ j le. set_past free k (count + 1) j le ∙ c.loop-k.invariant.others j (omega (arith, le));
      few = set_few free k (count + 1) (p + 1) within (omega (arith, same, c.requires.few k)) c.loop-k.invariant.few;
    }
