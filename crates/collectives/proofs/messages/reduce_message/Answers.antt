use Rattle.std.proofs.Common.{arith, ap, subst, ◌∙◌, ◌≡◌, ℕ, ◌+◌, ◌-◌, ◌*◌, ◌/◌, ◌%◌, ◌^◌, ◌<◌, ◌≤◌, sym}
use Rattle.std.specs.Prelude.{bit_xor}
use Rattle.std.proofs.lemmas.Nat.{pow-add, pow_pos, div-mul-add, mod-mul-add, mod_below, mul-add-lt}
use Rattle.collectives.proofs.MessageLemmas.{exponent_below, next_power, power_at_most}
use Rattle.collectives.proofs.messages.reduce_message.Goals as goal

-- the numbers of the code: all = 2 ^ k, last = 2 ^ after, half = 2 ^ (k - 1 - after)
record Numbers (k i all after last : ℕ) : Type 0 where
  pub all_is : all ≡ 2 ^ k
  pub last_is : last ≡ 2 ^ after
  pub number : i < 2 ^ k - 1
  pub lower : 2 ^ after ≤ all - 1 - i
  pub upper : all - 1 - i < 2 * 2 ^ after

after_below : (k i all after : ℕ)
    → all ≡ 2 ^ k
    → i < 2 ^ k - 1
    → 2 ^ after ≤ all - 1 - i
    → after < k
after_below k i all after all_is number lower = exponent_below after k (omega arith)

last_fits : (k i all after last : ℕ) → Numbers k i all after last → 2 * last ≤ all
last_fits k i all after last n =
    let within = after_below k i all after n.all_is n.number n.lower in
    let next = next_power after in
    let most = power_at_most (after + 1) k (omega arith) in
    omega (arith, n.all_is, n.last_is)

-- which of its round's messages it is
place_fits : (k i all after last : ℕ) → Numbers k i all after last → i - (all - 2 * last) < last
place_fits k i all after last n =
    let fits = last_fits k i all after last n in
    omega (arith, n.all_is, n.last_is, n.number, n.lower, n.upper)

size_is : (k after half : ℕ) → half ≡ 2 ^ (k - 1 - after) → 2 * half ≡ 2 ^ (k - 1 - after + 1)
size_is k after half half_is = let next = next_power (k - 1 - after) in omega arith

all_sizes : (k after last half : ℕ)
    → after < k
    → last ≡ 2 ^ after
    → half ≡ 2 ^ (k - 1 - after)
    → 2 * half * last ≡ 2 ^ k
all_sizes k after last half within last_is half_is =
    let exponent : k - 1 - after + 1 + after ≡ k = omega arith in
    ap (λ size. size * last) (size_is k after half half_is) ∙ ap (λ l. 2 ^ (k - 1 - after + 1) * l) last_is
    ∙ sym (pow-add 2 (k - 1 - after + 1) after) ∙ ap (λ e. 2 ^ e) exponent

rest_below : (k after half root : ℕ) → half ≡ 2 ^ (k - 1 - after) → root % (2 * half) < 2 * half
rest_below k after half root half_is = let positive = pow_pos (k - 1 - after) in mod_below root (2 * half) (omega arith)

pub places-last-requires : goal.places-last-requires
places-last-requires c =
    let within = after_below c.args.k c.args.i c.places-all.result c.ilog2-rounds_after.result c.places-all.ensures c.requires.number c.ilog2-rounds_after.ensures.power_le in
    let dim = c.requires.dim in
    omega arith

pub overflow_sub-round-2 : goal.overflow_sub-round-2
overflow_sub-round-2 c =
    let within = after_below c.args.k c.args.i c.places-all.result c.ilog2-rounds_after.result c.places-all.ensures c.requires.number c.ilog2-rounds_after.ensures.power_le in
    omega arith

pub overflow_sub-before : goal.overflow_sub-before
overflow_sub-before c = last_fits c.args.k c.args.i c.places-all.result c.ilog2-rounds_after.result c.places-last.result
    (record { all_is = c.places-all.ensures; last_is = c.places-last.ensures; number = c.requires.number; lower = c.ilog2-rounds_after.ensures.power_le; upper = c.ilog2-rounds_after.ensures.next_power_gt })

pub returns-clause-message : goal.returns-clause-message
returns-clause-message c =
    let k = c.args.k in
    let root = c.args.root in
    let after = c.ilog2-rounds_after.result in
    let half = c.places-half.result in
    let place = c.args.i - (c.places-all.result - 2 * c.places-last.result) in
    let within = after_below k c.args.i c.places-all.result after c.places-all.ensures c.requires.number c.ilog2-rounds_after.ensures.power_le in
    let fits = place_fits k c.args.i c.places-all.result after c.places-last.result
    (record { all_is = c.places-all.ensures; last_is = c.places-last.ensures; number = c.requires.number; lower = c.ilog2-rounds_after.ensures.power_le; upper = c.ilog2-rounds_after.ensures.next_power_gt }) in
    let rest = rest_below k after half root c.places-half.ensures in (
      omega arith,
      (
        subst (λ all. place * (2 * half) + root % (2 * half) < all) (all_sizes k after c.places-last.result half within c.places-last.ensures c.places-half.ensures)
            (mul-add-lt place (2 * half) (root % (2 * half)) c.places-last.result fits rest),
        subst (λ size. (place * (2 * half) + root % (2 * half)) % size ≡ root % size) (size_is k after half c.places-half.ensures)
            (mod-mul-add place (2 * half) (root % (2 * half)) rest),
        ap (bit_xor (place * (2 * half) + root % (2 * half))) c.places-half.ensures,
      ),
    )

pub returns-clause-number : goal.returns-clause-number
returns-clause-number c =
    let k = c.args.k in
    let root = c.args.root in
    let after = c.ilog2-rounds_after.result in
    let half = c.places-half.result in
    let place = c.args.i - (c.places-all.result - 2 * c.places-last.result) in
    let numbers : Numbers k c.args.i c.places-all.result after c.places-last.result =
    record { all_is = c.places-all.ensures; last_is = c.places-last.ensures; number = c.requires.number; lower = c.ilog2-rounds_after.ensures.power_le; upper = c.ilog2-rounds_after.ensures.next_power_gt } in
    let within = after_below k c.args.i c.places-all.result after c.places-all.ensures c.requires.number c.ilog2-rounds_after.ensures.power_le in
    let rest = rest_below k after half root c.places-half.ensures in
    let quotient : (place * (2 * half) + root % (2 * half)) / 2 ^ (k - 1 - after + 1) ≡ place =
    subst (λ size. (place * (2 * half) + root % (2 * half)) / size ≡ place) (size_is k after half c.places-half.ensures)
    (div-mul-add place (2 * half) (root % (2 * half)) rest) in
    let earlier : k - (k - 1 - after) ≡ after + 1 = omega arith in
    let twice : 2 ^ (k - (k - 1 - after)) ≡ 2 * 2 ^ after = ap (λ e. 2 ^ e) earlier ∙ next_power after in
    let most = last_fits k c.args.i c.places-all.result after c.places-last.result numbers in
    omega (arith, c.places-all.ensures, c.places-last.ensures, c.ilog2-rounds_after.ensures.next_power_gt)
