use Rattle.std.proofs.Common.{◌≡◌, ℕ, ◌+◌, ◌<◌, ◌*◌, ◌%◌, ◌^◌, ap, length, false, ◌∙◌, refl, arith}
use Rattle.std.proofs.lemmas.Nat.{one_shl, shl_whole}
use Rattle.fixed_vec.proofs.Spending.{first, others, both, as_words, with_words}
use Rattle.fit_tree.specs.Fit.{fit_words}
use Rattle.fit_tree.proofs.NodeLemmas.{all_nodes}
use Rattle.sched_blocks.specs.Ends.{AreEnds}
use Rattle.sched_blocks.specs.Busy.{AreBusy}
use Rattle.sched_blocks.proofs.NoteLemmas.{written}
use Rattle.sched_blocks.proofs.ShowsLemmas.{shows_initial}
use Rattle.sched_blocks.proofs.blocks.Blocks.new.Goals as goal

-- the words of the ends, and of the counts
ends_words : (n : ℕ) → n < 63 → 2 * 2 ^ n % 2 ^ 64 ≡ 2 ^ (n + 1)
ends_words n few = shl_whole 2 2 n 64 (omega arith) (omega (arith, few)) ∙ omega (arith, all_nodes n)

busy_words : (n : ℕ) → n < 63 → 1 * 2 ^ n % 2 ^ 64 ≡ 2 ^ n
busy_words n few = one_shl n 64 (omega (arith, few))

pub returns-clause-shows : goal.returns-clause-shows
returns-clause-shows c = λ patience.
    shows_initial c.args.n patience c.in_ok-used.used c.in_ok-out.out _ _ c.in_ok-used.ensures.free c.in_ok-out.ensures.free
    (written (length c.in_ok-ends.ends.items) c.in_ok-ends.ends.items c.open.new.ends (λ xs. AreEnds c.args.n (λ u. 0) xs) refl (c.open.ensures.ends_len ∙ ap length c.deref_mut.ensures.value) (c.open.ensures.ends c.args.n))
    (written (length c.in_ok-busy.busy.items) c.in_ok-busy.busy.items c.open.new.busy (λ xs. AreBusy c.args.n (λ u. false) xs) refl (c.open.ensures.busy_len ∙ ap length c.deref_mut-2.ensures.value) (c.open.ensures.busy c.args.n))

pub returns-in_err-out-clause-enough : goal.returns-in_err-out-clause-enough
returns-in_err-out-clause-enough c = λ h.
    let u = fit_words c.args.n in let e = 2 ^ (c.args.n + 1) in let b = 2 ^ c.args.n in
    let none = c.in_err-out.ensures.enough (first u (e + b) _ (others u (u + (e + b)) _ _ c.in_ok-used.ensures.spends h)) in
    absurd (cc)

pub returns-in_err-ends-clause-enough : goal.returns-in_err-ends-clause-enough
returns-in_err-ends-clause-enough c = λ h.
    let u = fit_words c.args.n in let e = 2 ^ (c.args.n + 1) in let b = 2 ^ c.args.n in
    let few : c.args.n < 63 = omega (arith, c.requires) in
    let none = c.in_err-ends.ensures.enough (with_words (ends_words c.args.n few) (first e b _ (others u (e + b) _ _ c.in_ok-out.ensures.spends
    (others u (u + (e + b)) _ _ c.in_ok-used.ensures.spends h)))) in
    absurd (cc)

pub returns-in_err-busy-clause-enough : goal.returns-in_err-busy-clause-enough
returns-in_err-busy-clause-enough c = λ h.
    let u = fit_words c.args.n in let e = 2 ^ (c.args.n + 1) in let b = 2 ^ c.args.n in
    let few : c.args.n < 63 = omega (arith, c.requires) in
    let none = c.in_err-busy.ensures.enough (with_words (busy_words c.args.n few)
    (others e b _ _ (as_words (ends_words c.args.n few) c.in_ok-ends.ensures.spends) (others u (e + b) _ _ c.in_ok-out.ensures.spends
    (others u (u + (e + b)) _ _ c.in_ok-used.ensures.spends h)))) in
    absurd (cc)

pub returns-clause-spends : goal.returns-clause-spends
returns-clause-spends c =
    let u = fit_words c.args.n in let e = 2 ^ (c.args.n + 1) in let b = 2 ^ c.args.n in
    let few : c.args.n < 63 = omega (arith, c.requires) in
    both u (u + (e + b)) _ _ _ c.in_ok-used.ensures.spends (both u (e + b) _ _ _ c.in_ok-out.ensures.spends
    (both e b _ _ _ (as_words (ends_words c.args.n few) c.in_ok-ends.ensures.spends) (as_words (busy_words c.args.n few) c.in_ok-busy.ensures.spends)))
