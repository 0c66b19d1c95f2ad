-- Words that are spent one after another.
use Rattle.std.proofs.Common.{◌≡◌, sym, subst, ℕ, ◌+◌, ◌-◌, Option, Some, ap, ◌∙◌, arith}
use Rattle.fixed_vec.specs.Spending.{HasWords, Spends}

-- the first words are there
pub first : (v w : ℕ) (left : Option ℕ) → HasWords (v + w) left → HasWords v left
first v w left (n, is, fit) = (n, is, omega arith)

-- once the first are spent, the others are left
pub others : (v w : ℕ) (old new : Option ℕ) → Spends v old new → HasWords (v + w) old → HasWords w new
others v w old new spends (n, is, fit) = (n - v, spends n is (omega arith), omega arith)

-- two in a row
pub both : (v w : ℕ) (a b c : Option ℕ) → Spends v a b → Spends w b c → Spends (v + w) a c
both v w a b c one two n is fit = two (n - v) (one n is (omega arith)) (omega arith) ∙ ap Some (omega arith)

-- the same number of words in another form
pub as_words : {v w : ℕ} {old new : Option ℕ} → v ≡ w → Spends v old new → Spends w old new
as_words {old = old} {new = new} is spends = subst (λ words. Spends words old new) is spends

pub with_words : {v w : ℕ} {left : Option ℕ} → v ≡ w → HasWords w left → HasWords v left
with_words {left = left} is has = subst (λ words. HasWords words left) (sym is) has
