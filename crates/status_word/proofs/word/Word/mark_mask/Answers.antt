-- The shift is a power of two.
use Rattle.std.proofs.Common.{◌≡◌, ℕ, ◌+◌, sym, subst, arith}
use Rattle.std.specs.Prelude.{◌↔◌}
use Rattle.std.proofs.lemmas.Nat.{one_shl}
use Rattle.status_word.specs.Word.{IsSet, mark_bit}
use Rattle.status_word.proofs.WordLemmas.{IsSet-power}
use Rattle.status_word.proofs.word.Word.mark_mask.Goals as goal

pub returns-clause-alone : goal.returns-clause-alone
returns-clause-alone c =
    subst (λ mask. (bit : ℕ) → IsSet mask bit ↔ (bit ≡ mark_bit c.args.station)) (sym (one_shl (8 + c.args.station) 64 (omega arith)))
    (IsSet-power (mark_bit c.args.station))
