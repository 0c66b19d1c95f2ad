-- From the word's greatest bit on no mark is set.
use Rattle.std.proofs.Common.{◌≡◌, ℕ, ◌+◌, ◌-◌, ◌^◌, ◌<◌, ◌≤◌, [], ap, arith}
use Rattle.std.specs.Int.{bit_at}
use Rattle.std.specs.Int.Count.{count_leading_zeros}
use Rattle.std.proofs.lemmas.Nat.{leading_length}
use Rattle.status_word.specs.Word.{mark_bit}
use Rattle.status_word.proofs.TextLemmas.{no_mark_text}
use Rattle.status_word.proofs.WordLemmas.{bit_beyond}
use Rattle.status_word.proofs.word.Word.mark_end.Goals as goal

pub returns-clause-past : goal.returns-clause-past
returns-clause-past c station from below =
    let w = c.args.self.0 in
    let found = leading_length 64 w (omega (arith, c.struct_known-1)) in
    let far : found.0 ≤ mark_bit station = omega (arith, found.1, from, below, c.min.ensures, c.saturating_sub.ensures) in
    no_mark_text w station (bit_beyond w found.0 (mark_bit station) found.2 far)
