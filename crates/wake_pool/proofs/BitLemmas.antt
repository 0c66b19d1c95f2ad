-- The bits of a word of sleepers after a step.
use Rattle.std.proofs.Common.{◌≡◌, ◌≢◌, ℕ, ◌<◌, bit_or, w64, ◌∙◌, arith}
use Rattle.std.proofs.lemmas.Nat.Bits.{bit_at_set_same, bit_at_set_other, bit_at_or, bit_at_xor, bit_at-pow_same, bit_at-pow_other, bit_at-lt, bit_at-zero, bit_at_clear_same, bit_at_clear_other}
use Rattle.std.specs.Int.{bit_at}
use Rattle.wake_pool.specs.declared.layout.TheConstants.{WORD_WORKERS, SEARCH}
use Rattle.wake_pool.specs.Inner.Bits.{one_bit, claimed, left, rested, risen, turned, woken}

-- A word y beside the word that a step found: the searcher's bit, one bit of a sleeper, and the
-- others, which stay.
pub record Turns (found y bit on search : ℕ) : Type 0 where
  pub search_bit : bit_at y WORD_WORKERS ≡ search
  pub own : bit_at y bit ≡ on
  pub others : (i : ℕ) → i < WORD_WORKERS → i ≢ bit → bit_at y i ≡ bit_at found i

search_same : bit_at SEARCH WORD_WORKERS ≡ 1
search_same = bit_at-pow_same WORD_WORKERS

search_other : (i : ℕ) → i < WORD_WORKERS → bit_at SEARCH i ≡ 0
search_other i low = bit_at-pow_other WORD_WORKERS i (λ e. omega (arith, e, low))

one_same : (bit : ℕ) → bit < WORD_WORKERS → bit_at (one_bit bit) bit ≡ 1
one_same bit low = bit_at_set_same w64 0 bit (omega (arith, low))

one_other : (bit i : ℕ) → bit < WORD_WORKERS → i ≢ bit → bit_at (one_bit bit) i ≡ 0
one_other bit i low other = bit_at_set_other w64 0 bit (omega (arith, low)) i other ∙ zero i
  where
    zero : (j : ℕ) → bit_at 0 j ≡ 0
    zero j = bit_at-zero j

pub claimed_turns : (found bit : ℕ) → bit < WORD_WORKERS → Turns found (claimed found) bit (bit_at found bit) 1
claimed_turns found bit low = record {
  search_bit = bit_at_or found SEARCH WORD_WORKERS ∙ omega (arith, search_same, bit_at-lt found WORD_WORKERS);
  own = bit_at_or found SEARCH bit ∙ omega (arith, search_other bit low);
  others = λ i below _. bit_at_or found SEARCH i ∙ omega (arith, search_other i below);
}

pub left_turns : (found bit : ℕ) → bit < WORD_WORKERS → Turns found (left found) bit (bit_at found bit) 0
left_turns found bit low = record {
  search_bit = bit_at_clear_same w64 found WORD_WORKERS (omega arith);
  own = bit_at_clear_other w64 found WORD_WORKERS (omega arith) bit (omega (arith, low)) (λ e. omega (arith, e, low));
  others = λ i below _. bit_at_clear_other w64 found WORD_WORKERS (omega arith) i (omega (arith, below)) (λ e. omega (arith, e, below));
}

pub rested_turns : (found bit : ℕ) → bit < WORD_WORKERS → Turns found (rested bit found) bit 1 (bit_at found WORD_WORKERS)
rested_turns found bit low = record {
  search_bit = bit_at_set_other w64 found bit (omega (arith, low)) WORD_WORKERS (λ e. omega (arith, e, low));
  own = bit_at_set_same w64 found bit (omega (arith, low));
  others = λ i below other. bit_at_set_other w64 found bit (omega (arith, low)) i other;
}

pub risen_turns : (found bit : ℕ) → bit < WORD_WORKERS → Turns found (risen bit found) bit 0 (bit_at found WORD_WORKERS)
risen_turns found bit low = record {
  search_bit = bit_at_clear_other w64 found bit (omega (arith, low)) WORD_WORKERS (omega arith) (λ e. omega (arith, e, low));
  own = bit_at_clear_same w64 found bit (omega (arith, low));
  others = λ i below other. bit_at_clear_other w64 found bit (omega (arith, low)) i (omega (arith, below)) other;
}

pub woken_turns : (found bit : ℕ) → bit < WORD_WORKERS → Turns found (woken bit found) bit 0 1
woken_turns found bit low = record {
  search_bit = bit_at_or (risen bit found) SEARCH WORD_WORKERS ∙ omega (arith, search_same, bit_at-lt (risen bit found) WORD_WORKERS);
  own = bit_at_or (risen bit found) SEARCH bit ∙ omega (arith, search_other bit low, bit_at_clear_same w64 found bit (omega (arith, low)));
  others = λ i below other. bit_at_or (risen bit found) SEARCH i
      ∙ omega (arith, search_other i below)
      ∙ bit_at_clear_other w64 found bit (omega (arith, low)) i (omega (arith, below)) other;
}

-- both are turned over
pub turned_turns : (found bit : ℕ) → bit < WORD_WORKERS → bit_at found WORD_WORKERS ≡ 1 → bit_at found bit ≡ 0
    → Turns found (turned bit found) bit 1 0
turned_turns found bit low on off = record {
  search_bit = bit_at_xor found mask WORD_WORKERS
      ∙ omega (arith, on, bit_at_or SEARCH (one_bit bit) WORD_WORKERS, search_same, one_other bit WORD_WORKERS low (λ e. omega (arith, e, low)));
  own = bit_at_xor found mask bit
      ∙ omega (arith, off, bit_at_or SEARCH (one_bit bit) bit, search_other bit low, one_same bit low);
  others = λ i below other. bit_at_xor found mask i
      ∙ omega (arith, bit_at_or SEARCH (one_bit bit) i, search_other i below, one_other bit i low other, bit_at-lt found i);
}
  where
    mask : ℕ
    mask = bit_or SEARCH (one_bit bit)
