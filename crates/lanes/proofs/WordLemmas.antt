-- The words of a lane go on to be what its history says, step by step.
use Rattle.std.proofs.Common.{◌≡◌, ◌≢◌, ℕ, ◌+◌, ◌%◌, ◌<◌, ◌≤◌, cond, eq-eqb, ne_eqb, List, ◌∷◌, sym, ap, ◌∙◌, arith}
use mathlib.Core.Logic.{dite}
use native.Mathlib.Decide.{ℕ_discrete}
use Rattle.atomic_table.proofs.Lists.{one_turn}
use Rattle.lanes.specs.declared.sizes.TheConstants.{TAIL, HEAD}
use Rattle.lanes.specs.Layout.{lane_words, cell_of}
use Rattle.lanes.specs.History.{Deed, by_lane, puts_payload, puts_dim, count, taken, filled, filled_dims, payload_of, dim_of, is_shut}
use Rattle.lanes.specs.Inner.Rule.{tail_word, LaneWords}
use Rattle.lanes.proofs.LayoutLemmas.{cell-inside}

-- the words after a write of one of them
pub record Written (read after : ℕ → ℕ) (o new : ℕ) : Type 0 where
  pub here : after o ≡ new
  pub others : (p : ℕ) → p ≢ o → after p ≡ read p

-- two jobs in one turn have two pairs of cells
other_cell : (capacity i n : ℕ) → i < n → n < i + capacity → i % capacity ≢ n % capacity
other_cell capacity i n low near e = omega (arith, one_turn i n capacity (omega arith) near e, low)

module _ (capacity : ℕ) (some_room : 0 < capacity) where
  -- the same words, as far as the lane has any
  pub words-same : (h : List Deed) (read after : ℕ → ℕ)
      → ((o : ℕ) → o < lane_words capacity → after o ≡ read o)
      → LaneWords capacity h read
      → LaneWords capacity h after
  words-same h read after same w = record {
    tail = same TAIL (omega arith) ∙ w.tail;
    head = same HEAD (omega arith) ∙ w.head;
    payloads = λ i low high. same (cell_of capacity i) (omega (arith, cell-inside capacity i some_room)) ∙ w.payloads i low high;
    dims = λ i low high. same (cell_of capacity i + 1) (cell-inside capacity i some_room) ∙ w.dims i low high;
  }

  module _ (h h' : List Deed) (read after : ℕ → ℕ) (w : LaneWords capacity h read) where
    -- a step that changes no word
    pub unchanged : ((o : ℕ) → after o ≡ read o)
        → count h' ≡ count h
        → is_shut h' ≡ is_shut h
        → taken h' ≡ taken h
        → filled h' ≡ filled h
        → filled_dims h' ≡ filled_dims h
        → ((j : ℕ) → payload_of h' j ≡ payload_of h j)
        → ((j : ℕ) → dim_of h' j ≡ dim_of h j)
        → LaneWords capacity h' after
    unchanged same same_count same_mark same_taken same_filled same_dims same_payload same_dim = record {
      tail = same TAIL ∙ (w.tail ∙ sym (ap (λ (n : ℕ). tail_word n (is_shut h')) same_count ∙ ap (tail_word (count h)) same_mark));
      head = same HEAD ∙ (w.head ∙ sym same_taken);
      payloads = λ i low high. same (cell_of capacity i) ∙ (w.payloads i (omega (arith, same_taken)) (omega (arith, same_filled)) ∙ sym (same_payload i));
      dims = λ i low high. same (cell_of capacity i + 1) ∙ (w.dims i (omega (arith, same_taken)) (omega (arith, same_dims)) ∙ sym (same_dim i));
    }

    -- a step on the first word
    pub tail_set : (new : ℕ)
        → Written read after TAIL new
        → new ≡ tail_word (count h') (is_shut h')
        → taken h' ≡ taken h
        → filled h' ≡ filled h
        → filled_dims h' ≡ filled_dims h
        → ((j : ℕ) → payload_of h' j ≡ payload_of h j)
        → ((j : ℕ) → dim_of h' j ≡ dim_of h j)
        → LaneWords capacity h' after
    tail_set new written is same_taken same_filled same_dims same_payload same_dim = record {
      tail = written.here ∙ is;
      head = written.others HEAD (λ e. omega arith) ∙ (w.head ∙ sym same_taken);
      payloads = λ i low high. written.others (cell_of capacity i) (λ e. omega arith) ∙ (w.payloads i (omega (arith, same_taken)) (omega (arith, same_filled)) ∙ sym (same_payload i));
      dims = λ i low high. written.others (cell_of capacity i + 1) (λ e. omega arith) ∙ (w.dims i (omega (arith, same_taken)) (omega (arith, same_dims)) ∙ sym (same_dim i));
    }

    -- a step on the second word
    pub head_set : (new : ℕ)
        → Written read after HEAD new
        → new ≡ taken h'
        → taken h ≤ taken h'
        → count h' ≡ count h
        → is_shut h' ≡ is_shut h
        → filled h' ≡ filled h
        → filled_dims h' ≡ filled_dims h
        → ((j : ℕ) → payload_of h' j ≡ payload_of h j)
        → ((j : ℕ) → dim_of h' j ≡ dim_of h j)
        → LaneWords capacity h' after
    head_set new written is more same_count same_mark same_filled same_dims same_payload same_dim = record {
      tail = written.others TAIL (λ e. omega arith) ∙ (w.tail ∙ sym (ap (λ (n : ℕ). tail_word n (is_shut h')) same_count ∙ ap (tail_word (count h)) same_mark));
      head = written.here ∙ is;
      payloads = λ i low high. written.others (cell_of capacity i) (λ e. omega arith) ∙ (w.payloads i (omega (arith, more)) (omega (arith, same_filled)) ∙ sym (same_payload i));
      dims = λ i low high. written.others (cell_of capacity i + 1) (λ e. omega arith) ∙ (w.dims i (omega (arith, more)) (omega (arith, same_dims)) ∙ sym (same_dim i));
    }

  module _ (h : List Deed) (read after : ℕ → ℕ) (w : LaneWords capacity h read)
      (room : count h < taken h + capacity) where
    -- the producer's next cell is written
    pub payload_set : (p : ℕ)
        → count h ≤ filled h
        → Written read after (cell_of capacity (count h)) p
        → LaneWords capacity (by_lane (puts_payload p) ∷ h) after
    payload_set p covered written = record {
      tail = written.others TAIL (λ e. omega arith) ∙ w.tail;
      head = written.others HEAD (λ e. omega arith) ∙ w.head;
      payloads = λ i low high. dite (ℕ_discrete i (count h))
          (λ e. ap (λ (j : ℕ). after (cell_of capacity j)) e ∙ (written.here ∙ sym (ap (λ b. cond b p (payload_of h i)) (eq-eqb i (count h) e))))
          (λ ne. written.others (cell_of capacity i) (λ e. other_cell capacity i (count h) (omega arith) (omega arith) (omega arith)) ∙ (w.payloads i low (omega (arith, covered)) ∙ sym (ap (λ b. cond b p (payload_of h i)) (ne_eqb i (count h) ne))));
      dims = λ i low high. written.others (cell_of capacity i + 1) (λ e. omega arith) ∙ w.dims i low high;
    }

    -- the cell after it is written
    pub dim_set : (d : ℕ)
        → count h ≤ filled_dims h
        → Written read after (cell_of capacity (count h) + 1) d
        → LaneWords capacity (by_lane (puts_dim d) ∷ h) after
    dim_set d covered written = record {
      tail = written.others TAIL (λ e. omega arith) ∙ w.tail;
      head = written.others HEAD (λ e. omega arith) ∙ w.head;
      payloads = λ i low high. written.others (cell_of capacity i) (λ e. omega arith) ∙ w.payloads i low high;
      dims = λ i low high. dite (ℕ_discrete i (count h))
          (λ e. ap (λ (j : ℕ). after (cell_of capacity j + 1)) e ∙ (written.here ∙ sym (ap (λ b. cond b d (dim_of h i)) (eq-eqb i (count h) e))))
          (λ ne. written.others (cell_of capacity i + 1) (λ e. other_cell capacity i (count h) (omega arith) (omega arith) (omega arith)) ∙ (w.dims i low (omega (arith, covered)) ∙ sym (ap (λ b. cond b d (dim_of h i)) (ne_eqb i (count h) ne))));
    }
