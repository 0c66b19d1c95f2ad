use Rattle.std.proofs.Math.Nat.{add-mod_right}
use Rattle.std.proofs.Common.{arith, ap, refl, sym, ◌∙◌, ◌≡◌, ◌≢◌, ℕ, ◌+◌, ◌*◌, ◌/◌, ◌%◌, ◌<◌, ◌≤◌, List, length, set}
use Rattle.std.specs.Prelude.{◌==◌, if◌then◌else◌}
use Rattle.std.proofs.lemmas.Bool.{eq-eqb, ne_eqb}
use Rattle.std.proofs.lemmas.Nat.{mod_below}
use Rattle.collectives.specs.Inner.Rounds.{item_at, reduced_low, reduced_high, TurnsPairsIn}
use Rattle.collectives.proofs.PairLemmas.{block_within, low_in_block, offset_in_block, Turned-block, Turned-end, Turned-join, Turned-keep, Turned-pair}
use Rattle.collectives.proofs.rounds.reduce_round.Goals as goal

-- a pair that agrees with the root turns
turned_pair : {M : Type 0} (unit : M) (join : M → M → M) (root half low : ℕ) (old next : List M)
    → 0 < half → low / half % 2 ≡ 0 → low + half < length old → low % half ≡ root % half
    → let both = join (item_at unit old low) (item_at unit old (low + half)) in
    next ≡ set (set old low (if root / half % 2 == 0 then both else unit)) (low + half) (if root / half % 2 == 0 then unit else both)
    → TurnsPairsIn unit half low (low + 1) (reduced_low unit join root half) (reduced_high unit join root half) old next
turned_pair unit join root half low old next positive low_is within agree next_is =
    let both = join (item_at unit old low) (item_at unit old (low + half)) in
    let test = sym (eq-eqb (low % half) (root % half) agree) in
    Turned-pair unit half low (reduced_low unit join root half) (reduced_high unit join root half) old next positive low_is within _ _
    (ap (λ t. if t then (if root / half % 2 == 0 then both else unit) else item_at unit old low) test)
    (ap (λ t. if t then (if root / half % 2 == 0 then unit else both) else item_at unit old (low + half)) test)
    next_is

-- pairs that differ from it stay
kept_pairs : {M : Type 0} (unit : M) (join : M → M → M) (root half from bound : ℕ) (old : List M)
    → ((x : ℕ) → from ≤ x → x < bound → x % half ≢ root % half)
    → TurnsPairsIn unit half from bound (reduced_low unit join root half)
    (reduced_high unit join root half) old old
kept_pairs unit join root half from bound old differ =
    Turned-keep unit half from bound (reduced_low unit join root half) (reduced_high unit join root half) old
    (λ x above below low_is a b. (
      ap (λ t. if t then (if root / half % 2 == 0 then join a b else unit) else a) (ne_eqb (x % half) (root % half) (differ x above below)),
      ap (λ t. if t then (if root / half % 2 == 0 then unit else join a b) else b) (ne_eqb (x % half) (root % half) (differ x above below)),
    ))

-- one pair of the first half of a block turns, and those before and after it stay
turned_block : {M : Type 0} (unit : M) (join : M → M → M) (root half start : ℕ) (old next : List M)
    → 0 < half → start % (2 * half) ≡ 0 → start + 2 * half ≤ length old → length next ≡ length old
    → let low = start + root % half in
    let both = join (item_at unit old low) (item_at unit old (low + half)) in
    next ≡ set (set old low (if root / half % 2 == 0 then both else unit)) (low + half) (if root / half % 2 == 0 then unit else both)
    → TurnsPairsIn unit half start (start + 2 * half) (reduced_low unit join root half) (reduced_high unit join root half) old next
turned_block unit join root half start old next positive first within same_length next_is =
    let left = reduced_low unit join root half in
    let right = reduced_high unit join root half in
    let low = start + root % half in
    let rest : root % half < half = mod_below root half positive in
    let low_is = low_in_block start half low first (omega arith) (omega arith) in
    let agree : low % half ≡ root % half = omega (arith, offset_in_block start half low first (omega arith) (omega arith)) in
    let differ : (x : ℕ) → start ≤ x → x < start + half → x ≢ low → x % half ≢ root % half
    = (λ x above below other is. other (omega (arith, offset_in_block start half x first above below))) in
    let before = kept_pairs unit join root half start low old (λ x above below. differ x above (omega arith) (λ is. omega arith)) in
    let at = turned_pair unit join root half low old next positive low_is (omega arith) agree next_is in
    let later = kept_pairs unit join root half (low + 1) (start + half) next (λ x above below. differ x (omega arith) below (λ is. omega arith)) in
    let so_far = Turned-join unit half start low (low + 1) left right old old next (omega arith) (omega arith) refl before at in
    let all = Turned-join unit half start (low + 1) (start + half) left right old next next (omega arith) (omega arith) same_length so_far later in
    Turned-block unit half start left right old next positive first all

-- after the blocks before it, this one turns
turned_so_far : {M : Type 0} (unit : M) (join : M → M → M) (root half start : ℕ) (old items next : List M)
    → 0 < half → start % (2 * half) ≡ 0 → start + 2 * half ≤ length items → length items ≡ length old → length next ≡ length items
    → TurnsPairsIn unit half 0 start (reduced_low unit join root half) (reduced_high unit join root half) old items
    → let low = start + root % half in
    let both = join (item_at unit items low) (item_at unit items (low + half)) in
    next ≡ set (set items low (if root / half % 2 == 0 then both else unit)) (low + half) (if root / half % 2 == 0 then unit else both)
    → TurnsPairsIn unit half 0 (start + 2 * half) (reduced_low unit join root half) (reduced_high unit join root half) old next
turned_so_far unit join root half start old items next positive first within same_length next_length before next_is =
    Turned-join unit half 0 start (start + 2 * half) _ _ old items next (omega arith) (omega arith) same_length before
    (turned_block unit join root half start items next positive first within next_length next_is)

pub overflow_add-low : goal.overflow_add-low
overflow_add-low g c =
    let fits = block_within (length c.args.items.now) (2 * c.args.half) c.loop-start.start c.requires.whole c.loop-start.invariant.begins c.loop-start-test.true in
    let rest = mod_below c.args.root c.args.half c.requires.half in
    omega arith

pub overflow_add-low-in-loop-start : goal.overflow_add-low-in-loop-start
overflow_add-low-in-loop-start g c =
    let fits = block_within (length c.args.items.now) (2 * c.args.half) c.loop-start.start c.requires.whole c.loop-start.invariant.begins c.loop-start-test.true in
    let rest = mod_below c.args.root c.args.half c.requires.half in
    omega arith

pub reduce_pair-requires-clause-low : goal.reduce_pair-requires-clause-low
reduce_pair-requires-clause-low g c =
    let fits = block_within (length c.args.items.now) (2 * c.args.half) c.loop-start.start c.requires.whole c.loop-start.invariant.begins c.loop-start-test.true in
    let rest = mod_below c.args.root c.args.half c.requires.half in
    omega arith

pub reduce_pair-requires-clause-high : goal.reduce_pair-requires-clause-high
reduce_pair-requires-clause-high g c =
    let fits = block_within (length c.args.items.now) (2 * c.args.half) c.loop-start.start c.requires.whole c.loop-start.invariant.begins c.loop-start-test.true in
    let rest = mod_below c.args.root c.args.half c.requires.half in
    omega arith

pub loop-start-preserved : goal.loop-start-preserved
loop-start-preserved g c =
    let m = g.M.Monoid in
    let half = c.args.half in
    let fits = block_within (length c.args.items.now) (2 * half) c.loop-start.start c.requires.whole c.loop-start.invariant.begins c.loop-start-test.true in
    record {
      begins = add-mod_right c.loop-start.start (2 * half) ∙ c.loop-start.invariant.begins;
      turned = turned_so_far m.unit m.join c.args.root half c.loop-start.start c.args.items.now c.loop-start.items c.reduce_pair.new.items
          c.requires.half c.loop-start.invariant.begins (omega arith) c.loop-start.auto.items c.reduce_pair.auto.items c.loop-start.invariant.turned c.reduce_pair.ensures.reduced;
      values = c.reduce_pair.ensures.values;
    }

pub returns-2-clause-reduced : goal.returns-2-clause-reduced
returns-2-clause-reduced g c =
    let m = g.M.Monoid in
    let half = c.args.half in
    let fits = block_within (length c.args.items.now) (2 * half) c.loop-start.start c.requires.whole c.loop-start.invariant.begins c.loop-start-test.true in
    Turned-end m.unit half (c.loop-start.start + 2 * half) _ _ c.args.items.now c.reduce_pair.new.items
    (turned_so_far m.unit m.join c.args.root half c.loop-start.start c.args.items.now c.loop-start.items c.reduce_pair.new.items
    c.requires.half c.loop-start.invariant.begins (omega arith) c.loop-start.auto.items c.reduce_pair.auto.items c.loop-start.invariant.turned c.reduce_pair.ensures.reduced)
    (omega arith)
