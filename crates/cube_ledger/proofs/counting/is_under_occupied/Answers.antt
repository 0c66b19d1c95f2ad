use Rattle.std.proofs.Common.{◌≡◌, ◌+◌, ◌-◌, ◌||◌, ◌/◌, true, false, ap, sym, ◌∙◌, arith}
use Rattle.std.proofs.Math.Nat.{div-le_self}
use Rattle.cube_ledger.specs.Occupancy.{has_occupied_above, is_occupied_word}
use Rattle.cube_ledger.proofs.RegionLemmas.{above-step, none_of_no_levels}
use Rattle.cube_ledger.proofs.counting.is_under_occupied.Goals as goal

pub returns-then-is_occupied : goal.returns-then-is_occupied
returns-then-is_occupied c =
    let words = c.args.words.now in
    let left = c.args.levels - c.loop.counter in
    let here : is_occupied_word words (c.loop.above / 2) ≡ true = sym c.is_occupied.ensures ∙ c.if-is_occupied.true in
    sym (sym c.loop.invariant.left ∙ (above-step words c.loop.above left (omega arith)
    ∙ ap (λ b. b || has_occupied_above words (c.loop.above / 2) (left - 1)) here))

pub loop-preserved : goal.loop-preserved
loop-preserved c =
    let words = c.args.words.now in
    let left = c.args.levels - c.loop.counter in
    let here : is_occupied_word words (c.loop.above / 2) ≡ false = sym c.is_occupied.ensures ∙ c.if-is_occupied.false in
    let fewer : c.args.levels - (c.loop.counter + 1) ≡ left - 1 = omega arith in
    let step : has_occupied_above words c.loop.above left ≡ has_occupied_above words (c.loop.above / 2) (left - 1) = above-step words c.loop.above left (omega arith)
    ∙ ap (λ b. b || has_occupied_above words (c.loop.above / 2) (left - 1)) here in
    record {
      left = ap (has_occupied_above words (c.loop.above / 2)) fewer ∙ (sym step ∙ c.loop.invariant.left);
      in_words = omega (arith, div-le_self c.loop.above 2, c.loop.invariant.in_words);
    }

pub returns : goal.returns
returns c = sym (sym c.loop.invariant.left ∙ none_of_no_levels c.args.words.now c.loop.above (c.args.levels - c.loop.counter) (omega arith))
