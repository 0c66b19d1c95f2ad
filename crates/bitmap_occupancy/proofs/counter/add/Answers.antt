-- The processor goes on with the run, or ends it.
use Rattle.std.proofs.Common.{◌≡◌, false, true, rules, sym, ◌∙◌}
use Rattle.std.proofs.lemmas.Bool.{true≢false}
use Rattle.bitmap_occupancy.proofs.CountLemmas.{counts_more, counts_same}
use Rattle.bitmap_occupancy.proofs.TotalLemmas.{ends_held, run_anew, run_more}
use Rattle.bitmap_occupancy.specs.Occupancy.{IsHeldAt}
use Rattle.bitmap_occupancy.proofs.counter.add.Goals as goal

pub returns-then-not-is_held-clause-counted : goal.returns-then-not-is_held-clause-counted
returns-then-not-is_held-clause-counted c = λ words iff before.
    let n = c.args.n in let p = c.args.processor in let counter = c.args.counter.now in
    let clear : c.args.is_held ≡ false = search (rules, c.if-not-is_held.true) in
    let none : IsHeldAt n words p → ⊥ = λ held. true≢false (sym (iff.1 held) ∙ clear) in
    let run = run_more n words p counter.from before.run none in
    record {
      run = run;
      held = counts_same (IsHeldAt n words) p counter.held before.held none;
      free = c.end_blocks.ensures.counted words run before.free;
    }

pub returns-clause-counted : goal.returns-clause-counted
returns-clause-counted c = λ words iff before.
    let n = c.args.n in let p = c.args.processor in let counter = c.args.counter.now in
    let set : c.args.is_held ≡ true = search (rules, c.if-not-is_held.false) in
    let held : IsHeldAt n words p = iff.0 set in
    record {
      run = run_anew n words p held;
      held = counts_more (IsHeldAt n words) p counter.held before.held held;
      free = ends_held n words p counter.free held before.free;
    }
