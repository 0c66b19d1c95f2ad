-- One processor more is counted, by the words that were read.
use Rattle.std.proofs.Common.{◌≡◌, ◌+◌, ◌*◌, ◌%◌, ◌^◌, ◌<◌, ◌↔◌, IsTrue, rules, arith, ap, sym, subst, ◌∙◌}
use Rattle.std.proofs.lemmas.Nat.{one_shl}
use Rattle.bitmap_tree.specs.Handles.{dim_of}
use Rattle.bitmap_occupancy.proofs.PathLemmas.{held_path, path_next}
use Rattle.bitmap_occupancy.proofs.ReadLemmas.{read_each, read_next}
use Rattle.bitmap_occupancy.proofs.TotalLemmas.{counted_all}
use Rattle.bitmap_occupancy.specs.InnerCount.{IsCountedTo, IsRunning}
use Rattle.bitmap_occupancy.specs.InnerPass.{IsHeldOn, IsReadTo}
use Rattle.bitmap_occupancy.specs.Occupancy.{IsHeldAt}
use Rattle.bitmap_occupancy.proofs.totals.occupancy.Goals as goal

pub loop-processor-preserved : goal.loop-processor-preserved
loop-processor-preserved c =
    let n = dim_of c.args.tree.now in let d = c.dim-n.ensures.dim in let r = c.dim-n.result in
    let p = c.loop-processor.processor in let inv = c.loop-processor.invariant in
    let read = c.read_words.ensures in let path = c.read_words.new.path in let held = c.is_held.result in
    let size : 1 * 2 ^ r % 2 ^ 64 ≡ 2 ^ r = one_shl r 64 (omega (arith, d, c.dim-n.ensures.limit)) in
    let less : p < 2 ^ r = omega (arith, c.loop-processor-test.true, size) in
    let below : p < 2 ^ n = subst (λ x. p < 2 ^ x) d less in
    let on : IsTrue held ↔ IsHeldOn n path p = subst (λ x. IsTrue held ↔ IsHeldOn x path p) d c.is_held.ensures in
    record {
      table = search rules;
      slots = search rules;
      read = read_next n p c.read_words.new.seat.me.0.trail below read.read;
      running = subst (λ x. IsRunning x (p + 1) c.add.new.counter) d c.add.ensures.running;
      path = λ words seen. path_next n p words path below (read.path words seen (inv.path words (read.seen words seen)));
      counted = λ words count seen.
          let before = read.seen words seen in
          let at = held_path n p words path count below (read.path words seen (inv.path words before)) in
          let iff : IsTrue held ↔ IsHeldAt r words p = subst (λ x. IsTrue held ↔ IsHeldAt x words p) (sym d) (λ yes. at.0 (on.0 yes), λ is. on.1 (at.1 is)) in
          subst (λ x. IsCountedTo x words (p + 1) c.add.new.counter) d
          (c.add.ensures.counted words iff (subst (λ x. IsCountedTo x words p c.loop-processor.counter) (sym d) (inv.counted words count before)));
    }

pub returns-clause-counted : goal.returns-clause-counted
returns-clause-counted c =
    let n = dim_of c.args.tree.now in let d = c.dim-n.ensures.dim in let r = c.dim-n.result in
    let p = c.loop-processor.processor in let inv = c.loop-processor.invariant in
    let trail = c.loop-processor.seat.me.0.trail in let counter = c.loop-processor.counter in
    let size : 1 * 2 ^ r % 2 ^ 64 ≡ 2 ^ r = one_shl r 64 (omega (arith, d, c.dim-n.ensures.limit)) in
    let end_r : p ≡ 2 ^ r = omega (arith, c.loop-processor-test.false, c.loop-processor.auto.processor-end, size) in
    let end : p ≡ 2 ^ n = end_r ∙ ap (λ x. 2 ^ x) d in
    record {
      looked = inv.read.looked;
      once = inv.read.once;
      each = λ l m low few. read_each n l m trail (subst (λ x. IsReadTo n x 0 trail) end inv.read) low few;
      counts = λ words count seen. counted_all n words counter c.largest_free.result (subst (λ x. IsRunning n x counter) end inv.running)
          (subst (λ x. IsCountedTo n words x counter) end (inv.counted words count seen)) c.largest_free.ensures;
    }
