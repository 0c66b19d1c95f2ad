use Rattle.std.proofs.Common.{◌≡◌, ◌+◌, ◌-◌, ◌∙◌, subst, arith}
use Rattle.bitmap_tree.specs.InnerEnds.{IsShutFrom}
use Rattle.bitmap_tree.proofs.CloseLemmas.{shut_all}
use Rattle.bitmap_tree.proofs.ends.shut_all.Goals as goal

pub loop-past-preserved : goal.loop-past-preserved
loop-past-preserved c = record {
  len = c.shut_word.ensures.count ∙ c.loop-past.invariant.len;
  whole = c.loop-past.invariant.whole;
  from = omega arith;
  shut = λ held left.
      let was : c.len-count.result + 1 - c.loop-past.past ≡ c.len-count.result - c.loop-past.past + 1 = omega (arith, c.loop-past-test.true) in
      let next : c.len-count.result - c.loop-past.past ≡ c.len-count.result + 1 - (c.loop-past.past + 1) = omega arith in
      subst (λ w. IsShutFrom c.args.n held w c.shut_word.new.words.items) next
      (c.shut_word.ensures.shut held (subst (λ w. IsShutFrom c.args.n held w c.loop-past.words.items) was (c.loop-past.invariant.shut held left)));
}

pub returns : goal.returns
returns c = λ held left. shut_all c.args.n held (c.len-count.result + 1 - c.loop-past.past) c.loop-past.words.items (omega (arith, c.loop-past-test.false, c.loop-past.invariant.from)) (c.loop-past.invariant.shut held left)
