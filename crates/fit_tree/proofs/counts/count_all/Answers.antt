-- One more level is counted.
use Rattle.std.proofs.Common.{◌≡◌, ◌-◌, ◌^◌, ◌<◌, inl, inr, length, slice_index, slice_set, sym, ap, ◌∙◌, subst, arith}
use Rattle.std.proofs.lemmas.List.{get_or-set_other, get_or-set_same}
use Rattle.std.proofs.lemmas.Bool.{cases_eq}
use Rattle.alloc_bits.specs.Count.{IsCount}
use Rattle.fit_tree.proofs.MaximalLemmas.{MaximalIn}
use Rattle.fit_tree.proofs.counts.count_all.Goals as goal

pub loop-dim-preserved : goal.loop-dim-preserved
loop-dim-preserved c =
    let inv = c.loop-dim.invariant in
    let n = c.args.n in
    let rooms = c.args.rooms.now in
    let old = c.loop-dim.counts in
    let dim = c.loop-dim.dim in
    let count = c.count_level.result in
    let inside : dim < length old = omega arith in
    record {
      each = λ d below. elim (cases_eq d dim) [
        | inl same ↦
            let got : slice_index (slice_set old dim count) d ≡ count = ap (slice_index (slice_set old dim count)) same ∙ get_or-set_same old dim count 0 inside in
            subst (IsCount (MaximalIn n rooms d) (2 ^ (n - d))) (sym got) (subst (λ e. IsCount (MaximalIn n rooms e) (2 ^ (n - e)) count) (sym same) c.count_level.ensures)
        | inr other ↦
            subst (IsCount (MaximalIn n rooms d) (2 ^ (n - d))) (sym (get_or-set_other old dim d count 0 other)) (inv.each d (omega (arith, other)))
      ];
      others = λ d past. get_or-set_other old dim d count 0 (λ same. omega (arith, same)) ∙ inv.others d (omega arith);
    }
