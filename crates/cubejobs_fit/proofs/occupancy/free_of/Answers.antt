-- The new place has the count of its dimension, and no other place changes.
use Rattle.std.proofs.Common.{◌≡◌, ℕ, ◌-◌, ◌^◌, ◌<◌, List, inl, inr, length, slice_index, slice_set, sym, ap, ◌∙◌, subst, arith}
use Rattle.std.proofs.lemmas.List.{get_or-set_other, get_or-set_same, length-set}
use Rattle.std.proofs.lemmas.Bool.{cases_eq}
use Rattle.cube_shape.specs.Region.{block}
use Rattle.cube_shape.specs.Machine.{IsFree}
use Rattle.alloc_bits.specs.Count.{IsCount}
use Rattle.cubejobs_fit.specs.Answers.{held_of}
use Rattle.cubejobs_fit.proofs.occupancy.free_of.Goals as goal

abbrev FreeIn : ℕ → List ℕ → ℕ → ℕ → Type 0
FreeIn n rooms k count = IsCount (λ m. IsFree (held_of n rooms) (block k m)) (2 ^ (n - k)) count

pub loop-k-preserved : goal.loop-k-preserved
loop-k-preserved c =
    let inv = c.loop-k.invariant in
    let n = c.args.n in
    let old = c.loop-k.free in
    let k = c.loop-k.k in
    let count = c.free_blocks.result in
    let inside : k < length old = omega (arith, inv.places) in record {
      places = length-set old k count ∙ inv.places;
      each = λ rooms image j below. elim (cases_eq j k) [
        | inl same ↦
            let got : slice_index (slice_set old k count) j ≡ count = ap (slice_index (slice_set old k count)) same ∙ get_or-set_same old k count 0 inside in
            subst (FreeIn n rooms j) (sym got) (subst (λ e. FreeIn n rooms e count) (sym same) (c.free_blocks.ensures rooms image))
        | inr other ↦
            subst (FreeIn n rooms j) (sym (get_or-set_other old k j count 0 other)) (inv.each rooms image j (omega (arith, below, other)))
      ];
      others = λ j past. get_or-set_other old k j count 0 (λ same. omega (arith, same)) ∙ inv.others j (omega (arith, past));
    }
