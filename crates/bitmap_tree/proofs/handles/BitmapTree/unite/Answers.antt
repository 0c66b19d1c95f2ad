use Rattle.std.proofs.Common.{◌≡◌, ◌+◌, [], ◌∷◌, ◌∙◌, refl, rules, subst, sym}
use Rattle.bitmap_tree.specs.Layout.{HasRun, run_of}
use Rattle.bitmap_tree.specs.Handles.{dim_of}
use Rattle.bitmap_tree.proofs.HalfLemmas.{next_runs, whole_in}
use Rattle.bitmap_tree.proofs.LayoutLemmas.{is_in}
use Rattle.bitmap_tree.proofs.handles.BitmapTree.unite.Goals as goal

pub glue-requires-clause-next : goal.glue-requires-clause-next
glue-requires-clause-next c = next_runs (dim_of c.args.self.now) c.args.lower.region c.args.upper.region c.args.lower.seat.me c.args.upper.seat.me
    (is_in (dim_of c.args.self.now) c.args.lower.dim c.args.lower.region c.requires.lower.1 c.args.lower.begins c.args.lower.within c.args.lower.fits) c.requires.halves
    (subst (λ n. c.args.lower.seat.me.0.runs ≡ run_of n c.args.lower.region ∷ []) c.requires.lower.1 c.args.lower.claimed.0)
    (subst (λ n. c.args.upper.seat.me.0.runs ≡ run_of n c.args.upper.region ∷ []) c.requires.upper.1 c.args.upper.claimed.0)

pub shut_whole_unit-requires-clause-inside : goal.shut_whole_unit-requires-clause-inside
shut_whole_unit-requires-clause-inside c = whole_in (dim_of c.args.self.now) c.args.lower.region c.args.upper.region
    (is_in (dim_of c.args.self.now) c.args.lower.dim c.args.lower.region c.requires.lower.1 c.args.lower.begins c.args.lower.within c.args.lower.fits)
    (is_in (dim_of c.args.self.now) c.args.upper.dim c.args.upper.region c.requires.upper.1 c.args.upper.begins c.args.upper.within c.args.upper.fits)
    c.requires.halves

pub invariant_of-result : goal.invariant_of-result
invariant_of-result c =
    let whole = whole_in c.args.lower.dim c.args.lower.region c.args.upper.region
    (is_in c.args.lower.dim c.args.lower.dim c.args.lower.region refl c.args.lower.begins c.args.lower.within c.args.lower.fits)
    (is_in c.args.lower.dim c.args.upper.dim c.args.upper.region (c.requires.upper.1 ∙ sym c.requires.lower.1) c.args.upper.begins c.args.upper.within c.args.upper.fits)
    c.requires.halves in
    record {
      claimed = subst (λ n. HasRun (run_of n (record { base = c.args.lower.region.base; dim = c.args.lower.region.dim + 1 })) c.shut_whole_unit.new.seat.me) (sym c.requires.lower.1) c.shut_whole_unit.ensures.whole;
      begins = whole.begins;
      within = whole.within;
      fits = whole.fits;
      words = search rules;
      dim_in_limits = c.args.lower.dim_in_limits;
    }
