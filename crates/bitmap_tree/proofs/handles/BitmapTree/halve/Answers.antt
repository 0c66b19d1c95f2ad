use Rattle.std.proofs.Common.{◌≡◌, ◌+◌, ◌-◌, ◌*◌, ◌%◌, ◌^◌, ◌∙◌, ap, refl, rules, subst, sym, arith}
use Rattle.bitmap_tree.specs.Layout.{HasRun, run_of}
use Rattle.bitmap_tree.specs.InnerLayout.{both_halves}
use Rattle.bitmap_tree.proofs.HalfLemmas.{half_base, half_in, lower_run, upper_run}
use Rattle.bitmap_tree.proofs.LayoutLemmas.{is_in}
use Rattle.bitmap_tree.proofs.handles.BitmapTree.halve.Goals as goal

pub invariant_of-result : goal.invariant_of-result
invariant_of-result c =
    let inside = is_in c.args.held.dim c.args.held.dim c.args.held.region refl c.args.held.begins c.args.held.within c.args.held.fits in
    let half = (half_in c.args.held.dim c.args.held.region inside c.requires.some).0 in
    let both : HasRun (both_halves c.args.held.dim c.args.held.region) c.open_whole_unit.new.seat.me = subst (λ n. HasRun (both_halves n c.args.held.region) c.open_whole_unit.new.seat.me) (sym c.requires.held.1) c.open_whole_unit.ensures.both in
    record {
      claimed = lower_run c.args.held.dim c.args.held.region c.open_whole_unit.new.seat.me c.cut_half-upper.new.seat.me both c.cut_half-upper.ensures.kept;
      begins = half.begins;
      within = half.within;
      fits = half.fits;
      words = search rules;
      dim_in_limits = c.args.held.dim_in_limits;
    }

pub invariant_of-result-2 : goal.invariant_of-result-2
invariant_of-result-2 c =
    let inside = is_in c.args.held.dim c.args.held.dim c.args.held.region refl c.args.held.begins c.args.held.within c.args.held.fits in
    let half = (half_in c.args.held.dim c.args.held.region inside c.requires.some).1 in
    let both : HasRun (both_halves c.args.held.dim c.args.held.region) c.open_whole_unit.new.seat.me = subst (λ n. HasRun (both_halves n c.args.held.region) c.open_whole_unit.new.seat.me) (sym c.requires.held.1) c.open_whole_unit.ensures.both in
    let base : c.args.held.region.base + 1 * 2 ^ (c.args.held.region.dim - 1) % 18446744073709551616 ≡ c.args.held.region.base + 2 ^ (c.args.held.region.dim - 1) = half_base c.args.held.region c.args.held.dim c.args.held.dim_in_limits c.args.held.fits in
    record {
      claimed = subst (λ b. HasRun (run_of c.args.held.dim (record { base = b; dim = c.args.held.region.dim - 1 })) c.cut_half-upper.result.me) (sym base) (upper_run c.args.held.dim c.args.held.region c.open_whole_unit.new.seat.me c.cut_half-upper.result.me inside c.requires.some both c.cut_half-upper.ensures.cut);
      begins = ap (λ b. b % 2 ^ (c.args.held.region.dim - 1)) base ∙ half.begins;
      within = omega (arith, base, half.within);
      fits = half.fits;
      words = search rules;
      dim_in_limits = c.args.held.dim_in_limits;
    }

pub returns-clause-upper : goal.returns-clause-upper
returns-clause-upper c = ap (λ b. record { base = b; dim = c.args.held.region.dim - 1 }) (half_base c.args.held.region c.args.held.dim c.args.held.dim_in_limits c.args.held.fits)
