use Rattle.std.proofs.Common.{subst, sym}
use Rattle.std.specs.Prelude.{All}
use Rattle.std.proofs.lemmas.Nat.{pow_pos}
use Rattle.collectives.specs.Places.{Holds, prefix_total}
use Rattle.collectives.proofs.BlockLemmas.{with_units}
use Rattle.collectives.proofs.collective.exscan.Goals as goal

pub returns-clause-held : goal.returns-clause-held
returns-clause-held g c =
    let m = g.M.Monoid in
    let copied = c.copy_from_slice.ensures.after in
    let values = subst (λ totals. All m.is_value totals) (sym copied) c.requires.values in
    let held = with_units g.met.M.Monoid.laws c.args.k c.copy_from_slice.new.self c.put_units.new.items c.scan_rounds.new.prefixes values c.put_units.ensures.units c.scan_rounds.ensures.held in
    subst (λ old. Holds c.scan_rounds.new.prefixes c.args.k (λ rank. prefix_total m.join m.unit old rank)) copied held

pub returns-clause-first : goal.returns-clause-first
returns-clause-first g c = returns-clause-held g c 0 (pow_pos c.args.k)
