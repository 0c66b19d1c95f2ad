use Rattle.std.proofs.Common.{◌≡◌, ◌+◌, ◌-◌, ◌++◌, [], ◌∷◌, length, sym, ap, subst, ◌∙◌, rules, arith}
use Rattle.std.specs.Prelude.{All}
use Rattle.std.proofs.lemmas.List.Elements.{All-append, All-replicate}
use Rattle.collectives.specs.Places.{padded, total}
use Rattle.collectives.proofs.PadLemmas.{one_unit_more, total_padded}
use Rattle.collectives.proofs.padding.pad.Goals as goal

pub loop-preserved : goal.loop-preserved
loop-preserved g c =
    let m = g.M.Monoid in
    let items = c.reserve_exact.new.self.items in
    let more : c.loop.counter + 1 - length items ≡ c.loop.counter - length items + 1 = omega arith in
    let pushed : c.push_reserved.new.self.items ≡ c.loop.items.items ++ m.unit ∷ [] =
    c.push_reserved.ensures.items ∙ ap (λ (value : g.row.M.Denot). c.loop.items.items ++ value ∷ []) c.unit.ensures
    in
    record {
      units = pushed ∙ one_unit_more m.unit items c.loop.items.items (c.loop.counter - length items) (c.loop.counter + 1 - length items) c.loop.invariant.units more;
      values = subst (All m.is_value) (sym pushed)
          (All-append m.is_value c.loop.items.items (m.unit ∷ []) c.loop.invariant.values (All-replicate m.is_value 1 m.unit g.met.M.Monoid.laws.unit_value));
      room = let same = c.push_reserved.ensures.capacity in let room = c.loop.invariant.room in omega (arith, same, room);
    }

pub returns-clause-total : goal.returns-clause-total
returns-clause-total g c =
    let m = g.M.Monoid in
    let filled : c.loop.items.items ≡ padded m.unit c.args.k c.args.items.now.items = search rules in
    ap (total m.join m.unit) filled ∙ total_padded g.met.M.Monoid.laws c.args.k c.args.items.now.items c.requires.values
