use Rattle.std.proofs.Common.{rules, refl, ◌≡◌, ◌-◌, ◌∙◌, ap, map, subst, sym, arith}
use Rattle.std.proofs.lemmas.List.Elements.{All-push}
use Rattle.std.specs.Prelude.{All}
use Rattle.tree_steps.specs.Tree.{id_of}
use Rattle.tree_steps.specs.Rule.{idle_entries}
use Rattle.cube_tree.specs.Handles.{station_entry, HasTable}
use Rattle.cube_tree.specs.Hint.{HasNoHint}
use Rattle.cube_tree.proofs.OpeningLemmas.{idle_seat, cut_rest, cut_seat, bare_seat, dealt_more, dealt_all}
use Rattle.cube_tree.proofs.opening.deal.Goals as goal

pub invariant_of-push_reserved : goal.invariant_of-push_reserved
invariant_of-push_reserved c = record {
  idle = (cut_seat c.loop-number.number c.args.stations _ _ c.loop-number-test.true c.loop-number.invariant.seat c.cut_first-own.ensures.cut).0;
  limit = search rules;
}

pub loop-number-preserved : goal.loop-number-preserved
loop-number-preserved c = record {
  same = search rules;
  seat = c.cut_first-own.ensures.kept ∙ cut_rest c.loop-number.number c.args.stations _ c.loop-number-test.true c.loop-number.invariant.seat;
  len = search rules;
  room = search rules;
  idle = ap (map station_entry) c.push_reserved.ensures.items
      ∙ dealt_more c.loop-number.list.items _ c.loop-number.number c.loop-number.invariant.idle
      (cut_seat c.loop-number.number c.args.stations _ _ c.loop-number-test.true c.loop-number.invariant.seat c.cut_first-own.ensures.cut).1;
  of_tree = subst (All (HasTable (id_of c.args.tree.now))) (sym c.push_reserved.ensures.items)
      (All-push (HasTable (id_of c.args.tree.now)) c.loop-number.list.items _ c.loop-number.invariant.of_tree (c.cut_first-own.ensures.other ∙ c.loop-number.invariant.same ∙ c.requires.seat));
  nothing = subst (All HasNoHint) (sym c.push_reserved.ensures.items)
      (All-push HasNoHint c.loop-number.list.items _ c.loop-number.invariant.nothing refl);
}

pub returns : goal.returns
returns c =
    let all : c.loop-number.number ≡ c.args.stations = omega (arith, c.loop-number-test.false, c.loop-number.auto.number-end) in
    let last = bare_seat c.args.stations c.loop-number.seat.me (c.loop-number.invariant.seat ∙ ap (λ a. idle_seat a (c.args.stations - a)) all) in record {
      seat = c.loop-number.invariant.same;
      bare = last.0;
      loads = last.1;
      len = omega (arith, all, c.loop-number.invariant.len);
      idle = c.loop-number.invariant.idle ∙ ap (idle_entries 0) all;
      all = dealt_all c.args.stations c.loop-number.list.items (c.loop-number.invariant.idle ∙ ap (idle_entries 0) all);
      of_tree = c.loop-number.invariant.of_tree;
      nothing = c.loop-number.invariant.nothing;
    }
