use Rattle.std.proofs.Common.{◌+◌, ◌∙◌, inl, arith}
use Rattle.std.proofs.lemmas.Nat.{pow_pos}
use Rattle.std.proofs.lemmas.List.{get_or-set_same, length-set}
use Rattle.fit_tree.proofs.BlockLemmas.{whole_more}
use Rattle.fit_tree.proofs.writes.clear_all.Goals as goal

pub bounds-rooms-0 : goal.bounds-rooms-0
bounds-rooms-0 c = omega (arith, c.requires.rooms, pow_pos (c.args.n + 1))

pub loop-depth-init : goal.loop-depth-init
loop-depth-init c = record {
  len = length-set c.args.rooms.now 0 0;
  no_node = get_or-set_same c.args.rooms.now 0 0 0 (omega (arith, c.requires.rooms, pow_pos (c.args.n + 1)));
  whole = λ d v node past. absurd (omega (arith, node.0, past));
}

pub returns-clause-whole : goal.returns-clause-whole
returns-clause-whole c = λ d v node. c.loop-depth.invariant.whole d v node (omega arith)

pub loop-depth-preserved : goal.loop-depth-preserved
loop-depth-preserved c = record {
  len = omega (arith, c.fill_level.ensures.len, c.loop-depth.invariant.len);
  no_node = c.fill_level.ensures.outside 0 (inl (pow_pos c.loop-depth.depth)) ∙ c.loop-depth.invariant.no_node;
  whole = whole_more c.args.n c.loop-depth.depth c.loop-depth.rooms c.fill_level.new.rooms (omega arith) c.loop-depth.invariant.whole c.fill_level.ensures.inside c.fill_level.ensures.outside;
}
