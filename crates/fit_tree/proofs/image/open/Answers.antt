-- Only the root is maximal.
use Rattle.std.proofs.Common.{◌≡◌, ◌+◌, ◌^◌, length, None, refl, ◌∙◌, arith}
use Rattle.fit_tree.proofs.BlockLemmas.{whole_is_sound}
use Rattle.fit_tree.proofs.HeldLemmas.{held_free}
use Rattle.fit_tree.proofs.FreeLemmas.{whole_counted}
use Rattle.fit_tree.proofs.ImageLemmas.{in_view}
use Rattle.fit_tree.proofs.image.open.Goals as goal

pub returns-clause-free : goal.returns-clause-free
returns-clause-free c = λ s.
    in_view (λ held. held s ≡ None) c.args.n c.clear_all.new.rooms (held_free c.args.n c.clear_all.new.rooms c.clear_all.ensures.whole s)

pub returns-clause-image : goal.returns-clause-image
returns-clause-image c =
    let rooms = c.clear_all.new.rooms in
    let whole = c.clear_all.ensures.whole in
    let count : length rooms ≡ 2 ^ (c.args.n + 1) = c.clear_all.ensures.len ∙ c.requires.rooms in
    record {
      sound = whole_is_sound c.args.n rooms c.requires.machine (omega (arith, count)) whole;
      room_count = count;
      no_node = c.clear_all.ensures.no_node;
      counted = whole_counted c.args.n c.count_whole.new.counts rooms whole c.count_whole.ensures.own c.count_whole.ensures.others;
      dim = refl;
      mark = refl;
      unused = refl;
    }
