use Rattle.std.proofs.Common.{◌/◌, ◌*◌, ◌^◌, ◌+◌, refl, rules, subst, sym}
use Rattle.bitmap_tree.specs.Handles.{dim_of}
use Rattle.bitmap_tree.specs.InnerTrail.{StepsOn, left_by}
use Rattle.bitmap_tree.proofs.AloneLemmas.{left_here, lost_disturbs, newest_left, steps_then}
use Rattle.bitmap_tree.proofs.TrailLemmas.{shows_now}
use Rattle.bitmap_tree.proofs.BlockLemmas.{block_seen, block_set, block_word}
use Rattle.bitmap_tree.proofs.LayoutLemmas.{aligned_in, block_run, fits_here}
use Rattle.bitmap_tree.proofs.handles.BitmapTree.take_block.Goals as goal

pub mask_of-mask-requires-clause-within : goal.mask_of-mask-requires-clause-within
mask_of-mask-requires-clause-within c = fits_here _ _ _ c.args.block c.requires.block refl

pub load_word-found-requires-clause-word : goal.load_word-found-requires-clause-word
load_word-found-requires-clause-word c = block_word (dim_of c.args.self.now) c.first_word.result c.args.block c.requires.block c.first_word.ensures.value

pub returns-then-found-mask-ne0-clause-refused : goal.returns-then-found-mask-ne0-clause-refused
returns-then-found-mask-ne0-clause-refused c = λ _. block_seen (dim_of c.args.self.now) c.first_word.result _ c.mask_of-mask.result c.loop.found c.args.block c.loop.seat.me.0.trail c.requires.block c.first_word.ensures.value refl c.mask_of-mask.ensures c.loop.invariant.shows c.if-found-mask-ne0.true

pub returns-then-found-mask-ne0-clause-set : goal.returns-then-found-mask-ne0-clause-set
returns-then-found-mask-ne0-clause-set c = λ _. block_set (dim_of c.args.self.now) c.first_word.result _ c.mask_of-mask.result c.loop.found c.args.block (left_by c.loop.seat.me.0.trail) c.requires.block c.first_word.ensures.value refl c.mask_of-mask.ensures c.loop.invariant.newest c.if-found-mask-ne0.true

pub claim_in-now-requires-clause-word : goal.claim_in-now-requires-clause-word
claim_in-now-requires-clause-word c = block_word (dim_of c.args.self.now) c.first_word.result c.args.block c.requires.block c.first_word.ensures.value

pub claim_in-now-requires-clause-within : goal.claim_in-now-requires-clause-within
claim_in-now-requires-clause-within c = fits_here _ _ _ c.args.block c.requires.block refl

pub loop-preserved : goal.loop-preserved
loop-preserved c =
    let trail = c.claim_in-now.ensures.noted c.if-now-found.false in
    record {
      stays = record {
        table = search rules;
        permits = search rules;
        right = λ was. c.claim_in-now.ensures.right c.args.block (aligned_in (dim_of c.args.self.now) c.args.block.dim c.args.block c.requires.block)
            (sym (block_run (dim_of c.args.self.now) c.first_word.result (c.args.block.base / 2 ^ (6 * (c.args.block.dim / 6))) c.args.block c.first_word.ensures.value refl))
            (c.loop.invariant.stays.right was);
      };
      blank = c.claim_in-now.ensures.lost c.if-now-found.false;
      shows = shows_now (c.first_word.result + c.args.block.base / 2 ^ (6 * (c.args.block.dim / 6)) / 64) c.claim_in-now.result c.claim_in-now.result c.loop.seat.me.0.trail _ trail;
      newest = left_here (c.first_word.result + c.args.block.base / 2 ^ (6 * (c.args.block.dim / 6)) / 64) c.claim_in-now.result c.claim_in-now.result c.loop.seat.me.0.trail _ trail;
      alone = newest_left c.claim_in-now.new.seat.me (c.first_word.result + c.args.block.base / 2 ^ (6 * (c.args.block.dim / 6)) / 64) c.claim_in-now.result c.claim_in-now.result c.loop.seat.me.0.trail trail;
      lost = λ more. lost_disturbs c.loop.seat.me c.claim_in-now.new.seat.me (c.first_word.result + c.args.block.base / 2 ^ (6 * (c.args.block.dim / 6)) / 64) c.loop.found c.claim_in-now.result trail c.loop.invariant.alone c.if-now-found.false;
      steps = steps_then (c.first_word.result + c.args.block.base / 2 ^ (6 * (c.args.block.dim / 6)) / 64) (c.first_word.result + c.args.block.base / 2 ^ (6 * (c.args.block.dim / 6)) / 64 + 1) c.args.seat.now.me c.loop.seat.me c.claim_in-now.new.seat.me c.loop.invariant.steps c.claim_in-now.ensures.steps;
      grows = search rules;
    }

pub returns-then-now-found-clause-steps : goal.returns-then-now-found-clause-steps
returns-then-now-found-clause-steps c = subst (λ f. StepsOn (f + c.args.block.base / 2 ^ (6 * (c.args.block.dim / 6)) / 64) (f + c.args.block.base / 2 ^ (6 * (c.args.block.dim / 6)) / 64 + 1) c.args.seat.now.me c.claim_in-now.new.seat.me) c.first_word.ensures.value
    (steps_then (c.first_word.result + c.args.block.base / 2 ^ (6 * (c.args.block.dim / 6)) / 64) (c.first_word.result + c.args.block.base / 2 ^ (6 * (c.args.block.dim / 6)) / 64 + 1) c.args.seat.now.me c.loop.seat.me c.claim_in-now.new.seat.me c.loop.invariant.steps c.claim_in-now.ensures.steps)

pub returns-then-now-found-clause-stays : goal.returns-then-now-found-clause-stays
returns-then-now-found-clause-stays c = record {
  table = search rules;
  permits = search rules;
  right = λ was. c.claim_in-now.ensures.right c.args.block (aligned_in (dim_of c.args.self.now) c.args.block.dim c.args.block c.requires.block)
      (sym (block_run (dim_of c.args.self.now) c.first_word.result (c.args.block.base / 2 ^ (6 * (c.args.block.dim / 6))) c.args.block c.first_word.ensures.value refl))
      (c.loop.invariant.stays.right was);
}
