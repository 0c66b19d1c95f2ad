use Rattle.std.proofs.Common.{◌/◌, ◌*◌, ◌+◌, ◌^◌, ◌≤◌, ◌<◌, ◌%◌, ap, rules, subst, sym, arith}
use Rattle.bitmap_tree.specs.Rule.{word_count}
use Rattle.bitmap_tree.specs.Layout.{Known}
use Rattle.bitmap_tree.specs.InnerTrail.{StepsOn}
use Rattle.bitmap_tree.specs.Trail.{WasClaimed}
use Rattle.bitmap_tree.specs.Handles.{dim_of}
use Rattle.bitmap_tree.proofs.AloneLemmas.{look_right, left_here, lost_disturbs, newest_left, steps_one, steps_then}
use Rattle.bitmap_tree.proofs.LayoutLemmas.{found_aligned, word_there, takes_in, taken_run}
use Rattle.bitmap_tree.proofs.TrailLemmas.{shows_now}
use Rattle.bitmap_tree.proofs.handles.BitmapTree.take_in.Goals as goal

pub load_word-found-requires-clause-word : goal.load_word-found-requires-clause-word
load_word-found-requires-clause-word c = subst (λ f. f + c.args.number < word_count (dim_of c.args.self.now)) (sym c.first_word.ensures.value) (word_there _ _ _ c.requires.number)

pub claim_in-now-requires-clause-word : goal.claim_in-now-requires-clause-word
claim_in-now-requires-clause-word c = subst (λ f. f + c.args.number < word_count (dim_of c.args.self.now)) (sym c.first_word.ensures.value) (word_there _ _ _ c.requires.number)

pub loop-init : goal.loop-init
loop-init c =
    let w = c.first_word.result + c.args.number in
    let trail = ap (λ (m : Known). m.0.trail) c.load_word-found.ensures.seat in
    record {
      stays = record {
        table = search rules;
        permits = search rules;
        right = look_right (dim_of c.args.self.now) c.args.seat.now.me c.load_word-found.new.seat.me (c.first_word.result + c.args.number) c.load_word-found.result trail;
      };
      blank = search rules;
      shows = shows_now (c.first_word.result + c.args.number) c.load_word-found.result c.load_word-found.result c.args.seat.now.me.0.trail _ trail;
      newest = left_here (c.first_word.result + c.args.number) c.load_word-found.result c.load_word-found.result c.args.seat.now.me.0.trail _ trail;
      alone = newest_left c.load_word-found.new.seat.me (c.first_word.result + c.args.number) c.load_word-found.result c.load_word-found.result c.args.seat.now.me.0.trail trail;
      lost = λ more. absurd (omega (arith, more));
      steps = steps_one c.args.seat.now.me c.load_word-found.new.seat.me (c.first_word.result + c.args.number) c.load_word-found.result c.load_word-found.result trail;
      grows = search rules;
    }

pub loop-preserved : goal.loop-preserved
loop-preserved c =
    let trail = c.claim_in-now.ensures.noted c.if-now-found.false in
    record {
      stays = record {
        table = search rules;
        permits = search rules;
        right = λ was. c.claim_in-now.ensures.right (record { base = (64 * c.args.number + c.in-Some.offset) * 2 ^ (6 * (c.args.k / 6)) % 18446744073709551616; dim = c.args.k })
            (found_aligned (dim_of c.args.self.now) c.args.number c.in-Some.offset c.args.k c.args.self.now.dim_in_limits c.requires.fits c.requires.number c.in-Some.ensures.found.0 (subst (λ size. c.in-Some.offset + 2 ^ (c.args.k % 6) ≤ size) c.word_size.ensures.value c.in-Some.ensures.found.1))
            (sym (taken_run (dim_of c.args.self.now) c.args.number c.in-Some.offset c.args.k c.first_word.result c.args.self.now.dim_in_limits c.requires.fits c.first_word.ensures.value c.requires.number c.in-Some.ensures.found.0 (subst (λ size. c.in-Some.offset + 2 ^ (c.args.k % 6) ≤ size) c.word_size.ensures.value c.in-Some.ensures.found.1)))
            (c.loop.invariant.stays.right was);
      };
      blank = c.claim_in-now.ensures.lost c.if-now-found.false;
      shows = shows_now (c.first_word.result + c.args.number) c.claim_in-now.result c.claim_in-now.result c.loop.seat.me.0.trail _ trail;
      newest = left_here (c.first_word.result + c.args.number) c.claim_in-now.result c.claim_in-now.result c.loop.seat.me.0.trail _ trail;
      alone = newest_left c.claim_in-now.new.seat.me (c.first_word.result + c.args.number) c.claim_in-now.result c.claim_in-now.result c.loop.seat.me.0.trail trail;
      lost = λ more. lost_disturbs c.loop.seat.me c.claim_in-now.new.seat.me (c.first_word.result + c.args.number) c.loop.found c.claim_in-now.result trail c.loop.invariant.alone c.if-now-found.false;
      steps = steps_then (c.first_word.result + c.args.number) (c.first_word.result + c.args.number + 1) c.args.seat.now.me c.loop.seat.me c.claim_in-now.new.seat.me c.loop.invariant.steps c.claim_in-now.ensures.steps;
      grows = search rules;
    }

pub returns-then-now-found-clause-taken : goal.returns-then-now-found-clause-taken
returns-then-now-found-clause-taken c =
    let within = subst (λ size. c.in-Some.offset + 2 ^ (c.args.k % 6) ≤ size) c.word_size.ensures.value c.in-Some.ensures.found.1 in
    let taken = takes_in _ _ c.in-Some.offset _ _ c.claim_in-now.new.seat.me c.args.self.now.dim_in_limits c.requires.fits c.first_word.ensures.value c.requires.number c.in-Some.ensures.found.0
    within (c.claim_in-now.ensures.won c.if-now-found.true) in
    record {
      run = taken.0;
      block = taken.1;
      claimed = subst (λ r. WasClaimed r c.claim_in-now.new.seat.me.0.trail)
          (taken_run _ _ c.in-Some.offset _ _ c.args.self.now.dim_in_limits c.requires.fits c.first_word.ensures.value c.requires.number c.in-Some.ensures.found.0 within)
          (c.claim_in-now.ensures.claimed c.if-now-found.true);
    }

pub returns-then-now-found-clause-steps : goal.returns-then-now-found-clause-steps
returns-then-now-found-clause-steps c = subst (λ f. StepsOn (f + c.args.number) (f + c.args.number + 1) c.args.seat.now.me c.claim_in-now.new.seat.me) c.first_word.ensures.value
    (steps_then (c.first_word.result + c.args.number) (c.first_word.result + c.args.number + 1) c.args.seat.now.me c.loop.seat.me c.claim_in-now.new.seat.me c.loop.invariant.steps c.claim_in-now.ensures.steps)

pub returns-then-now-found-clause-stays : goal.returns-then-now-found-clause-stays
returns-then-now-found-clause-stays c = record {
  table = search rules;
  permits = search rules;
  right = λ was. c.claim_in-now.ensures.right (record { base = (64 * c.args.number + c.in-Some.offset) * 2 ^ (6 * (c.args.k / 6)) % 18446744073709551616; dim = c.args.k })
      (found_aligned (dim_of c.args.self.now) c.args.number c.in-Some.offset c.args.k c.args.self.now.dim_in_limits c.requires.fits c.requires.number c.in-Some.ensures.found.0 (subst (λ size. c.in-Some.offset + 2 ^ (c.args.k % 6) ≤ size) c.word_size.ensures.value c.in-Some.ensures.found.1))
      (sym (taken_run (dim_of c.args.self.now) c.args.number c.in-Some.offset c.args.k c.first_word.result c.args.self.now.dim_in_limits c.requires.fits c.first_word.ensures.value c.requires.number c.in-Some.ensures.found.0 (subst (λ size. c.in-Some.offset + 2 ^ (c.args.k % 6) ≤ size) c.word_size.ensures.value c.in-Some.ensures.found.1)))
      (c.loop.invariant.stays.right was);
}
