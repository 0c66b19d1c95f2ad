use Rattle.std.proofs.Common.{◌^◌, ◌*◌, ◌-◌, ◌/◌, ◌%◌, ◌+◌, min, refl, arith}
use Rattle.bitmap_tree.specs.Rule.{first_word}
use Rattle.bitmap_tree.specs.Handles.{dim_of}
use Rattle.bitmap_tree.proofs.AloneLemmas.{steps_then, steps_wider}
use Rattle.bitmap_tree.proofs.SweepLemmas.{disturbed_next, left_full_next}
use Rattle.bitmap_tree.proofs.TrailLemmas.{full_next, each_taken}
use Rattle.bitmap_tree.proofs.SeatLemmas.{stays_then}
use Rattle.bitmap_tree.proofs.handles.BitmapTree.take_words.Goals as goal

pub loop-number-preserved : goal.loop-number-preserved
loop-number-preserved c =
    let n = dim_of c.args.self.now in
    let test = c.loop-number-test.true in
    record {
      stays = stays_then c.loop-number.invariant.stays c.take_in.ensures.stays;
      blank = c.in-Err.ensures.blank;
      seen = full_next (2 ^ min (dim_of c.args.self.now - 6 * (c.args.k / 6)) 6) (c.args.k % 6) (first_word (dim_of c.args.self.now / 6 - c.args.k / 6)) c.loop-number.number c.loop-number.why c.in-Err.more c.and-why.result c.loop-number.seat.me c.take_in.new.seat.me c.take_in.ensures.steps.keeps c.and-why.ensures.full c.loop-number.invariant.seen c.in-Err.ensures.refused;
      full = left_full_next (2 ^ min (dim_of c.args.self.now - 6 * (c.args.k / 6)) 6) (c.args.k % 6) (first_word (dim_of c.args.self.now / 6 - c.args.k / 6)) c.loop-number.number c.loop-number.why c.in-Err.more c.and-why.result c.loop-number.seat.me c.take_in.new.seat.me c.take_in.ensures.steps c.and-why.ensures.full c.loop-number.invariant.full c.in-Err.ensures.full;
      disturbed = disturbed_next c.loop-number.why c.in-Err.more c.and-why.result c.loop-number.seat.me c.take_in.new.seat.me c.take_in.ensures.steps.past c.and-why.ensures.disturbed c.loop-number.invariant.disturbed c.in-Err.ensures.disturbed;
      steps = steps_then (first_word (dim_of c.args.self.now / 6 - c.args.k / 6)) (first_word (dim_of c.args.self.now / 6 - c.args.k / 6) + 2 ^ (dim_of c.args.self.now - 6 * (c.args.k / 6) - 6)) c.args.seat.now.me c.loop-number.seat.me c.take_in.new.seat.me c.loop-number.invariant.steps
          (steps_wider (first_word (dim_of c.args.self.now / 6 - c.args.k / 6) + c.loop-number.number) (first_word (dim_of c.args.self.now / 6 - c.args.k / 6) + c.loop-number.number + 1) _ _ c.loop-number.seat.me c.take_in.new.seat.me (omega arith) (omega (arith, c.words_in-number-end.ensures.value, test)) c.take_in.ensures.steps);
      grows = omega (arith, c.loop-number.invariant.grows, c.take_in.ensures.grows);
    }

pub returns-in-Ok-clause-steps : goal.returns-in-Ok-clause-steps
returns-in-Ok-clause-steps c =
    let test = c.loop-number-test.true in
    steps_then (first_word (dim_of c.args.self.now / 6 - c.args.k / 6)) (first_word (dim_of c.args.self.now / 6 - c.args.k / 6) + 2 ^ (dim_of c.args.self.now - 6 * (c.args.k / 6) - 6)) c.args.seat.now.me c.loop-number.seat.me c.take_in.new.seat.me c.loop-number.invariant.steps
    (steps_wider (first_word (dim_of c.args.self.now / 6 - c.args.k / 6) + c.loop-number.number) (first_word (dim_of c.args.self.now / 6 - c.args.k / 6) + c.loop-number.number + 1) _ _ c.loop-number.seat.me c.take_in.new.seat.me (omega arith) (omega (arith, c.words_in-number-end.ensures.value, test)) c.take_in.ensures.steps)

pub returns-clause-refused : goal.returns-clause-refused
returns-clause-refused c = λ none_given. each_taken (dim_of c.args.self.now) c.args.k (first_word (dim_of c.args.self.now / 6 - c.args.k / 6)) _ c.requires.fits refl
    (λ w within. c.loop-number.invariant.seen none_given w (omega (arith, within, c.words_in-number-end.ensures.value, c.loop-number-test.false)))

pub returns-clause-full : goal.returns-clause-full
returns-clause-full c = λ none_given w within. c.loop-number.invariant.full none_given w (omega (arith, within, c.words_in-number-end.ensures.value, c.loop-number-test.false))
