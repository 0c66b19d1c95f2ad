use Rattle.bitmap_tree.specs.declared.no_block.NoBlock.TheVariants.{Full}
use Rattle.bitmap_tree.proofs.LayoutLemmas.{grows_none}
use Rattle.std.proofs.Common.{refl, ◌≡◌, ◌*◌, ◌/◌, ◌%◌, ◌^◌, ◌<◌, ℕ, min, max, ◌∙◌, ap, subst, arith, ◌-◌, ◌+◌}
use Rattle.bitmap_tree.specs.Rule.{first_word}
use Rattle.bitmap_tree.specs.InnerTrail.{IsFullWord, StepsOn, left_by}
use Rattle.bitmap_tree.specs.Trail.{WasEachTaken}
use Rattle.bitmap_tree.proofs.AloneLemmas.{steps_then}
use Rattle.bitmap_tree.proofs.SweepLemmas.{disturbed_next, left_level_next, level_steps, scan_all, scan_next}
use Rattle.bitmap_tree.specs.Handles.{dim_of}
use Rattle.bitmap_tree.proofs.TrailLemmas.{level_next}
use Rattle.bitmap_tree.proofs.SeatLemmas.{stays_then}
use Rattle.bitmap_tree.proofs.handles.BitmapTree.take_scanned.Goals as goal

pub loop-level-preserved : goal.loop-level-preserved
loop-level-preserved c =
    let n = dim_of c.args.self.now in
    let same : c.max.result ≡ max c.args.k (6 * c.loop-level.level) = omega (arith, c.max.ensures) in
    let test = c.loop-level-test.true in
    let from = c.loop-level.invariant.from in
    let level : max c.args.k (6 * c.loop-level.level) / 6 ≡ c.loop-level.level = omega (arith, from) in
    let at : c.max.result / 6 ≡ c.loop-level.level = ap (λ d. d / 6) same ∙ level in
    let steps : StepsOn (first_word (dim_of c.args.self.now / 6 - c.loop-level.level)) (first_word (dim_of c.args.self.now / 6 - c.loop-level.level) + 2 ^ (dim_of c.args.self.now - 6 * c.loop-level.level - 6)) c.loop-level.seat.me c.take_words.new.seat.me =
    subst (λ l. StepsOn (first_word (dim_of c.args.self.now / 6 - l)) (first_word (dim_of c.args.self.now / 6 - l) + 2 ^ (dim_of c.args.self.now - 6 * l - 6)) c.loop-level.seat.me c.take_words.new.seat.me) at c.take_words.ensures.steps in
    let full : c.in-Err.more ≡ Full → (w : ℕ) → w < 2 ^ (dim_of c.args.self.now - 6 * c.loop-level.level - 6) → IsFullWord (2 ^ min (dim_of c.args.self.now - 6 * c.loop-level.level) 6) (max c.args.k (6 * c.loop-level.level) % 6) (left_by c.take_words.new.seat.me.0.trail (first_word (dim_of c.args.self.now / 6 - c.loop-level.level) + w)) =
    subst (λ d. c.in-Err.more ≡ Full → (w : ℕ) → w < 2 ^ (dim_of c.args.self.now - 6 * c.loop-level.level - 6) → IsFullWord (2 ^ min (dim_of c.args.self.now - 6 * c.loop-level.level) 6) (d % 6) (left_by c.take_words.new.seat.me.0.trail (first_word (dim_of c.args.self.now / 6 - c.loop-level.level) + w))) same
    (subst (λ l. c.in-Err.more ≡ Full → (w : ℕ) → w < 2 ^ (dim_of c.args.self.now - 6 * l - 6) → IsFullWord (2 ^ min (dim_of c.args.self.now - 6 * l) 6) (c.max.result % 6) (left_by c.take_words.new.seat.me.0.trail (first_word (dim_of c.args.self.now / 6 - l) + w))) at c.in-Err.ensures.full) in
    record {
      stays = stays_then c.loop-level.invariant.stays c.take_words.ensures.stays;
      blank = c.in-Err.ensures.blank;
      from = omega (arith, c.loop-level.invariant.from);
      seen = level_next (dim_of c.args.self.now) c.args.k (c.args.k / 6) c.loop-level.level c.loop-level.why c.in-Err.more c.and-why.result c.loop-level.seat.me c.take_words.new.seat.me c.take_words.ensures.steps.keeps c.and-why.ensures.full c.loop-level.invariant.seen
          (subst (λ d. c.in-Err.more ≡ Full → WasEachTaken (dim_of c.args.self.now) d c.take_words.new.seat.me.0.trail) same c.in-Err.ensures.refused);
      full = left_level_next (dim_of c.args.self.now) c.args.k (c.args.k / 6) c.loop-level.level c.loop-level.why c.in-Err.more c.and-why.result c.loop-level.seat.me c.take_words.new.seat.me (omega (arith, test)) from steps c.and-why.ensures.full c.loop-level.invariant.full full;
      disturbed = disturbed_next c.loop-level.why c.in-Err.more c.and-why.result c.loop-level.seat.me c.take_words.new.seat.me steps.past c.and-why.ensures.disturbed c.loop-level.invariant.disturbed c.in-Err.ensures.disturbed;
      kept = steps_then 0 (first_word (dim_of c.args.self.now / 6 + 1 - c.args.k / 6)) c.args.seat.now.me c.loop-level.seat.me c.take_words.new.seat.me c.loop-level.invariant.kept
          (level_steps (dim_of c.args.self.now) (c.args.k / 6) c.loop-level.level c.loop-level.seat.me c.take_words.new.seat.me (omega (arith, test)) from steps);
      grows = scan_next (dim_of c.args.self.now) (c.loop-level.level - c.args.k / 6) (c.loop-level.level + 1 - c.args.k / 6) _ c.args.seat.now.me c.loop-level.seat.me c.take_words.new.seat.me (omega (arith, c.loop-level.invariant.from)) c.loop-level.invariant.grows c.take_words.ensures.grows;
    }

pub returns-then-level-k-clause-grows : goal.returns-then-level-k-clause-grows
returns-then-level-k-clause-grows c =
    let small = c.args.self.now.dim_in_limits in
    let test = c.loop-level-test.true in
    scan_all (dim_of c.args.self.now) (c.loop-level.level - c.args.k / 6 + 1) 0 c.args.seat.now.me c.take_words.new.seat.me c.take_words.new.seat.me (omega (arith, small, test)) (omega arith)
    (scan_next (dim_of c.args.self.now) (c.loop-level.level - c.args.k / 6) (c.loop-level.level - c.args.k / 6 + 1) _ c.args.seat.now.me c.loop-level.seat.me c.take_words.new.seat.me refl c.loop-level.invariant.grows c.take_words.ensures.grows)
    (grows_none c.take_words.new.seat.me)

pub returns-in-Ok-clause-grows : goal.returns-in-Ok-clause-grows
returns-in-Ok-clause-grows c =
    let small = c.args.self.now.dim_in_limits in
    let test = c.loop-level-test.true in
    let fits = c.in-Ok.ensures.taken.block.fits in
    scan_all (dim_of c.args.self.now) (c.loop-level.level - c.args.k / 6 + 1) (c.in-Ok.unit.dim / 6 - c.args.k / 6) c.args.seat.now.me c.take_words.new.seat.me c.descend_first.new.seat.me (omega (arith, small, test)) (omega (arith, small, fits))
    (scan_next (dim_of c.args.self.now) (c.loop-level.level - c.args.k / 6) (c.loop-level.level - c.args.k / 6 + 1) _ c.args.seat.now.me c.loop-level.seat.me c.take_words.new.seat.me refl c.loop-level.invariant.grows c.take_words.ensures.grows)
    c.descend_first.ensures.grows

pub returns-clause-grows : goal.returns-clause-grows
returns-clause-grows c =
    let small = c.args.self.now.dim_in_limits in
    let end = c.loop-level.auto.level-end in
    let fits = c.requires.fits in
    scan_all (dim_of c.args.self.now) (c.loop-level.level - c.args.k / 6) 0 c.args.seat.now.me c.loop-level.seat.me c.loop-level.seat.me (omega (arith, small, end, fits)) (omega arith) c.loop-level.invariant.grows (grows_none c.loop-level.seat.me)
