use Rattle.std.proofs.Common.{◌≡◌, ℕ, ◌-◌, [], ◌∷◌, ◌++◌, map, get_or, sym, refl, ap, ◌∙◌, arith}
use Rattle.std.specs.Mem.Slots.{slots_items}
use Rattle.ghost_history.specs.Lists.{numbered_from}
use Rattle.lanes.specs.declared.record.LaneJob.{LaneJob}
use Rattle.lanes.specs.Inner.Rest.{left_job, first_left, end_left}
use Rattle.lanes.specs.Inner.Rule.{reads}
use Rattle.lanes.specs.declared.sizes.TheConstants.{TAIL}
use Rattle.lanes.proofs.RestLemmas.{read_word, adds_job, no_job_yet, jobs_count}
use Rattle.lanes.proofs.ending.drain_lane.Goals as goal

pub overflow_sub-accepted : goal.overflow_sub-accepted
overflow_sub-accepted c =
    let ws = slots_items c.args.closed.now.words in
    let count_is : reads c.args.plan ws c.args.lane TAIL ≡ c.word-accepted.result = ap (λ i. get_or ws i 0) (sym c.word_of-2.ensures.word) ∙ read_word ws c.word_of-2.result c.word-accepted.result c.word-accepted.ensures in
    omega (arith, count_is, (c.requires.range c.args.lane c.requires.lane).0)

pub loop-seq-init : goal.loop-seq-init
loop-seq-init c =
    let ws = slots_items c.args.closed.now.words in
    let range = c.requires.range c.args.lane c.requires.lane in
    let taken_is : first_left c.args.plan ws c.args.lane ≡ c.word-taken.result = ap (λ i. get_or ws i 0) (sym c.word_of.ensures.word) ∙ read_word ws c.word_of.result c.word-taken.result c.word-taken.ensures in
    let count_is : reads c.args.plan ws c.args.lane TAIL ≡ c.word-accepted.result = ap (λ i. get_or ws i 0) (sym c.word_of-2.ensures.word) ∙ read_word ws c.word_of-2.result c.word-accepted.result c.word-accepted.ensures in
    (omega arith, omega (arith, taken_is, count_is, range.1), refl, no_job_yet (left_job c.args.plan ws c.args.lane) c.args.lane c.word-taken.result c.args.rest.now.items)

pub push_back_reserved-requires : goal.push_back_reserved-requires
push_back_reserved-requires c =
    let ws = slots_items c.args.closed.now.words in
    let inv = c.loop-seq.invariant in
    let range = c.requires.range c.args.lane c.requires.lane in
    let taken_is : first_left c.args.plan ws c.args.lane ≡ c.word-taken.result = ap (λ i. get_or ws i 0) (sym c.word_of.ensures.word) ∙ read_word ws c.word_of.result c.word-taken.result c.word-taken.ensures in
    let count_is : reads c.args.plan ws c.args.lane TAIL ≡ c.word-accepted.result = ap (λ i. get_or ws i 0) (sym c.word_of-2.ensures.word) ∙ read_word ws c.word_of-2.result c.word-accepted.result c.word-accepted.ensures in
    omega (arith, jobs_count (left_job c.args.plan ws c.args.lane) c.args.lane c.word-taken.result c.loop-seq.seq c.args.rest.now.items c.loop-seq.rest.items inv.3, inv.0, inv.2, taken_is, count_is, range.2, c.requires.room, c.loop-seq-test.true, c.loop-seq.rest.ok)

pub loop-seq-preserved : goal.loop-seq-preserved
loop-seq-preserved c =
    let ws = slots_items c.args.closed.now.words in
    let inv = c.loop-seq.invariant in (
      omega (arith, inv.0),
      omega (arith, c.loop-seq-test.true),
      c.push_back_reserved.ensures.capacity ∙ inv.2,
      adds_job (left_job c.args.plan ws c.args.lane) c.args.lane c.word-taken.result c.loop-seq.seq c.args.rest.now.items c.loop-seq.rest.items c.push_back_reserved.new.self.items inv.0 inv.3
          (c.push_back_reserved.ensures.items ∙ ap (λ (j : LaneJob). c.loop-seq.rest.items ++ (c.args.lane, j) ∷ []) c.job_at-job.ensures),
    )

pub returns-clause-items : goal.returns-clause-items
returns-clause-items c =
    let ws = slots_items c.args.closed.now.words in
    let inv = c.loop-seq.invariant in
    let plan = c.args.plan in
    let lane = c.args.lane in
    let old = c.args.rest.now.items in
    let taken = c.word-taken.result in
    let taken_is : first_left plan ws lane ≡ taken = ap (λ i. get_or ws i 0) (sym c.word_of.ensures.word) ∙ read_word ws c.word_of.result taken c.word-taken.ensures in
    let count_is : reads plan ws lane TAIL ≡ c.word-accepted.result = ap (λ i. get_or ws i 0) (sym c.word_of-2.ensures.word) ∙ read_word ws c.word_of-2.result c.word-accepted.result c.word-accepted.ensures in
    let f = left_job plan ws lane in
    let all : c.loop-seq.seq - taken ≡ end_left plan ws lane - taken = omega (arith, inv.1, c.loop-seq-test.false, count_is) in
    inv.3 ∙ (ap (λ (n : ℕ). old ++ map (λ (j : LaneJob). (lane, j)) (numbered_from f taken n)) all ∙ ap (λ (t : ℕ). old ++ map (λ (j : LaneJob). (lane, j)) (numbered_from f t (end_left plan ws lane - t))) (sym taken_is))
