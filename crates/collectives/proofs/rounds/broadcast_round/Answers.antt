use Rattle.std.proofs.Common.{arith, ap, sym, ◌∙◌, ◌≡◌, ◌≢◌, inl, inr, ◌+◌}
use Rattle.std.specs.Prelude.{slice_get, bit_xor}
use Rattle.std.proofs.lemmas.Bool.{cases_lt}
use Rattle.collectives.proofs.XorLemmas.{xor_once}
use Rattle.collectives.proofs.rounds.broadcast_round.Goals as goal

pub send-requires-clause-from : goal.send-requires-clause-from
send-requires-clause-from g c =
    let inside = c.requires.places c.loop-v.v (omega arith) in
    omega arith

pub send-requires-clause-to : goal.send-requires-clause-to
send-requires-clause-to g c =
    let inside = c.requires.places (c.loop-v.v + c.args.half) (omega arith) in
    omega arith

pub loop-v-preserved : goal.loop-v-preserved
loop-v-preserved g c = record {
  kept = λ w within.
      (let apart : bit_xor w c.args.root ≢ bit_xor (c.loop-v.v + c.args.half) c.args.root =
      λ same. (let one = xor_once w (c.loop-v.v + c.args.half) c.args.root same in omega arith) in
      c.send.ensures.others (bit_xor w c.args.root) apart ∙ c.loop-v.invariant.kept w within);
  sent = λ w within. elim (cases_lt w c.loop-v.v) [
    | inl before ↦ (
        let apart : bit_xor (w + c.args.half) c.args.root ≢ bit_xor (c.loop-v.v + c.args.half) c.args.root =
        λ same. (let one = xor_once (w + c.args.half) (c.loop-v.v + c.args.half) c.args.root same in omega arith) in
        c.send.ensures.others (bit_xor (w + c.args.half) c.args.root) apart ∙ c.loop-v.invariant.sent w before)
    | inr not_before ↦ (
        let now : w ≡ c.loop-v.v = omega arith in
        ap (λ x. slice_get c.send.new.items (bit_xor (x + c.args.half) c.args.root)) now
        ∙ c.send.ensures.received
        ∙ c.loop-v.invariant.kept c.loop-v.v c.loop-v-test.true
        ∙ ap (λ x. slice_get c.args.items.now (bit_xor x c.args.root)) (sym now))
  ];
}

pub returns : goal.returns
returns g c = λ v within. (c.loop-v.invariant.kept v within, c.loop-v.invariant.sent v (omega arith))
