use Rattle.std.proofs.Common.{◌≡◌, ◌+◌, length, sym, ap, subst, ◌∙◌, arith}
use Rattle.std.proofs.lemmas.List.{length_push}
use Rattle.cli_tools.specs.declared.rows.MessageRow.{MessageRow}
use Rattle.cli_tools.proofs.MessageLemmas.{AreNumbered, one_more, root_below}
use Rattle.cli_tools.proofs.listing.message_rows.Goals as goal

pub message_at-message-requires-clause-root : goal.message_at-message-requires-clause-root
message_at-message-requires-clause-root c = root_below c.args.shape c.args.k c.args.root c.requires.root

pub loop-number-preserved : goal.loop-number-preserved
loop-number-preserved c =
    let before = c.loop-number.rows.items in
    let row : MessageRow = record { message = c.message_at-message.result } in
    let is = c.message_at-message.ensures in
    let count : length c.push.new.self.items ≡ c.loop-number.number + 1 = ap length c.in_ok-push.ensures.items ∙ length_push before row ∙ ap (λ n. n + 1) c.loop-number.invariant.count in
    record {
      count = count;
      each = subst (AreNumbered c.args.shape c.args.k c.args.root) (sym c.in_ok-push.ensures.items)
          (one_more c.args.shape c.args.k c.args.root c.loop-number.number before row c.loop-number.invariant.count c.loop-number.invariant.each
          (record { is = is.message; has = is.number; alone = λ other one has. is.alone other.message one has }));
    }

pub returns : goal.returns
returns c = record {
  each = c.loop-number.invariant.each.each;
  all = λ row is.
      let counted = c.tally-number-end.ensures.counted c.args.root row.message (root_below c.args.shape c.args.k c.args.root c.requires.root) is in
      omega (arith, counted, c.loop-number.invariant.count, c.loop-number-test.false);
}
