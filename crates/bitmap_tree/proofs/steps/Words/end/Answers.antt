use Rattle.std.proofs.Common.{◌≡◌, subst, sym, ◌∙◌, arith}
use mathlib.Core.Option.{some}
use lib.ListN.{get_elem?}
use Rattle.bitmap_tree.specs.Seats.{SeatOf}
use Rattle.bitmap_tree.proofs.CloseLemmas.{copied_more, left_copy}
use Rattle.bitmap_tree.proofs.steps.Words.end.Goals as goal

pub loop-word-preserved : goal.loop-word-preserved
loop-word-preserved c = record {
  len = c.loop-word.invariant.len;
  copied = copied_more c.loop-word.row.items _ c.loop-word.word _ (omega (arith, c.loop-word.row.ok.0)) c.word.ensures c.loop-word.invariant.copied;
}

pub returns : goal.returns
returns c =
    let final = c.close_with-closed.ensures.values.2 in (
      final.0,
      (final.1.0.1, (c.seat.inside.seat.id, subst (λ (z : SeatOf). get_elem? final.0.views c.seat.inside.seat.id ≡ some z.me.0) c.seat.view_is final.1.1)),
      left_copy c.args.self.table.shared.key.dim c.loop-word.row.items _ final.0 final.1.0.0 final.2
          (sym c.loop-word.row.ok.0 ∙ c.loop-word.invariant.len ∙ c.requires.row)
          (λ k within. c.loop-word.invariant.copied k (omega (arith, within, c.loop-word-test.false, c.loop-word.row.ok.0, c.len-word-end.ensures, c.loop-word.invariant.len))),
    )
