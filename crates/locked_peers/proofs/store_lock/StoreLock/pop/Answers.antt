use Rattle.std.proofs.Common.{sym, ap, subst, ◌∙◌, ◌≡◌, ℕ, ◌∷◌, List, get_or}
use Rattle.atomic_table.specs.Table.{rest}
use Rattle.locked_peers.specs.declared.store.Store.{Store}
use Rattle.locked_peers.specs.InnerLine.View.{Pops}
use Rattle.locked_peers.proofs.store_lock.StoreLock.pop.Goals as goal

pub slot_mut-requires : goal.slot_mut-requires
slot_mut-requires c = let t = c.requires.held in (c.requires.table, (t.0, t.1 ∙ ap (λ (l : List (ℕ × Store)). (0, t.0) ∷ rest l) (sym t.1)))

pub returns-clause-popped : goal.returns-clause-popped
returns-clause-popped c = λ x is.
    let me = c.args.seat.now.me in let y = c.pop.new.self in
    let same : c.slot_mut.result.now ≡ x = ap (λ (l : List (ℕ × Store)). (get_or l 0 (0, x)).1) (sym c.slot_mut.ensures.value ∙ is) in
    (y, ap (λ (l : List (ℕ × Store)). (me.0, (0, y) ∷ rest l)) is, subst (λ (s : Store). Pops s c.pop.result y) same c.pop.ensures)
