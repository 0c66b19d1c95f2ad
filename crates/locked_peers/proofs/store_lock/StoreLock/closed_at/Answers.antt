use Rattle.std.proofs.Common.{sym, ap, ◌∙◌, ℕ, ◌∷◌, List}
use Rattle.atomic_table.specs.Table.{rest}
use Rattle.locked_peers.specs.declared.store.Store.{Store}
use Rattle.locked_peers.proofs.store_lock.StoreLock.closed_at.Goals as goal

pub slot_mut-requires : goal.slot_mut-requires
slot_mut-requires c = let t = c.requires.held in (c.requires.table, (t.0, t.1 ∙ ap (λ (l : List (ℕ × Store)). (0, t.0) ∷ rest l) (sym t.1)))
