use Rattle.std.proofs.Common.{sym, ap, subst, ◌∙◌, ◌≡◌, ℕ, ◌∷◌, List, get_or}
use Rattle.atomic_table.specs.Table.{rest}
use Rattle.alloc_bits.specs.Allocation.{Allocation}
use Rattle.locked_peers.specs.InnerFloor.View.{Allots}
use Rattle.locked_peers.proofs.floor_lock.BitsLock.allot.Goals as goal

pub slot_mut-requires : goal.slot_mut-requires
slot_mut-requires c = let t = c.requires.held in (c.requires.table, (t.0, t.1 ∙ ap (λ (l : List (ℕ × Allocation)). (0, t.0) ∷ rest l) (sym t.1)))

pub returns-clause-allotted : goal.returns-clause-allotted
returns-clause-allotted c = λ x is.
    let me = c.args.seat.now.me in let y = c.allot.new.bits in
    let same : c.slot_mut.result.now ≡ x = ap (λ (l : List (ℕ × Allocation)). (get_or l 0 (0, x)).1) (sym c.slot_mut.ensures.value ∙ is) in
    (y, ap (λ (l : List (ℕ × Allocation)). (me.0, (0, y) ∷ rest l)) is, subst (λ (s : Allocation). Allots s c.args.station c.args.k c.allot.result y) same c.allot.ensures)
