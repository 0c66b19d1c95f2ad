-- A call makes one turn: its seat found a desk, and left what the call made of it.
use Rattle.std.proofs.Common.{◌≡◌, ℕ, Some, None, [], ◌∷◌, sym, refl, ap, ◌∙◌, subst}
use Rattle.atomic_table.specs.Table.{rest}
use Rattle.sched_threads.specs.declared.clocked.ClockedDesk.{ClockedDesk}
use Rattle.sched_threads.specs.declared.view.Turn.{Turn}
use Rattle.sched_threads.specs.Rule.{IsTurn}
use Rattle.sched_threads.specs.Step.{IsOut, Sat}
use Rattle.sched_threads.specs.View.{turn, view}

-- The seat has the turn, and changed nothing so far.
abbrev Took : Sat → Type 0
Took m = (x : ClockedDesk) × IsOut m x x

-- The desk of the seat.
abbrev HasDesk : Sat → ClockedDesk → Type 0
HasDesk m z = m.1 ≡ (0, z) ∷ rest m.1

-- The same seat, with this desk.
abbrev written : Sat → ClockedDesk → Sat
written m y = (m.0, (0, y) ∷ rest m.1)

pub out_slot : (m : Sat) → Took m → (x : ClockedDesk) × HasDesk m x
out_slot m took = (took.0, subst (λ (n : Sat). HasDesk n took.0) (sym took.1) refl)

out_written : (m : Sat) (z y : ClockedDesk) → Took m → HasDesk m z → IsOut (written m y) z y
out_written m z y took found =
    let x = took.0 in
    let carried : (0, x) ∷ [] ≡ (0, z) ∷ rest m.1 = sym (ap (λ (n : Sat). n.1) took.1) ∙ found in
    let pairs : (0, x) ≡ (0, z) = cc in
    let same : x ≡ z = ap (λ (p : ℕ × ClockedDesk). p.1) pairs in
    let none : rest m.1 ≡ [] = ap (λ (n : Sat). rest n.1) took.1 in
    let seen : m.0 ≡ view [] (Some z) = ap (λ (n : Sat). n.0) took.1 ∙ ap (λ (d : ClockedDesk). view [] (Some d)) same in
    λ i. (seen i, (0, y) ∷ none i)

pub out_turn : (m : Sat) (z y : ClockedDesk)
    → Took m
    → HasDesk m z
    → IsTurn z y
    → (x : ClockedDesk) × (x' : ClockedDesk) × IsOut (written m y) x x' × IsTurn x x'
out_turn m z y took found is = (z, y, out_written m z y took found, is)

pub made_turn : (m n : Sat) (z y : ClockedDesk) (Does : ClockedDesk → ClockedDesk → Type 0)
    → Took m
    → HasDesk m z
    → ((x x' : ClockedDesk) → IsOut (written m y) x x' → (at : ℕ) × (n ≡ (view (turn at x x' ∷ []) None, [])))
    → Does z y
    → (t : Turn) × (n ≡ (view (t ∷ []) None, [])) × Does t.from t.to
made_turn m n z y Does took found noted does =
    let note = noted z y (out_written m z y took found) in
    (turn note.0 z y, note.1, does)
