-- No station steps with two seats, and so with none twice.
use Rattle.std.proofs.Common.{◌≡◌, ℕ, refl, arith}
use mathlib.Core.Option.{some}
use lib.ListN.{get_elem?}
use Rattle.atomic_table.specs.Table.{State as Table, Allows}
use Rattle.tree_steps.specs.declared.view.View.{View}
use Rattle.tree_steps.specs.declared.view.Size.{Size}
use Rattle.tree_steps.specs.Rule.{IsView, IsRuled}
use Rattle.tree_steps.specs.Steps.{Known}
use Rattle.tree_steps.specs.Once.{AreOnce}
use Rattle.tree_steps.proofs.RuleLemmas.{times_at}
use Rattle.tree_steps.proofs.SeatLemmas.{loads_word}

pub recounts : (k : Size) (slots id : ℕ) (m : Known)
    → Allows (IsRuled k) slots id m 0 (λ w. w) (λ found after. (after ≡ m) × AreOnce m.0.stations)
recounts k slots id m = loads_word k slots id m.0 m.1 0 (λ _. m.0) (λ found after. (after ≡ m) × AreOnce m.0.stations) (λ found s. refl) known
  where
    known : (t : Table (Unit {0}) View) (ruled : IsRuled k t)
        → get_elem? t.views id ≡ some m.0
        → IsView k ruled.acts m.0
        → IsView k ruled.acts m.0 × ((m ≡ m) × AreOnce m.0.stations)
    known t ruled me had = (had, (refl, λ s. let here = times_at s id t.views m.0 me in let most = ruled.once s in omega arith))
