-- A place is emptied.
use Rattle.std.proofs.Common.{◌≡◌, ℕ, ◌<◌, ◌≤◌, Option, Some, None, List, length, get_or, sym, ◌∙◌, inl, inr, ◌⊎◌, arith, rules, ne_of_lt}
use Rattle.std.proofs.lemmas.Bool.{cases_lt}
use Rattle.std.proofs.lemmas.List.{get_or-set_other}
use Rattle.std.proofs.lemmas.Grind.{get_or-set_at}
use Rattle.std.proofs.Math.ListN.{set}
use Rattle.lanes.specs.Lanes.{LanesId}
use Rattle.cubejobs_lanes.specs.declared.kept.KeptWorker.{KeptWorker}
use Rattle.cubejobs_lanes.specs.Kept.{AreWorkers, IsWorkerAt}

none_some : (kept : KeptWorker) → None ≡ Some kept → ⊥
none_some kept is = search rules

none_if : (id : LanesId) (places : List (Option KeptWorker)) (place i : ℕ) (kept : KeptWorker) → place < length places → AreWorkers id places
    → get_or (set places place None) i None ≡ Some kept → (i < place) ⊎ (place ≤ i) → (place < i) ⊎ (i ≤ place) → IsWorkerAt id i kept
none_if id places place i kept inside are is (inl before) after =
    are i kept (sym (get_or-set_other places place i None None (λ same. ne_of_lt before same)) ∙ is)
none_if id places place i kept inside are is (inr at) (inl after) =
    are i kept (sym (get_or-set_other places place i None None (λ same. ne_of_lt after (sym same))) ∙ is)
none_if id places place i kept inside are is (inr at) (inr not_after) =
    absurd (none_some kept (sym (get_or-set_at places place i None None (omega (arith, at, not_after)) inside) ∙ is))

pub empty_worker : (id : LanesId) (places : List (Option KeptWorker)) (place : ℕ) → place < length places → AreWorkers id places
    → AreWorkers id (set places place None)
empty_worker id places place inside are i kept is = none_if id places place i kept inside are is (cases_lt i place) (cases_lt place i)
