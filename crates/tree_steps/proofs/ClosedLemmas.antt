-- Once all stations have retired, no act changes the state.
use Rattle.std.proofs.Common.{◌≡◌, ℕ, ◌<◌, Bool, true, false, cond, ltb, List, [], ◌∷◌, ◌++◌, length, Some, refl, ◌∙◌, ap}
use Rattle.status_word.specs.Word.{IsSet}
use Rattle.cube_core.specs.declared.phase.Phase.TheVariants.{Retired}
use Rattle.cube_core.specs.declared.act.Act.{Act}
use Rattle.cube_core.specs.declared.act.Act.TheVariants.{Take, Release, Step, Retire}
use Rattle.cube_core.specs.declared.act.Refused.{Refused}
use Rattle.cube_core.specs.declared.act.Refused.TheVariants.{NotIdle, NotHolding, NoStation, Resting}
use Rattle.cube_core.specs.Schedule.{State, phase_of, word_of, apply, phase_refusal, unless_refused, station_of}
use Rattle.cube_core.proofs.RunningLemmas.{roll_whole}
use Rattle.tree_steps.specs.declared.view.Size.{Size}
use Rattle.tree_steps.specs.Rule.{world_after}

-- each act of a station that has retired is refused
refusal_of : (n : ℕ) (act : Act) → (why : Refused) × (phase_refusal n act Retired ≡ Some why)
refusal_of n (Take s v) = (NotIdle, refl)
refusal_of n (Release s) = (NotHolding, refl)
refusal_of n (Step s) = (Resting, refl)
refusal_of n (Retire s) = (NotIdle, refl)

-- and so changes nothing
changes_nothing : (act : Act) (w : State) → phase_of w (station_of act) ≡ Retired → apply act w ≡ w
changes_nothing act w gone = by_test (ltb (station_of act) (length w.records))
  where
    reason : (why : Refused) × (phase_refusal w.dim act (phase_of w (station_of act)) ≡ Some why)
    reason = let found = refusal_of w.dim act in (found.0, ap (phase_refusal w.dim act) gone ∙ found.1)

    by_test : (t : Bool)
        → unless_refused (cond t (phase_refusal w.dim act (phase_of w (station_of act)))
        (Some NoStation)) act w ≡ w
    by_test true = ap (λ r. unless_refused r act w) reason.1
    by_test false = refl

-- once the roll has had the bit of each station, the state is what it was then
pub closed_world : (k : Size) (later earlier : List Act)
    → ((s : ℕ) → s < k.stations → IsSet (word_of (world_after k earlier) 0) s)
    → world_after k (later ++ earlier) ≡ world_after k earlier
closed_world k [] earlier whole = refl
closed_world k (act ∷ later) earlier whole =
    ap (apply act) (closed_world k later earlier whole) ∙ changes_nothing act (world_after k earlier) (roll_whole k.dim k.stations earlier whole (station_of act))
