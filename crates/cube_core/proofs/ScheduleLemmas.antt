-- What the invariant says after every schedule, in the words of the law.
use Rattle.std.proofs.Common.{◌≡◌, ℕ, ◌+◌, ◌^◌, ◌<◌, inl, inr, List, sym, ◌∙◌, subst, arith}
use Rattle.std.proofs.lemmas.Bool.{cases_eq}
use Rattle.status_word.specs.Word.{IsSet, IsOccupied, IsMarked}
use Rattle.cube_core.specs.declared.act.Act.{Act}
use Rattle.cube_core.specs.Phase.{Owns}
use Rattle.cube_core.specs.Schedule.{State, phase_of, word_of, initial, apply_all}
use Rattle.cube_core.specs.Safety.{IsSafe}
use Rattle.cube_core.specs.Debts.{HasDebts}
use Rattle.cube_core.specs.Law.{IsTreeLawful}
use Rattle.cube_core.proofs.ConsequenceLemmas.{in_use_engaged, at_rest_exact, retired_zero}
use Rattle.cube_core.proofs.HeldLemmas.{held_named, held_lawful}
pub use Rattle.cube_core.proofs.StandsLemmas.{Stands, accepted, apply-accepted, apply_all_stands, apply_begin_phase, below_inner, initial_stands, node_there, others_record}
pub use Rattle.cube_core.proofs.CountLemmas.{Stands-counted, take_due, release_is_due}
use Rattle.cube_core.proofs.CountLemmas.{take_named}
use Rattle.cube_core.proofs.CauseLemmas.{no_word, caused}
use Rattle.cube_core.proofs.StandsLemmas.{apply_leads}

-- what the invariant says in the words of the law
pub Stands-safe : (w : State) → Stands w → IsSafe w
Stands-safe w k = record {
  sides = k.holds.agrees.sides;
  occupied = λ v positive. (
    λ is. let found = k.holds.agrees.owner v positive is in (found.0, (positive, found.1)),
    λ (s, (_, owns)). subst (λ a. IsOccupied (word_of w a)) owns (k.holds.agrees.busy s (subst (λ a. 0 < a) (sym owns) positive)),
  );
  one_owner = one_owner;
  not_passed = λ s t c owns passed. k.holds.agrees.apart s t c owns.1 passed;
  only_grown = λ s v at marked i set. subst (λ a. IsSet (word_of w a) i) at.1 (k.holds.stamped.grown s (subst (λ a. 0 < a) (sym at.1) at.0) (subst (λ a. IsMarked s (word_of w a)) (sym at.1) marked) i set);
  seen_free = k.holds.shut.shut;
}
  where
    one_owner : (s t v : ℕ) → Owns (phase_of w s) v → Owns (phase_of w t) v → s ≡ t
    one_owner s t v by_s by_t = elim (cases_eq s t) [
      | inl same ↦ same
      | inr other ↦
          let none : v ≡ 0 = sym by_s.1 ∙ k.holds.agrees.alone s t other (by_s.1 ∙ sym by_t.1) in
          absurd (omega (arith, none, by_s.0))
    ]

pub Stands-debts : (w : State) → Stands w → HasDebts w
Stands-debts w k = record {
  in_use = k.holds.owing.owed;
  marked = λ v positive free some. let found = k.holds.witnessed.witness v positive free some in (found.0, (positive, found.1.0), found.1.1);
  unlike = λ s t v other at_s at_t. k.holds.stamped.unlike s t other (subst (λ a. 0 < a) (sym at_s.1) at_s.0) (at_s.1 ∙ sym at_t.1);
}

pub Stands-lawful : (w : State) → Stands w → IsTreeLawful w
Stands-lawful w k = record {
  safe = Stands-safe w k;
  debts = Stands-debts w k;
  named = held_named k.holds.agrees;
  apart = held_lawful k.holds.agrees;
  steps = λ act. (apply_leads act w k).step;
  taken = λ s v later none steps. take_named w s v later k none steps;
  engaged = in_use_engaged k.holds (2 ^ (w.dim + 1)) (no_word w k);
  caused = caused w k;
  at_rest = at_rest_exact k.holds (2 ^ (w.dim + 1)) (no_word w k);
  retired = retired_zero k.holds (2 ^ (w.dim + 1)) (no_word w k);
  roll = k.holds.rolled.roll;
  counted = Stands-counted w k;
}

pub every_schedule : (n stations : ℕ) (acts : List Act)
    → IsTreeLawful (apply_all acts (initial n stations))
every_schedule n stations acts =
    Stands-lawful (apply_all acts (initial n stations)) (apply_all_stands acts (initial n stations) (initial_stands n stations))
