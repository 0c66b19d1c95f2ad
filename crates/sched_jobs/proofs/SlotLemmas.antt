-- Places that are present, and a slot after a write.
use Rattle.std.proofs.Common.{◌≡◌, ◌≢◌, ℕ, ◌<◌, ◌⊎◌, inl, inr, Bool, true, false, not, IsTrue, true≢false, List, ◌++◌, Some, length, take, drop, refl, sym, ◌∙◌, ap, subst}
use Rattle.std.proofs.Math.Seq.{take-append_seam}
use Rattle.std.proofs.lemmas.Bool.{cases_lt}
use Rattle.std.proofs.lemmas.List.{get_or_past}
use Rattle.sched_law.specs.declared.job.Place.{Place}
use Rattle.sched_law.specs.declared.job.Place.TheVariants.{Absent, Waiting, Running}
use Rattle.sched_law.specs.declared.job.SchedWait.{SchedWait}
use Rattle.sched_law.proofs.SetLemmas.{none_is_some, same}
use Rattle.sched_jobs.specs.declared.slots.Slot.{Slot}
use Rattle.sched_jobs.specs.Slots.{IsPresent, generation_in, line_at, line_of, place_by, place_in, unused}
use Rattle.sched_jobs.specs.Inner.Put.{HasPut, slot_for}

-- a place is that of a job or not
pub absent_or_present : (p : Place) → (p ≡ Absent) ⊎ IsPresent p
absent_or_present Absent = inl refl
absent_or_present (Waiting wait) = inr tt
absent_or_present (Running run) = inr tt

-- no job is both
pub not_both : (p : Place) → p ≡ Absent → IsPresent p → ⊥
not_both p absent present = subst IsPresent absent present

-- a job in a line waits
pub in_line : (p : Place) (at : ℕ) → line_of p ≡ Some at → (wait : SchedWait) × (p ≡ Waiting wait) × (line_at wait.job.class wait.job.dim ≡ at)
in_line Absent at is = absurd (none_is_some is)
in_line (Waiting wait) at is = (wait, refl, same is)
in_line (Running run) at is = absurd (none_is_some is)

pub in_line_present : (p : Place) (at : ℕ) → line_of p ≡ Some at → IsPresent p
in_line_present p at is = (let found = in_line p at is in subst IsPresent (sym found.1) tt)

-- a job's slot is one of the table
pub inside_table : (slots : List Slot) (u : ℕ) → IsPresent (place_in slots u) → u < length slots
inside_table slots u present = elim (cases_lt u (length slots)) [
  | inl within ↦ within
  | inr past ↦ absurd (not_both (place_in slots u) (ap (λ (s : Slot). place_by s s.phase) (get_or_past slots u unused past)) present)
]

-- what a list has, a written vector has
pub written : {A : Type 0} (len : ℕ) (old now new : List A) (Right : List A → Type 0) → len ≡ length old → now ≡ old → length new ≡ length now → Right new
    → Right (take len (new ++ drop (length new) old))
written len old now new Right count is same right =
    subst Right (sym (ap (λ k. take k (new ++ drop (length new) old)) (count ∙ sym (same ∙ ap length is)) ∙ take-append_seam new (drop (length new) old))) right

-- a slot for a job at a place has it there
pub place_back : (generation : ℕ) (p : Place) → place_by (slot_for generation p) (slot_for generation p).phase ≡ p
place_back generation Absent = refl
place_back generation (Waiting wait) = refl
place_back generation (Running run) = refl

pub generation_back : (generation : ℕ) (p : Place) → (slot_for generation p).generation ≡ generation
generation_back generation Absent = refl
generation_back generation (Waiting wait) = refl
generation_back generation (Running run) = refl

module _ (old new : List Slot) (at generation : ℕ) (p : Place) (put : HasPut old new at generation p) where
  pub place_here : (u : ℕ) → u ≡ at → place_in new u ≡ p
  place_here u same = ap (place_in new) same ∙ ap (λ (s : Slot). place_by s s.phase) put.here ∙ place_back generation p

  pub generation_here : (u : ℕ) → u ≡ at → generation_in new u ≡ generation
  generation_here u same = ap (generation_in new) same ∙ ap (λ (s : Slot). s.generation) put.here ∙ generation_back generation p

  pub place_else : (u : ℕ) → u ≢ at → place_in new u ≡ place_in old u
  place_else u other = ap (λ (s : Slot). place_by s s.phase) (put.others u other)

  pub generation_else : (u : ℕ) → u ≢ at → generation_in new u ≡ generation_in old u
  generation_else u other = ap (λ (s : Slot). s.generation) (put.others u other)

-- what is not false
pub not_false : (b : Bool) → not b ≡ false → IsTrue b
not_false true is = refl
not_false false is = absurd (true≢false is)
