-- What an owner's call says by its code.
use Rattle.std.proofs.Common.{◌≡◌, ◌⊎◌, inl, inr, ℕ, ◌<◌, ◌≤◌, Option, Some, None, IsSome, List, length, get_or, refl, sym, subst, ap, ◌∙◌, arith, rules}
use Rattle.std.proofs.lemmas.Bool.{cases_lt}
use Rattle.std.proofs.lemmas.List.{get_or_past}
use Rattle.cubejobs_lanes.specs.declared.answers.FinishAnswer.{FinishAnswer}
use Rattle.cubejobs_lanes.specs.declared.codes.TheConstants.{DONE, STILL_SHARED}
use Rattle.cubejobs_lanes.specs.Deals.{IsPlaceCode}

none_is : {T : Type 0} (x : T) → None ≡ Some x → ⊥
none_is x is = search rules

full_if : {T : Type 0} (places : List (Option T)) (place : ℕ) (kept : T) → get_or places place None ≡ Some kept
    → (place < length places) ⊎ (length places ≤ place) → IsPlaceCode DONE places
full_if {T} places place kept is (inl below) = inr ((place, below, subst (λ (p : Option T). IsSome p) (sym is) refl), inl refl)
full_if places place kept is (inr past) = absurd (none_is kept (sym (get_or_past places place None past) ∙ is))

-- a content that was dealt out shows that a place was full
pub full_of : {T : Type 0} (places : List (Option T)) (place : ℕ) (kept : T) → get_or places place None ≡ Some kept → IsPlaceCode DONE places
full_of places place kept is = full_if places place kept is (cases_lt place (length places))

pub shared_not_done : (answer : FinishAnswer) → answer ≡ record { code = STILL_SHARED; number = 0 } → answer.code ≡ DONE → ⊥
shared_not_done answer is done = let e = ap (λ (a : FinishAnswer). a.code) is in omega (arith, e, done)
