-- What came back to one place after another.
use Rattle.std.proofs.Common.{◌≡◌, ◌≢◌, ℕ, ◌<◌, ◌≤◌, ◌⊎◌, inl, inr, Option, Some, None, IsSome, true≢false, List, [], ◌∷◌, length, get_or, sym, subst, refl, ◌∙◌, arith, rules}
use Rattle.std.proofs.Math.ListN.{set}
use Rattle.std.proofs.lemmas.Bool.{cases_lt}
use Rattle.std.proofs.lemmas.List.{get_or-set_other, length-set}
use Rattle.std.proofs.lemmas.Grind.{get_or-set_at}
use Rattle.lanes.specs.Lanes.{LanesId}
use Rattle.cubejobs_lanes.specs.declared.kept.KeptLane.{KeptLane}
use Rattle.cubejobs_lanes.specs.declared.kept.KeptWorker.{KeptWorker}
use Rattle.cubejobs_lanes.specs.declared.name.PlaceName.{PlaceName}
use Rattle.cubejobs_lanes.specs.Kept.{AreLanes, AreWorkers, IsLaneAt, IsWorkerAt}
use Rattle.cubejobs_lanes.specs.KeptReturns.{AreNamed, ComesBackAt, HaveComeBack, StayFull}

ne_of_lt : {a b : ℕ} → a < b → a ≡ b → ⊥
ne_of_lt below same = omega (arith, below, same)

none_is : {T : Type 0} → (place : Option T) → place ≡ None → IsSome place → ⊥
none_is None is some = true≢false (sym some)
none_is (Some x) is some = search rules

same_some : {T : Type 0} (a b : T) → Some a ≡ Some b → a ≡ b
same_some a b is = search rules

stays_at : {T : Type 0} (old mid : List (Option T)) (place i : ℕ) (content : T) → StayFull old mid → get_or mid place None ≡ None
    → IsSome (get_or old i None) → (i < place) ⊎ (place ≤ i) → (place < i) ⊎ (i ≤ place)
    → get_or (set mid place (Some content)) i None ≡ get_or old i None
stays_at old mid place i content full empty some (inl before) after =
    get_or-set_other mid place i (Some content) None (λ same. ne_of_lt before same) ∙ full i some
stays_at old mid place i content full empty some (inr at) (inl after) =
    get_or-set_other mid place i (Some content) None (λ same. ne_of_lt after (sym same)) ∙ full i some
stays_at {T} old mid place i content full empty some (inr at) (inr not_after) =
    let here : i ≡ place = omega (arith, at, not_after) in
    absurd (none_is (get_or mid i None) (subst (λ k. get_or mid k None ≡ None) (sym here) empty) (subst (λ (p : Option T). IsSome p) (sym (full i some)) some))

abbrev Right : {N T : Type 0} → (N → T → Type 0) → List N → List (Option T) → ℕ → T → Type 0
Right {N} fits names old i x = (get_or old i None ≡ Some x) ⊎ ((i < length names) × ((d : N) → fits (get_or names i d) x))

right_at : {N T : Type 0} (fits : N → T → Type 0) (names : List N) (old mid : List (Option T)) (place i : ℕ) (content x : T)
    → place < length mid → place < length names → ((d : N) → fits (get_or names place d) content)
    → (get_or mid i None ≡ Some x → Right fits names old i x) → get_or (set mid place (Some content)) i None ≡ Some x
    → (i < place) ⊎ (place ≤ i) → (place < i) ⊎ (i ≤ place) → Right fits names old i x
right_at fits names old mid place i content x inside named right before_at is (inl before) after =
    before_at (sym (get_or-set_other mid place i (Some content) None (λ same. ne_of_lt before same)) ∙ is)
right_at fits names old mid place i content x inside named right before_at is (inr at) (inl after) =
    before_at (sym (get_or-set_other mid place i (Some content) None (λ same. ne_of_lt after (sym same))) ∙ is)
right_at {N} {T} fits names old mid place i content x inside named right before_at is (inr at) (inr not_after) =
    let here : i ≡ place = omega (arith, at, not_after) in
    let same : content ≡ x = same_some content x (sym (get_or-set_at mid place i (Some content) None here inside) ∙ is) in
    inr (omega (arith, here, named), λ d. subst (λ k. fits (get_or names k d) x) (sym here) (subst (λ (y : T). fits (get_or names place d) y) same (right d)))

-- one more content has come back, or none
pub come_more : {N T : Type 0} (fits : N → T → Type 0) (names : List N) (place : ℕ) (old mid new : List (Option T))
    → place < length mid → place < length names → HaveComeBack fits names old mid → ComesBackAt fits names place mid new
    → HaveComeBack fits names old new
come_more fits names place old mid new inside named have (inl same) = subst (HaveComeBack fits names old) (sym same) have
come_more fits names place old mid new inside named have (inr back) =
    let content = back.0 in
    subst (HaveComeBack fits names old) (sym back.3)
    (record {
      count = length-set mid place (Some content) ∙ have.count;
      full = λ i some. stays_at old mid place i content have.full back.1 some (cases_lt i place) (cases_lt place i);
      right = λ i x is. right_at fits names old mid place i content x inside named back.2 (have.right i x) is (cases_lt i place) (cases_lt place i);
    })

-- a place of a list that has one
pub first_of : {N : Type 0} (names : List N) → 0 < length names → N
first_of [] some = absurd (omega (arith, some))
first_of (name ∷ names) some = name

lane_is : (id : LanesId) (n i : ℕ) (names : List PlaceName) (old : List (Option KeptLane)) (kept : KeptLane) → length names ≡ n → AreNamed id n names
    → AreLanes id old → Right (λ name x. IsLaneAt name.lanes.value name.number x) names old i kept → IsLaneAt id i kept
lane_is id n i names old kept count named are (inl was) = are i kept was
lane_is id n i names old kept count named are (inr new) =
    let d = first_of names (omega (arith, new.0)) in let name = named i d (omega (arith, new.0, count)) in let fits = new.1 d in
    (fits.0 ∙ name.0, fits.1 ∙ name.1)

-- each place is still empty or has its lane
pub lanes_back : (id : LanesId) (n : ℕ) (names : List PlaceName) (old new : List (Option KeptLane)) → length names ≡ n → AreNamed id n names
    → AreLanes id old → HaveComeBack (λ name kept. IsLaneAt name.lanes.value name.number kept) names old new → AreLanes id new
lanes_back id n names old new count named are have i kept is = lane_is id n i names old kept count named are (have.right i kept is)

worker_is : (id : LanesId) (n i : ℕ) (names : List PlaceName) (old : List (Option KeptWorker)) (kept : KeptWorker) → length names ≡ n → AreNamed id n names
    → AreWorkers id old → Right (λ name x. IsWorkerAt name.lanes.value name.number x) names old i kept → IsWorkerAt id i kept
worker_is id n i names old kept count named are (inl was) = are i kept was
worker_is id n i names old kept count named are (inr new) =
    let d = first_of names (omega (arith, new.0)) in let name = named i d (omega (arith, new.0, count)) in let fits = new.1 d in
    (fits.0 ∙ name.0, fits.1 ∙ name.1)

-- each place is still empty or has its worker
pub workers_back : (id : LanesId) (n : ℕ) (names : List PlaceName) (old new : List (Option KeptWorker)) → length names ≡ n → AreNamed id n names
    → AreWorkers id old → HaveComeBack (λ name kept. IsWorkerAt name.lanes.value name.number kept) names old new → AreWorkers id new
workers_back id n names old new count named are have i kept is = worker_is id n i names old kept count named are (have.right i kept is)

-- nothing has come back yet
pub none_yet : {N T : Type 0} (fits : N → T → Type 0) (names : List N) (old : List (Option T)) → HaveComeBack fits names old old
none_yet fits names old = record { count = refl; full = λ i some. refl; right = λ i x is. inl is }
