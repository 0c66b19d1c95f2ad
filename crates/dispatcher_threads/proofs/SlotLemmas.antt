-- Lists that lose or gain their last element.
use Rattle.std.proofs.Common.{◌≡◌, ℕ, suc, ◌+◌, ◌<◌, ◌≤◌, ⊎_elim, ◌++◌, ◌∷◌, [], List, Some, map, length, take, get_or, length-append, sym, ap, subst, ◌∙◌, arith}
use Rattle.std.specs.List.{All}
use Rattle.std.proofs.Math.Seq.{take-append_seam, get_or-append_seam}
use Rattle.std.proofs.Math.ListN.{get_or-append}
use Rattle.std.proofs.lemmas.Bool.{cases_lt}
use Rattle.std.proofs.lemmas.List.{map-append, length-map}
use Rattle.std.proofs.lemmas.List.Elements.{All-pop, All-push, All-same}
use Rattle.job_types.specs.Job.{JobData}
use Rattle.job_queue.specs.declared.record.LaneRecord.{LaneRecord}
use Rattle.job_queue.specs.Record.{fresh_lane, fresh_lanes}

pub all_front : {A : Type 0} (P : A → Type 0) (xs ys : List A) (y : A)
    → xs ≡ ys ++ y ∷ []
    → All P xs
    → All P ys
all_front P xs ys y popped all = (All-pop P xs ys (Some y) popped all).0

pub all_last : {A : Type 0} (P : A → Type 0) (xs ys : List A) (y : A)
    → xs ≡ ys ++ y ∷ []
    → All P xs
    → P y
all_last P xs ys y popped all = (All-pop P xs ys (Some y) popped all).1

pub all_pushed : {A : Type 0} (P : A → Type 0) (xs ys : List A) (y : A)
    → ys ≡ xs ++ y ∷ []
    → All P xs
    → P y
    → All P ys
all_pushed P xs ys y pushed all own = All-same P ys (xs ++ y ∷ []) pushed (All-push P xs y all own)

pub longer : {A : Type 0} (xs ys : List A) (y : A) → ys ≡ xs ++ y ∷ [] → length ys ≡ length xs + 1
longer xs ys y pushed = ap length pushed ∙ length-append xs (y ∷ [])

last_parts : {A : Type 0} (xs ys : List A) (x y : A)
    → xs ++ x ∷ [] ≡ ys ++ y ∷ []
    → (xs ≡ ys) × (x ≡ y)
last_parts {A} xs ys x y same =
    let len : length xs ≡ length ys = omega (arith, ap length same, length-append xs (x ∷ []), length-append ys (y ∷ [])) in (
      sym (take-append_seam xs (x ∷ [])) ∙ (ap (take (length xs)) same ∙ (ap (λ (n : ℕ). take n (ys ++ y ∷ [])) len ∙ take-append_seam ys (y ∷ []))),
      sym (get_or-append_seam xs x [] x) ∙ (ap (λ (zs : List A). get_or zs (length xs) x) same ∙ (ap (λ (n : ℕ). get_or (ys ++ y ∷ []) n x) len ∙ get_or-append_seam ys y [] x)),
    )

-- The last of fresh lanes, and those before it.
pub fresh_pop : {A : Type 0} (record_of : A → LaneRecord) (lanes rest : List A) (lane : A) (n m : ℕ)
    → map record_of lanes ≡ fresh_lanes n
    → lanes ≡ rest ++ lane ∷ []
    → n ≡ suc m
    → (map record_of rest ≡ fresh_lanes m) × (record_of lane ≡ fresh_lane m)
fresh_pop record_of lanes rest lane n m fresh popped next =
    last_parts (map record_of rest) (fresh_lanes m) (record_of lane) (fresh_lane m)
    (sym (map-append record_of rest (lane ∷ [])) ∙ (ap (map record_of) (sym popped) ∙ (fresh ∙ ap fresh_lanes next)))

module _ {V : Type 0} (items_of : V → List JobData) (named : ℕ → List JobData) where
  -- Each list is the one of its number.
  abbrev pub AreNamed : List V → Type 0
  AreNamed jobs = (k : ℕ) → k < length jobs → get_or (map items_of jobs) k [] ≡ named k

  pub last_named : (jobs rest : List V) (list : V)
      → jobs ≡ rest ++ list ∷ []
      → AreNamed jobs
      → items_of list ≡ named (length rest)
  last_named jobs rest list popped all =
      let len = length-map rest items_of in
      sym (get_or-append_seam (map items_of rest) (items_of list) [] [])
      ∙ (ap (λ (n : ℕ). get_or (map items_of rest ++ items_of list ∷ []) n []) len
      ∙ (ap (λ (ls : List (List JobData)). get_or ls (length rest) []) (sym (map-append items_of rest (list ∷ [])) ∙ ap (map items_of) (sym popped))
      ∙ all (length rest) (omega (arith, longer rest jobs list popped))))

  pub rest_named : (jobs rest : List V) (list : V)
      → jobs ≡ rest ++ list ∷ []
      → AreNamed jobs
      → AreNamed rest
  rest_named jobs rest list popped all = λ k below.
      sym (get_or-append (map items_of rest) (items_of list ∷ []) [] k (omega (arith, below, length-map rest items_of)))
      ∙ (ap (λ (ls : List (List JobData)). get_or ls k []) (sym (map-append items_of rest (list ∷ [])) ∙ ap (map items_of) (sym popped))
      ∙ all k (omega (arith, below, longer rest jobs list popped)))

-- What holds of each list and its number holds after one more was added.
pub all_listed : {V : Type 0} (items_of : V → List JobData) (P : ℕ → List JobData → Type 0)
    (old new : List V) (list : V)
    → new ≡ old ++ list ∷ []
    → ((k : ℕ) → k < length old → P k (get_or (map items_of old) k []))
    → P (length old) (items_of list)
    → (k : ℕ)
    → k < length new
    → P k (get_or (map items_of new) k [])
all_listed items_of P old new list pushed all own k below =
    let lists : map items_of new ≡ map items_of old ++ items_of list ∷ [] = ap (map items_of) pushed ∙ map-append items_of old (list ∷ []) in
    let len = length-map old items_of in
    ⊎_elim (λ (early : k < length old).
    subst (P k) (sym (ap (λ (ls : List (List JobData)). get_or ls k []) lists ∙ get_or-append (map items_of old) (items_of list ∷ []) [] k (omega (arith, early, len)))) (all k early))
    (λ (late : length old ≤ k).
    let last : k ≡ length old = omega (arith, late, below, longer old new list pushed) in
    let at_end : get_or (map items_of new) (length old) [] ≡ items_of list =
    ap (λ (ls : List (List JobData)). get_or ls (length old) []) lists ∙ (ap (λ (n : ℕ). get_or (map items_of old ++ items_of list ∷ []) n []) (sym len) ∙ get_or-append_seam (map items_of old) (items_of list) [] []) in
    subst (λ (n : ℕ). P n (get_or (map items_of new) n [])) (sym last) (subst (P (length old)) (sym at_end) own))
    (cases_lt k (length old))
