-- Lists that gain an element.
use Rattle.std.proofs.Common.{◌≡◌, ℕ, ◌+◌, ◌<◌, ◌≤◌, ⊎_elim, ◌++◌, ◌∷◌, [], List, map, length, get_or, length-append, sym, ap, subst, ◌∙◌, arith}
use Rattle.std.proofs.Math.Seq.{get_or-append_seam}
use Rattle.std.proofs.Math.ListN.{get_or-append}
use Rattle.std.proofs.lemmas.Bool.{cases_lt}
use Rattle.std.proofs.lemmas.List.{map-append, length-map}
use Rattle.job_types.specs.Job.{JobData}

pub longer : {A : Type 0} (xs ys : List A) (y : A) → ys ≡ xs ++ y ∷ [] → length ys ≡ length xs + 1
longer xs ys y pushed = ap length pushed ∙ length-append xs (y ∷ [])

-- what holds for each list and its number still holds with one more list
pub all_listed : {V : Type 0} (items_of : V → List JobData) (P : ℕ → List JobData → Type 0)
    (old new : List V) (list : V)
    → new ≡ old ++ list ∷ []
    → ((k : ℕ) → k < length old → P k (get_or (map items_of old) k []))
    → P (length old) (items_of list)
    → (k : ℕ)
    → k < length new
    → P k (get_or (map items_of new) k [])
all_listed items_of P old new list pushed all own k below =
    let lists : map items_of new ≡ map items_of old ++ items_of list ∷ [] = ap (map items_of) pushed ∙ map-append items_of old (list ∷ []) in
    let len = length-map old items_of in
    ⊎_elim (λ (early : k < length old).
    subst (P k) (sym (ap (λ (ls : List (List JobData)). get_or ls k []) lists ∙ get_or-append (map items_of old) (items_of list ∷ []) [] k (omega (arith, early, len)))) (all k early))
    (λ (late : length old ≤ k).
    let last : k ≡ length old = omega (arith, late, below, longer old new list pushed) in
    let at_end : get_or (map items_of new) (length old) [] ≡ items_of list =
    ap (λ (ls : List (List JobData)). get_or ls (length old) []) lists ∙ (ap (λ (n : ℕ). get_or (map items_of old ++ items_of list ∷ []) n []) (sym len) ∙ get_or-append_seam (map items_of old) (items_of list) [] []) in
    subst (λ (n : ℕ). P n (get_or (map items_of new) n [])) (sym last) (subst (P (length old)) (sym at_end) own))
    (cases_lt k (length old))
