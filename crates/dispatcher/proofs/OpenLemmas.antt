-- Facts of the parts of members, as facts of the members.
use Rattle.std.proofs.Common.{◌≡◌, ◌<◌, ◌++◌, ◌∷◌, [], Bool, true, false, List, Some, None, map, length, not, if◌then◌else◌, nat_lt, ℕ, zero, suc, length-append, append_assoc, refl, sym, ap, ◌∙◌, arith}
use Rattle.std.proofs.lemmas.List.{map-append}
use Rattle.std.specs.List.{All}
use Rattle.std.proofs.lemmas.List.Elements.{All-nil, All-cons, All-head, All-tail, All-same, All-push}
use Rattle.job_queue.specs.declared.record.PassRecord.{PassRecord}
use Rattle.job_queue.specs.Record.{fresh_pass, fresh_passes}
use Rattle.cube_shape.specs.declared.limits.TheConstants.{MAX_DIM, MAX_LANES}
use Rattle.dispatcher.specs.Opening.{is_within, refusal_of}
use Rattle.dispatcher.specs.declared.opening.ShopRefused.TheVariants.{BadDimension, BadLanes, BadDispatchers}

-- What holds of each part holds of the part of each.
pub of_parts : {A B : Type 0} (P : B → Type 0) (f : A → B) (xs : List A)
    → All P (map f xs)
    → All (λ x. P (f x)) xs
of_parts P f [] all = All-nil (λ x. P (f x))
of_parts P f (x ∷ xs) all = All-cons (λ x. P (f x)) x xs (All-head P (f x) (map f xs) all) (of_parts P f xs (All-tail P (f x) (map f xs) all))

pub of_their_parts : {A B : Type 0} (P : B → Type 0) (f : A → B) (xs : List A) (ys : List B)
    → map f xs ≡ ys
    → All P ys
    → All (λ x. P (f x)) xs
of_their_parts P f xs ys same all = of_parts P f xs (All-same P (map f xs) ys same all)

-- The part of a part.
pub map_twice : {A B C : Type 0} (f : A → B) (g : B → C) (xs : List A)
    → map g (map f xs) ≡ map (λ x. g (f x)) xs
map_twice f g [] = refl
map_twice {A} {B} {C} f g (x ∷ xs) = ap (λ (ys : List C). g (f x) ∷ ys) (map_twice f g xs)

pub passes_count : (count : ℕ) → length (fresh_passes count) ≡ count
passes_count zero = refl
passes_count (suc count) = length-append (fresh_passes count) (fresh_pass count ∷ []) ∙ omega (arith, passes_count count)

-- What holds if each of two parts has a fact of its own.
pub of_two_parts : {A B C : Type 0} (P : B → Type 0) (Q : C → Type 0) (R : A → Type 0) (f : A → B)
    (g : A → C)
    → ((x : A) → P (f x) → Q (g x) → R x)
    → (xs : List A) (ys : List B) (zs : List C)
    → map f xs ≡ ys
    → map g xs ≡ zs
    → All P ys
    → All Q zs
    → All R xs
of_two_parts {A} {B} {C} P Q R f g both xs ys zs first second all_first all_second = joined xs (of_their_parts P f xs ys first all_first) (of_their_parts Q g xs zs second all_second)
  where
    joined : (ws : List A) → All (λ w. P (f w)) ws → All (λ w. Q (g w)) ws → All R ws
    joined [] ps qs = All-nil R
    joined (w ∷ ws) ps qs = All-cons R w ws (both w (All-head (λ v. P (f v)) w ws ps) (All-head (λ v. Q (g v)) w ws qs)) (joined ws (All-tail (λ v. P (f v)) w ws ps) (All-tail (λ v. Q (g v)) w ws qs))

-- Fresh passes have taken nothing.
pub none_taken : (count : ℕ) → All (λ (r : PassRecord). r.taken ≡ []) (fresh_passes count)
none_taken zero = All-nil (λ (r : PassRecord). r.taken ≡ [])
none_taken (suc count) = All-push (λ (r : PassRecord). r.taken ≡ []) (fresh_passes count) (fresh_pass count) (none_taken count) refl

-- The part of one more member is gone from the parts that are left.
pub moved : {A B : Type 0} (f : A → B) (all left rest : List B) (old new : List A) (x : A)
    → map f old ++ left ≡ all
    → left ≡ f x ∷ rest
    → new ≡ old ++ x ∷ []
    → map f new ++ rest ≡ all
moved {A} {B} f all left rest old new x start popped pushed =
    ap (λ (xs : List A). map f xs ++ rest) pushed
    ∙ (ap (λ (ys : List B). ys ++ rest) (map-append f old (x ∷ []))
    ∙ (append_assoc (map f old) (f x ∷ []) rest ∙ (ap (λ (ys : List B). map f old ++ ys) (sym popped) ∙ start)))

-- What holds of all elements holds of the first one.
pub first_has : {A : Type 0} (P : A → Type 0) (x : A) (xs ys : List A)
    → ys ≡ x ∷ xs
    → All P ys
    → P x
first_has P x xs ys popped all = All-head P x xs (All-same P (x ∷ xs) ys (sym popped) all)

-- Sizes without a worker are refused, whatever the two tests before say.
refused : (is_large is_within_lanes : Bool)
    → (if is_large then Some BadDimension else if not is_within_lanes then Some BadLanes else Some
    BadDispatchers) ≡ None
    → ⊥
refused true is_within_lanes is = cc
refused false true is = cc
refused false false is = cc

-- A dispatcher whose sizes are not refused has a worker.
pub has_dispatchers : (n lanes dispatchers capacity : ℕ)
    → refusal_of n lanes dispatchers capacity ≡ None
    → 0 < dispatchers
has_dispatchers n lanes zero capacity is = absurd (refused (nat_lt MAX_DIM n) (is_within MAX_LANES lanes) is)
has_dispatchers n lanes (suc d) capacity is = omega (arith)
