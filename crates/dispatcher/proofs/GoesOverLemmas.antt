-- Loops that take the first element of a list and add its image to the end of another list.
use Rattle.std.proofs.Common.{◌≡◌, ℕ, ◌+◌, ◌<◌, ◌≤◌, ◌++◌, ◌∷◌, [], List, map, length, take, get_or, sym, ap, ◌∙◌, append_assoc, arith}
use Rattle.std.proofs.lemmas.List.{take_more, take_all, length-take-le, length-map, map-append, append-nil}

-- At first no element has moved.
pub none_gone : {A B : Type 0} (f : A → B) (gone : List B) (left xs : List A)
    → gone ≡ []
    → left ≡ xs
    → gone ++ map f left ≡ map f xs
none_gone {A} {B} f gone left xs none same = ap (λ (ys : List B). ys ++ map f left) none ∙ ap (map f) same

-- The first element moves.
pub goes_over : {A B : Type 0} (f : A → B) (gone more all : List B) (y : B) (one : A)
    (left rest : List A)
    → gone ++ map f left ≡ all
    → left ≡ one ∷ rest
    → more ≡ gone ++ y ∷ []
    → y ≡ f one
    → more ++ map f rest ≡ all
goes_over {A} {B} f gone more all y one left rest so_far items pushed same =
    ap (λ (ys : List B). ys ++ map f rest) (pushed ∙ ap (λ (z : B). gone ++ z ∷ []) same)
    ∙ (append_assoc gone (f one ∷ []) (map f rest)
    ∙ (ap (λ (xs : List A). gone ++ map f xs) (sym items) ∙ so_far))

-- When no element is left, all have moved.
pub none_behind : {B : Type 0} (gone all left : List B)
    → length left ≡ 0
    → gone ++ left ≡ all
    → gone ≡ all
none_behind gone all [] none so_far = sym (append-nil gone) ∙ so_far
none_behind gone all (x ∷ xs) none so_far = absurd (omega (arith, none))

pub none_left : {A B : Type 0} (f : A → B) (gone all : List B) (left : List A)
    → length left ≡ 0
    → gone ++ map f left ≡ all
    → gone ≡ all
none_left f gone all left none so_far = none_behind gone all (map f left) (length-map left f ∙ none) so_far

-- The next element moves, and the list stays.
pub comes_next : {A B : Type 0} (f : A → B) (xs : List A) (i : ℕ) (one : A) (gone more : List B)
    (y : B)
    → i < length xs
    → one ≡ get_or xs i one
    → gone ≡ map f (take i xs)
    → more ≡ gone ++ y ∷ []
    → y ≡ f one
    → more ≡ map f (take (i + 1) xs)
comes_next {A} {B} f xs i one gone more y below is so_far pushed same =
    pushed ∙ (ap (λ (ys : List B). ys ++ y ∷ []) so_far ∙ (ap (λ (z : B). map f (take i xs) ++ z ∷ []) (same ∙ ap f is)
    ∙ sym (ap (map f) (take_more xs i one below) ∙ map-append f (take i xs) (get_or xs i one ∷ []))))

-- This many elements have moved.
pub gone_count : {A B : Type 0} (f : A → B) (xs : List A) (i : ℕ) (gone : List B)
    → i ≤ length xs
    → gone ≡ map f (take i xs)
    → length gone ≡ i
gone_count f xs i gone below so_far = ap length so_far ∙ (length-map (take i xs) f ∙ length-take-le i xs below)

-- At the end all elements have moved.
pub all_gone : {A B : Type 0} (f : A → B) (xs : List A) (i : ℕ) (gone : List B)
    → length xs ≤ i
    → gone ≡ map f (take i xs)
    → gone ≡ map f xs
all_gone f xs i gone past so_far = so_far ∙ ap (map f) (take_all i xs past)
