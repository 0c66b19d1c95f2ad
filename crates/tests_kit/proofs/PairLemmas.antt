-- What holds for the members of a list of one or two.
use Rattle.std.proofs.Common.{◌≡◌, List, ◌∷◌, [], sym}
use Rattle.std.specs.List.{All}
use Rattle.std.proofs.lemmas.List.Elements.{All-head, All-tail, All-same}

pub only_of_one : {A : Type 0} (P : A → Type 0) (xs : List A) (a : A) → xs ≡ a ∷ [] → All P xs → P a
only_of_one P xs a is all = All-head P a [] (All-same P (a ∷ []) xs (sym is) all)

pub first_of_two : {A : Type 0} (P : A → Type 0) (xs : List A) (a b : A)
    → xs ≡ a ∷ b ∷ []
    → All P xs
    → P a
first_of_two P xs a b is all = All-head P a (b ∷ []) (All-same P (a ∷ b ∷ []) xs (sym is) all)

pub second_of_two : {A : Type 0} (P : A → Type 0) (xs : List A) (a b : A)
    → xs ≡ a ∷ b ∷ []
    → All P xs
    → P b
second_of_two P xs a b is all = All-head P b [] (All-tail P a (b ∷ []) (All-same P (a ∷ b ∷ []) xs (sym is) all))
