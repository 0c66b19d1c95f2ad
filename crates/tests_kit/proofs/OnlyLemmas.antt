-- What is known of a list that maps to a list of one.
use Rattle.std.proofs.Common.{◌≡◌, ◌∷◌, [], List, map, length, slice_index_or, sym, ap, ◌∙◌}
use Rattle.std.proofs.lemmas.List.{length-map}

pub one_mapped : {A B : Type 0} (f : A → B) (xs : List A) (b : B)
    → map f xs ≡ b ∷ []
    → length xs ≡ 1
one_mapped f xs b is = sym (length-map xs f) ∙ ap length is

pub only_mapped : {A B : Type 0} (f : A → B) (xs : List A) (a : A) (b : B)
    → xs ≡ a ∷ []
    → map f xs ≡ b ∷ []
    → f a ≡ b
only_mapped f xs a b only is = ap (λ l. slice_index_or l 0 b) (sym (ap (map f) only) ∙ is)
