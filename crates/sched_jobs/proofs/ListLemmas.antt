-- Slots that a list has.
use Rattle.std.proofs.Common.{◌≡◌, ◌≢◌, ℕ, ◌<◌, ◌≤◌, ◌⊎◌, inl, inr, Bool, true, false, List, [], ◌∷◌, ◌++◌, length, eqb, ◌||◌, refl, sym, ◌∙◌, ap, arith}
use Rattle.std.specs.List.{IsDistinct, AllByRecursion, list_any}
use Rattle.std.proofs.lemmas.Bool.{ne_eqb, eqb-true}
use Rattle.std.proofs.lemmas.Map.Steps.{length-le_from_distinct_below}
use Rattle.sched_jobs.specs.declared.nodes.QueueNode.{QueueNode as NodeData}
use Rattle.sched_jobs.specs.Nodes.{key_of}
use Rattle.sched_jobs.specs.Lists.{Has, IsRising}

pub has_left : (xs ys : List ℕ) (u : ℕ) → Has xs u → Has (xs ++ ys) u
has_left [] ys u h = absurd h
has_left (x ∷ xs) ys u (inl same) = inl same
has_left (x ∷ xs) ys u (inr later) = inr (has_left xs ys u later)

pub has_right : (xs ys : List ℕ) (u : ℕ) → Has ys u → Has (xs ++ ys) u
has_right [] ys u h = h
has_right (x ∷ xs) ys u h = inr (has_right xs ys u h)

pub has_cases : (xs ys : List ℕ) (u : ℕ) → Has (xs ++ ys) u → Has xs u ⊎ Has ys u
has_cases [] ys u h = inr h
has_cases (x ∷ xs) ys u (inl same) = inl (inl same)
has_cases (x ∷ xs) ys u (inr later) =
    elim (has_cases xs ys u later) [ inl before ↦ inl (inr before) | inr after ↦ inr after ]

-- two rising lists, one before the other, are one
pub rising_append : (nodes : List NodeData) (xs ys : List ℕ) → IsRising nodes xs → IsRising nodes ys
    → ((u v : ℕ) → Has xs u → Has ys v → key_of nodes u < key_of nodes v) → IsRising nodes (xs ++ ys)
rising_append nodes [] ys first second order = second
rising_append nodes (x ∷ xs) ys first second order = (
  λ slot h. elim (has_cases xs ys slot h) [ inl before ↦ first.0 slot before | inr after ↦ order x slot (inl refl) after ],
  rising_append nodes xs ys first.1 second (λ u v hu hv. order u v (inr hu) hv),
)

none_equal : (x : ℕ) (xs : List ℕ) → ((u : ℕ) → Has xs u → x ≢ u) → AllByRecursion (λ y. eqb x y ≡ false) xs
none_equal x [] other = tt
none_equal x (y ∷ ys) other = (ne_eqb x y (other y (inl refl)), none_equal x ys (λ u h. other u (inr h)))

rising_distinct : (nodes : List NodeData) (xs : List ℕ) → IsRising nodes xs → IsDistinct eqb xs
unfolding IsDistinct
rising_distinct nodes [] rising = tt
rising_distinct nodes (x ∷ xs) rising = (
  none_equal x xs (λ u h same. let less = rising.0 u h in let equal = ap (key_of nodes) same in omega arith),
  rising_distinct nodes xs rising.1,
)

has_any : (q : ℕ) (xs : List ℕ) → list_any (eqb q) xs ≡ true → Has xs q
has_any q [] h = cc
has_any q (x ∷ xs) h = either (eqb q x) refl (has_any q xs)
  where
    either : (b : Bool) → eqb q x ≡ b → (list_any (eqb q) xs ≡ true → Has xs q) → (q ≡ x) ⊎ Has xs q
    either true is later = inl (eqb-true q x is)
    either false is later = inr (later (sym (ap (λ b. b || list_any (eqb q) xs) is) ∙ h))

-- rising slots of a slice are at most as many as its nodes
pub rising_few : (nodes : List NodeData) (xs : List ℕ) (n : ℕ) → IsRising nodes xs
    → ((u : ℕ) → Has xs u → u < n) → length xs ≤ n
rising_few nodes xs n rising inside =
    length-le_from_distinct_below xs n (rising_distinct nodes xs rising) (λ q h. inside q (has_any q xs h))
