-- The number below which all stations with a name are.
use Rattle.std.proofs.Common.{◌≡◌, ℕ, ◌-◌, ◌<◌, ◌≤◌, inl, inr, List, length, replicate, slice_set, take, Option, None, sym, ap, subst, ◌∙◌, get_or-set_other, length-set, length-take-le, arith}
use Rattle.std.proofs.lemmas.Bool.{cases_lt}
use Rattle.std.proofs.lemmas.List.{get_or-replicate, get_or-take, get_or_past, length-replicate}
use Rattle.cli_commands.specs.Inner.Names.{AreNamedBelow, name_at}

-- a list of names, some of which are empty
abbrev Names : Type 0
Names = List (Option (List ℕ))

-- at first no station has a name
pub named_below_none : (names : Names) (count : ℕ)
    → names ≡ replicate count None
    → AreNamedBelow 0 names
named_below_none names count empty = record {
  within = omega arith;
  none = λ s past. ap (λ (xs : Names). name_at xs s) empty ∙ none_named s;
}
  where
    none_named : (s : ℕ) → name_at (replicate count None) s ≡ None
    none_named s = elim (cases_lt s count) [
      | inl within ↦ get_or-replicate count s None None within
      | inr past ↦ get_or_past (replicate count None) s None (simp length-replicate past)
    ]

-- none has a name past the end
pub named_below_all : (names : Names) → AreNamedBelow (length names) names
named_below_all names = record { within = omega arith; none = λ s past. get_or_past names s None past }

-- if the last of them has no name, their number is one less
pub named_below_less : (names : Names) (used : ℕ)
    → 0 < used
    → name_at names (used - 1) ≡ None
    → AreNamedBelow used names
    → AreNamedBelow (used - 1) names
named_below_less names used some last k = record {
  within = omega (arith, k.within);
  none = λ s past. elim (cases_lt s used) [
    | inl before ↦ let here : s ≡ used - 1 = omega (arith, some, past, before) in ap (name_at names) here ∙ last
    | inr after ↦ k.none s after
  ];
}

module _ (names : Names) (used : ℕ) (k : AreNamedBelow used names) where
  -- the names of the first `used` stations are all names
  pub in_front : (s : ℕ) → name_at (take used names) s ≡ name_at names s
  in_front s = elim (cases_lt s used) [
    | inl before ↦ get_or-take used names s None before
    | inr past ↦ get_or_past (take used names) s None (subst (λ n. n ≤ s) (sym (length-take-le used names k.within)) past) ∙ sym (k.none s past)
  ]

  -- what holds for these names holds for all
  pub named_below_front : (next : ℕ)
      → AreNamedBelow next (take used names)
      → AreNamedBelow next names
  named_below_front next front = record {
    within = let fewer : next ≤ used = subst (λ n. next ≤ n) (length-take-le used names k.within) front.within in omega (arith, fewer, k.within);
    none = λ s past. sym (in_front s) ∙ front.none s past;
  }

  -- one of the first names is set
  pub named_below_set : (s most : ℕ) (name : Option (List ℕ))
      → used ≤ most
      → s < most
      → most ≤ length names
      → AreNamedBelow most (slice_set names s name)
  named_below_set s most name more in_most within = record {
    within = subst (λ n. most ≤ n) (sym (length-set _ _ _)) within;
    none = λ t past. get_or-set_other names s t name None (λ same. absurd (omega (arith, same, past, in_most))) ∙ k.none t (omega (arith, more, past));
  }
