-- The table of the stations by their names and blocks, and how it changes.
use Rattle.std.proofs.Common.{◌≡◌, ◌≢◌, ℕ, ◌<◌, inl, inr, List, length, replicate, slice_set, Option, Some, None, refl, sym, ap, subst, ◌∙◌, get_or-set_other, get_or-set_same, length-set}
use Rattle.std.proofs.lemmas.Bool.{cases_eq, cases_lt}
use Rattle.std.proofs.lemmas.List.{get_or-replicate, get_or_past, length-replicate}
use Rattle.cube_shape.specs.declared.limits.TheConstants.{MAX_STATIONS}
use Rattle.cube_shape.specs.declared.region.Region.{Region}
use Rattle.cube_shape.specs.Region.{block}
use Rattle.cube_shape.specs.Machine.{Gives, Holdings, IsFirstFit, TakesBack}
use Rattle.cli_commands.specs.Place.{Holding, HoldsSome, IsFirstIdle, IsFreed, IsFull, IsGiven, empty_table, region_of, regions}
use Rattle.cli_commands.specs.Inner.Names.{name_at}
use Rattle.cli_commands.specs.Inner.Stations.{NamesAgree, held_under, named_holdings_with}

-- a list of names, some of which are empty
abbrev Names : Type 0
Names = List (Option (List ℕ))

none_is_some : {A : Type 0} {a : A} → ◌≡◌ {A = Option A} None (Some a) → ⊥
none_is_some e = cc

abbrev holding : List ℕ → Region → Holding
holding name region = record { name = name; region = region }

-- the table of a station that has a name and holds a block
both_there : (o : Option (List ℕ)) (r : Option Region) (name : List ℕ) (region : Region)
    → held_under o r ≡ Some (record { name = name; region = region })
    → (o ≡ Some name) × (r ≡ Some region)
both_there None r name region e = absurd (none_is_some e)
both_there (Some other) None name region e = absurd (none_is_some e)
both_there (Some other) (Some found) name region e = (ap name_in e, ap region_of e)
  where
    name_in : Option Holding → Option (List ℕ)
    name_in None = None
    name_in (Some holding) = Some holding.name

module _ (names : Names) (held : Holdings) (k : NamesAgree names held) where
  -- a station with a name holds something under it
  pub holds_some : (s : ℕ) (name : List ℕ)
      → name_at names s ≡ Some name
      → HoldsSome (named_holdings_with names held) name
  holds_some s name is = let (region, has) = k.named s name is in (s, region, rw (is, has) refl)

  -- the block of each station is the one in the table
  pub same_regions : (s : ℕ) → region_of (named_holdings_with names held s) ≡ held s
  same_regions s = turn (name_at names s) refl
    where
      turn : (o : Option (List ℕ))
          → name_at names s ≡ o
          → region_of (held_under o (held s)) ≡ held s
      turn None is = sym (k.idle s is)
      turn (Some name) is = let (region, has) = k.named s name is in rw has refl

  pub regions_are : regions (named_holdings_with names held) ≡ held
  regions_are = λ i s. same_regions s i

  -- a station that the table leaves empty has no name
  nameless : (s : ℕ) → named_holdings_with names held s ≡ None → name_at names s ≡ None
  nameless s e = turn (name_at names s) refl
    where
      turn : (o : Option (List ℕ)) → name_at names s ≡ o → name_at names s ≡ None
      turn None is = is
      turn (Some name) is = let (region, has) = k.named s name is in absurd (none_is_some {a = holding name region} (sym e ∙ rw (is, has) refl))

  pub is_full : ((s : ℕ) → s < MAX_STATIONS → name_at names s ≢ None)
      → IsFull (named_holdings_with names held)
  is_full all s lt e = all s lt (nameless s e)

  pub first_idle : (s : ℕ)
      → s < MAX_STATIONS
      → name_at names s ≡ None
      → ((t : ℕ) → t < s → name_at names t ≢ None)
      → IsFirstIdle (named_holdings_with names held) s
  first_idle s lt none first = record {
    below = lt;
    idle = rw none refl;
    first = λ t before e. first t before (nameless t e);
  }

-- no station has the name, and so it holds nothing
pub holds_none : (names : Names) (held : Holdings) (name : List ℕ)
    → ((s : ℕ) → name_at names s ≢ Some name)
    → HoldsSome (named_holdings_with names held) name
    → ⊥
holds_none names held name none (s, region, has) = none s (both_there (name_at names s) (held s) name region has).0

pub not_full : (names : Names) (held : Holdings) (s : ℕ)
    → s < MAX_STATIONS
    → name_at names s ≡ None
    → IsFull (named_holdings_with names held)
    → ⊥
not_full names held s lt none full = full s lt (rw none refl)

-- how the names change when one of them is set
pub set_here : (names : Names) (s : ℕ) (name : Option (List ℕ))
    → s < length names
    → name_at (slice_set names s name) s ≡ name
set_here names s name lt = get_or-set_same names s name None lt

pub set_else : (names : Names) (s t : ℕ) (name : Option (List ℕ))
    → t ≢ s
    → name_at (slice_set names s name) t ≡ name_at names t
set_else names s t name other = get_or-set_other names s t name None other

-- the names with one more, and the blocks that are held then
pub names_agree_given : (names now : Names) (held next : Holdings) (s n dim : ℕ) (r : Region)
    (name : List ℕ)
    → now ≡ slice_set names s (Some name)
    → s < MAX_STATIONS
    → NamesAgree names held
    → Gives n s dim held next r
    → NamesAgree now next
names_agree_given names now held next s n dim r name set lt k gives = subst (λ (xs : Names). NamesAgree xs next) (sym set) (record {
  size = length-set _ _ _ ∙ k.size;
  named = λ t other is. elim (cases_eq t s) [
    | inl here ↦ (r, ap next here ∙ gives.held)
    | inr else ↦ let (region, has) = k.named t other (sym (set_else names s t (Some name) else) ∙ is) in (region, gives.others t else ∙ has)
  ];
  idle = λ t is. elim (cases_eq t s) [
    | inl here ↦ absurd (none_is_some (sym is ∙ ap (name_at (slice_set names s (Some name))) here ∙ set_here names s (Some name) (subst (λ m. s < m) (sym k.size) lt)))
    | inr else ↦ gives.others t else ∙ k.idle t (sym (set_else names s t (Some name) else) ∙ is)
  ];
})

-- and with one less
pub names_agree_freed : (names now : Names) (held next : Holdings) (s : ℕ) (r : Region)
    → now ≡ slice_set names s None
    → s < MAX_STATIONS
    → NamesAgree names held
    → TakesBack s held next r
    → NamesAgree now next
names_agree_freed names now held next s r set lt k takes = subst (λ (xs : Names). NamesAgree xs next) (sym set) (record {
  size = length-set _ _ _ ∙ k.size;
  named = λ t other is. elim (cases_eq t s) [
    | inl here ↦ absurd (none_is_some (sym (ap (name_at (slice_set names s None)) here ∙ set_here names s None (subst (λ m. s < m) (sym k.size) lt)) ∙ is))
    | inr else ↦ let (region, has) = k.named t other (sym (set_else names s t None else) ∙ is) in (region, takes.others t else ∙ has)
  ];
  idle = λ t is. elim (cases_eq t s) [
    | inl here ↦ ap next here ∙ takes.idle
    | inr else ↦ takes.others t else ∙ k.idle t (sym (set_else names s t None else) ∙ is)
  ];
})

-- the first fit was given under the name
pub is_given : (names now : Names) (held next : Holdings) (s n dim m : ℕ) (r : Region)
    (name : List ℕ)
    → now ≡ slice_set names s (Some name)
    → NamesAgree names held
    → ((t : ℕ) → name_at names t ≢ Some name)
    → s < MAX_STATIONS
    → name_at names s ≡ None
    → ((t : ℕ) → t < s → name_at names t ≢ None)
    → Gives n s dim held next r
    → r ≡ block dim m
    → IsFirstFit n dim held m
    → IsGiven n name dim r.base (named_holdings_with names held) (named_holdings_with now next)
is_given names now held next s n dim m r name set k fresh lt none first gives is fit =
    subst (λ (xs : Names). IsGiven n name dim r.base (named_holdings_with names held) (named_holdings_with xs next)) (sym set) (record {
      fresh = holds_none names held name fresh;
      station = s;
      idle = first_idle names held k s lt none first;
      m = m;
      fit = rw (regions_are names held k) fit;
      start = ap (λ (a : Region). a.base) is;
      held = rw (set_here names s (Some name) (subst (λ len. s < len) (sym k.size) lt), gives.held, is) refl;
      others = λ t else. rw (set_else names s t (Some name) else, gives.others t else) refl;
    })

-- the block of the name was released
pub is_freed : (names now : Names) (held next : Holdings) (s : ℕ) (r : Region) (name : List ℕ)
    → now ≡ slice_set names s None
    → NamesAgree names held
    → s < MAX_STATIONS
    → name_at names s ≡ Some name
    → TakesBack s held next r
    → IsFreed name r.dim r.base (named_holdings_with names held) (named_holdings_with now next)
is_freed names now held next s r name set k lt named takes =
    subst (λ (xs : Names). IsFreed name r.dim r.base (named_holdings_with names held) (named_holdings_with xs next)) (sym set) (record {
      station = s;
      held = rw (named, takes.held) refl;
      idle = rw (set_here names s None (subst (λ len. s < len) (sym k.size) lt)) refl;
      others = λ t else. rw (set_else names s t None else, takes.others t else) refl;
    })

-- at first no station has a name, and none holds a block
pub names_agree_none : (names : Names) (held : Holdings)
    → names ≡ replicate MAX_STATIONS None
    → ((s : ℕ) → held s ≡ None)
    → NamesAgree names held
names_agree_none names held empty free = record {
  size = ap (λ (xs : Names). length xs) empty ∙ length-replicate {A = Option (List ℕ)} MAX_STATIONS None;
  named = λ s name is. absurd (none_is_some (sym (none_named s) ∙ ap (λ (xs : Names). name_at xs s) (sym empty) ∙ is));
  idle = λ s is. free s;
}
  where
    none_named : (s : ℕ) → name_at (replicate MAX_STATIONS None) s ≡ None
    none_named s = elim (cases_lt s MAX_STATIONS) [
      | inl within ↦ get_or-replicate MAX_STATIONS s None None within
      | inr past ↦ get_or_past (replicate MAX_STATIONS None) s None (simp length-replicate past)
    ]

pub named_holdings_none : (names : Names) (held : Holdings)
    → NamesAgree names held
    → ((s : ℕ) → held s ≡ None)
    → (s : ℕ)
    → named_holdings_with names held s ≡ empty_table s
named_holdings_none names held k free s = turn (name_at names s) refl
  where
    turn : (o : Option (List ℕ)) → name_at names s ≡ o → held_under o (held s) ≡ None
    turn None is = refl
    turn (Some name) is = rw (free s) refl
