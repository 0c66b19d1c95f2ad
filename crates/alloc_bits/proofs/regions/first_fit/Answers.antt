-- A clear region is apart from every region that the bits represent as held.
use Rattle.std.proofs.Common.{◌≡◌, ℕ, ◌-◌, ◌^◌, ◌<◌, List, Bool, Option, Some, None, IfSome, IfNone}
use Rattle.cube_shape.specs.declared.region.Region.{Region}
use Rattle.cube_shape.specs.Region.{block}
use Rattle.cube_shape.specs.Machine.{Holdings, HasNoFit, IsFirstFit}
use Rattle.alloc_bits.specs.Represents.{Represents}
use Rattle.alloc_bits.specs.Bits.{IsClear, IsFirstClear}
use Rattle.alloc_bits.proofs.RepresentsLemmas as lemmas
use Rattle.alloc_bits.proofs.regions.first_fit.Goals as goal

first : (n k : ℕ) (bits : List Bool) (found : Option Region)
    → IfSome found (λ r. (m : ℕ) × (r ≡ block k m) × IsFirstClear n k bits m)
    → IfSome found (λ r. (m : ℕ) × (r ≡ block k m)
    × ((held : Holdings) → Represents n held bits → IsFirstFit n k held m))
first n k bits None is = is
first n k bits (Some r) is = (is.0, is.1, λ held represents. lemmas.first_fit n held bits represents k is.0 is.2)

none : (n k : ℕ) (bits : List Bool) (found : Option Region)
    → IfNone found ((m : ℕ) → m < 2 ^ (n - k) → IsClear bits (block k m) → ⊥)
    → IfNone found ((held : Holdings) → Represents n held bits → HasNoFit n k held)
none n k bits None is = λ held represents. lemmas.no_fit n held bits represents k is
none n k bits (Some r) is = is

pub returns-clause-first : goal.returns-clause-first
returns-clause-first c = first c.args.n c.args.k c.args.bits.now c.first_clear.result c.first_clear.ensures.found

pub returns-clause-none : goal.returns-clause-none
returns-clause-none c = none c.args.n c.args.k c.args.bits.now c.first_clear.result c.first_clear.ensures.none
