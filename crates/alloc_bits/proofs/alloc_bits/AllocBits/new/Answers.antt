use Rattle.std.proofs.Common.{◌∙◌, ap, arith, rules}
use Rattle.cube_shape.specs.declared.limits.TheConstants.{MAX_STATIONS}
use Rattle.alloc_bits.specs.Inner.{slot_of}
use Rattle.alloc_bits.proofs.HoldingsLemmas.{IsConsistent-made, holdings_are, slot_of-empty}
use Rattle.alloc_bits.proofs.alloc_bits.AllocBits.new.Goals as goal

pub invariant_of-result : goal.invariant_of-result
invariant_of-result c = IsConsistent-made c.args.n c.in_ok-vec-2.field-0.items c.in_ok-vec.field-0.items (omega (arith, c.requires)) (c.in_ok-vec-2.ensures.items_if_clones_equal (λ y clone. search rules)) (search rules)

pub returns-clause-free : goal.returns-clause-free
returns-clause-free c = λ s. ap (λ held. held s) (holdings_are c.in_ok-vec-2.field-0.items) ∙ ap (λ slots. slot_of slots s) (c.in_ok-vec-2.ensures.items_if_clones_equal (λ y clone. search rules)) ∙ slot_of-empty MAX_STATIONS s
