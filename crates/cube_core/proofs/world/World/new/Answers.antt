use Rattle.std.proofs.Common.{[], sym, ◌∙◌, ap, subst, replicate, rules}
use Rattle.cube_core.specs.Law.{IsTreeLawful}
use Rattle.cube_core.proofs.ScheduleLemmas.{every_schedule}
use Rattle.cube_core.proofs.WorldLemmas.{made_initial}
use Rattle.cube_core.proofs.world.World.new.Goals as goal

pub invariant_of-result : goal.invariant_of-result
invariant_of-result c =
    (made_initial c.args.n c.args.stations c.requires.dim c.requires.stations c.in_ok-vec.field-0.items c.in_ok-vec-2.field-0.items
    (c.in_ok-vec.ensures.items_if_clones_equal (λ y clone. search rules) ∙ ap (λ count. replicate count 0) (search rules)) (c.in_ok-vec-2.ensures.items_if_clones_equal (λ y clone. search rules))).0

pub returns-clause-opened : goal.returns-clause-opened
returns-clause-opened c =
    (made_initial c.args.n c.args.stations c.requires.dim c.requires.stations c.in_ok-vec.field-0.items c.in_ok-vec-2.field-0.items
    (c.in_ok-vec.ensures.items_if_clones_equal (λ y clone. search rules) ∙ ap (λ count. replicate count 0) (search rules)) (c.in_ok-vec-2.ensures.items_if_clones_equal (λ y clone. search rules))).1

pub returns-clause-lawful : goal.returns-clause-lawful
returns-clause-lawful c =
    subst IsTreeLawful (sym (made_initial c.args.n c.args.stations c.requires.dim c.requires.stations c.in_ok-vec.field-0.items c.in_ok-vec-2.field-0.items
    (c.in_ok-vec.ensures.items_if_clones_equal (λ y clone. search rules) ∙ ap (λ count. replicate count 0) (search rules)) (c.in_ok-vec-2.ensures.items_if_clones_equal (λ y clone. search rules))).1)
    (every_schedule c.args.n c.args.stations [])
