-- The roll has a word, and the state becomes what the act makes of it.
use Rattle.std.proofs.Common.{◌+◌, sym, ◌∙◌, subst, arith}
use Rattle.std.proofs.lemmas.Nat.{pow_pos}
use Rattle.cube_core.specs.declared.act.Act.TheVariants.{Retire}
use Rattle.cube_core.specs.Event.{retirement}
use Rattle.cube_core.specs.InnerEffect.{IsEffect}
use Rattle.cube_core.proofs.WorldLemmas.{word_there, retire_accepted, retired_by, IsWorld-apply, IsWorld-lawful, IsWorld-of}
use Rattle.cube_core.proofs.world.World.retire.Goals as goal

pub index_mut-requires : goal.index_mut-requires
index_mut-requires c =
    let there = word_there c.self.inside.dim c.self.inside.words.items c.self.inside.phases.items c.args.self.now 0 c.self.view_is (IsWorld-of c.self.view_is c.self.invariant) (pow_pos (c.args.self.now.dim + 1)) in
    omega (arith, there, c.self.inside.words.ok.0)

pub invariant_of-self : goal.invariant_of-self
invariant_of-self c =
    let none = retire_accepted c.args.station c.args.self.now c.in_ok-find.ensures.found.1 (sym c.in-Idle.is ∙ c.in_ok-find.ensures.found.0) in
    IsWorld-apply (Retire c.args.station) c.args.self.now _ (IsWorld-of c.self.view_is c.self.invariant)
    (retired_by c.args.station c.self.inside.dim c.self.inside.words.items c.self.inside.phases.items c.args.self.now c.retire-effect.result c.self.view_is none (subst (λ w. IsEffect (retirement c.args.station) w c.retire-effect.result) c.word.ensures c.retire-effect.ensures))

pub returns-clause-world : goal.returns-clause-world
returns-clause-world c =
    let none = retire_accepted c.args.station c.args.self.now c.in_ok-find.ensures.found.1 (sym c.in-Idle.is ∙ c.in_ok-find.ensures.found.0) in
    retired_by c.args.station c.self.inside.dim c.self.inside.words.items c.self.inside.phases.items c.args.self.now c.retire-effect.result c.self.view_is none (subst (λ w. IsEffect (retirement c.args.station) w c.retire-effect.result) c.word.ensures c.retire-effect.ensures)

pub returns-in_err-find-clause-lawful : goal.returns-in_err-find-clause-lawful
returns-in_err-find-clause-lawful c = IsWorld-lawful c.args.self.now (IsWorld-of c.self.view_is c.self.invariant)

pub returns-in_default-clause-lawful : goal.returns-in_default-clause-lawful
returns-in_default-clause-lawful c = IsWorld-lawful c.args.self.now (IsWorld-of c.self.view_is c.self.invariant)

pub returns-clause-lawful : goal.returns-clause-lawful
returns-clause-lawful c =
    let none = retire_accepted c.args.station c.args.self.now c.in_ok-find.ensures.found.1 (sym c.in-Idle.is ∙ c.in_ok-find.ensures.found.0) in
    IsWorld-lawful _ (IsWorld-apply (Retire c.args.station) c.args.self.now _ (IsWorld-of c.self.view_is c.self.invariant)
    (retired_by c.args.station c.self.inside.dim c.self.inside.words.items c.self.inside.phases.items c.args.self.now c.retire-effect.result c.self.view_is none (subst (λ w. IsEffect (retirement c.args.station) w c.retire-effect.result) c.word.ensures c.retire-effect.ensures)))
