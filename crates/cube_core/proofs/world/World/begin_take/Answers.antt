-- The state becomes what the act makes of it, since the act is not refused.
use Rattle.std.proofs.Common.{sym, ◌∙◌, ap, subst, refl}
use Rattle.cube_shape.specs.Node.{IsInCube}
use Rattle.cube_core.specs.declared.phase.Phase.TheVariants.{Looking}
use Rattle.cube_core.specs.declared.act.Act.TheVariants.{Take}
use Rattle.cube_core.specs.Schedule.{State}
use Rattle.cube_core.proofs.WorldLemmas.{take_accepted, apply_begin_by, take_count, IsWorld-apply, IsWorld-lawful, IsWorld-of}
use Rattle.cube_core.proofs.world.World.begin_take.Goals as goal

pub invariant_of-self : goal.invariant_of-self
invariant_of-self c =
    let in_cube = subst (λ n. IsInCube n c.args.node) (ap (λ (w : State). w.dim) c.self.view_is) (c.if-is_in.ensures.0 refl) in
    let none = take_accepted c.args.station c.args.node c.args.self.now c.in_ok-find.ensures.found.1 (sym c.in-Idle.is ∙ c.in_ok-find.ensures.found.0) in_cube in
    IsWorld-apply (Take c.args.station c.args.node) c.args.self.now _ (IsWorld-of c.self.view_is c.self.invariant)
    (apply_begin_by (Take c.args.station c.args.node) c.args.station (Looking c.args.node) c.self.inside.dim c.self.inside.words.items c.self.inside.phases.items c.args.self.now c.self.view_is none refl)

pub returns-in-Idle-clause-world : goal.returns-in-Idle-clause-world
returns-in-Idle-clause-world c =
    let in_cube = subst (λ n. IsInCube n c.args.node) (ap (λ (w : State). w.dim) c.self.view_is) (c.if-is_in.ensures.0 refl) in
    let none = take_accepted c.args.station c.args.node c.args.self.now c.in_ok-find.ensures.found.1 (sym c.in-Idle.is ∙ c.in_ok-find.ensures.found.0) in_cube in
    apply_begin_by (Take c.args.station c.args.node) c.args.station (Looking c.args.node) c.self.inside.dim c.self.inside.words.items c.self.inside.phases.items c.args.self.now c.self.view_is none refl

pub returns-in-Idle-clause-count : goal.returns-in-Idle-clause-count
returns-in-Idle-clause-count c =
    let in_cube = subst (λ n. IsInCube n c.args.node) (ap (λ (w : State). w.dim) c.self.view_is) (c.if-is_in.ensures.0 refl) in
    let none = take_accepted c.args.station c.args.node c.args.self.now c.in_ok-find.ensures.found.1 (sym c.in-Idle.is ∙ c.in_ok-find.ensures.found.0) in_cube in
    take_count c.args.station c.args.node c.args.self.now _ (IsWorld-of c.self.view_is c.self.invariant) none
    (apply_begin_by (Take c.args.station c.args.node) c.args.station (Looking c.args.node) c.self.inside.dim c.self.inside.words.items c.self.inside.phases.items c.args.self.now c.self.view_is none refl)

pub returns-in_err-find-clause-lawful : goal.returns-in_err-find-clause-lawful
returns-in_err-find-clause-lawful c = IsWorld-lawful c.args.self.now (IsWorld-of c.self.view_is c.self.invariant)

pub returns-in-Idle-2-clause-lawful : goal.returns-in-Idle-2-clause-lawful
returns-in-Idle-2-clause-lawful c = IsWorld-lawful c.args.self.now (IsWorld-of c.self.view_is c.self.invariant)

pub returns-in_default-clause-lawful : goal.returns-in_default-clause-lawful
returns-in_default-clause-lawful c = IsWorld-lawful c.args.self.now (IsWorld-of c.self.view_is c.self.invariant)

pub returns-in-Idle-clause-lawful : goal.returns-in-Idle-clause-lawful
returns-in-Idle-clause-lawful c =
    let in_cube = subst (λ n. IsInCube n c.args.node) (ap (λ (w : State). w.dim) c.self.view_is) (c.if-is_in.ensures.0 refl) in
    let none = take_accepted c.args.station c.args.node c.args.self.now c.in_ok-find.ensures.found.1 (sym c.in-Idle.is ∙ c.in_ok-find.ensures.found.0) in_cube in
    IsWorld-lawful _ (IsWorld-apply (Take c.args.station c.args.node) c.args.self.now _ (IsWorld-of c.self.view_is c.self.invariant)
    (apply_begin_by (Take c.args.station c.args.node) c.args.station (Looking c.args.node) c.self.inside.dim c.self.inside.words.items c.self.inside.phases.items c.args.self.now c.self.view_is none refl))
