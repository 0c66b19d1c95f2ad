use Rattle.std.proofs.Common.{arith, List, [], ◌∷◌}
use Rattle.std.proofs.lemmas.List.Elements.{All-cons, All-nil}
use Rattle.collectives.specs.declared.operations.Affine.{Affine}
use Rattle.collectives.specs.Operations.{IsAffineValue, affine}
use Rattle.tests_files.proofs.tests.rounds.maps.Goals as goal

pub returns : goal.returns
returns c =
    let last : List Affine = affine 2 7 ∷ [] in
    let later : List Affine = affine 1 5 ∷ last in
    let rest : List Affine = affine 3 0 ∷ later in
    All-cons IsAffineValue (affine 2 1) rest (omega arith, omega arith)
    (All-cons IsAffineValue (affine 3 0) later (omega arith, omega arith)
    (All-cons IsAffineValue (affine 1 5) last (omega arith, omega arith)
    (All-cons IsAffineValue (affine 2 7) [] (omega arith, omega arith) (All-nil IsAffineValue))))
