use Rattle.cube_shape.proofs.FallingLemmas.{IsFull-of, IsHeld-of_full, ServesFalling-lawful, ServesFalling-wide}
use Rattle.cube_shape.proofs.falling.falling_widths_never_fragment.Goals as goal

pub returns-clause-full : goal.returns-clause-full
returns-clause-full c = IsFull-of

pub returns-clause-refusal : goal.returns-clause-refusal
returns-clause-refusal c = λ n k held serves.
    IsFull-of n k held (ServesFalling-lawful n k held serves) (ServesFalling-wide n k held serves)

pub returns-clause-held : goal.returns-clause-held
returns-clause-held c = IsHeld-of_full

pub returns-clause-lawful : goal.returns-clause-lawful
returns-clause-lawful c = ServesFalling-lawful
