use Rattle.std.proofs.Common.{◌≡◌, List, ℕ, take, ap, ◌∙◌}
use Rattle.std.proofs.lemmas.List.{take_min}
use Rattle.std.proofs.lemmas.Result.{IfOk-weaker}
use Rattle.std.specs.Str.Lossy.{utf8_lossy}
use Rattle.jobs_csv.specs.declared.refusal_rows.TheConstants.{MAX_SHOWN}
use Rattle.jobs_csv.proofs.refusal_rows.shown.Goals as goal

pub returns : goal.returns
returns c =
    let bytes : List ℕ = c.in-Some.field.now in
    let same : take c.min-length.result bytes ≡ take MAX_SHOWN bytes = ap (λ (n : ℕ). take n bytes) c.min-length.ensures ∙ take_min MAX_SHOWN bytes in
    rw c.in-Some.is (IfOk-weaker c.from_utf8_lossy.result _ _ (λ text is. is ∙ ap utf8_lossy same) c.from_utf8_lossy.ensures.lossy)
