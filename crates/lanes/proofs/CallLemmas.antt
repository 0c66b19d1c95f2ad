-- What calls leave as it was.
use Rattle.std.proofs.Common.{◌≡◌, ℕ, List, ap, ◌∙◌}
use Rattle.std.proofs.lemmas.List.{set-set}
use Rattle.lanes.specs.declared.record.TakeRecord.{TakeRecord}
use Rattle.lanes.specs.declared.record.WorkerRecord.{WorkerRecord}
use Rattle.lanes.specs.Record.{take_of, with_take}
use Rattle.lanes.specs.Lanes.{ChangesOnly}

-- two steps in one lane
pub only_again : (lane : ℕ) (a b c : WorkerRecord)
    → ChangesOnly lane a b
    → ChangesOnly lane b c
    → ChangesOnly lane a c
only_again lane a b c first second =
    let y = take_of lane c in
    let twice : with_take lane y (with_take lane (take_of lane b) a) ≡ with_take lane y a = ap (λ (ts : List TakeRecord). record a { lanes = ts }) (set-set a.lanes lane (take_of lane b) y) in
    second ∙ (ap (with_take lane y) first ∙ twice)
