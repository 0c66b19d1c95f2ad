use Rattle.std.proofs.Common.{◌∷◌, [], ap, refl, ◌∙◌, map}
use Rattle.std.proofs.lemmas.List.{map-append}
use Rattle.line_ruled.specs.Inner.Join.{reading_of}
use Rattle.line_ruled.proofs.job_line.RuledLineJobLine.take.Goals as goal

pub returns-in_default-clause-readings : goal.returns-in_default-clause-readings
returns-in_default-clause-readings g c = let t = c.in_default.ensures.reading in (reading_of t.0, ap (map reading_of) t.1 ∙ map-append reading_of _ (t.0 ∷ []), t.3 refl)

pub returns-in-Err-pop_at_last-clause-readings : goal.returns-in-Err-pop_at_last-clause-readings
returns-in-Err-pop_at_last-clause-readings g c = let t = c.in-Some.ensures.reading in (reading_of t.0, ap (map reading_of) t.1 ∙ map-append reading_of _ (t.0 ∷ []), t.2 refl)
