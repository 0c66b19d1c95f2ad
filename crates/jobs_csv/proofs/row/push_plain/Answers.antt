use Rattle.std.proofs.Common.{◌≡◌, ◌∷◌, [], ◌++◌, List, ℕ, ap, ◌∙◌, append_assoc, rules}
use Rattle.jobs_csv.proofs.EndedLemmas.{field_pushed, more_ended, none_ended}
use Rattle.jobs_csv.proofs.row.push_plain.Goals as goal

pub returns-in_default-clause-has : goal.returns-in_default-clause-has
returns-in_default-clause-has c = rw c.clear.ensures.items none_ended

pub returns-clause-has : goal.returns-clause-has
returns-clause-has c =
    let text : c.extend_from_slice.new.self.items ≡ c.args.line.now.items ++ c.args.field.now = search rules in
    let all : c.push.new.self.items ≡ c.extend_from_slice.new.self.items ++ 44 ∷ [] = search rules in
    let line = all ∙ ap (λ (l : List ℕ). l ++ 44 ∷ []) text ∙ append_assoc c.args.line.now.items c.args.field.now (44 ∷ []) in
    rw line (more_ended c.args.line.now.items c.args.field.now c.requires.plain c.requires.had)

pub returns-clause-pushed : goal.returns-clause-pushed
returns-clause-pushed c =
    let text : c.extend_from_slice.new.self.items ≡ c.args.line.now.items ++ c.args.field.now = search rules in
    let all : c.push.new.self.items ≡ c.extend_from_slice.new.self.items ++ 44 ∷ [] = search rules in
    let line = all ∙ ap (λ (l : List ℕ). l ++ 44 ∷ []) text ∙ append_assoc c.args.line.now.items c.args.field.now (44 ∷ []) in
    rw line (field_pushed c.args.line.now.items c.args.field.now c.requires.plain c.requires.had)
