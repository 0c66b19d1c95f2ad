use Rattle.std.proofs.Common.{◌≡◌, ◌≤◌, ◌-◌, ◌∷◌, [], ◌++◌, List, ℕ, length, take, subst, sym, ap, ◌∙◌, append_assoc, rules}
use Rattle.jobs_csv.specs.Inner.Output.{fields_in}
use Rattle.jobs_csv.specs.Text.{line_of}
use Rattle.jobs_csv.proofs.EndedLemmas.{line_fed}
use Rattle.jobs_csv.proofs.row.RowFields.append_to.Goals as goal

pub returns : goal.returns
returns c =
    let bytes = c.self.inside.line.items in
    let same : c.args.self.now ≡ fields_in bytes = search rules in
    let some : 1 ≤ length (fields_in bytes) = subst (λ (f : List (List ℕ)). 1 ≤ length f) same c.requires in
    let front : c.extend_from_slice.new.self.items ≡ c.args.text.now.items ++ take (length bytes - 1) bytes = search rules in
    let all : c.push.new.self.items ≡ c.extend_from_slice.new.self.items ++ 10 ∷ [] = search rules in
    all
    ∙ ap (λ (l : List ℕ). l ++ 10 ∷ []) front
    ∙ append_assoc c.args.text.now.items (take (length bytes - 1) bytes) (10 ∷ [])
    ∙ ap (λ (l : List ℕ). c.args.text.now.items ++ l) (line_fed bytes some c.self.invariant ∙ ap line_of (sym same))
