-- The partners are those that `step` returns, of the shape that the number names.
use Rattle.std.proofs.Common.{◌≡◌, ℕ, ◌↔◌, Option, Some, sym, subst}
use Rattle.collectives.specs.declared.shape.Shape.{Shape}
use Rattle.collectives.specs.Steps.{IsListed, message}
use Rattle.cubejobs_rounds.specs.Rounds.{rank_in}
use Rattle.cubejobs_rounds.proofs.exports.cubejobs_step.Goals as goal

pub returns-clause-sends : goal.returns-clause-sends
returns-clause-sends c = λ done.
    let a = c.args in
    subst (λ (shape : Shape). (to : ℕ) → (rank_in c.number_of.result ≡ Some to) ↔ IsListed shape a.k a.root (message a.round a.rank to)) c.shape_at.ensures
    (subst (λ (partner : Option ℕ). (to : ℕ) → (partner ≡ Some to) ↔ IsListed c.shape_at.result a.k a.root (message a.round a.rank to)) (sym c.number_of.ensures)
    c.step-partners.ensures.sends)

pub returns-clause-receives : goal.returns-clause-receives
returns-clause-receives c = λ done.
    let a = c.args in
    subst (λ (shape : Shape). (from : ℕ) → (rank_in c.number_of-2.result ≡ Some from) ↔ IsListed shape a.k a.root (message a.round from a.rank)) c.shape_at.ensures
    (subst (λ (partner : Option ℕ). (from : ℕ) → (partner ≡ Some from) ↔ IsListed c.shape_at.result a.k a.root (message a.round from a.rank)) (sym c.number_of-2.ensures)
    c.step-partners.ensures.receives)
