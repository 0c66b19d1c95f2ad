-- A rank's partner in a round is its neighbour across the bit of the round.
use Rattle.std.proofs.Common.{sym, subst}
use Rattle.std.proofs.lemmas.Option.{IfSome_then}
use Rattle.collectives.specs.Messages.{IsAlongAnEdge, IsMessage}
use Rattle.collectives.specs.Steps.{IsListed, message}
use Rattle.collectives.proofs.StepLemmas.{IsAlongAnEdge-of, IsListed-of, IsListed-to, IsListed-from, IsAlongAnEdge-back}
use Rattle.collectives.proofs.partners.step.Goals as goal

pub returns-clause-sends : goal.returns-clause-sends
returns-clause-sends c =
    let a = c.args in
    let partner = c.neighbour-partner.result in
    let along = IsAlongAnEdge-of a.k a.round a.rank partner c.requires.round c.requires.rank c.neighbour-partner.ensures.neighbours in
    λ to. (
      λ is.
          let both = (c.partner_if.ensures.found to).0 is in
          subst (λ x. IsListed a.shape a.k a.root (message a.round a.rank x)) (sym both.1)
          (IsListed-of a.shape a.k a.root (message a.round a.rank partner) ((c.is_sent.ensures a.k along).0 both.0)),
      λ listed.
          let same = IsListed-to a.shape a.k a.root a.round a.rank to partner c.requires.root c.neighbour-partner.ensures.neighbours listed in
          let is = subst (λ x. IsMessage a.shape a.k a.root (message a.round a.rank x)) same listed.1.1 in
          (c.partner_if.ensures.found to).1 ((c.is_sent.ensures a.k along).1 is, same),
    )

pub returns-clause-receives : goal.returns-clause-receives
returns-clause-receives c =
    let a = c.args in
    let partner = c.neighbour-partner.result in
    let along = IsAlongAnEdge-back a.k a.round a.rank partner c.requires.round c.requires.rank c.neighbour-partner.ensures.neighbours in
    λ from. (
      λ is.
          let both = (c.partner_if-2.ensures.found from).0 is in
          subst (λ x. IsListed a.shape a.k a.root (message a.round x a.rank)) (sym both.1)
          (IsListed-of a.shape a.k a.root (message a.round partner a.rank) ((c.is_sent-2.ensures a.k along).0 both.0)),
      λ listed.
          let same = IsListed-from a.shape a.k a.root a.round from a.rank partner c.requires.root c.neighbour-partner.ensures.neighbours listed in
          let is = subst (λ x. IsMessage a.shape a.k a.root (message a.round x a.rank)) same listed.1.1 in
          (c.partner_if-2.ensures.found from).1 ((c.is_sent-2.ensures a.k along).1 is, same),
    )

pub returns-clause-to_edge : goal.returns-clause-to_edge
returns-clause-to_edge c =
    let a = c.args in
    let along = IsAlongAnEdge-of a.k a.round a.rank c.neighbour-partner.result c.requires.round c.requires.rank c.neighbour-partner.ensures.neighbours in
    IfSome_then c.partner_if.result c.partner_if.ensures.only (λ to is. subst (λ x. IsAlongAnEdge a.k (message a.round a.rank x)) (sym is) along)

pub returns-clause-from_edge : goal.returns-clause-from_edge
returns-clause-from_edge c =
    let a = c.args in
    let along = IsAlongAnEdge-back a.k a.round a.rank c.neighbour-partner.result c.requires.round c.requires.rank c.neighbour-partner.ensures.neighbours in
    IfSome_then c.partner_if-2.result c.partner_if-2.ensures.only (λ from is. subst (λ x. IsAlongAnEdge a.k (message a.round x a.rank)) (sym is) along)
