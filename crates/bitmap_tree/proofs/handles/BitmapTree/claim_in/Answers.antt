use Rattle.std.proofs.Common.{◌∷◌, ◌∙◌, ap, bit_or, subst, sym}
use Rattle.bitmap_tree.specs.Layout.{Known}
use Rattle.bitmap_tree.specs.InnerSteps.{note}
use Rattle.bitmap_tree.specs.Handles.{dim_of}
use Rattle.bitmap_tree.specs.Trail.{WasClaimed}
use Rattle.bitmap_tree.proofs.AloneLemmas.{exchange_right}
use Rattle.bitmap_tree.proofs.BlockLemmas.{claimed_run}
use Rattle.bitmap_tree.proofs.MaskLemmas.{claims_in}
use Rattle.bitmap_tree.proofs.SweepLemmas.{exchange_steps}
use Rattle.bitmap_tree.proofs.handles.BitmapTree.claim_in.Goals as goal

pub claim-requires-clause-changes : goal.claim-requires-clause-changes
claim-requires-clause-changes c = claims_in c.args.word c.args.offset c.args.k c.args.found c.mask_of.result _ c.requires.may.blank.0 c.requires.dim c.requires.may.blank.1.0 c.mask_of.ensures c.requires.within c.requires.clear

pub returns-clause-claimed : goal.returns-clause-claimed
returns-clause-claimed c = λ won. claimed_run c.args.word c.args.offset c.args.k c.args.found c.mask_of.result c.args.seat.now.me.0.trail c.claim.new.seat.me.0.trail
    (ap (λ (m : Known). m.0.trail) (c.claim.ensures.won won) ∙ ap (λ x. note c.args.word x (bit_or c.args.found c.mask_of.result) ∷ c.args.seat.now.me.0.trail) won)
    c.mask_of.ensures c.requires.within c.requires.clear

pub returns-clause-steps : goal.returns-clause-steps
returns-clause-steps c = exchange_steps c.args.seat.now.me c.claim.new.seat.me c.args.word c.claim.result c.args.found _ _ _ c.claim.ensures.won c.claim.ensures.lost

pub returns-clause-right : goal.returns-clause-right
returns-clause-right c = λ r aligned is. exchange_right (dim_of c.args.self.now) r c.args.seat.now.me c.claim.new.seat.me c.args.word c.claim.result c.args.found _ _ _ aligned c.claim.ensures.won c.claim.ensures.lost
    (λ won. subst (λ z. WasClaimed z c.claim.new.seat.me.0.trail) (sym is) (claimed_run c.args.word c.args.offset c.args.k c.args.found c.mask_of.result c.args.seat.now.me.0.trail c.claim.new.seat.me.0.trail
    (ap (λ (m : Known). m.0.trail) (c.claim.ensures.won won) ∙ ap (λ x. note c.args.word x (bit_or c.args.found c.mask_of.result) ∷ c.args.seat.now.me.0.trail) won)
    c.mask_of.ensures c.requires.within c.requires.clear))
