-- The machine value of a token, which has no bytes.
use Rattle.std.proofs.Common.{◌≡◌, [], ◌∷◌, ◌++◌, ◌∙◌, ap, refl, List}
use seplogic.Ra.Ura.{Ura}
use mir.Val.{Val, vstruct, vcons, vnil, of_list}
use base.Logic.{ent, emp}
use types.Logic.{Logic, sem}
use denote.RattleType.{RattleType}
use denote.Laws.{Is}
use denote.Shadow.{makes_shadow}
use denote.Struct.Struct.{Struct}
use denote.Struct.Owning.{shape}
use Rattle.sched_threads.specs.contracts.receipt.HiddenReceipt as hidden

abbrev pub bare_val : Val
bare_val = vstruct (vcons (vstruct vnil) vnil)

abbrev pub Bare : RattleType
Bare = Struct (shape hidden.the_type)

pub bare_told : (vs : List Val) → Is Bare (tt, tt) vs → vs ≡ bare_val ∷ []
bare_told vs is = is.1.0 ∙ ap (λ (ws : List Val). vstruct (of_list (ws ++ [])) ∷ []) is.1.1.0.1.0

pub bare_made : {M : Type 1} {𝓤 : Ura M} (𝓛 : Logic 𝓤) → ent 𝓤 (emp 𝓤) (sem 𝓛 (Bare.own_val (tt, tt) (bare_val ∷ [])))
bare_made 𝓛 = makes_shadow 𝓛 (Bare.own_val (tt, tt) (bare_val ∷ [])) (λ vss. (tt, ((λ uss. (tt, tt)), tt))) ((vstruct vnil ∷ [], tt), (refl, ((tt, (refl, tt)), tt)))
