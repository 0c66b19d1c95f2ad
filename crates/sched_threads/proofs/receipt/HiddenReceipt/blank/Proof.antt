-- A blank token owns nothing.
use Rattle.std.proofs.Common.{◌≡◌, [], ◌∷◌, refl}
use mir.Val.{Val}
use base.Logic.{SProp, emp}
use types.Kit.{‵, raw, ◌⊛◌, ◌$◌, ◌∵◌, !, qed, by, keep, split, fjoin, use0}
use types.Run.{no_more, and_then, returns, enter}
use types.ByLocal.{alloc_all, pass_all, free_all, look_at, get, sets}
use types.Part.{agg}
use contract.Running.{tables}
use denote.RattleType.{owns}
use denote.Signature.{types_at}
use denote.Steps.{nothing}
use denote.Triple.Entry.{alive}
use denote.Triple.Walked.{Stays, walk_of}
use contract.Monad.{fact, fact_i}
use Rattle.std.proofs.raw_atomic.Walks.{proved, leaves}
use Rattle.sched_threads.proofs.ReceiptFields.{bare_val, Bare, bare_made}
use Rattle.sched_threads.specs.contracts.receipt.HiddenReceipt.{the_row as R}
use Rattle.sched_threads.specs.contracts.receipt.HiddenReceipt.blank as f
use Rattle.sched_threads.proofs.receipt.HiddenReceipt.blank.Statement.{statement}
use Rattle.sched_threads.proofs.receipt.HiddenReceipt.blank.Code as code

pub blank_spec : {M : Type 1} → statement M
blank_spec 𝓤 𝓛 𝓜 𝓡 wired =
    let H = 𝓛.H in let 𝓣 = tables 𝓤 H 𝓜 𝓡 𝓡.env in let c = f.clauses 𝓛 𝓜.mem 𝓡.returns in
    let hs : Stays f.ended.signature.params f.ended.kept = tt in
    proved 𝓛 f.ended hs c 𝓜 𝓡 tt f.Key.name code.function (code.unfolded 𝓤 H 𝓜 𝓡 wired) (λ κs. tt) (λ κs. tt) (λ κs qs bounds a gh are.
    let r : R.Denot = record { seal = record {}; table_id = record { words = 0; slots = 0; views_name = 0; atom = 0; block = 0; offset = 0; slot_names = [] }; id = 0; views = [] } in
    let Told : Type 0 = r.views ≡ [] in let y : (walk_of 𝓛 f.ended hs c).Ghost = ((κs, qs, bounds, a, tt), gh) in let Post : Val → SProp 𝓤 = (walk_of 𝓛 f.ended hs c).post y in
    qed 𝓛 ((raw (alive 𝓛 f.ended.signature κs qs) ⊛ ‵ (owns (types_at f.ended.signature.params κs) a y.0.4)) ∷ raw ((c κs a).requires gh) ∷ []) ∵
    split ! $ keep ! (0 ∷ []) $ nothing ! $ use0 𝓛 (‵ (Bare.own_val (tt, tt) (bare_val ∷ []))) (bare_made 𝓛) $ fjoin ! $
    enter ! 𝓣.C 𝓣.Λ code.function [] Post $ alloc_all ! (λ l. pass_all ! refl tt $
    sets ! (agg ! (no_more !)) refl (tt, tt) $ sets ! (agg ! (and_then ! (get ! refl) (no_more !))) refl (tt, (tt, tt)) $
    use0 𝓛 (raw (fact 𝓤 Told)) (fact_i 𝓤 Told (emp 𝓤) refl) $ nothing ! $
    returns ! (look_at ! 0 refl) $ free_all ! refl $ keep ! (3 ∷ 0 ∷ 2 ∷ 1 ∷ []) $ by ! (leaves 𝓛 f.ended hs c y bare_val r tt tt)))
