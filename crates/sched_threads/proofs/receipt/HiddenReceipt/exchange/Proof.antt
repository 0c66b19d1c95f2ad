-- What the two own changes hands, and no machine value changes.
use Rattle.std.proofs.Common.{◌≡◌, [], ◌∷◌, ◌++◌, List, refl}
use mir.Val.{Val, vstruct, of_list}
use base.Logic.{SProp, emp}
use base.Fml.{fsep, feq}
use types.Kit.{‵, raw, ◌⊛◌, ◌$◌, ◌∵◌, !, qed, by, keep, move, split, fsplit, fjoin, fjoin3, fpack, feq_i, use0}
use types.Run.{of_opd, no_more, and_then, returns, enter}
use types.ByLocal.{alloc_all, pass_all, free_all, look_at, get, sets}
use types.Part.{agg}
use contract.Running.{tables}
use denote.Exit.{yes}
use denote.RattleType.{RattleType, owns, Valss}
use denote.Signature.{types_at, plain}
use denote.Steps.{nothing}
use denote.Triple.Entry.{alive}
use denote.Triple.Walked.{Stays, walk_of, stay_dropped, Goes-dropped}
use contract.Monad.{fact, fact_i}
use Rattle.std.proofs.raw_atomic.Walks.{proved, leaves}
use Rattle.atomic_table.specs.contracts.badge.Badge as badge
use Rattle.atomic_table.proofs.Fields.{token_val, pair_of, Pin, pin_told, pin_made}
use Rattle.sched_threads.proofs.ReceiptFields.{bare_val, Bare, bare_told, bare_made}
use Rattle.sched_threads.specs.contracts.view.View.{the_row as V}
use Rattle.sched_threads.specs.contracts.receipt.HiddenReceipt.{the_row as R}
use Rattle.sched_threads.specs.contracts.receipt.HiddenReceipt.exchange as f
use Rattle.sched_threads.proofs.receipt.HiddenReceipt.exchange.Statement.{statement}
use Rattle.sched_threads.proofs.receipt.HiddenReceipt.exchange.Code as code

pub exchange_spec : {M : Type 1} → statement M
exchange_spec 𝓤 𝓛 𝓜 𝓡 wired =
    let H = 𝓛.H in let 𝓣 = tables 𝓤 H 𝓜 𝓡 𝓡.env in let c = f.clauses 𝓛 𝓜.mem 𝓡.returns in
    let B : RattleType = badge.the_row V in
    let hs : Stays f.ended.signature.params f.ended.kept = (stay_dropped (plain (λ _. R)) yes, (stay_dropped (plain (λ _. B)) yes, tt)) in
    proved 𝓛 f.ended hs c 𝓜 𝓡 (Goes-dropped 𝓛 0 (plain (λ _. R)) yes (λ κs x f. refl), (Goes-dropped 𝓛 0 (plain (λ _. B)) yes (λ κs x f. refl), tt)) f.Key.name code.function (code.unfolded 𝓤 H 𝓜 𝓡 wired)
    (λ κs. ((λ _. bare_val ∷ []), ((λ _. token_val ∷ []), tt))) (λ κs. ((λ x vs so. bare_told vs so.0), ((λ x vs so. pin_told V vs so.0), tt))) (λ κs qs bounds a gh are.
    let t : R.Denot = a.0 in let b : B.Denot = a.1.0 in
    let r₀ : R.Denot = record { seal = record {}; table_id = b.table_id; id = b.id; views = b.views } in
    let r₁ : B.Denot = record { marker = record {}; table_id = t.table_id; id = t.id; views = t.views } in
    let Told : Type 0 = (b.table_id ≡ b.table_id) × (b.id ≡ b.id) × (b.views ≡ b.views) × (t.table_id ≡ t.table_id) × (t.id ≡ t.id) × (t.views ≡ t.views) in
    let u : Val = pair_of bare_val token_val in
    let y : (walk_of 𝓛 f.ended hs c).Ghost = ((κs, qs, bounds, a, (bare_val ∷ [], (token_val ∷ [], tt))), gh) in let Post : Val → SProp 𝓤 = (walk_of 𝓛 f.ended hs c).post y in
    qed 𝓛 ((raw (alive 𝓛 f.ended.signature κs qs) ⊛ ‵ (owns (types_at f.ended.signature.params κs) a y.0.4)) ∷ raw ((c κs a).requires gh) ∷ []) ∵
    split ! $ move ! (1 ∷ []) $ fsplit ! $ fsplit ! $ move ! (2 ∷ []) $ fsplit ! $ fsplit ! $ keep ! (4 ∷ 1 ∷ 5 ∷ []) $
    use0 𝓛 (‵ ((Pin V).own_val (tt, tt) (token_val ∷ []))) (pin_made V 𝓛) $ fjoin ! $ move ! (1 ∷ []) $
    use0 𝓛 (‵ (Bare.own_val (tt, tt) (bare_val ∷ []))) (bare_made 𝓛) $ fjoin ! $ nothing ! $ move ! (1 ∷ 2 ∷ 0 ∷ []) $ fjoin3 ! $ feq_i ! (List Val) (u ∷ []) (u ∷ []) refl $ fjoin ! $
    fpack ! (Valss (R ∷ B ∷ [])) (λ vss. fsep (feq (List Val) (u ∷ []) (vstruct (of_list (vss.0 ++ (vss.1.0 ++ []))) ∷ [])) (owns (R ∷ B ∷ []) (r₀, (r₁, tt)) vss)) (bare_val ∷ [], (token_val ∷ [], tt)) $
    enter ! 𝓣.C 𝓣.Λ code.function (bare_val ∷ token_val ∷ []) Post $ alloc_all ! (λ l. pass_all ! refl ((tt, (tt, tt)), ((tt, (tt, tt)), tt)) $
    sets ! (agg ! (no_more !)) refl (tt, tt) $ sets ! (agg ! (and_then ! (get ! refl) (no_more !))) refl (tt, (tt, tt)) $ sets ! (of_opd ! (get ! refl)) refl (tt, (tt, tt)) $
    sets ! (agg ! (and_then ! (get ! refl) (and_then ! (get ! refl) (no_more !)))) refl (tt, ((tt, tt), ((tt, tt), tt))) $
    use0 𝓛 (raw (fact 𝓤 Told)) (fact_i 𝓤 Told (emp 𝓤) (refl, refl, refl, refl, refl, refl)) $ nothing ! $ nothing ! $ fjoin ! $ nothing ! $ fjoin ! $
    returns ! (look_at ! 0 refl) $ free_all ! refl $ keep ! (3 ∷ 0 ∷ 2 ∷ 1 ∷ []) $ by ! (leaves 𝓛 f.ended hs c y u (r₀, r₁) (tt, (tt, tt)) (tt, (tt, tt)))))
