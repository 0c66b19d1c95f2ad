-- `lodge` hands the words to std's `lodge`, as room for the values. Assumes `Logic`.
use Rattle.std.proofs.Common.{◌≡◌, ◌*◌, ◌^◌, ◌<◌, ◌≤◌, Bool, List, [], ◌∷◌, ◌++◌, refl, sym, ap, subst, ◌∙◌, arith, w64, Vec}
use mir.Syntax.{Ty, Fn, ty_array}
use mir.MapTy.{inst_fn}
use mir.Val.{Val, vint, has_ty, WT}
use base.Logic.{SProp, emp, id⊢, never}
use base.Fml.{ftrue, flft}
use lib.Dec.{T}
use prog.Wp.{Env, WpFn}
use contract.BorrowLft.{◌⊑◌}
use contract.Monad.{fact, fact_i}
use contract.Running.{tables}
use types.Kit.{‵, raw, ◌⊛◌, some, later, given, prop, at_ret, ◌$◌, ◌∵◌, !, qed, by, move, drop, keep, use0, use1, use2, split, join, pick, learn, rewrite, regoal, fsplit, fjoin, await}
use types.Part.{whole, sub}
use types.Run.{stop, fld, lit, of_opd, no_more, and_then, first, blocks, exec, returns, enter}
use types.ByLocal.{alloc_all, pass_all, free_all, look_at, get, get_in, sets, lands_last, env}
use denote.RattleType.{owns}
use denote.RawPtr.{Ptr, block_ptr, room_for, in_a_block}
use denote.Signature.{types_at}
use denote.Steps.{nothing, heard, only}
use denote.Triple.Call.{calls_at_last}
use denote.Triple.Walked.{Stays, stay_dropped, walk_of, Goes-dropped}
use Rattle.core.proofs.alloc.Calls.{Goes-blank}
use Rattle.core.proofs.alloc.Shapes.{after}
use Rattle.core.proofs.atomic.Steps.{fm}
use Rattle.std_alloc.specs.Vec.Ownership.{owns_if}
use Rattle.std_alloc.specs.declared.vec.lodged.Lodged.{Lodged}
use Rattle.std_alloc.proofs.OfLodged.{lodging}
use Rattle.std_alloc.proofs.VecSteps.El.{El, elτ, el_x, R, Vr, sz, args₁, vec_ty, vec_typed}
use Rattle.std_alloc.proofs.VecSteps.Opens.{is_live, vec_had, vec_made}
use Rattle.std_alloc.proofs.vec.lodge.Met as callee
use Rattle.std.proofs.raw_atomic.Walks.{proved_at, leaves}
use Rattle.fixed_vec.proofs.Values.{slot_at, sized_val, sized_told}
use Rattle.fixed_vec.proofs.Words.{holds}
use Rattle.fixed_vec.proofs.Lodges.{Lodges, at_lodge, IsLodged, lodge_goes, lodge_gives}
use Rattle.fixed_vec.specs.Words.{words_of, FitsWords}
use Rattle.fixed_vec.specs.contracts.chunk.Chunk.lodge as F
use Rattle.fixed_vec.specs.contracts.chunk.Chunk.lodge.Key.{name as #self}
use Rattle.fixed_vec.proofs.chunk.Chunk.lodge.Statement.{statement}
use Rattle.fixed_vec.proofs.chunk.Chunk.lodge.Code as compiled

pub lodge_spec : {M : Type 1} → statement M
lodge_spec 𝓤 𝓛 𝓜 𝓡 wired Y L =
    let H = 𝓛.H in
    let E : El = lodging Y L in
    let En₀ = F.ended Y in
    let c = F.clauses Y 𝓛 𝓜.mem 𝓡.returns in
    let fn : Fn = inst_fn (args₁ E) compiled.function in
    let stays : Stays En₀.signature.params En₀.kept = (stay_dropped (slot_at 0 En₀.signature.params) En₀.kept.0, (stay_dropped (slot_at 1 En₀.signature.params) En₀.kept.1.0, tt)) in
    let C = (tables 𝓤 H 𝓜 𝓡 𝓡.env).C in
    let Λ = (tables 𝓤 H 𝓜 𝓡 𝓡.env).Λ in
    proved_at 𝓛 En₀ stays c 𝓜 𝓡 (Goes-blank 𝓛 1 (slot_at 0 En₀.signature.params) En₀.kept.0 (λ κs x f. tt), (Goes-dropped 𝓛 1 (slot_at 1 En₀.signature.params) En₀.kept.1.0 (λ κs x f. refl), tt)) (#self (args₁ E)) fn (compiled.unfolded 𝓤 H 𝓜 𝓡 wired (Y, tt)) (λ z are.
    let Post : Val → SProp 𝓤 = (walk_of 𝓛 En₀ stays c).post z in
    let κ = z.0.0.0 in
    let q = z.0.1.0 in
    let a = z.0.3 in
    let vss = z.0.4 in
    let x = a.0 in
    let n = x.words in
    let m = a.1.0 in
    let told = sized_told x.at n vss.0 are.0.0 in
    let small = x.small in
    qed 𝓛 (((‵ (flft κ q) ⊛ ‵ ftrue) ⊛ ‵ (owns (types_at En₀.signature.params z.0.0) a vss)) ∷ (raw (fact 𝓤 (κ ⊑ Y.lives)) ⊛ raw (fact 𝓤 (0 < m)) ⊛ raw (fact 𝓤 (m < 2 ^ 63)) ⊛ raw (fact 𝓤 (0 < n)) ⊛ raw (fact 𝓤 (FitsWords (R E) m n))) ∷ []) ∵ move ! (1 ∷ []) $ split ! $ heard ! (κ ⊑ Y.lives) (λ le. split ! $ heard ! (0 < m) (λ some_values. split ! $ heard ! (m < 2 ^ 63) (λ few. split ! $ heard ! (0 < n) (λ pos. heard ! (FitsWords (R E) m n) (λ fits.
    split ! $ split ! $ move ! (2 ∷ []) $ fsplit ! $ fsplit ! $ drop ! $ keep ! (0 ∷ 2 ∷ []) $
    let fit : m * sz E ≤ n * 8 = fits.size in
    rewrite ! 0 (λ (y : Bool). ‵ (owns_if y (room_for (words_of n) x.at))) (is_live n pos) refl $
    in_a_block ! x.at (λ p. room_for (words_of n) p) (id⊢ 𝓤 (never 𝓤)) (λ b o at.
    let τ : Ty = ty_array (elτ E) m in
    let y = at_lodge Y L 𝓛 𝓜.mem 𝓡.returns κ q b o m in
    use1 𝓛 (raw (H.room τ b o)) (holds 𝓛 b τ o n fit fits.aligned) $
    use2 𝓛 (raw ((Lodges Y L 𝓛 𝓜.mem 𝓡.returns).pre y)) (lodge_goes Y L 𝓛 𝓜.mem 𝓡.returns κ q b o m le some_values few (omega arith)) $
    regoal ! (λ (us : List Val). prop (WpFn 𝓤 H C Λ fn us Post)) (λ i. (told.0 ∙ ap (λ (p : Ptr). sized_val p n ∷ []) at) i ++ (are.1.0.0 i ++ [])) refl $
    enter ! C Λ fn (sized_val (block_ptr b o) n ∷ vint w64 m ∷ []) Post $
    alloc_all ! (λ l. pass_all ! refl ((tt, (tt, (record { fits = told.1 }, tt))), ((tt, record { fits = are.1.0.1 }), tt)) $ let En : Env 𝓤 𝓛.H = env fn.locals l in
    sets ! (of_opd ! (get_in ! (fld ! refl (stop !)) (sub ! 0 refl (whole !)))) refl (tt, tt) $
    first ! $ blocks ! $
    sets ! (of_opd ! (get ! refl)) refl (tt, tt) $
    calls_at_last ! (fm 𝓛 𝓜 𝓡) (Lodges Y L 𝓛 𝓜.mem 𝓡.returns) (callee.met 𝓤 𝓛 𝓜 𝓡 (compiled.calls-std_alloc::vec::lodge 𝓡.env wired) Y L) y (and_then ! (get ! refl) (and_then ! (lit ! tt) (and_then ! (get ! refl) (no_more !)))) (λ v.
    use1 𝓛 (later (some (λ (r : Vec (el_x E) Lodged). given (IsLodged Y L 𝓛 𝓜.mem 𝓡.returns κ q b o m r) (‵ ((Vr E).own_val r (v ∷ [])) ⊛ ‵ (flft κ q))))) (lodge_gives Y L 𝓛 𝓜.mem 𝓡.returns κ q b o m v) $
    await ! tt $ pick ! (λ r. learn ! (λ is. split ! $ vec_had E ! r (v ∷ []) (λ b' o' hv e ws fl fc fit' fa.
    vec_made E ! r b' o' r.len r.cap r.items (e, refl, refl, refl) fl fc fit' $
    rewrite ! 0 (λ (us : List Val). ‵ ((Vr E).own_val r us)) (sym ws) refl $
    let typed : T (has_ty (vec_ty E) v) × WT v = subst (λ (s : Val). T (has_ty (vec_ty E) s) × WT s) (sym (ap only ws)) (vec_typed E hv b' o' r.len r.cap fa fl fc) in
    lands_last ! refl typed $
    exec ! C Λ En (after 2 fn.body) (at_ret En Post) $
    sets ! (of_opd ! (get ! refl)) refl typed $
    returns ! (look_at ! 0 refl) $ free_all ! refl $
    use0 𝓛 (raw (fact 𝓤 (r.cap ≡ m))) (fact_i 𝓤 (r.cap ≡ m) (emp 𝓤) is.2) $ use0 𝓛 (raw (fact 𝓤 (r.items ≡ []))) (fact_i 𝓤 (r.items ≡ []) (emp 𝓤) is.0) $ join ! $ nothing ! $ nothing ! $ fjoin ! $ nothing ! $ fjoin ! $ nothing ! $ move ! (4 ∷ 0 ∷ []) $ join ! $ move ! (0 ∷ 1 ∷ 3 ∷ 2 ∷ []) $
    by ! (leaves 𝓛 En₀ stays c z v r (tt, (tt, tt)) (tt, (tt, tt)))))))))))))))
