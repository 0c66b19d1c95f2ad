-- `in_words` writes the content where the words are, as a box that needs no right to be freed.
use Rattle.std.proofs.Common.{◌≡◌, ◌*◌, ◌<◌, ◌≤◌, Bool, true, List, [], ◌∷◌, ◌++◌, refl, ap, ◌∙◌, arith, Some}
use mir.Syntax.{Fn}
use mir.Val.{Val}
use base.Fraction.{full_share}
use base.Logic.{SProp, emp, id⊢, never}
use base.Fml.{froom}
use prog.Memory.{size}
use prog.Wp.{Env, WpFn}
use contract.Monad.{fact, fact_i}
use contract.Running.{tables}
use types.Kit.{‵, raw, ◌⊛◌, prop, at_ret, ◌$◌, ◌∵◌, !, qed, by, move, keep, drop, use0, use1, use2, split, join, rewrite, regoal, fsplit, join, fjoin}
use types.Part.{whole, sub, agg}
use types.Run.{stop, fld, init, of_opd, no_more, and_then, assigns_last, first, blocks, exec, returns, enter}
use types.ByLocal.{alloc_all, pass_all, free_all, look_at, get, get_in, through, sets, env}
use denote.Exit.{rest}
use denote.RattleType.{owns}
use denote.Memory.{part_at}
use denote.RawPtr.{Ptr, block_ptr, room_for, in_a_block}
use denote.Signature.{types_at}
use denote.Steps.{nothing, heard}
use denote.Triple.Entry.{alive}
use denote.Triple.Walked.{Stays, stay_dropped, walk_of, Goes-dropped}
use Rattle.std.proofs.alloc.Calls.{Goes-blank, handle_tells}
use Rattle.std.proofs.raw_atomic.Walks.{proved_at, leaves}
use Rattle.std_alloc.specs.Vec.Ownership.{owns_if}
use Rattle.std_alloc.proofs.VecSteps.Opens.{is_live}
use Rattle.std_alloc.proofs.VecSteps.Shapes.{after}
use Rattle.std_alloc.proofs.BoxSteps.Form.{Bx, D, R, τ, word, box_typed}
use Rattle.std_alloc.proofs.BoxSteps.Steps.{el_in, el_tells, box_in}
use Rattle.fixed_vec.specs.Words.{FitsWords, words_of}
use Rattle.fixed_vec.proofs.Values.{slot_at, sized_val, sized_told}
use Rattle.fixed_vec.proofs.Words.{holds}
use Rattle.cubejobs_plan.proofs.AsBox.{boxed}
use Rattle.cubejobs_plan.specs.InnerOpaquePtr.{planner_row}
use Rattle.cubejobs_plan.specs.contracts.opaque_ptr.OpaquePtr.{the_row as To}
use Rattle.cubejobs_plan.specs.contracts.opaque_ptr.OpaquePtr.in_words as F
use Rattle.cubejobs_plan.specs.contracts.opaque_ptr.OpaquePtr.in_words.Key.{name as #self}
use Rattle.cubejobs_plan.proofs.opaque_ptr.OpaquePtr.in_words.Statement.{statement}
use Rattle.cubejobs_plan.proofs.opaque_ptr.OpaquePtr.in_words.Code as compiled

abbrev E : Bx
E = boxed true

pub in_words_spec : {M : Type 1} → statement M
in_words_spec 𝓤 𝓛 𝓜 𝓡 wired =
    let H = 𝓛.H in
    let En₀ = F.ended in
    let c = F.clauses 𝓛 𝓜.mem 𝓡.returns in
    let fn : Fn = compiled.function in
    let stays : Stays En₀.signature.params En₀.kept = (stay_dropped (slot_at 0 En₀.signature.params) En₀.kept.0, (stay_dropped (slot_at 1 En₀.signature.params) En₀.kept.1.0, (stay_dropped (slot_at 2 En₀.signature.params) En₀.kept.1.1.0, tt))) in
    let C = (tables 𝓤 H 𝓜 𝓡 𝓡.env).C in
    let Λ = (tables 𝓤 H 𝓜 𝓡 𝓡.env).Λ in
    proved_at 𝓛 En₀ stays c 𝓜 𝓡 (Goes-blank 𝓛 0 (slot_at 0 En₀.signature.params) En₀.kept.0 (λ κs x f. tt), (Goes-blank 𝓛 0 (slot_at 1 En₀.signature.params) En₀.kept.1.0 (λ κs x f. tt), (Goes-dropped 𝓛 0 (slot_at 2 En₀.signature.params) En₀.kept.1.1.0 (λ κs x f. refl), tt))) #self fn (compiled.unfolded 𝓤 H 𝓜 𝓡 wired) (λ z are.
    let Post : Val → SProp 𝓤 = (walk_of 𝓛 En₀ stays c).post z in
    let a = z.0.3 in
    let vss = z.0.4 in
    let chunk = a.0 in
    let n = chunk.words in
    let x = a.1.0 in
    let al = a.1.1.0 in
    let told = sized_told chunk.at n vss.0 are.0.0 in
    qed 𝓛 ((raw (alive 𝓛 En₀.signature z.0.0 z.0.1) ⊛ ‵ (owns (types_at En₀.signature.params z.0.0) a vss)) ∷ (raw (fact 𝓤 (0 < n)) ⊛ raw (fact 𝓤 (FitsWords planner_row 1 n))) ∷ []) ∵ move ! (1 ∷ []) $ split ! $ heard ! (0 < n) (λ pos. heard ! (FitsWords planner_row 1 n) (λ fits. split ! $
    move ! (1 ∷ []) $ fsplit ! $ fsplit ! $ drop ! $ move ! (1 ∷ []) $ fsplit ! $ el_tells E ! x vss.1.0 (λ v ev t. move ! (1 ∷ []) $ fsplit ! $ handle_tells E.al ! al vss.1.1.0 (λ hv eh fa. keep ! (3 ∷ 2 ∷ 0 ∷ 4 ∷ []) $
    let fit : 1 * size (τ E) ≤ n * 8 = fits.size in
    rewrite ! 0 (λ (y : Bool). ‵ (owns_if y (room_for (words_of n) chunk.at))) (is_live n pos) refl $
    in_a_block ! chunk.at (λ p. room_for (words_of n) p) (id⊢ 𝓤 (never 𝓤)) (λ b o at.
    use1 𝓛 (‵ (froom (τ E) b o)) (holds 𝓛 b (τ E) o n (omega (arith, fit)) fits.aligned) $
    regoal ! (λ (us : List Val). prop (WpFn 𝓤 H C Λ fn us Post)) (λ i. (told.0 ∙ ap (λ (p : Ptr). sized_val p n ∷ []) at) i ++ (ev i ++ (eh i ++ []))) refl $
    enter ! C Λ fn (sized_val (block_ptr b o) n ∷ v ∷ hv ∷ []) Post $
    alloc_all ! (λ l. pass_all ! refl ((tt, (tt, (record { fits = told.1 }, tt))), (t, (fa, tt))) $ let En : Env 𝓤 𝓛.H = env fn.locals l in
    sets ! (of_opd ! (get_in ! (fld ! refl (stop !)) (sub ! 0 refl (whole !)))) refl (tt, tt) $
    sets ! (of_opd ! (get ! refl)) refl (tt, tt) $
    first ! $ blocks ! $ sets ! (of_opd ! (get ! refl)) refl t $
    assigns_last ! (of_opd ! (get ! refl)) (through ! refl (stop !)) (init ! 0 refl t) $
    exec ! C Λ En (after 3 fn.body) (at_ret En Post) $
    sets ! (agg ! (and_then ! (get ! refl) (and_then ! (get ! refl) (no_more !)))) refl (box_typed E hv b o fa) $
    returns ! (look_at ! 0 refl) $ free_all ! refl $
    let d : D E = record { ptr = block_ptr b o; alloc = al; value = x } in
    let made : To.Denot = record { ptr = block_ptr b o; alloc = al; content = Some x; lent = true } in
    let w = word E hv b o in
    use2 𝓛 (‵ (part_at (R E) full_share x b o)) (el_in E 𝓛 x b o v) $ nothing ! $ move ! (1 ∷ 0 ∷ []) $ box_in E ! d b o x refl refl $
    use1 𝓛 (‵ (To.own_val made (w ∷ []))) (id⊢ 𝓤 _) $
    use0 𝓛 (raw (fact 𝓤 (true ≡ true))) (fact_i 𝓤 (true ≡ true) (emp 𝓤) refl) $ use0 𝓛 (raw (fact 𝓤 (Some x ≡ Some x))) (fact_i 𝓤 (Some x ≡ Some x) (emp 𝓤) refl) $ join ! $ nothing ! $ nothing ! $ fjoin ! $ nothing ! $ fjoin ! $ nothing ! $ fjoin ! $ move ! (3 ∷ 0 ∷ 2 ∷ 1 ∷ []) $
    by ! (leaves 𝓛 En₀ stays c z w made (tt, (rest (planner_row.exit En₀.kept.1.0) x, (tt, tt))) (tt, (tt, (tt, tt)))))))))))
