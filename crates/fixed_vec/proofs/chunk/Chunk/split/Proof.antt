-- `split` moves a pointer up, and cuts what the chunk owns. Assumes `Logic`.
use Rattle.std.proofs.Common.{◌≡◌, ◌+◌, ◌-◌, ◌*◌, ◌^◌, ◌<◌, ◌≤◌, Bool, List, [], ◌∷◌, ◌++◌, refl, ap, ◌∙◌, arith, w64}
use mir.Syntax.{Fn}
use mir.Val.{Val, vint, vptr}
use base.Logic.{SProp, emp, id⊢, never}
use prog.Wp.{Env, WpFn}
use contract.Monad.{fact, fact_i}
use contract.Running.{tables}
use types.Kit.{‵, raw, ◌⊛◌, prop, at_ret, ◌$◌, ◌∵◌, !, qed, by, move, drop, use0, use1, use2, split, join, rewrite, regoal, fsplit, fjoin}
use types.Part.{whole, sub, agg}
use types.Run.{stop, fld, lit, bin, of_opd, no_more, and_then, first, blocks, exec, returns, enter}
use types.ByLocal.{alloc_all, pass_all, free_all, look_at, get, get_in, sets, sets_last, is, env}
use denote.RattleType.{owns}
use denote.RawPtr.{Ptr, block_ptr, room_for, in_a_block}
use denote.Signature.{types_at}
use denote.Steps.{nothing, heard}
use denote.Struct.Tuple.{Tuple}
use denote.Triple.Entry.{alive}
use denote.Triple.Walked.{Stays, stay_dropped, walk_of, Goes-dropped}
use Rattle.core.proofs.alloc.Calls.{Goes-blank}
use Rattle.core.proofs.alloc.Shapes.{after}
use Rattle.std_alloc.specs.Vec.Ownership.{owns_if}
use Rattle.std_alloc.proofs.Pairs.{pair_of, pair_val}
use Rattle.std_alloc.proofs.VecSteps.Opens.{is_live}
use Rattle.std.proofs.raw_atomic.Walks.{proved_at, leaves}
use Rattle.fixed_vec.proofs.Values.{slot_at, sized_val, sized_own, sized_told, sized_made}
use Rattle.fixed_vec.proofs.Words.{cuts, owned}
use Rattle.fixed_vec.specs.Words.{words_of, chunk_owns}
use Rattle.fixed_vec.specs.contracts.chunk.Chunk as chunk
use Rattle.fixed_vec.specs.contracts.chunk.Chunk.split.{ended, clauses}
use Rattle.fixed_vec.specs.contracts.chunk.Chunk.split.Key.{name as #self}
use Rattle.fixed_vec.proofs.chunk.Chunk.split.Statement.{statement}
use Rattle.fixed_vec.proofs.chunk.Chunk.split.Code as compiled

pub split_spec : {M : Type 1} → statement M
split_spec 𝓤 𝓛 𝓜 𝓡 wired =
    let H = 𝓛.H in
    let En₀ = ended in
    let c = clauses 𝓛 𝓜.mem 𝓡.returns in
    let fn : Fn = compiled.function in
    let stays : Stays En₀.signature.params En₀.kept = (stay_dropped (slot_at 0 En₀.signature.params) En₀.kept.0, (stay_dropped (slot_at 1 En₀.signature.params) En₀.kept.1.0, tt)) in
    let C = (tables 𝓤 H 𝓜 𝓡 𝓡.env).C in
    let Λ = (tables 𝓤 H 𝓜 𝓡 𝓡.env).Λ in
    proved_at 𝓛 En₀ stays c 𝓜 𝓡 (Goes-blank 𝓛 0 (slot_at 0 En₀.signature.params) En₀.kept.0 (λ κs x f. tt), (Goes-dropped 𝓛 0 (slot_at 1 En₀.signature.params) En₀.kept.1.0 (λ κs x f. refl), tt)) #self fn (compiled.unfolded 𝓤 H 𝓜 𝓡 wired) (λ z are.
    let Post : Val → SProp 𝓤 = (walk_of 𝓛 En₀ stays c).post z in
    let a = z.0.3 in
    let vss = z.0.4 in
    let x = a.0 in
    let n = x.words in
    let m = a.1.0 in
    let told = sized_told x.at n vss.0 are.0.0 in
    let small = x.small in
    qed 𝓛 ((raw (alive 𝓛 En₀.signature z.0.0 z.0.1) ⊛ ‵ (owns (types_at En₀.signature.params z.0.0) a vss)) ∷ (raw (fact 𝓤 (0 < m)) ⊛ raw (fact 𝓤 (m ≤ n))) ∷ []) ∵ move ! (1 ∷ []) $ split ! $ heard ! (0 < m) (λ above. heard ! (m ≤ n) (λ inside. split ! $ move ! (1 ∷ []) $
    fsplit ! $ fsplit ! $ drop ! $ move ! (1 ∷ []) $ drop ! $
    let some : 0 < n = omega (arith, above, inside) in
    rewrite ! 0 (λ (y : Bool). ‵ (owns_if y (room_for (words_of n) x.at))) (is_live n some) refl $
    in_a_block ! x.at (λ p. room_for (words_of n) p) (id⊢ 𝓤 (never 𝓤)) (λ b o at.
    use1 𝓛 (raw (H.room (words_of m) b o) ⊛ raw (H.room (words_of (n - m)) b (o + m * 8))) (cuts 𝓛 b o m n inside) $ split ! $
    regoal ! (λ (us : List Val). prop (WpFn 𝓤 H C Λ fn us Post)) (λ i. (told.0 ∙ ap (λ (p : Ptr). sized_val p n ∷ []) at) i ++ (are.1.0.0 i ++ [])) refl $
    enter ! C Λ fn (sized_val (block_ptr b o) n ∷ vint w64 m ∷ []) Post $
    let fn' = told.1 in let fm = are.1.0.1 in let ft : 8 * m < 2 ^ 64 = omega arith in
    alloc_all ! (λ l. pass_all ! refl ((tt, (tt, (record { fits = fn' }, tt))), ((tt, record { fits = fm }), tt)) $ let En : Env 𝓤 𝓛.H = env fn.locals l in
    sets ! (of_opd ! (get_in ! (fld ! refl (stop !)) (sub ! 0 refl (whole !)))) refl (tt, tt) $
    sets ! (of_opd ! (get_in ! (fld ! refl (stop !)) (sub ! 1 refl (whole !)))) refl (tt, record { fits = fn' }) $
    first ! $ blocks ! $
    sets ! (bin ! (lit ! tt) (get ! refl) (record { fits = ft })) refl (tt, record { fits = ft }) $
    sets_last ! (is ! (bin ! (get ! refl) (get ! refl) tt) (ap (vptr b) (omega arith))) refl (tt, tt) $
    exec ! C Λ En (after 3 fn.body) (at_ret En Post) $
    sets ! (of_opd ! (get ! refl)) refl (tt, tt) $
    sets ! (agg ! (and_then ! (get ! refl) (and_then ! (get ! refl) (no_more !)))) refl (tt, (tt, (record { fits = fm }, tt))) $
    sets ! (bin ! (get ! refl) (get ! refl) (omega arith)) refl (tt, record { fits = omega arith }) $
    sets ! (agg ! (and_then ! (get ! refl) (and_then ! (get ! refl) (no_more !)))) refl (tt, (tt, (record { fits = omega arith }, tt))) $
    sets ! (agg ! (and_then ! (get ! refl) (and_then ! (get ! refl) (no_more !)))) refl (tt, ((tt, (record { fits = fm }, tt)), ((tt, (record { fits = omega arith }, tt)), tt))) $
    returns ! (look_at ! 0 refl) $ free_all ! refl $
    let p : Ptr = block_ptr b o in let q : Ptr = block_ptr b (o + m * 8) in
    let y : (chunk.the_row).Denot = record { at = p; words = m; small = omega arith } in
    let r : (chunk.the_row).Denot = record { at = q; words = n - m; small = omega arith } in
    let v = sized_val p m in let w = sized_val q (n - m) in
    use1 𝓛 (‵ (chunk_owns p m)) (owned 𝓛 b o m) $
    use0 𝓛 (‵ (sized_own p m (v ∷ []))) (sized_made 𝓛 p m fm) $ fjoin ! $ move ! (1 ∷ []) $
    use1 𝓛 (‵ (chunk_owns q (n - m))) (owned 𝓛 b (o + m * 8) (n - m)) $
    use0 𝓛 (‵ (sized_own q (n - m) (w ∷ []))) (sized_made 𝓛 q (n - m) (omega arith)) $ fjoin ! $ move ! (1 ∷ 0 ∷ []) $
    use2 𝓛 (‵ ((Tuple (chunk.the_row ∷ chunk.the_row ∷ [])).own_val (y, r) (pair_val v w ∷ []))) (pair_of 𝓛 chunk.the_row chunk.the_row y r v w) $
    use0 𝓛 (raw (fact 𝓤 (m + (n - m) ≡ n))) (fact_i 𝓤 (m + (n - m) ≡ n) (emp 𝓤) (omega arith)) $ use0 𝓛 (raw (fact 𝓤 (m ≡ m))) (fact_i 𝓤 (m ≡ m) (emp 𝓤) refl) $ join ! $ nothing ! $ nothing ! $ fjoin ! $ nothing ! $ fjoin ! $ move ! (3 ∷ 0 ∷ 2 ∷ 1 ∷ []) $
    by ! (leaves 𝓛 En₀ stays c z (pair_val v w) (y, r) (tt, (tt, tt)) (tt, (tt, tt))))))))
