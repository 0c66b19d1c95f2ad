-- `get_mut` lends the content, and the pointer follows it.
use mathlib.Core.Path.{◌≡◌, refl}
use Prim.Native.Nat.{ℕ}
use mathlib.Core.List.{List, [], ◌∷◌}
use Rattle.std.proofs.Common.{Option, Some}
use seplogic.Ra.Ura.{Ura}
use base.Fraction.{full_share}
use mir.Syntax.{named}
use mir.Raw.{raw as bare}
use mir.Val.{Val, vptr}
use base.Logic.{SProp, ent, sep, id⊢}
use base.Fml.{Lft, GName, Share, Fml, ftrue, flft, fsep}
use prog.Memory.{Memory}
use prog.Routine.{Routine}
use prog.Wp.{Env, WpFn, Tables}
use types.Logic.{Logic, sem}
use contract.Monad.{Fun, fact}
use contract.Running.{tables, tables_of}
use sound.WpLaws.{WpFn-mono}
use types.Kit.{‵, raw, ◌⊛◌, some, at_ret, later, await, group, ◌$◌, ◌∵◌, !, qed, by, move, keep, drop, use1, split, join, pick, rewrite, fsplit, fsplit3, fjoin, fpack, suffices, frame, done}
use types.Part.{whole, sub, look_in}
use types.Run.{stop, fld, load, of_opd, first, blocks, exec, returns, enter, addr}
use types.ByLocal.{alloc_all, pass_all, free_all, look_at, get, through, sets, env, sets_last}
use denote.RattleType.{owns}
use denote.Memory.{part_at, mem, cell_at, part_of}
use denote.RawPtr.{block_ptr}
use denote.Ref.{MutRef, mut_vals, mut_Tells}
use denote.Signature.{plain, mut_ref_to}
use denote.Steps.{heard, nothing, opens}
use denote.Exit.{no}
use denote.Triple.Clauses.{Clauses}
use denote.Triple.Entry.{on_entry}
use denote.Triple.Spec.{triple_of}
use denote.Triple.Table.{entered}
use denote.Triple.Walked.{says, Stays, stay_dropped, walk_of, ends_at, walked, walk_Meets, Goes-spent_ref}
use denote.Follow.{follows, Part, lends_Part}
use Rattle.std.proofs.alloc.Calls.{token}
use Rattle.std_alloc.proofs.VecSteps.Shapes.{after}
use Rattle.std_alloc.proofs.BoxSteps.Form.{D, B, τ, word, handle}
use Rattle.std_alloc.proofs.BoxSteps.Steps.{box_out, box_in}
use Rattle.cubejobs_lanes.proofs.AsBox.{E}
use Rattle.cubejobs_lanes.specs.InnerLending.{with_content}
use Rattle.cubejobs_lanes.specs.contracts.state.State.{the_row as C}
use Rattle.cubejobs_lanes.specs.contracts.opaque_ptr.OpaquePtr.{the_row as P}
use Rattle.cubejobs_lanes.specs.contracts.opaque_ptr.OpaquePtr.get_mut as F
use Rattle.cubejobs_lanes.specs.contracts.opaque_ptr.OpaquePtr.get_mut.Key.{name as #self}
use Rattle.cubejobs_lanes.proofs.opaque_ptr.OpaquePtr.get_mut.Statement as stated
use Rattle.cubejobs_lanes.proofs.opaque_ptr.OpaquePtr.get_mut.Code as code

abbrev stayed : Stays (F.ended).signature.params (F.ended).kept
stayed = (stay_dropped (mut_ref_to (0 ∷ []) tt (plain (λ _. P))) no, tt)

module _ {M : Type 1} {𝓤 : Ura M} (𝓛 : Logic 𝓤) (at_mem : Memory → SProp 𝓤) (run : Routine → Fun 𝓤) where
  open 𝓛 use {H, A}

  abbrev held : Clauses 𝓤 F.ended
  held = F.clauses 𝓛 at_mem run

  module _ (κ : Lft) (q : Share) (rb ro : ℕ) (γ : GName) (d : P.Denot) (c : C.Denot) (is : d.content ≡ Some c) where
    abbrev bound : (walk_of 𝓛 F.ended stayed held).Ghost
    bound = (((κ, tt), (q, tt), tt, (record { ref_ptr = (rb, ro); ghost_name = γ; now = d }, tt), (vptr rb ro ∷ [], tt)), tt)

    abbrev Post : Val → SProp 𝓤
    Post = (walk_of 𝓛 F.ended stayed held).post bound

    abbrev as_box : C.Denot → D E
    as_box w = record { ptr = d.ptr; alloc = d.alloc; value = w }

    module _ (b o : ℕ) (hv : Val) where
      -- all of the pointer but its content
      abbrev Rest : Fml
      Rest = fsep (fsep (token E.al d.alloc (bare (τ E)) (block_ptr b o)) (handle E d.alloc hv)) (cell_at full_share P.mir (word E hv b o ∷ []) rb ro)

      back : d.ptr ≡ block_ptr b o → (w : C.Denot) → ent 𝓤 (sep 𝓤 (sem 𝓛 ((mem C).own_at w b o)) (sem 𝓛 Rest)) (sem 𝓛 ((mem P).own_at (with_content d w) rb ro))
      unfolding part_of
      back at_b w =
          qed 𝓛 (‵ (part_at C full_share w b o) ∷ ‵ Rest ∷ []) ∵ move ! (1 ∷ []) $ fsplit ! $ fsplit ! $ move ! (3 ∷ []) $
          box_in E ! (as_box w) b o w at_b refl $ use1 𝓛 (‵ (P.own_val (with_content d w) (word E hv b o ∷ []))) (id⊢ 𝓤 _) $ move ! (1 ∷ 0 ∷ []) $ fjoin ! $
          fpack ! (List Val) (λ us. fsep (cell_at full_share P.mir us rb ro) (P.own_val (with_content d w) us)) (word E hv b o ∷ []) $ done !

      exits : (γ' : GName)
          → ent 𝓤 (sep 𝓤 (sem 𝓛 ((MutRef (named 0) κ C).own_val (record { ref_ptr = (b, o); ghost_name = γ'; now = c }) (vptr b o ∷ []))) (sep 𝓤 (A.lft κ q) (sem 𝓛 (follows P C γ γ' (with_content d))))) (Post (vptr b o))
      exits γ' =
          qed 𝓛 (‵ ((MutRef (named 0) κ C).own_val (record { ref_ptr = (b, o); ghost_name = γ'; now = c }) (vptr b o ∷ [])) ∷ ‵ (flft κ q) ∷ ‵ (follows P C γ γ' (with_content d)) ∷ []) ∵
          suffices ! _ (ends_at 𝓛 F.ended stayed held bound (vptr b o) (record { ref_ptr = (b, o); ghost_name = γ'; now = c }) (tt, tt) (tt, tt)) $
          nothing ! $ nothing ! $ fjoin ! $ join ! $ nothing ! $ move ! (2 ∷ 0 ∷ []) $ join ! $ join ! $ frame ! $ says ! is $ done !

    module _ (𝓣 : Tables 𝓤 H) where
      walk : ent 𝓤 (on_entry 𝓛 F.signature (κ, tt) (q, tt) (record { ref_ptr = (rb, ro); ghost_name = γ; now = d }, tt) (vptr rb ro ∷ [], tt)) (WpFn 𝓤 H 𝓣.C 𝓣.Λ code.function (vptr rb ro ∷ []) Post)
      walk =
          qed 𝓛 ((‵ (flft κ q) ⊛ ‵ ftrue) ∷ ‵ (owns (MutRef (named 0) κ P ∷ []) (record { ref_ptr = (rb, ro); ghost_name = γ; now = d }, tt) (vptr rb ro ∷ [], tt)) ∷ []) ∵
          enter ! 𝓣.C 𝓣.Λ code.function (vptr rb ro ∷ []) _ $
          alloc_all ! (λ l. pass_all ! refl ((tt, tt), tt) $
          let En : Env 𝓤 H = env code.function.locals l in
          move ! (1 ∷ []) $ fsplit ! $ fsplit3 ! $ drop ! $ move ! (3 ∷ []) $ split ! $ move ! (2 ∷ 3 ∷ 0 ∷ []) $
          opens ! tt P {h = d} rb ro (λ vs. move ! (1 ∷ []) $
          rewrite ! 0 (λ (x : Option C.Denot). ‵ (P.own_val (record { ptr = d.ptr; alloc = d.alloc; content = x }) vs)) is refl $
          use1 𝓛 (‵ ((B E).own_val (as_box c) vs)) (id⊢ 𝓤 _) $
          box_out E ! (as_box c) vs (λ b o hv at_b ws fa. move ! (1 ∷ 2 ∷ []) $ fjoin ! $ move ! (1 ∷ []) $
          rewrite ! 2 (λ (us : List Val). ‵ (cell_at full_share P.mir us rb ro)) ws refl $
          first ! $ blocks ! $
          sets ! (of_opd ! (load ! (through ! refl (fld ! refl (stop !))) (look_in ! 2 (sub ! 0 refl (whole !))))) refl (tt, tt) $
          sets ! (of_opd ! (get ! refl)) refl (tt, tt) $
          sets_last ! (addr ! (through ! refl (stop !))) refl (tt, tt) $
          exec ! 𝓣.C 𝓣.Λ En (after 1 code.function.body) (at_ret En Post) $
          sets ! (of_opd ! (get ! refl)) refl (tt, tt) $
          move ! (1 ∷ 2 ∷ []) $ fjoin ! $ move ! (2 ∷ 3 ∷ 4 ∷ 1 ∷ 0 ∷ []) $ group ! 5 $
          use1 𝓛 (later (some (λ (γ' : GName). raw (Part 𝓛 P C (with_content d) (named 0) κ q rb ro b o γ (sem 𝓛 (Rest b o hv)) (back b o hv at_b) c γ'))))
          (lends_Part 𝓛 P C (with_content d) (named 0) κ q rb ro b o γ (sem 𝓛 (Rest b o hv)) (back b o hv at_b) (P.coded.code d) (P.coded.code d) c) $ await ! tt $ pick ! (λ γ'.
          returns ! (look_at ! 0 refl) $ free_all ! refl $
          keep ! (0 ∷ []) $ by ! (exits b o hv γ')))))

pub get_mut_spec : {M : Type 1} → stated.statement M
unfolding tables_of
get_mut_spec 𝓤 𝓛 𝓜 𝓡 wired =
    let 𝓣 : Tables 𝓤 𝓛.H = tables_of 𝓤 𝓛.H 𝓜 (tables 𝓤 𝓛.H 𝓜 𝓡 𝓡.env) in
    entered 𝓤 𝓛.H (triple_of 𝓛 F.signature (F.spec 𝓛 𝓜.mem 𝓡.returns)) 𝓣.C 𝓣.Λ #self code.function (code.unfolded 𝓤 𝓛.H 𝓜 𝓡 wired)
    (walk_Meets 𝓛 F.ended stayed (Goes-spent_ref 𝓛 1 (0 ∷ []) tt (plain (λ _. P)), tt) (F.clauses 𝓛 𝓜.mem 𝓡.returns) (WpFn 𝓤 𝓛.H 𝓣.C 𝓣.Λ code.function) (WpFn-mono 𝓤 𝓛.H 𝓛.laws 𝓣 code.function)
    (walked 𝓛 F.ended stayed (F.clauses 𝓛 𝓜.mem 𝓡.returns) (WpFn 𝓤 𝓛.H 𝓣.C 𝓣.Λ code.function) (λ κs. (mut_vals, tt)) (λ κs. (mut_Tells (named 0) κs.0 P, tt))
    (λ κs qs bounds a g are.
    let self = a.0 in let Goal : SProp 𝓤 = WpFn 𝓤 𝓛.H 𝓣.C 𝓣.Λ code.function (vptr self.ref_ptr.0 self.ref_ptr.1 ∷ []) ((walk_of 𝓛 F.ended stayed (F.clauses 𝓛 𝓜.mem 𝓡.returns)).post ((κs, qs, bounds, a, (vptr self.ref_ptr.0 self.ref_ptr.1 ∷ [], tt)), g)) in
    qed 𝓛 (raw (on_entry 𝓛 F.signature κs qs a (vptr self.ref_ptr.0 self.ref_ptr.1 ∷ [], tt)) ∷ raw (fact 𝓤 ((inside : C.Denot) × (self.now.content ≡ Some inside))) ∷ []) {P = Goal} (move ! (1 ∷ []) $ heard ! _ (λ got.
    by ! (walk 𝓛 𝓜.mem 𝓡.returns κs.0 qs.0 self.ref_ptr.0 self.ref_ptr.1 self.ghost_name self.now got.0 got.1 𝓣))))))
