-- The call of `lodge` for an empty vector, at any element type. Assumes `Logic`.
use Rattle.std.proofs.Common.{◌≡◌, ℕ, ◌+◌, ◌-◌, ◌*◌, ◌^◌, ◌<◌, ◌≤◌, List, [], ◌∷◌, length, refl, arith, Vec}
use seplogic.Ra.Ura.{Ura}
use mir.Syntax.{w64, ty_array}
use mir.Val.{Val, vint, vptr}
use base.Fraction.{full_share}
use base.Logic.{SProp, ent, ex, guard, sep, emp, id⊢}
use base.Fml.{Lft, Share, ftrue, fsep, flft, froom}
use prog.Memory.{Memory}
use prog.Routine.{Routine}
use contract.Monad.{Fun, fact, fact_i}
use contract.BorrowLft.{◌⊑◌}
use types.Logic.{Logic, sem}
use types.Kit.{‵, raw, ◌⊛◌, some, later, ◌$◌, ◌∵◌, !, qed, move, keep, use0, use1, drop, split, join, pick, fjoin, feq_i, flt_i, rewrite, check, show, await, updating, now, done}
use denote.RattleType.{RattleType}
use denote.Array.{Array}
use denote.Memory.{part_at}
use denote.Param.Laws.{Laws}
use denote.RawPtr.{block_ptr}
use denote.Steps.{nothing, heard}
use denote.Triple.Spec.{triple_of}
use denote.Triple.Statement.{Contract}
use Rattle.std_alloc.specs.declared.vec.lodged.Lodged.{Lodged}
use Rattle.std_alloc.specs.contracts.vec.lodge as LG
use Rattle.std_alloc.proofs.OfLodged.{lodging}
use Rattle.std_alloc.proofs.VecSteps.El.{El, elτ, el_x, R, Vr, sz}
use Rattle.std_alloc.proofs.VecSteps.Opens.{blk_in}
use Rattle.std_alloc.proofs.VecSteps.Rows.{empty}

module _ (Y : RattleType) (L : Laws Y) {M : Type 1} {𝓤 : Ura M} (𝓛 : Logic 𝓤) (at_mem : Memory → SProp 𝓤) (run : Routine → Fun 𝓤) where
  open 𝓛 use {H, A}

  abbrev E : El
  E = lodging Y L

  abbrev pub Lodges : Contract 𝓤
  Lodges = triple_of 𝓛 (LG.signature Y) (LG.spec Y 𝓛 at_mem run)

  module _ (κ : Lft) (q : Share) (b o c : ℕ) where
    abbrev pub at_lodge : Lodges.Ghost
    at_lodge = (((κ, tt), (q, tt), tt, (block_ptr b o, (0, (c, tt))), (vptr b o ∷ [], (vint w64 0 ∷ [], (vint w64 c ∷ [], tt)))), [])

    abbrev pub IsLodged : Vec (el_x E) Lodged → Type 0
    IsLodged r = (r.items ≡ []) × (r.len ≡ 0) × (r.cap ≡ c) × (r.ptr ≡ block_ptr b o)

    pub lodge_goes : κ ⊑ Y.lives → 0 < c → c < 2 ^ 63 → c * sz E < 2 ^ 63 → ent 𝓤 (sep 𝓤 (H.room (ty_array (elτ E) c) b o) (A.lft κ q)) (Lodges.pre at_lodge)
    lodge_goes le pos small fit =
        let none : List (el_x E) = [] in
        let Asked : Type 0 = (0 ≡ length none) × (0 ≤ c) × (c < 2 ^ 63) in
        let rest : c ≡ c - 0 = omega arith in
        let there : o ≡ o + 0 * sz E = omega arith in
        qed 𝓛 (‵ (froom (ty_array (elτ E) c) b o) ∷ ‵ (flft κ q) ∷ []) ∵
        rewrite ! 0 (λ (k : ℕ). ‵ (froom (ty_array (elτ E) k) b o)) rest refl $
        rewrite ! 0 (λ (k : ℕ). ‵ (froom (ty_array (elτ E) (c - 0)) b k)) there refl $
        use0 𝓛 (‵ (part_at (Array (R E) 0) full_share [] b o)) (empty E 𝓛 [] b o refl) $
        nothing ! $ move ! (1 ∷ 2 ∷ 0 ∷ []) $ blk_in E ! (record {}) b o 0 c [] pos $
        flt_i ! (c * sz E) (2 ^ 63) fit $ fjoin ! $
        use0 𝓛 (raw (fact 𝓤 Asked)) (fact_i 𝓤 Asked (emp 𝓤) (refl, omega arith, small)) $ join ! $
        use0 𝓛 (raw (fact 𝓤 (κ ⊑ Y.lives))) (fact_i 𝓤 (κ ⊑ Y.lives) (emp 𝓤) le) $ join ! $
        nothing ! $ flt_i ! c (2 ^ 64) (omega arith) $ feq_i ! (List Val) (vint w64 c ∷ []) (vint w64 c ∷ []) refl $ fjoin ! $ fjoin ! $
        flt_i ! 0 (2 ^ 64) (omega arith) $ feq_i ! (List Val) (vint w64 0 ∷ []) (vint w64 0 ∷ []) refl $ fjoin ! $ fjoin ! $
        feq_i ! (List Val) (vptr b o ∷ []) (vptr b o ∷ []) refl $ fjoin ! $ nothing ! $ move ! (3 ∷ 0 ∷ []) $ join ! $ join ! $ done !

    pub lodge_gives : (v : Val) → ent 𝓤 (Lodges.post at_lodge v) (H.⇛ (ex 𝓤 (λ (r : Vec (el_x E) Lodged). guard 𝓤 (IsLodged r) (sep 𝓤 (sem 𝓛 ((Vr E).own_val r (v ∷ []))) (A.lft κ q)))))
    lodge_gives v =
        qed 𝓛 (raw (Lodges.post at_lodge v) ∷ []) ∵ updating ! $
        use1 𝓛 (later (some (λ (r : Vec (el_x E) Lodged). ((‵ (flft κ q) ⊛ ‵ ftrue) ⊛ ‵ ((Vr E).own_val r (v ∷ [])))
        ⊛ some (λ (ws : Unit {0} × (Unit {0} × (Unit {0} × Unit {0}))). ‵ (fsep ftrue (fsep ftrue (fsep ftrue ftrue))) ⊛ raw (fact 𝓤 (IsLodged r)))))) (id⊢ 𝓤 _) $ await ! tt $ pick ! (λ r.
        split ! $ move ! (1 ∷ []) $ pick ! (λ ws. split ! $ drop ! $ heard ! (IsLodged r) (λ is. split ! $ split ! $ keep ! (2 ∷ 0 ∷ []) $ now ! $
        show ! (λ (z : Vec (el_x E) Lodged). guard 𝓤 (IsLodged z) (sep 𝓤 (sem 𝓛 ((Vr E).own_val z (v ∷ []))) (A.lft κ q))) r $ check ! is $ done !)))
