-- Every move keeps words and owners in agreement.
use Rattle.std.proofs.Common.{◌≡◌, ℕ, ◌+◌, ◌*◌, ◌/◌, ◌<◌, false, refl, sym, ◌∙◌, ap, subst, arith, lit<}
use Rattle.std.specs.Prelude.{◌↔◌}
use Rattle.cube_shape.specs.declared.node.Side.{Side}
use Rattle.cube_shape.specs.declared.node.Side.TheVariants.{Left, Right}
use Rattle.cube_shape.specs.Node.{child_towards}
use Rattle.status_word.specs.Word.{IsSet, IsOccupied, HasSide, IsMarked, IsFree}
use Rattle.status_word.proofs.WordLemmas.{IsSet-use_of, with_side-keeps, cleared-occupied, cleared-left, cleared-right}
use Rattle.cube_core.specs.declared.phase.Seen.{Seen}
use Rattle.cube_core.specs.declared.phase.Seen.TheVariants as seen
use Rattle.cube_core.specs.declared.phase.Phase.{Phase}
use Rattle.cube_core.specs.declared.phase.Phase.TheVariants.{Idle, Looking, Looked, Climbing, Swept, Holding, Arriving, Unmarked, Marked}
use Rattle.cube_core.specs.Phase.{side_of, owned, is_seen_free, marked_word, HasPassed}
use Rattle.cube_core.specs.InnerPhase.{stop, marked_at, saw}
use Rattle.cube_core.specs.Event.{cleared_as_seen}
use Rattle.cube_core.proofs.BitLemmas.{with_mark-use}
use Rattle.cube_core.proofs.ChangeLemmas.{Fit, Agrees, Change, quiet, claimed, raised, zeroed, cleared_kept, with_side-occupied}
use Rattle.cube_core.proofs.MoveLemmas.{Move, begins_take, begins_release, retires, looks_free, looks_used, claims, claims_lost, sweeps, raises, raises_under, zeroes, zeroes_back, unmarks, marks, marks_stop, looks_left, looks_right, clears, clears_lost}
use Rattle.cube_core.proofs.SeenFreeLemmas.{Shut, passed_swept}

-- `quiet`, for a phase that is given by an equation
quiet_from : {n : ℕ} {W : ℕ → ℕ} {P : ℕ → Phase} {v y u : ℕ} {q : Phase} {V : ℕ → ℕ} {Q : ℕ → Phase}
    (p : Phase)
    → P u ≡ p
    → Change W P v y u q V Q
    → Agrees n W P
    → Fit n q
    → owned q ≡ owned p
    → stop q ≡ stop p
    → (0 < v → IsOccupied y ↔ IsOccupied (W v))
    → (0 < v → (i : ℕ) → i < 3 → IsSet (W v) i → IsSet y i)
    → Agrees n V Q
quiet_from p is x k fit own at occ grows =
    let stops = ap stop is in
    quiet x k fit (own ∙ sym (ap owned is)) (omega (arith, stops, at)) occ grows

same_occ : (v w : ℕ) → 0 < v → IsOccupied w ↔ IsOccupied w
same_occ v w _ = (λ o. o, λ o. o)

same_bits : (v w : ℕ) → 0 < v → (i : ℕ) → i < 3 → IsSet w i → IsSet w i
same_bits v w _ i _ set = set

not_seen_free : (z : Seen) → (z ≡ seen.Free → ⊥) → is_seen_free z ≡ false
not_seen_free seen.NotYet other = refl
not_seen_free seen.Free other = absurd (other refl)
not_seen_free seen.Used other = refl

-- a Clear keeps the sides through which a station has passed, since their children were not seen
-- free
side_stays : {n : ℕ} {W : ℕ → ℕ} {P : ℕ → Phase} (u a w : ℕ) (left right : Seen)
    → Agrees n W P
    → Shut W P
    → P u ≡ Marked a w left right
    → 0 < a
    → W a ≡ w
    → (t c : ℕ)
    → c / 2 ≡ a
    → HasPassed (P t) c
    → HasSide (side_of c) (cleared_as_seen w left right)
side_stays {W = W} {P = P} u a w left right k shut is positive word t c node on = by_side (side_of c) refl (subst (HasSide (side_of c)) word (subst (λ b. HasSide (side_of c) (W b)) node (k.sides t c on)))
  where
    mark : IsMarked u (W (c / 2))
    mark = subst (λ b. IsMarked u (W b)) (sym node) (subst (IsMarked u) (ap marked_word is ∙ sym word) (shut.own_mark u (subst (λ b. 0 < b) (sym (ap marked_at is)) positive)))

    not_free : saw (P u) (side_of c) ≡ seen.Free → ⊥
    not_free free = shut.shut u t c (subst (λ b. 0 < b) (sym node) positive, ap marked_at is ∙ sym node) mark free (passed_swept (P t) c on)

    by_side : (side : Side)
        → side_of c ≡ side
        → HasSide side w
        → HasSide side (cleared_as_seen w left right)
    by_side Left is_left has = (cleared-left w (is_seen_free left) (is_seen_free right)).1 (has, not_seen_free left (λ free. not_free (ap (λ p. saw p (side_of c)) is ∙ ap (saw (Marked a w left right)) is_left ∙ free)))
    by_side Right is_right has = (cleared-right w (is_seen_free left) (is_seen_free right)).1 (has, not_seen_free right (λ free. not_free (ap (λ p. saw p (side_of c)) is ∙ ap (saw (Marked a w left right)) is_right ∙ free)))

pub agrees_kept : {n : ℕ} {W : ℕ → ℕ} {P : ℕ → Phase} {p : Phase} {u v y : ℕ} {q : Phase}
    {V : ℕ → ℕ} {Q : ℕ → Phase}
    → Move n u W p v y q
    → P u ≡ p
    → Change W P v y u q V Q
    → Agrees n W P
    → Shut W P
    → Agrees n V Q
agrees_kept {W = W} (begins_take h i) is x k shut = quiet_from Idle is x k i refl refl (same_occ 0 (W 0)) (same_bits 0 (W 0))
agrees_kept {W = W} (begins_release h i) is x k shut = quiet_from (Holding h) is x k i refl refl (same_occ 0 (W 0)) (same_bits 0 (W 0))
agrees_kept retires is x k shut = quiet_from Idle is x k tt refl refl (λ positive. absurd (omega arith)) (λ positive. absurd (omega arith))
agrees_kept {W = W} (looks_free h i f) is x k shut = quiet_from (Looking h) is x k (i, f) refl refl (same_occ h (W h)) (same_bits h (W h))
agrees_kept {W = W} (looks_used h i) is x k shut = quiet_from (Looking h) is x k tt refl refl (same_occ h (W h)) (same_bits h (W h))
agrees_kept (claims h w q i f e risen) is x k shut = claimed x k (ap owned is) (subst IsFree (sym e) f) i.0 risen.fit risen.own risen.at
agrees_kept {W = W} (claims_lost h w i) is x k shut = quiet_from (Looked h w) is x k tt refl refl (same_occ h (W h)) (same_bits h (W h))
agrees_kept {W = W} (sweeps h a i l o) is x k shut = quiet_from (Climbing h a) is x k (i, l, o) refl refl (λ _. IsSet-use_of (W a) 0 (lit< tt)) (λ _ j low set. (IsSet-use_of (W a) j low).1 set)
agrees_kept (raises h a q i l o f risen) is x k shut = raised x k f o l (ap owned is) (ap stop is) risen.fit risen.own risen.at
agrees_kept {W = W} (raises_under h a i l o f) is x k shut = quiet_from (Swept h a) is x k i refl refl (λ _. with_side-occupied (side_of (child_towards a h)) (W a)) (λ _ j _ set. with_side-keeps (side_of (child_towards a h)) (W a) j set)
agrees_kept (zeroes h q i leaving) is x k shut = zeroed x k (ap owned is) i.0 leaving.fit leaving.none
agrees_kept (zeroes_back h a q i leaving) is x k shut = zeroed x k (ap owned is) i.0 leaving.fit leaving.none
agrees_kept {W = W} (unmarks a i) is x k shut = quiet_from (Arriving a) is x k i refl refl (λ _. IsSet-use_of (W a) 0 (lit< tt)) (λ _ j low set. (IsSet-use_of (W a) j low).1 set)
agrees_kept {W = W} {u = u} (marks a i f) is x k shut = quiet_from (Unmarked a) is x k i refl refl (λ _. with_mark-use u (W a) 0 (lit< tt)) (λ _ j low set. (with_mark-use u (W a) j low).1 set)
agrees_kept {W = W} {u = u} (marks_stop a i f) is x k shut = quiet_from (Unmarked a) is x k tt refl refl (λ _. with_mark-use u (W a) 0 (lit< tt)) (λ _ j low set. (with_mark-use u (W a) j low).1 set)
agrees_kept {W = W} (looks_left a w right found i shown) is x k shut = quiet_from (Marked a w seen.NotYet right) is x k i refl refl (same_occ (2 * a) (W (2 * a))) (same_bits (2 * a) (W (2 * a)))
agrees_kept {W = W} (looks_right a w left found i l shown) is x k shut = quiet_from (Marked a w left seen.NotYet) is x k i refl refl (same_occ (2 * a + 1) (W (2 * a + 1))) (same_bits (2 * a + 1) (W (2 * a + 1)))
agrees_kept {u = u} (clears a w left right q i l r e leaving) is x k shut =
    cleared_kept x k (ap owned is) leaving.none leaving.fit (subst (λ z. IsOccupied (cleared_as_seen w left right) ↔ IsOccupied z) (sym e) (cleared-occupied w (is_seen_free left) (is_seen_free right)))
    (side_stays u a w left right k shut is i.0 e)
agrees_kept {W = W} (clears_lost a w left right i e) is x k shut = quiet_from (Marked a w left right) is x k tt refl refl (same_occ a (W a)) (same_bits a (W a))
