-- The tables of a ledger: one more slip, and how large an entry can be.
use Rattle.std.proofs.Common.{◌≡◌, ℕ, suc, ◌+◌, ◌*◌, ◌<◌, ◌≤◌, ◌^◌, ◌==◌, Bool, true, false, cond, eq-eqb, ne_eqb, List, [], ◌∷◌, ◌++◌, All, length, get_or, set, refl, sym, ap, subst, ◌∙◌, arith}
use Rattle.std.proofs.Math.Decide.{ℕ_discrete}
use Rattle.std.proofs.Math.Nat.{pow-le-pow_right}
use Rattle.std.proofs.lemmas.List.{get_or-set_other, get_or-set_same, length-set}
use Rattle.std.proofs.lemmas.List.Elements.{All-push}
use Rattle.cube_shape.specs.declared.limits.TheConstants.{MAX_DIM}
use Rattle.cube_ledger.specs.declared.slip.Slip.{Slip}
use Rattle.cube_ledger.specs.declared.ledger.Totals.{Totals}
use Rattle.cube_ledger.specs.Ledger.{is_any, is_of_lane, processors_of, totals_of}
use Rattle.cube_ledger.specs.Inner.Tables.{HasRoom, HasSmallDim, HasFewIdle, HasTables, HasTotals, and_slip}
use Rattle.ghost_history.specs.Sums.{total}
use Rattle.ghost_history.proofs.SumLemmas.{total-push}
use mathlib.Core.Logic.{dite}

-- ---- totals by their fields

abbrev made : ℕ → ℕ → ℕ → Totals
made jobs processors idle = record { jobs = jobs; processors = processors; idle = idle }

pub totals_same : (a b : Totals)
    → a.jobs ≡ b.jobs
    → a.processors ≡ b.processors
    → a.idle ≡ b.idle
    → a ≡ b
totals_same a b jobs processors idle =
    ap (λ n. made n a.processors a.idle) jobs ∙ ap (λ n. made b.jobs n a.idle) processors ∙ ap (made b.jobs b.processors) idle

-- ---- one more slip

module _ (test : Slip → Bool) (slips : List Slip) (s : Slip) where
  more : (amount : Slip → ℕ) → total (λ x. cond (test x) (amount x) 0) (slips ++ s ∷ []) ≡ total (λ x. cond (test x) (amount x) 0) slips + cond (test s) (amount s) 0
  more amount = total-push (λ x. cond (test x) (amount x) 0) slips s

  pub push_counted : test s ≡ true → totals_of test (slips ++ s ∷ []) ≡ and_slip (totals_of test slips) s
  push_counted counts = totals_same _ _
      (omega (arith, more (λ _. 1), ap {B = ℕ} (λ b. cond b 1 0) counts))
      (omega (arith, more processors_of, ap {B = ℕ} (λ b. cond b (processors_of s) 0) counts))
      (omega (arith, more (λ x. x.idle), ap {B = ℕ} (λ b. cond b s.idle 0) counts))

  pub push_other : test s ≡ false → totals_of test (slips ++ s ∷ []) ≡ totals_of test slips
  push_other other = totals_same _ _
      (omega (arith, more (λ _. 1), ap {B = ℕ} (λ b. cond b 1 0) other))
      (omega (arith, more processors_of, ap {B = ℕ} (λ b. cond b (processors_of s) 0) other))
      (omega (arith, more (λ x. x.idle), ap {B = ℕ} (λ b. cond b s.idle 0) other))

  -- Lists with the same totals have the same ones with one more slip.
  pub push_both : (others : List Slip)
      → totals_of test others ≡ totals_of test slips
      → totals_of test (others ++ s ∷ []) ≡ totals_of test (slips ++ s ∷ [])
  push_both others same = totals_same _ _
      (omega (arith, more (λ _. 1), total-push (λ x. cond (test x) 1 0) others s, ap (λ t. t.jobs) same))
      (omega (arith, more processors_of, total-push (λ x. cond (test x) (processors_of x) 0) others s, ap (λ t. t.processors) same))
      (omega (arith, more (λ x. x.idle), total-push (λ x. cond (test x) x.idle 0) others s, ap (λ t. t.idle) same))

-- ---- tables

module _ (number : Slip → ℕ) (slips : List Slip) (s : Slip) (table : List Totals) where
  abbrev by_number : ℕ → Slip → Bool
  by_number k x = number x == k

  -- The slip is added to its entry.
  pub table_more : (d : Totals)
      → number s < length table
      → HasTotals by_number slips table
      → HasTotals by_number (slips ++ s ∷ []) (set table (number s) (and_slip (get_or table (number s) d) s))
  table_more d within had k e lt =
      let new = and_slip (get_or table (number s) d) s in
      dite (ℕ_discrete k (number s))
      (λ here. ap (λ j. get_or (set table (number s) new) j e) here
      ∙ get_or-set_same table (number s) new e within
      ∙ ap (λ t. and_slip t s) (had (number s) d within)
      ∙ sym (push_counted (by_number (number s)) slips s (eq-eqb (number s) (number s) refl))
      ∙ ap (λ j. totals_of (by_number j) (slips ++ s ∷ [])) (sym here))
      (λ other. get_or-set_other table (number s) k new e other
      ∙ had k e (subst (λ n. k < n) (length-set table (number s) new) lt)
      ∙ sym (push_other (by_number k) slips s (ne_eqb (number s) k (λ same. other (sym same)))))

  -- The slip has no entry.
  pub table_same : length table ≤ number s
      → HasTotals by_number slips table
      → HasTotals by_number (slips ++ s ∷ []) table
  table_same above had k e lt = had k e lt ∙ sym (push_other (by_number k) slips s (ne_eqb (number s) k (λ same. omega (arith, same, above, lt))))

-- ---- how large an entry can be

at_most : (b : Bool) (n most : ℕ) → n ≤ most → cond b n 0 ≤ most
at_most true n most le = le
at_most false n most le = omega arith

upto : (test : Slip → Bool) (amount : Slip → ℕ) (most : ℕ) (slips : List Slip)
    → All (λ x. amount x ≤ most) slips
    → total (λ x. cond (test x) (amount x) 0) slips ≤ length slips * most
upto test amount most [] all = omega arith
upto test amount most (x ∷ xs) all = omega (arith, at_most (test x) (amount x) most (all 0 x (omega arith)), upto test amount most xs (λ k d lt. all (suc k) d (omega (arith, lt))))

idle_upto : (s : Slip) → HasSmallDim s → HasFewIdle s → s.idle ≤ 2 ^ 64
idle_upto s small few =
    let most : 2 ^ s.region.dim ≤ 2 ^ MAX_DIM = pow-le-pow_right (omega arith) small in
    omega (arith, few, most)

pub room : (test : Slip → Bool) (slips : List Slip)
    → All HasSmallDim slips
    → All HasFewIdle slips
    → length slips + 1 < 2 ^ 64
    → HasRoom (totals_of test slips)
room test slips small idle few = record {
  jobs = omega (arith, few, upto test (λ _. 1) 1 slips (λ k d lt. omega arith));
  processors = omega (arith, few, upto test processors_of (2 ^ MAX_DIM) slips (λ k d lt. pow-le-pow_right (omega arith) (small k d lt)));
  idle = omega (arith, few, upto test (λ x. x.idle) (2 ^ 64) slips (λ k d lt. idle_upto (get_or slips k d) (small k d lt) (idle k d lt)));
}

-- The total counts each slip.
pub counts_all : (slips : List Slip) → (totals_of is_any slips).jobs ≡ length slips
counts_all [] = refl
counts_all (s ∷ slips) = omega (arith, counts_all slips)

-- ---- slips that do not pass

module _ (test : Slip → Bool) (amount : Slip → ℕ) where
  nothing : (slips : List Slip)
      → All (λ s. test s ≡ false) slips
      → total (λ x. cond (test x) (amount x) 0) slips ≡ 0
  nothing [] none = refl
  nothing (s ∷ slips) none = omega (arith, ap {B = ℕ} (λ b. cond b (amount s) 0) (none 0 s (omega arith)), nothing slips (λ k d lt. none (suc k) d (omega (arith, lt))))

pub none_passes : (test : Slip → Bool) (slips : List Slip)
    → All (λ s. test s ≡ false) slips
    → totals_of test slips ≡ made 0 0 0
none_passes test slips none = totals_same _ _ (nothing test (λ _. 1) slips none) (nothing test processors_of slips none) (nothing test (λ x. x.idle) slips none)

-- ---- one more slip in all tables

module _ (lanes dims : List Totals) (all : Totals) (others slips : List Slip) (s : Slip)
    (had : HasTables lanes dims all others slips) where
  pub room_for : (test : Slip → Bool) → all.jobs + 1 < 2 ^ 64 → HasRoom (totals_of test slips)
  room_for test few = room test slips had.small had.few_idle (omega (arith, few, ap (λ t. t.jobs) had.in_all, counts_all slips))

  all_more : (lanes_then : List Totals) (others_then : List Slip) (d : Totals)
      → HasSmallDim s
      → HasFewIdle s
      → s.region.dim < length dims
      → HasTotals is_of_lane (slips ++ s ∷ []) lanes_then
      → ((lane : ℕ) → length lanes_then ≤ lane → totals_of (is_of_lane lane) others_then ≡ totals_of (is_of_lane lane) (slips ++ s ∷ []))
      → All HasSmallDim others_then
      → HasTables lanes_then (set dims s.region.dim (and_slip (get_or dims s.region.dim d) s)) (and_slip all s) others_then (slips ++ s ∷ [])
  all_more lanes_then others_then d small idle within by_lane beside small_beside = record {
    by_lane = by_lane;
    by_dim = table_more (λ x. x.region.dim) slips s dims d within had.by_dim;
    in_all = ap (λ t. and_slip t s) had.in_all ∙ sym (push_counted is_any slips s refl);
    beside = beside;
    small_beside = small_beside;
    small = All-push HasSmallDim slips s had.small small;
    few_idle = All-push HasFewIdle slips s had.few_idle idle;
  }

  -- The slip's lane has an entry.
  pub added_in : (d : Totals)
      → HasSmallDim s
      → HasFewIdle s
      → s.region.dim < length dims
      → s.id.lane < length lanes
      → HasTables (set lanes s.id.lane (and_slip (get_or lanes s.id.lane d) s)) (set dims s.region.dim (and_slip (get_or dims s.region.dim d) s)) (and_slip all s) others (slips ++ s ∷ [])
  added_in d small idle within known =
      let new = and_slip (get_or lanes s.id.lane d) s in
      all_more (set lanes s.id.lane new) others d small idle within
      (table_more (λ x. x.id.lane) slips s lanes d known had.by_lane)
      (λ lane past.
      let above : length lanes ≤ lane = omega (arith, past, length-set lanes s.id.lane new) in
      had.beside lane above ∙ sym (push_other (is_of_lane lane) slips s (ne_eqb s.id.lane lane (λ same. omega (arith, same, above, known)))))
      had.small_beside

  -- It has none.
  pub added_out : (d : Totals)
      → HasSmallDim s
      → HasFewIdle s
      → s.region.dim < length dims
      → length lanes ≤ s.id.lane
      → HasTables lanes (set dims s.region.dim (and_slip (get_or dims s.region.dim d) s)) (and_slip all s) (others ++ s ∷ []) (slips ++ s ∷ [])
  added_out d small idle within above =
      all_more lanes (others ++ s ∷ []) d small idle within
      (table_same (λ x. x.id.lane) slips s lanes above had.by_lane)
      (λ lane past. push_both (is_of_lane lane) slips s others (had.beside lane past))
      (All-push HasSmallDim others s had.small_beside small)
