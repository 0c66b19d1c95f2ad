-- A board's table is a world of threads.
use Rattle.std.proofs.Common.{◌≡◌, ◌≢◌, ℕ, ◌+◌, ◌<◌, ◌≤◌, List, [], ◌∷◌, length, length-set, get_or, refl, sym, ◌∙◌, ap, subst, arith}
use Rattle.std.proofs.Common as common
use Rattle.std.proofs.lemmas.List.{get_or-set_other}
use Rattle.std.specs.Prelude.{map}
use Rattle.std.specs.List.{AllByRecursion as Each}
use mathlib.Core.Option.{some}
use lib.ListN.{get_elem?}
use Rattle.atomic_table.specs.Table.{stepped, keeps}
use Rattle.ghost_history.proofs.ViewLemmas.{steps}
use Rattle.wake_pool.specs.declared.phase.WakePhase.{WakePhase as Phase}
use Rattle.wake_pool.specs.Schedule.{set}
use Rattle.wake_pool.specs.Inner.Invariant.{IsSound}
use Rattle.wake_pool.specs.Words.{world_of}
use Rattle.wake_pool.proofs.SetLemmas.{set_here, set_else}
use Rattle.wake_calls.specs.declared.rule.ThreadRecord.{ThreadRecord}
use Rattle.wake_calls.specs.Pool.{in_phase, IsPool, PoolLaw}
use Rattle.tests_lanes.specs.declared.board.BoardSizes.{BoardSizes as Sizes}
use Rattle.tests_lanes.specs.declared.rule.BoardView.{BoardView as View}
use Rattle.tests_lanes.specs.Board.{thread_count, lane_at, record_of}
use Rattle.tests_lanes.specs.Inner.Rule.{St, threads_in, number_of, view, jobs_in, recorded, Keeps}
use Rattle.tests_lanes.specs.Inner.Steps.{goes, noted}

-- a record that a seat has alone
pub own_record : (sizes : Sizes) (s : St) (h : Keeps sizes s) (id : ℕ) (v : View) (r : ThreadRecord)
    → get_elem? s.views id ≡ some v
    → v.threads ≡ r ∷ []
    → (r ≡ recorded sizes h.phases r.number) × (r.number < thread_count sizes)
own_record sizes s h id v r me is =
    (subst (Each (λ (x : ThreadRecord). (x ≡ recorded sizes h.phases x.number) × (x.number < thread_count sizes))) is (h.tied.each id v me)).0

-- The words and the phase of the seat's thread change.
pub moves_to : (sizes : Sizes) (s : St) (h : Keeps sizes s) (id : ℕ) (v : View) (r : ThreadRecord) (q : Phase) (i y : ℕ)
    → get_elem? s.views id ≡ some v
    → v.threads ≡ r ∷ []
    → IsSound (world_of sizes.workers sizes.lanes (common.set s.words i y) (jobs_in sizes (common.set s.words i y)) (set h.phases r.number q))
    → Keeps sizes (stepped s i y id [] (goes q v) keeps)
moves_to sizes s h id v r q i y me is sound = record {
  phases = set h.phases r.number q;
  long = length-set s.words i y ∙ h.long;
  tied = steps threads_in number_of s.views h.tied id v me (recorded sizes (set h.phases r.number q)) (goes q v) r (in_phase q r) is (ap (map (in_phase q)) is) refl mine others;
  sound = sound;
}
  where
    own : r ≡ recorded sizes h.phases r.number
    own = (own_record sizes s h id v r me is).0

    mine : recorded sizes (set h.phases r.number q) r.number ≡ in_phase q r
    mine = ap (λ (p : Phase). record_of sizes r.number p) (set_here h.phases r.number q)
        ∙ sym (λ j. record { number = r.number; phase = q; workers = (own j).workers; lanes = (own j).lanes })

    others : (k : ℕ) → k ≢ r.number → recorded sizes (set h.phases r.number q) k ≡ recorded sizes h.phases k
    others k other = ap (λ (p : Phase). record_of sizes k p) (set_else h.phases r.number q k other)

board_pool : (sizes : Sizes) (s : St) → Keeps sizes s → IsPool threads_in goes noted (Keeps sizes) sizes.workers sizes.lanes s
board_pool sizes s h = record {
  jobs = jobs_in sizes s.words;
  phases = h.phases;
  long = omega (arith, h.long);
  sound = h.sound;
  tied = λ id v r me is. let own = (own_record sizes s h id v r me is).0 in
      (sym (ap (λ (x : ThreadRecord). x.phase) own), ap (λ (x : ThreadRecord). x.workers) own, ap (λ (x : ThreadRecord). x.lanes) own);
  moves = λ id v r q i y me is below sound. moves_to sizes s h id v r q i y me is
      (subst (λ (jobs : ℕ → ℕ). IsSound (world_of sizes.workers sizes.lanes (common.set s.words i y) jobs (set h.phases r.number q)))
      (λ j l. sym (get_or-set_other s.words i (lane_at sizes l) y 0 (λ e. omega (arith, e, below))) j) sound);
  notes = λ id v r q d i y me is below sound. moves_to sizes s h id v r q i y me is
      (subst (λ (jobs : ℕ → ℕ). IsSound (world_of sizes.workers sizes.lanes (common.set s.words i y) jobs (set h.phases r.number q)))
      (λ j l. sym (get_or-set_other s.words i (lane_at sizes l) y 0 (λ e. omega (arith, e, below))) j) sound);
}

last : (p q : Phase) (rs : List ThreadRecord) → map (in_phase q) (map (in_phase p) rs) ≡ map (in_phase q) rs
last p q [] = refl
last p q (r ∷ rs) = ap (λ (xs : List ThreadRecord). in_phase q r ∷ xs) (last p q rs)

pub board_law : PoolLaw threads_in goes noted Keeps (λ sizes. sizes.workers) (λ sizes. sizes.lanes)
board_law = record {
  given = λ q v. refl;
  again = λ p q v. ap view (last p q v.threads);
  same = λ v r is. ap view (ap (map (in_phase r.phase)) is ∙ sym is);
  unseen = λ d v. refl;
  stays = λ d q v. refl;
  pool = board_pool;
}
