-- Each step of a seat keeps the rule.
use Rattle.std.proofs.Common.{◌≡◌, ℕ, zero, suc, eqb, Some, None, List, [], ◌∷◌, length, get_or, set, sym, refl, ap, ◌∙◌, subst, inl, inr, arith}
use Rattle.std.specs.List.{AllByRecursion}
use mathlib.Core.Option.{some, none}
use lib.ListN.{get_elem?}
use lib.Seq.{set-get_or}
use prog.Atomic.{either}
use Rattle.atomic_table.specs.Table.{Act, Allows, Enters, Valid, carried_after, gives, keeps, opening, step, stepped, takes}
use Rattle.atomic_table.proofs.Lists.{at_snoc, exchanged}
use Rattle.ghost_history.proofs.DealLemmas.{in_changed, only_view}
use Rattle.ghost_history.proofs.SumLemmas.{total-push, total-set}
use Rattle.ghost_history.proofs.ViewLemmas.{all_weaker}
use Rattle.sched_threads.specs.declared.clocked.ClockedDesk.{ClockedDesk}
use Rattle.sched_board.specs.declared.sizes.ThreadSizes.{ThreadSizes}
use Rattle.sched_board.specs.JobBoard.{IsFresh}
use Rattle.sched_threads.specs.declared.view.Turn.{Turn}
use Rattle.sched_threads.specs.declared.view.View.{View}
use Rattle.sched_threads.specs.Rule.{IsHeld, IsIn, IsTurn, Keeps, last_desk}
use Rattle.sched_threads.specs.Step.{IsIdle, IsOut, Sat, arrives, enters, leaves}
use Rattle.sched_threads.specs.View.{barred_view, blank_view, first_view, holding, turn, view}
use Rattle.sched_threads.proofs.HeldLemmas.{St, gives_desk, opens, pushes, stays_held, takes_desk}

-- The turns that a view notes are in a sequence.
abbrev Notes : List Turn → View → Type 0
Notes turns v = AllByRecursion (IsIn turns) v.notes

-- How many turns a view notes.
abbrev notes_in : View → ℕ
notes_in v = length v.notes

-- ---- the table begins

pub opens_table : (sizes : ThreadSizes) (x : ClockedDesk)
    → IsFresh sizes x.desk.board
    → x.clock ≡ 0
    → Keeps sizes (opening (0 ∷ []) (x ∷ []) blank_view)
opens_table sizes x fresh early = record {
  first = x;
  fresh = fresh;
  early = early;
  turns = [];
  legal = tt;
  notes = only_view (Notes []) blank_view tt;
  counted = refl;
  held = opens blank_view x refl;
}

-- ---- a seat is made

first_notes : (n : ℕ) → [] ≡ (first_view n).notes
first_notes zero = refl
first_notes (suc n) = refl

first_found : (n : ℕ) → (first_view n).found ≡ None
first_found zero = refl
first_found (suc n) = refl

pub arrives_step : (sizes : ThreadSizes) (n : ℕ) (m : Sat)
    → Enters (Keeps sizes) n 0 (λ found w. arrives (step n 0 0 0 none) m found (w, []))
arrives_step sizes n m s k homes small =
    let found = get_or s.words 0 0 in
    let w = first_view found in
    let none : notes_in w ≡ 0 = ap (λ (l : List Turn). length l) (sym (first_notes found)) in (
      w,
      record {
        first = k.first;
        fresh = k.fresh;
        early = k.early;
        turns = k.turns;
        legal = k.legal;
        notes = λ j u there. elim (at_snoc s.views w u j there) [
          | inl before ↦ k.notes j u before
          | inr last ↦ subst (Notes k.turns) last (subst (AllByRecursion (IsIn k.turns)) (first_notes found) tt)
        ];
        counted = omega (arith, total-push notes_in s.views w, k.counted, none);
        held = pushes (last_desk k.first k.turns) s k.held w (first_found found);
      },
      refl,
    )

-- ---- a seat takes the turn

module _ (sizes : ThreadSizes) (s : St) (k : Keeps sizes s) (id : ℕ) (v : View)
    (me : get_elem? s.views id ≡ some v) where
  abbrev here : ClockedDesk
  here = last_desk k.first k.turns

  takes_turn : get_or s.words 0 0 ≡ 0
      → v.found ≡ None
      → Keeps sizes (stepped s 0 1 id [] (holding v here) (takes 0 here))
  takes_turn free idle = record {
    first = k.first;
    fresh = k.fresh;
    early = k.early;
    turns = k.turns;
    legal = k.legal;
    notes = in_changed (Notes k.turns) s.views id (holding v here) (k.notes id v me) k.notes;
    counted = omega (arith, total-set notes_in s.views id v (holding v here) me, k.counted);
    held = takes_desk here s k.held id v me (holding v here) free idle refl;
  }

  is_barred : v ≡ blank_view → Keeps sizes (stepped s 0 (get_or s.words 0 0) id [] barred_view keeps)
  is_barred blank =
      let none : notes_in v ≡ 0 = ap notes_in blank in
      let words : set s.words 0 (get_or s.words 0 0) ≡ s.words = set-get_or s.words 0 0 in
      let P : List ℕ → Type 0 = λ ws. Keeps sizes (record { words = ws; homes = s.homes; views = set s.views id barred_view }) in
      subst P (sym words) (record {
        first = k.first;
        fresh = k.fresh;
        early = k.early;
        turns = k.turns;
        legal = k.legal;
        notes = in_changed (Notes k.turns) s.views id barred_view tt k.notes;
        counted = omega (arith, total-set notes_in s.views id v barred_view me, k.counted, none);
        held = stays_held here s k.held id v me barred_view (ap (λ (z : View). z.found) blank) refl;
      })

pub enters_step : (sizes : ThreadSizes) (n id : ℕ) (m : Sat)
    → IsIdle m
    → Allows (Keeps sizes) n id m 0 (λ number. either (eqb number 0) 1 number)
    (enters (step n 0 0 1 none) m)
enters_step sizes n id m idle s k homes me small =
    let x = last_desk k.first k.turns in
    let blank : m.0 ≡ blank_view = ap (λ (z : Sat). z.0) idle in
    let bare_slots : m.1 ≡ [] = ap (λ (z : Sat). z.1) idle in
    let G : ℕ → Type 0 = λ new. (w : View) × (a : Act ClockedDesk) × Valid s.homes m.1 a × Keeps sizes (stepped s 0 new id m.1 w a) × enters (step n 0 0 1 none) m (get_or s.words 0 0) (w, carried_after m.1 a) in
    let bare : (a : Act ClockedDesk) (new : ℕ) (w : View) → Keeps sizes (stepped s 0 new id [] w a) → Keeps sizes (stepped s 0 new id m.1 w a) = λ a new w is. subst (λ (l : List (ℕ × ClockedDesk)). Keeps sizes (stepped s 0 new id l w a)) (sym bare_slots) is in
    exchanged (get_or s.words 0 0) 0 1 G
    (λ hit. (
      holding m.0 x,
      takes 0 x,
      k.held.home hit,
      bare (takes 0 x) 1 (holding m.0 x) (takes_turn sizes s k id m.0 me hit (ap (λ (z : View). z.found) blank)),
      ((λ _. (x, ap (λ (z : Sat). (holding z.0 x, (0, x) ∷ z.1)) idle)), λ miss. absurd (miss hit)),
    ))
    (λ miss. (barred_view, keeps, tt, bare keeps (get_or s.words 0 0) barred_view (is_barred sizes s k id m.0 me blank), ((λ hit. absurd (miss hit)), λ _. ap (λ (c : List (ℕ × ClockedDesk)). (barred_view, c)) bare_slots)))

-- ---- a turn ends

still_in : (t : Turn) (turns : List Turn) (v : View) → Notes turns v → Notes (t ∷ turns) v
still_in t turns v all = all_weaker (IsIn turns) (IsIn (t ∷ turns)) (λ n is. inr is) v.notes all

leaves_turn : (sizes : ThreadSizes) (s : St) (k : Keeps sizes s) (id : ℕ) (x y : ClockedDesk)
    → get_elem? s.views id ≡ some (view [] (Some x))
    → length s.homes ≡ 1
    → IsTurn x y
    → Keeps sizes (stepped s 0 0 id ((0, y) ∷ []) (view (turn (length k.turns) x y ∷ []) None) gives)
leaves_turn sizes s k id x y me one_home is =
    let v : View = view [] (Some x) in
    let t : Turn = turn (length k.turns) x y in
    let w : View = view (t ∷ []) None in
    let last : x ≡ last_desk k.first k.turns = k.held.taken id v x me refl in
    record {
      first = k.first;
      fresh = k.fresh;
      early = k.early;
      turns = t ∷ k.turns;
      legal = ((refl, last, is), k.legal);
      notes = in_changed (Notes (t ∷ k.turns)) s.views id w (inl refl, tt) (λ j u there. still_in t k.turns u (k.notes j u there));
      counted = omega (arith, total-set notes_in s.views id v w me, k.counted);
      held = gives_desk x s (subst (λ (d : ClockedDesk). IsHeld d s) (sym last) k.held) id v me y w refl refl one_home;
    }

pub leaves_step : (sizes : ThreadSizes) (n : ℕ)
    → n ≡ 1
    → (id : ℕ) (m : Sat) (x y : ClockedDesk)
    → IsOut m x y
    → IsTurn x y
    → Allows (Keeps sizes) n id m 0 (λ _. 0) (λ _. leaves (step n 0 0 0 none) m 0)
leaves_step sizes n one id m x y out is = subst (λ (z : Sat). Allows (Keeps sizes) n id z 0 (λ _. 0) (λ _. leaves (step n 0 0 0 none) z 0)) (sym out)
    (λ s k homes me small. (
      view (turn (length k.turns) x y ∷ []) None,
      gives,
      tt,
      leaves_turn sizes s k id x y me (homes ∙ one) is,
      λ x' y' same.
          let desks : Some x ≡ Some x' = ap (λ (z : Sat). z.0.found) same in
          let carried : (0, y) ∷ [] ≡ (0, y') ∷ [] = ap (λ (z : Sat). z.1) same in
          let ex : x ≡ x' = cc in
          let pairs : (0, y) ≡ (0, y') = cc in
          let ey : y ≡ y' = ap (λ (p : ℕ × ClockedDesk). p.1) pairs in
          (length k.turns, λ i. (view (turn (length k.turns) (ex i) (ey i) ∷ []) None, [])),
    ))
