-- The desk in its slot or with the seat that has the turn, as words, slots and views change.
use Rattle.std.proofs.Common.{◌≡◌, ℕ, Some, None, [], ◌∷◌, ◌++◌, length, length-set, get_or, get_or-set_same, set, sym, refl, ap, ◌∙◌, subst, inl, inr, arith}
use mathlib.Core.Option.{some}
use lib.ListN.{get_elem?}
use Rattle.atomic_table.specs.Table.{State, takes, gives, stepped, opening}
use Rattle.atomic_table.proofs.Lists.{at_snoc, set_here}
use Rattle.ghost_history.specs.Sums.{total}
use Rattle.ghost_history.proofs.SumLemmas.{total-set, total-push, term_le}
use Rattle.ghost_history.proofs.DealLemmas.{only_view, in_changed}
use Rattle.sched_threads.specs.declared.clocked.ClockedDesk.{ClockedDesk}
use Rattle.sched_threads.specs.declared.view.View.{View}
use Rattle.sched_threads.specs.Rule.{IsHeld, is_out, out_of}

abbrev pub St : Type 0
St = State ClockedDesk View

-- The desk that a view found is this one.
abbrev pub IsFound : ClockedDesk → View → Type 0
IsFound x v = (y : ClockedDesk) → v.found ≡ Some y → y ≡ x

nothing_found : (x : ClockedDesk) (v : View) → v.found ≡ None → IsFound x v
nothing_found x v none y some_y = let no_way : None ≡ Some y = sym none ∙ some_y in cc

-- A new table.
pub opens : (v : View) (x : ClockedDesk) → v.found ≡ None → IsHeld x (opening (0 ∷ []) (x ∷ []) v)
opens v x none =
    let is_in : is_out v ≡ 0 = ap out_of none in
    record {
      words = refl;
      bit = omega arith;
      out = omega (arith, is_in);
      home = λ _. refl;
      taken = λ id u y there some_y. only_view (IsFound x) v (nothing_found x v none) id u there y some_y;
    }

-- A seat is made that knows of no desk.
pub pushes : (x : ClockedDesk) (s : St) (c : IsHeld x s) (w : View) → w.found ≡ None
    → IsHeld x (record { words = s.words; homes = s.homes; views = s.views ++ w ∷ [] })
pushes x s c w none =
    let is_in : is_out w ≡ 0 = ap out_of none in
    record {
      words = c.words;
      bit = c.bit;
      out = omega (arith, is_in, total-push is_out s.views w, c.out);
      home = c.home;
      taken = λ j u y there some_y. elim (at_snoc s.views w u j there) [
        | inl before ↦ c.taken j u y before some_y
        | inr last ↦ subst (IsFound x) last (nothing_found x w none) y some_y
      ];
    }

module _ (x : ClockedDesk) (s : St) (c : IsHeld x s) (id : ℕ) (v : View)
    (me : get_elem? s.views id ≡ some v) where
  -- A seat takes the desk if the word is 0.
  pub takes_desk : (w : View)
      → get_or s.words 0 0 ≡ 0
      → v.found ≡ None
      → w.found ≡ Some x
      → IsHeld x (stepped s 0 1 id [] w (takes 0 x))
  takes_desk w free idle some_x =
      let moved = total-set is_out s.views id v w me in
      let was_in : is_out v ≡ 0 = ap out_of idle in
      let goes_out : is_out w ≡ 1 = ap out_of some_x in
      let one : get_or (set s.words 0 1) 0 0 ≡ 1 = get_or-set_same s.words 0 1 0 (omega (arith, c.words)) in
      record {
        words = length-set s.words 0 1 ∙ c.words;
        bit = omega (arith, one);
        out = omega (arith, moved, c.out, free, one, was_in, goes_out);
        home = λ zero_now. absurd (omega (arith, one, zero_now));
        taken = λ j u y there some_y. in_changed (IsFound x) s.views id w
            (λ z e. let same : Some x ≡ Some z = sym some_x ∙ e in let is : x ≡ z = cc in sym is)
            (λ i z at_i y e. c.taken i z y at_i e) j u there y some_y;
      }

  -- A seat without the turn learns something else.
  pub stays_held : (w : View) → v.found ≡ None → w.found ≡ None
      → IsHeld x (record { words = s.words; homes = s.homes; views = set s.views id w })
  stays_held w was_none none =
      let was_in : is_out v ≡ 0 = ap out_of was_none in
      let is_in : is_out w ≡ 0 = ap out_of none in
      record {
        words = c.words;
        bit = c.bit;
        out = omega (arith, total-set is_out s.views id v w me, c.out, was_in, is_in);
        home = c.home;
        taken = λ j u y there some_y. in_changed (IsFound x) s.views id w (nothing_found x w none)
            (λ i z at_i y e. c.taken i z y at_i e) j u there y some_y;
      }

  -- The seat gives a desk back.
  pub gives_desk : (y : ClockedDesk) (w : View)
      → v.found ≡ Some x
      → w.found ≡ None
      → length s.homes ≡ 1
      → IsHeld y (stepped s 0 0 id ((0, y) ∷ []) w gives)
  gives_desk y w some_x idle one_home =
      let moved = total-set is_out s.views id v w me in
      let was_out : is_out v ≡ 1 = ap out_of some_x in
      let is_in : is_out w ≡ 0 = ap out_of idle in
      let zero_now : get_or (set s.words 0 0) 0 0 ≡ 0 = get_or-set_same s.words 0 0 0 (omega (arith, c.words)) in
      let nobody : total is_out (set s.views id w) ≡ 0 = omega (arith, moved, c.out, c.bit, was_out, is_in) in
      record {
        words = length-set s.words 0 0 ∙ c.words;
        bit = omega (arith, zero_now);
        out = nobody ∙ sym zero_now;
        home = λ _. set_here s.homes 0 (some y) (omega (arith, one_home));
        taken = λ j u z there some_z. let one : is_out u ≡ 1 = ap out_of some_z in absurd (omega (arith, one, nobody, term_le is_out (set s.views id w) j u there));
      }
