-- The rule of a cell, as words, slots and views change.
use Rattle.std.proofs.Common.{◌≡◌, ◌≢◌, ℕ, ◌<◌, Option, Some, None, List, [], ◌∷◌, ◌++◌, length, length-set, get_or, get_or-set_same, set, sym, refl, ap, ◌∙◌, subst, arith}
use mathlib.Core.Logic.{dite}
use mathlib.Core.Option.{some, none, some-injective}
use native.Mathlib.Decide.{ℕ_discrete}
use lib.ListN.{get_elem?}
use lib.Seq.{set-get_or}
use Rattle.atomic_table.specs.Table.{State, Me, Act, keeps, takes, gives, Valid, carried_after, step, stepped, opening}
use Rattle.atomic_table.proofs.Lists.{set_here, set_again, exchanged}
use Rattle.ghost_history.specs.Sums.{total}
use Rattle.ghost_history.proofs.SumLemmas.{total-set, total-push, term_le, positive_term}
use Rattle.ghost_history.proofs.DealLemmas.{only_view, in_changed, in_cut, in_joined}
use Rattle.locked_peers.specs.Cell.{out_of, is_out, IsCell, takes_at_0, MayTry}

-- A step that leaves the word and the view as they are changes nothing.
pub changes_nothing : {S V : Type 0} (holds : State S V → Type 0) (s : State S V)
    → holds s
    → (id : ℕ) (v : V)
    → get_elem? s.views id ≡ some v
    → holds (stepped s 0 (get_or s.words 0 0) id [] v keeps)
changes_nothing {S} {V} holds s k id v me =
    let words : set s.words 0 (get_or s.words 0 0) ≡ s.words = set-get_or s.words 0 0 in
    let views : set s.views id v ≡ s.views = set_again s.views id v me in
    let P : List ℕ → List V → Type 0 = λ ws vs. holds (record { words = ws; homes = s.homes; views = vs }) in
    subst (λ (ws : List ℕ). P ws (set s.views id v)) (sym words) (subst (P s.words) (sym views) k)

-- A seat may try if it would learn of the value in the slot, and the rule would hold after the
-- take.
pub may_try : {S V : Type 0} (holding : V → S → V) (Learns : V → S → Type 0)
    (holds : State S V → Type 0) (n id : ℕ) (m : Me S V)
    → m.1 ≡ []
    → ((s : State S V) → holds s → get_elem? s.views id ≡ some m.0 → get_or s.words 0 0 ≡ 0
    → (x : S) × (get_elem? s.homes 0 ≡ some (some x))
    × holds (stepped s 0 1 id [] (holding m.0 x) (takes 0 x)) × Learns m.0 x)
    → MayTry holding Learns holds n id m
may_try {S} {V} holding Learns holds n id m no_slot at_0 s k homes me small =
    let G : ℕ → Type 0 = λ new. (w : V) × (a : Act S) × Valid s.homes m.1 a × holds (stepped s 0 new id m.1 w a) × takes_at_0 holding Learns (step n 0 0 1 none) m (get_or s.words 0 0) (w, carried_after m.1 a) in
    let here : (c : List (ℕ × S)) → c ≡ [] → (a : Act S) (new : ℕ) (w : V) → holds (stepped s 0 new id [] w a) → holds (stepped s 0 new id c w a) = λ c none_out a new w is. subst (λ (l : List (ℕ × S)). holds (stepped s 0 new id l w a)) (sym none_out) is in
    exchanged (get_or s.words 0 0) 0 1 G
    (λ hit. let t = at_0 s k me hit in let x : S = t.0 in (
      holding m.0 x,
      takes 0 x,
      t.1,
      here m.1 no_slot (takes 0 x) 1 (holding m.0 x) t.2,
      ((λ _. (x, ap (λ (c : List (ℕ × S)). (holding m.0 x, (0, x) ∷ c)) no_slot, t.3)), λ miss. absurd (miss hit)),
    ))
    (λ miss. (m.0, keeps, tt, here m.1 no_slot keeps (get_or s.words 0 0) m.0 (changes_nothing holds s k id m.0 me), ((λ hit. absurd (miss hit)), λ _. refl)))

module _ {S V : Type 0} (found : V → Option S) (members : V → ℕ) where
  -- A new table.
  pub opens : (Fits : S → Type 0) (v : V) (x : S)
      → found v ≡ None
      → Fits x
      → IsCell found members Fits (opening (0 ∷ []) (x ∷ []) v)
  opens Fits v x idle fits =
      let is_in : is_out found members v ≡ 0 = ap out_of idle in
      record {
        words = refl;
        bit = omega arith;
        out = omega (arith, is_in);
        home = λ _. (x, refl, fits);
        taken = λ id u y there some_y. only_view (λ (z : V). found z ≡ Some y → Fits y) v (λ e. let no_way : None ≡ Some y = sym idle ∙ e in cc) id u there some_y;
        taken_by = only_view (λ (z : V). 0 < is_out found members z → 0 < members z) v (λ is. absurd (omega arith));
      }

  module _ {Fits : S → Type 0} (s : State S V) (c : IsCell found members Fits s) (id : ℕ) (v : V)
      (me : get_elem? s.views id ≡ some v) where
    -- A member's seat takes the value if the word is 0.
    pub takes_value : (w : V) (x : S)
        → get_or s.words 0 0 ≡ 0
        → found v ≡ None
        → found w ≡ Some x
        → 0 < members w
        → Fits x
        → IsCell found members Fits (stepped s 0 1 id [] w (takes 0 x))
    takes_value w x free idle some_x member fits =
        let moved = total-set (is_out found members) s.views id v w me in
        let was_in : is_out found members v ≡ 0 = ap out_of idle in
        let goes_out : is_out found members w ≡ 1 = ap out_of some_x in
        let one : get_or (set s.words 0 1) 0 0 ≡ 1 = get_or-set_same s.words 0 1 0 (omega (arith, c.words)) in
        record {
          words = length-set s.words 0 1 ∙ c.words;
          bit = omega (arith, one);
          out = omega (arith, moved, c.out, free, one, was_in, goes_out);
          home = λ zero_now. absurd (omega (arith, one, zero_now));
          taken = λ j u y there some_y. in_changed (λ (z : V). found z ≡ Some y → Fits y) s.views id w
              (λ e. let same : Some x ≡ Some y = sym some_x ∙ e in let is : x ≡ y = cc in subst Fits is fits)
              (λ i z at_i e. c.taken i z y at_i e) j u there some_y;
          taken_by = in_changed (λ (z : V). 0 < is_out found members z → 0 < members z) s.views id w (λ _. member) c.taken_by;
        }

    -- The seat gives a value back, which fits then.
    pub gives_value : (Fits' : S → Type 0) (x y : S) (w : V)
        → found v ≡ Some x
        → found w ≡ None
        → length s.homes ≡ 1
        → Fits' y
        → IsCell found members Fits' (stepped s 0 0 id ((0, y) ∷ []) w gives)
    gives_value Fits' x y w some_x idle one_home fits =
        let moved = total-set (is_out found members) s.views id v w me in
        let was_out : is_out found members v ≡ 1 = ap out_of some_x in
        let is_in : is_out found members w ≡ 0 = ap out_of idle in
        let zero_now : get_or (set s.words 0 0) 0 0 ≡ 0 = get_or-set_same s.words 0 0 0 (omega (arith, c.words)) in
        let nobody : total (is_out found members) (set s.views id w) ≡ 0 = omega (arith, moved, c.out, c.bit, was_out, is_in) in
        record {
          words = length-set s.words 0 0 ∙ c.words;
          bit = omega (arith, zero_now);
          out = nobody ∙ sym zero_now;
          home = λ _. (y, set_here s.homes 0 (some y) (omega (arith, one_home)), fits);
          taken = λ j u z there some_z. let one : is_out found members u ≡ 1 = ap out_of some_z in absurd (omega (arith, one, nobody, term_le (is_out found members) (set s.views id w) j u there));
          taken_by = λ j u there is. absurd (omega (arith, is, nobody, term_le (is_out found members) (set s.views id w) j u there));
        }

    -- A view is cut in two.
    pub cuts : (left right : V)
        → found v ≡ None
        → found left ≡ None
        → found right ≡ None
        → IsCell found members Fits (record
        { words = s.words; homes = s.homes; views = set s.views id left ++ right ∷ [] })
    cuts left right idle left_none right_none =
        let was : is_out found members v ≡ 0 = ap out_of idle in
        let left_in : is_out found members left ≡ 0 = ap out_of left_none in
        let right_in : is_out found members right ≡ 0 = ap out_of right_none in
        record {
          words = c.words;
          bit = c.bit;
          out = omega (arith, was, left_in, right_in, total-push (is_out found members) (set s.views id left) right, total-set (is_out found members) s.views id v left me, c.out);
          home = c.home;
          taken = λ j u y there some_y. in_cut (λ (z : V). found z ≡ Some y → Fits y) s.views id left right
              (λ e. let no_way : None ≡ Some y = sym left_none ∙ e in cc) (λ e. let no_way : None ≡ Some y = sym right_none ∙ e in cc) (λ i z at_i e. c.taken i z y at_i e) j u there some_y;
          taken_by = in_cut (λ (z : V). 0 < is_out found members z → 0 < members z) s.views id left right (λ is. absurd (omega (arith, is, left_in))) (λ is. absurd (omega (arith, is, right_in))) c.taken_by;
        }

    -- A view is joined with another one.
    pub joins : (other : ℕ) (w both spent : V)
        → found v ≡ None
        → found w ≡ None
        → found both ≡ None
        → found spent ≡ None
        → get_elem? (set s.views id both) other ≡ some w
        → IsCell found members Fits (record
        { words = s.words; homes = s.homes; views = set (set s.views id both) other spent })
    joins other w both spent idle none_too both_none spent_none there =
        let was : is_out found members v ≡ 0 = ap out_of idle in
        let was_too : is_out found members w ≡ 0 = ap out_of none_too in
        let both_in : is_out found members both ≡ 0 = ap out_of both_none in
        let spent_in : is_out found members spent ≡ 0 = ap out_of spent_none in
        record {
          words = c.words;
          bit = c.bit;
          out = omega (arith, was, was_too, both_in, spent_in, total-set (is_out found members) s.views id v both me, total-set (is_out found members) (set s.views id both) other w spent there, c.out);
          home = c.home;
          taken = λ j u y at_j some_y. in_joined (λ (z : V). found z ≡ Some y → Fits y) s.views id other both spent
              (λ e. let no_way : None ≡ Some y = sym both_none ∙ e in cc) (λ e. let no_way : None ≡ Some y = sym spent_none ∙ e in cc) (λ i z at_i e. c.taken i z y at_i e) j u at_j some_y;
          taken_by = in_joined (λ (z : V). 0 < is_out found members z → 0 < members z) s.views id other both spent (λ is. absurd (omega (arith, is, both_in))) (λ is. absurd (omega (arith, is, spent_in))) c.taken_by;
        }

    -- If one view has all members and has not taken the value, the value is in its slot.
    pub at_home : found v ≡ None
        → ((j : ℕ) (u : V) → j ≢ id → get_elem? s.views j ≡ some u → members u ≡ 0)
        → (x : S) × (get_elem? s.homes 0 ≡ some (some x)) × Fits x
    at_home idle nobody_else = c.home (sym c.out ∙ nobody_out)
      where
        nobody_out : total (is_out found members) s.views ≡ 0
        nobody_out =
            dite (ℕ_discrete (total (is_out found members) s.views) 0) (λ none_out. none_out)
            (λ some_out.
            let t = positive_term (is_out found members) s.views (omega arith) in
            let j = t.0 in let u : V = t.1 in
            let in_here : is_out found members v ≡ 0 = ap out_of idle in
            let apart : j ≢ id = λ e. let same : u ≡ v = some-injective u v (sym t.2 ∙ (ap (get_elem? s.views) e ∙ me)) in let none_there : is_out found members u ≡ 0 = ap (is_out found members) same ∙ in_here in absurd (omega (arith, t.3, none_there)) in
            absurd (omega (arith, c.taken_by j u t.2 t.3, nobody_else j u apart t.2)))
