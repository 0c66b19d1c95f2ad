-- The blocks that sound rooms hold, by their bases.
use Rattle.std.proofs.Common.{◌≡◌, ◌≢◌, ℕ, zero, suc, ◌+◌, ◌-◌, ◌*◌, ◌/◌, ◌%◌, ◌^◌, ◌<◌, ◌≤◌, ◌⊎◌, inl, inr, Bool, true, false, cond, eqb, List, ◌++◌, length, take, drop, Option, Some, None, refl, sym, ◌∙◌, ap, subst, arith}
use Rattle.std.specs.Prelude.{slice_index_or}
use Rattle.std.specs.FinMap.{get}
use Rattle.std.proofs.Math.Seq.{take-append_seam}
use Rattle.std.proofs.lemmas.List.{get_or_past}
use Rattle.std.proofs.lemmas.Bool.{cases_lt, cases_eq, eq-eqb, eqb-true, ne_eqb}
use Rattle.std.proofs.lemmas.Nat.{pow_pos, pow-add, div-add-mod'}
use Rattle.std.proofs.Math.Nat.{div-lt_iff_lt-mul, div-one, mul-mod_left}
use Rattle.cube_shape.specs.declared.region.Region.{Region}
use Rattle.cube_shape.specs.Region.{AreApart, IsAligned}
use Rattle.cube_shape.specs.Node.{IsNodeOf, OnPath}
use Rattle.cube_shape.specs.Machine.{Gives, Holdings, IsFree, TakesBack}
use Rattle.cube_shape.proofs.RegionLemmas.{AreApart-paths, IsAligned-end, IsNodeOf-aligned, IsNodeOf-of_aligned, IsNodeOf-one_node, IsNodeOf-one_region}
use Rattle.fit_tree.specs.Rooms.{IsNode, IsSound, room_of}
use Rattle.fit_tree.specs.InnerRepresents.{Represents}
use Rattle.fit_tree.specs.Fit.{Fit, held_in}
use Rattle.fit_tree.specs.InnerFit.{block_at, blocks_of, held_by, slots_from}
use Rattle.fit_tree.proofs.NodeLemmas.{IsNode-of}
use Rattle.fit_tree.proofs.RoomLemmas.{taken_alone}
use Rattle.fit_tree.proofs.SlotLemmas.{get-pairs_of}

none_is_some : {a : Region} → ◌≡◌ {A = Option Region} None (Some a) → ⊥
none_is_some e = cc

same_region : {a b : Region} → ◌≡◌ {A = Option Region} (Some a) (Some b) → a ≡ b
same_region e = cc

-- ---- the block of a dimension that begins at a base

-- as many blocks of dimension k as there are fill the machine
all_blocks : (n k : ℕ) → k ≤ n → 2 ^ (n - k) * 2 ^ k ≡ 2 ^ n
all_blocks n k fits =
    let parts : n - k + k ≡ n = omega arith in
    sym (pow-add 2 (n - k) k) ∙ ap (λ i. 2 ^ i) parts

begins_at : (n base d : ℕ) → d ≤ n → base < 2 ^ n → base % 2 ^ d ≡ 0
    → IsNodeOf n (2 ^ (n - d) + base / 2 ^ d) (record { base = base; dim = d })
begins_at n base d fits within begins =
    let parts : base / 2 ^ d * 2 ^ d + base % 2 ^ d ≡ base = div-add-mod' base (2 ^ d) in
    let is : base ≡ base / 2 ^ d * 2 ^ d = omega (arith, parts, begins) in
    (fits, (base / 2 ^ d, (div-lt_iff_lt-mul (pow_pos d)).1 (subst (λ x. base < x) (sym (all_blocks n d fits)) within), ap (λ b. record { base = b; dim = d }) is, refl))

-- and each node of a block is that of its base
node_is : (n v : ℕ) (a : Region) → IsNodeOf n v a → (a.base % 2 ^ a.dim ≡ 0) × (a.base < 2 ^ n)
node_is n v a named =
    let base : a.base ≡ named.1.0 * 2 ^ a.dim = ap (λ (x : Region). x.base) named.1.2 in
    let end = IsAligned-end n a (IsNodeOf-aligned n v a named) in
    (ap (λ x. x % 2 ^ a.dim) base ∙ mul_mod named.1.0 a.dim, omega (arith, end, pow_pos a.dim))
  where
    mul_mod : (m k : ℕ) → m * 2 ^ k % 2 ^ k ≡ 0
    mul_mod m k = mul-mod_left m (2 ^ k)

-- a taken node whose block begins at the base
abbrev IsTakenAt : ℕ → List ℕ → ℕ → Region → Type 0
IsTakenAt n rooms base a = (a.base ≡ base) × ((v : ℕ) × IsNodeOf n v a × (room_of rooms v ≡ 0))

leaf_at : (n base : ℕ) → 2 ^ (n - 0) + base / 2 ^ 0 ≡ 2 ^ n + base
leaf_at n base =
    let all : n - 0 ≡ n = omega arith in
    let one : base / 2 ^ 0 ≡ base = div-one base in
    ap (λ i. 2 ^ i + base / 2 ^ 0) all ∙ ap (λ x. 2 ^ n + x) one

-- the block of dimension 0, and one more dimension
leaf_is_taken : (n : ℕ) (rooms : List ℕ) (base : ℕ) (a : Region) → base < 2 ^ n
    → (t : Bool) → eqb (room_of rooms (2 ^ n + base)) 0 ≡ t → cond t (Some (record { base = base; dim = 0 })) None ≡ Some a → IsTakenAt n rooms base a
leaf_is_taken n rooms base a within true test is =
    let taken : room_of rooms (2 ^ (n - 0) + base / 2 ^ 0) ≡ 0 = ap (room_of rooms) (leaf_at n base) ∙ eqb-true (room_of rooms (2 ^ n + base)) 0 test in
    subst (IsTakenAt n rooms base) (same_region is) (refl, (2 ^ (n - 0) + base / 2 ^ 0, begins_at n base 0 (omega arith) within (omega arith), taken))
leaf_is_taken n rooms base a within false test is = absurd (none_is_some is)

module _ (n : ℕ) (rooms : List ℕ) (base d : ℕ) (a : Region) (fits : suc d ≤ n) (within : base < 2 ^ n) (lower : block_at n rooms base d ≡ Some a → IsTakenAt n rooms base a) where
  node_is_taken : base % 2 ^ suc d ≡ 0 → (t : Bool) → eqb (room_of rooms (2 ^ (n - suc d) + base / 2 ^ suc d)) 0 ≡ t
      → cond t (Some (record { base = base; dim = suc d })) (block_at n rooms base d) ≡ Some a → IsTakenAt n rooms base a
  node_is_taken begins true test is =
      subst (IsTakenAt n rooms base) (same_region is) (refl, (2 ^ (n - suc d) + base / 2 ^ suc d, begins_at n base (suc d) fits within begins, eqb-true (room_of rooms (2 ^ (n - suc d) + base / 2 ^ suc d)) 0 test))
  node_is_taken begins false test is = lower is

  base_is_taken : (t : Bool) → eqb (base % 2 ^ suc d) 0 ≡ t
      → cond t (cond (eqb (room_of rooms (2 ^ (n - suc d) + base / 2 ^ suc d)) 0) (Some (record { base = base; dim = suc d })) (block_at n rooms base d)) (block_at n rooms base d) ≡ Some a
      → IsTakenAt n rooms base a
  base_is_taken true begins is = node_is_taken (eqb-true (base % 2 ^ suc d) 0 begins) (eqb (room_of rooms (2 ^ (n - suc d) + base / 2 ^ suc d)) 0) refl is
  base_is_taken false begins is = lower is

block_at_some : (n : ℕ) (rooms : List ℕ) (base d : ℕ) (a : Region) → d ≤ n → base < 2 ^ n
    → block_at n rooms base d ≡ Some a
    → IsTakenAt n rooms base a
block_at_some n rooms base zero a fits within is = leaf_is_taken n rooms base a within (eqb (room_of rooms (2 ^ n + base)) 0) refl is
block_at_some n rooms base (suc d) a fits within is =
    base_is_taken n rooms base d a fits within (block_at_some n rooms base d a (omega arith) within) (eqb (base % 2 ^ suc d) 0) refl is

block_at_none : (n : ℕ) (rooms : List ℕ) (base d e : ℕ) → e ≤ d → base % 2 ^ e ≡ 0
    → room_of rooms (2 ^ (n - e) + base / 2 ^ e) ≡ 0
    → block_at n rooms base d ≡ None → ⊥
block_at_none n rooms base zero e below begins taken is =
    let none : e ≡ 0 = omega arith in
    let moved : room_of rooms (2 ^ (n - 0) + base / 2 ^ 0) ≡ 0 = subst (λ i. room_of rooms (2 ^ (n - i) + base / 2 ^ i) ≡ 0) none taken in
    let here : room_of rooms (2 ^ n + base) ≡ 0 = sym (ap (room_of rooms) (leaf_at n base)) ∙ moved in
    none_is_some (sym is ∙ ap (λ t. cond t (Some (record { base = base; dim = 0 })) None) (eq-eqb (room_of rooms (2 ^ n + base)) 0 here))
block_at_none n rooms base (suc d) e below begins taken is = elim (cases_eq e (suc d)) [
  | inl same ↦
      let begins_here : base % 2 ^ suc d ≡ 0 = subst (λ i. base % 2 ^ i ≡ 0) same begins in
      let here : room_of rooms (2 ^ (n - suc d) + base / 2 ^ suc d) ≡ 0 = subst (λ i. room_of rooms (2 ^ (n - i) + base / 2 ^ i) ≡ 0) same taken in
      none_is_some (sym is
      ∙ ap (λ t. cond t (cond (eqb (room_of rooms (2 ^ (n - suc d) + base / 2 ^ suc d)) 0) (Some (record { base = base; dim = suc d })) (block_at n rooms base d)) (block_at n rooms base d)) (eq-eqb (base % 2 ^ suc d) 0 begins_here)
      ∙ ap (λ t. cond t (Some (record { base = base; dim = suc d })) (block_at n rooms base d)) (eq-eqb (room_of rooms (2 ^ (n - suc d) + base / 2 ^ suc d)) 0 here))
  | inr other ↦
      block_at_none n rooms base d e (omega (arith, other)) begins taken (outer (eqb (base % 2 ^ suc d) 0) is)
]
  where
    inner : (t : Bool) → cond t (Some (record { base = base; dim = suc d })) (block_at n rooms base d) ≡ None → block_at n rooms base d ≡ None
    inner true none = absurd (none_is_some (sym none))
    inner false none = none

    outer : (t : Bool)
        → cond t (cond (eqb (room_of rooms (2 ^ (n - suc d) + base / 2 ^ suc d)) 0) (Some (record { base = base; dim = suc d })) (block_at n rooms base d)) (block_at n rooms base d) ≡ None
        → block_at n rooms base d ≡ None
    outer true none = inner (eqb (room_of rooms (2 ^ (n - suc d) + base / 2 ^ suc d)) 0) none
    outer false none = none

-- ---- the slots

slot_at : (n : ℕ) (rooms : List ℕ) (base count i : ℕ) → i < count → slice_index_or (slots_from n rooms base count) i None ≡ block_at n rooms (base + i) n
slot_at n rooms base zero i below = absurd (omega arith)
slot_at n rooms base (suc count) zero below =
    let same : base ≡ base + 0 = omega arith in ap (λ b. block_at n rooms b n) same
slot_at n rooms base (suc count) (suc i) below =
    let next : suc base + i ≡ base + suc i = omega arith in
    slot_at n rooms (suc base) count i (omega arith) ∙ ap (λ b. block_at n rooms b n) next

slot_count : (n : ℕ) (rooms : List ℕ) (base count : ℕ) → length (slots_from n rooms base count) ≡ count
slot_count n rooms base zero = refl
slot_count n rooms base (suc count) = ap suc (slot_count n rooms (suc base) count)

held_within : (n : ℕ) (rooms : List ℕ) (t : ℕ) → t < 2 ^ n → held_by n rooms t ≡ block_at n rooms t n
held_within n rooms t within =
    let same : 0 + t ≡ t = omega arith in
    slot_at n rooms 0 (2 ^ n) t within ∙ ap (λ b. block_at n rooms b n) same

held_past : (n : ℕ) (rooms : List ℕ) (t : ℕ) → 2 ^ n ≤ t → held_by n rooms t ≡ None
held_past n rooms t past = get_or_past (slots_from n rooms 0 (2 ^ n)) t None (omega (arith, past, slot_count n rooms 0 (2 ^ n)))

-- ---- what sound rooms hold

pub held_is : (n : ℕ) (rooms : List ℕ) (t : ℕ) (a : Region) → held_by n rooms t ≡ Some a → IsTakenAt n rooms t a
held_is n rooms t a is = elim (cases_lt t (2 ^ n)) [
  | inl within ↦ block_at_some n rooms t n a (omega arith) within (sym (held_within n rooms t within) ∙ is)
  | inr past ↦ absurd (none_is_some (sym (held_past n rooms t past) ∙ is))
]

-- two blocks with one base are not apart
same_base : (a b : Region) → a.base ≡ b.base → AreApart a b → ⊥
same_base a b same apart =
    apart a.base (omega arith, omega (arith, pow_pos a.dim)) (omega (arith, same), omega (arith, same, pow_pos b.dim))

module _ (n : ℕ) (rooms : List ℕ) (sound : IsSound n rooms) where
  -- two taken nodes are one, or their blocks are apart
  pub taken_apart : (v w : ℕ) (a b : Region) → IsNodeOf n v a → IsNodeOf n w b → room_of rooms v ≡ 0 → room_of rooms w ≡ 0 → v ≢ w → AreApart a b
  taken_apart v w a b named_a named_b taken_v taken_w other = (AreApart-paths n v w a b named_a named_b).1 unrelated
    where
      unrelated : OnPath v w ⊎ OnPath w v → ⊥
      unrelated (inl on) = taken_alone n rooms sound b.dim w (IsNode-of n w b named_b) taken_w v on other taken_v
      unrelated (inr on) = taken_alone n rooms sound a.dim v (IsNode-of n v a named_a) taken_v w on (λ same. other (sym same)) taken_w

  -- each taken node's block is held at its base
  pub is_held : (v : ℕ) (a : Region) → IsNodeOf n v a → room_of rooms v ≡ 0 → held_by n rooms a.base ≡ Some a
  is_held v a named taken = held_within n rooms a.base (node_is n v a named).1 ∙ turn (block_at n rooms a.base n) refl
    where
      turn : (o : Option Region) → block_at n rooms a.base n ≡ o → o ≡ Some a
      turn None is =
          let begins = node_is n v a named in
          let at_base = begins_at n a.base a.dim named.0 begins.1 begins.0 in
          let same : v ≡ 2 ^ (n - a.dim) + a.base / 2 ^ a.dim = IsNodeOf-one_node n v (2 ^ (n - a.dim) + a.base / 2 ^ a.dim) a named at_base in
          absurd (block_at_none n rooms a.base n a.dim named.0 begins.0 (ap (room_of rooms) (sym same) ∙ taken) is)
      turn (Some b) is =
          let found = block_at_some n rooms a.base n b (omega arith) (node_is n v a named).1 is in
          elim (cases_eq found.1.0 v) [
            | inl same ↦ ap (λ (x : Region). Some x) (IsNodeOf-one_region n v b a (subst (λ x. IsNodeOf n x b) same found.1.1) named)
            | inr other ↦
                absurd (same_base b a found.0 (taken_apart found.1.0 v b a found.1.1 named found.1.2 taken other))
          ]

  pub Represents-held : Represents n (held_by n rooms) rooms
  Represents-held = record {
    lawful = record { aligned = aligned; apart = apart };
    each_is_taken = each_is_taken;
    each_is_held = λ v a named taken. (a.base, is_held v a named taken);
  }
    where
      aligned : (s : ℕ) (a : Region) → held_by n rooms s ≡ Some a → IsAligned n a
      aligned s a is = let found = held_is n rooms s a is in IsNodeOf-aligned n found.1.0 a found.1.1

      apart : (s t : ℕ) (a b : Region) → s ≢ t → held_by n rooms s ≡ Some a → held_by n rooms t ≡ Some b → AreApart a b
      apart s t a b other is_a is_b =
          let found_a = held_is n rooms s a is_a in
          let found_b = held_is n rooms t b is_b in
          taken_apart found_a.1.0 found_b.1.0 a b found_a.1.1 found_b.1.1 found_a.1.2 found_b.1.2
          (λ same. other (bases s t a b found_a.0 found_b.0 (IsNodeOf-one_region n found_b.1.0 a b (subst (λ x. IsNodeOf n x a) same found_a.1.1) found_b.1.1)))
        where
          bases : (s t : ℕ) (a b : Region) → a.base ≡ s → b.base ≡ t → a ≡ b → s ≡ t
          bases s t a b at_s at_t same = sym at_s ∙ ap (λ (x : Region). x.base) same ∙ at_t

      each_is_taken : (s : ℕ) (a : Region) (v : ℕ) → held_by n rooms s ≡ Some a → IsNodeOf n v a → room_of rooms v ≡ 0
      each_is_taken s a v is named =
          let found = held_is n rooms s a is in
          subst (λ x. room_of rooms x ≡ 0) (IsNodeOf-one_node n found.1.0 v a found.1.1 named) found.1.2

  -- holdings by bases that the rooms represent are these
  pub held_alone : (held : Holdings) → Represents n held rooms → ((t : ℕ) (a : Region) → held t ≡ Some a → a.base ≡ t) → (t : ℕ) → held t ≡ held_by n rooms t
  held_alone held represents by_base t = turn (held t) (held_by n rooms t) refl refl
    where
      turn : (o p : Option Region) → held t ≡ o → held_by n rooms t ≡ p → o ≡ p
      turn None None is here = refl
      turn (Some a) p is here =
          let node = IsNodeOf-of_aligned n a ((represents.lawful).aligned t a is) in
          let taken = represents.each_is_taken t a node.0 is node.1 in
          sym (ap (held_by n rooms) (sym (by_base t a is)) ∙ is_held node.0 a node.1 taken) ∙ here
      turn None (Some b) is here =
          let found = held_is n rooms t b here in
          let other = represents.each_is_held found.1.0 b found.1.1 found.1.2 in
          let at : t ≡ other.0 = sym found.0 ∙ by_base other.0 b other.1 in
          sym is ∙ ap held at ∙ other.1

-- ---- a take and a release by bases

-- the holdings with another block, or none, at a base
put : ℕ → Option Region → Holdings → Holdings
put base o held t = cond (eqb t base) o (held t)

put_own : (base : ℕ) (o : Option Region) (held : Holdings) → put base o held base ≡ o
unfolding put
put_own base o held = ap (λ b. cond b o (held base)) (eq-eqb base base refl)

put_other : (base : ℕ) (o : Option Region) (held : Holdings) (t : ℕ) → t ≢ base → put base o held t ≡ held t
unfolding put
put_other base o held t other = ap (λ b. cond b o (held t)) (ne_eqb t base other)

module _ (n : ℕ) (rooms rooms' : List ℕ) (sound : IsSound n rooms) (sound' : IsSound n rooms') (r : Region) where
  by_base : (o : Option Region) → ((a : Region) → o ≡ Some a → a.base ≡ r.base) → (t : ℕ) (a : Region) → put r.base o (held_by n rooms) t ≡ Some a → a.base ≡ t
  by_base o at t a is = elim (cases_eq t r.base) [
    | inl same ↦ at a (sym (put_own r.base o (held_by n rooms)) ∙ ap (put r.base o (held_by n rooms)) (sym same) ∙ is) ∙ sym same
    | inr other ↦ (held_is n rooms t a (sym (put_other r.base o (held_by n rooms) t other) ∙ is)).0
  ]

  pub Gives-held : (k : ℕ) → IsAligned n r → r.dim ≡ k → IsFree (held_by n rooms) r
      → ((station : ℕ) (old new : Holdings) → Represents n old rooms → Gives n station k old new r → Represents n new rooms')
      → Gives n r.base k (held_by n rooms) (held_by n rooms') r
  Gives-held k aligned dimension free given = record {
    idle = idle;
    aligned = aligned;
    dimension = dimension;
    apart = free;
    held = sym (same r.base) ∙ put_own r.base (Some r) (held_by n rooms);
    others = λ t other. sym (same t) ∙ put_other r.base (Some r) (held_by n rooms) t other;
  }
    where
      idle : held_by n rooms r.base ≡ None
      idle = turn (held_by n rooms r.base) refl
        where
          turn : (o : Option Region) → held_by n rooms r.base ≡ o → o ≡ None
          turn None is = refl
          turn (Some a) is = absurd (same_base a r (held_is n rooms r.base a is).0 (free r.base a is))

      gives : Gives n r.base k (held_by n rooms) (put r.base (Some r) (held_by n rooms)) r
      gives = record {
        idle = idle;
        aligned = aligned;
        dimension = dimension;
        apart = free;
        held = put_own r.base (Some r) (held_by n rooms);
        others = λ t other. put_other r.base (Some r) (held_by n rooms) t other;
      }

      same : (t : ℕ) → put r.base (Some r) (held_by n rooms) t ≡ held_by n rooms' t
      same = held_alone n rooms' sound' (put r.base (Some r) (held_by n rooms)) (given r.base (held_by n rooms) (put r.base (Some r) (held_by n rooms)) (Represents-held n rooms sound) gives)
          (by_base (Some r) (λ a is. ap (λ (x : Region). x.base) (sym (same_region is))))

  pub TakesBack-held : held_by n rooms r.base ≡ Some r
      → ((station : ℕ) (old new : Holdings) → Represents n old rooms → TakesBack station old new r → Represents n new rooms')
      → TakesBack r.base (held_by n rooms) (held_by n rooms') r
  TakesBack-held held taken_back = record {
    held = held;
    idle = sym (same r.base) ∙ put_own r.base None (held_by n rooms);
    others = λ t other. sym (same t) ∙ put_other r.base None (held_by n rooms) t other;
  }
    where
      back : TakesBack r.base (held_by n rooms) (put r.base None (held_by n rooms)) r
      back = record {
        held = held;
        idle = put_own r.base None (held_by n rooms);
        others = λ t other. put_other r.base None (held_by n rooms) t other;
      }

      same : (t : ℕ) → put r.base None (held_by n rooms) t ≡ held_by n rooms' t
      same = held_alone n rooms' sound' (put r.base None (held_by n rooms)) (taken_back r.base (held_by n rooms) (put r.base None (held_by n rooms)) (Represents-held n rooms sound) back)
          (by_base None (λ a is. absurd (none_is_some is)))

-- a block that some station holds is held at its base
pub held_at_base : (n : ℕ) (rooms : List ℕ) (r : Region) → (s : ℕ) × (held_by n rooms s ≡ Some r) → held_by n rooms r.base ≡ Some r
held_at_base n rooms r found = ap (held_by n rooms) (held_is n rooms found.0 r found.1).0 ∙ found.1

-- ---- the value

-- what the value says is what the rooms hold
pub held_in-view : (n : ℕ) (rooms : List ℕ) → get (blocks_of n rooms) ≡ held_by n rooms
unfolding blocks_of
held_in-view n rooms = λ i t. get-pairs_of (slots_from n rooms 0 (2 ^ n)) t i

-- so what holds for the dimension and the rooms holds for the value that they represent
pub of_rooms : (P : ℕ → Holdings → Type 0) (dim : ℕ) (rooms : List ℕ) (f : Fit)
    → ◌≡◌ {A = Fit} (record { dim = dim; blocks = blocks_of dim rooms }) f
    → P dim (held_by dim rooms)
    → P f.dim (held_in f)
of_rooms P dim rooms f is holds = subst (λ x. P x.dim (held_in x)) is (subst (P dim) (sym (held_in-view dim rooms)) holds)

-- and conversely
pub to_rooms : (P : ℕ → Holdings → Type 0) (dim : ℕ) (rooms : List ℕ) (f : Fit)
    → ◌≡◌ {A = Fit} (record { dim = dim; blocks = blocks_of dim rooms }) f
    → P f.dim (held_in f)
    → P dim (held_by dim rooms)
to_rooms P dim rooms f is holds = subst (P dim) (held_in-view dim rooms) (subst (λ x. P x.dim (held_in x)) (sym is) holds)

-- a list of which all items were written is what was written
pub all_written : {A : Type 0} (n : ℕ) (old new : List A)
    → n ≡ length old
    → length new ≡ length old
    → take n (new ++ drop (length new) old) ≡ new
all_written n old new is same = ap (λ k. take k (new ++ drop (length new) old)) (is ∙ sym same) ∙ take-append_seam new (drop (length new) old)

pub held_written : (dim len : ℕ) (old new : List ℕ) → len ≡ length old → length new ≡ length old
    → get (blocks_of dim (take len (new ++ drop (length new) old))) ≡ held_by dim new
held_written dim len old new is same = held_in-view dim (take len (new ++ drop (length new) old)) ∙ ap (held_by dim) (all_written len old new is same)

-- a machine of which each node is wholly free holds nothing
pub held_free : (n : ℕ) (rooms : List ℕ) → ((d v : ℕ) → IsNode n d v → room_of rooms v ≡ d + 2) → (t : ℕ) → held_by n rooms t ≡ None
held_free n rooms whole t = turn (held_by n rooms t) refl
  where
    turn : (o : Option Region) → held_by n rooms t ≡ o → o ≡ None
    turn None is = refl
    turn (Some a) is =
        let found = held_is n rooms t a is in
        absurd (omega (arith, found.1.2, whole a.dim found.1.0 (IsNode-of n found.1.0 a found.1.1)))

-- ---- alignment

pub aligned_at : (n : ℕ) (r : Region) → r.dim ≤ n → r.base < 2 ^ n → r.base % 2 ^ r.dim ≡ 0 → IsAligned n r
aligned_at n r fits within begins = IsNodeOf-aligned n (2 ^ (n - r.dim) + r.base / 2 ^ r.dim) r (begins_at n r.base r.dim fits within begins)

pub aligned_base : (n : ℕ) (r : Region) → IsAligned n r → (r.dim ≤ n) × (r.base < 2 ^ n) × (r.base % 2 ^ r.dim ≡ 0)
aligned_base n r aligned =
    let node = IsNodeOf-of_aligned n r aligned in
    let is = node_is n node.0 r node.1 in
    (aligned.0, is.1, is.0)
