-- Rooms represent holdings, and a take or a release keeps that.
use Rattle.std.proofs.Common.{◌≡◌, ◌≢◌, ℕ, ◌+◌, ◌-◌, ◌^◌, ◌<◌, ◌≤◌, inl, inr, List, Option, Some, None, refl, sym, ◌∙◌, ap, subst, arith}
use Rattle.std.specs.Prelude.{◌↔◌}
use Rattle.std.proofs.lemmas.Bool.{cases_eq}
use Rattle.std.proofs.lemmas.Nat.{pow_pos}
use Rattle.cube_shape.specs.declared.region.Region.{Region}
use Rattle.cube_shape.specs.Region.{AreApart, Covers, block}
use Rattle.cube_shape.specs.Node.{IsInCube, IsNodeOf}
use Rattle.cube_shape.specs.Machine.{Gives, HasNoFit, Holdings, IsFirstFit, IsFree, TakesBack}
use Rattle.cube_shape.proofs.RegionLemmas.{AreApart-paths, IsNodeOf-in_cube, IsNodeOf-of_aligned, IsNodeOf-one_node, IsNodeOf-one_region}
use Rattle.cube_shape.proofs.MachineLemmas.{IsLawful-none, IsLawful-gives, IsLawful-takes_back}
use Rattle.fit_tree.specs.Rooms.{IsNode, room_of}
use Rattle.fit_tree.specs.InnerNodes.{IsOpen}
use Rattle.fit_tree.specs.InnerRepresents.{Represents}
use Rattle.fit_tree.proofs.NodeLemmas.{IsNode-has, IsNode-of, IsNodeOf-at}

none_is_some : {a : Region} → ◌≡◌ {A = Option Region} None (Some a) → ⊥
none_is_some e = cc

same_region : {a b : Region} → ◌≡◌ {A = Option Region} (Some a) (Some b) → a ≡ b
same_region e = cc

-- a block is not apart from itself
not_apart : (a : Region) → AreApart a a → ⊥
not_apart a apart =
    let inside : Covers a a.base = (omega arith, omega (arith, pow_pos a.dim)) in
    apart a.base inside inside

-- the node of a number of a dimension
pub nth_named : (n k m : ℕ) → k ≤ n → m < 2 ^ (n - k) → IsNodeOf n (2 ^ (n - k) + m) (block k m)
nth_named n k m fits within = (fits, (m, within, refl, refl))

module _ (n : ℕ) (held : Holdings) (rooms : List ℕ) (represents : Represents n held rooms) where
  -- a block is free exactly if its node is open
  pub open_from_free : (w : ℕ) (r : Region) → IsNodeOf n w r → IsFree held r → IsOpen n rooms w
  open_from_free w r named free u inside taken =
      let dim = IsNode-has n u inside in
      let is = IsNodeOf-at n dim.0 u dim.1 in
      let found = represents.each_is_held u (block dim.0 (u - 2 ^ (n - dim.0))) is taken in
      (AreApart-paths n u w (block dim.0 (u - 2 ^ (n - dim.0))) r is named).0 (free found.0 (block dim.0 (u - 2 ^ (n - dim.0))) found.1)

  pub free_from_open : (w : ℕ) (r : Region) → IsNodeOf n w r → IsOpen n rooms w → IsFree held r
  free_from_open w r named clear s a is =
      let node = IsNodeOf-of_aligned n a ((represents.lawful).aligned s a is) in
      (AreApart-paths n node.0 w a r node.1 named).1 (clear node.0 (IsNodeOf-in_cube n node.0 a node.1) (represents.each_is_taken s a node.0 is node.1))

  pub no_fit : (k : ℕ) → k ≤ n → ((w : ℕ) → IsNode n k w → IsOpen n rooms w → ⊥) → HasNoFit n k held
  no_fit k fits none m within free =
      let named = nth_named n k m fits within in
      none (2 ^ (n - k) + m) (IsNode-of n (2 ^ (n - k) + m) (block k m) named) (open_from_free (2 ^ (n - k) + m) (block k m) named free)

  pub some_fit : (k w : ℕ) → IsNode n k w → IsOpen n rooms w → HasNoFit n k held → ⊥
  some_fit k w node clear none =
      none (w - 2 ^ (n - k)) (omega (arith, node.1, node.2)) (free_from_open w (block k (w - 2 ^ (n - k))) (IsNodeOf-at n k w node) clear)

  pub first_fit : (k v : ℕ) → IsNode n k v → IsOpen n rooms v → ((w : ℕ) → IsNode n k w → w < v → IsOpen n rooms w → ⊥) → IsFirstFit n k held (v - 2 ^ (n - k))
  first_fit k v node clear before = record {
    in_cube = omega (arith, node.1, node.2);
    free = free_from_open v (block k (v - 2 ^ (n - k))) (IsNodeOf-at n k v node) clear;
    least = least;
  }
    where
      least : (i : ℕ) → i < v - 2 ^ (n - k) → IsFree held (block k i) → ⊥
      least i less free =
          let named = nth_named n k i node.0 (omega (arith, less, node.2)) in
          before (2 ^ (n - k) + i) (IsNode-of n (2 ^ (n - k) + i) (block k i) named) (omega (arith, less)) (open_from_free (2 ^ (n - k) + i) (block k i) named free)

-- rooms of which none is that of a taken node represent a machine in which nothing is held
pub Represents-new : (n : ℕ) (held : Holdings) (rooms : List ℕ) → ((v : ℕ) → IsInCube n v → room_of rooms v ≢ 0) → ((s : ℕ) → held s ≡ None) → Represents n held rooms
Represents-new n held rooms free idle = record {
  lawful = IsLawful-none n held idle;
  each_is_taken = λ s a v is named. absurd (none_is_some (sym (idle s) ∙ is));
  each_is_held = λ v a named taken. absurd (free v (IsNodeOf-in_cube n v a named) taken);
}

module _ (n s w : ℕ) (old new : Holdings) (rooms rooms' : List ℕ) (r : Region) (named : IsNodeOf n w r)
    (others : (u : ℕ) → u ≢ w → (room_of rooms' u ≡ 0) ↔ (room_of rooms u ≡ 0)) (represents : Represents n old rooms) where
  -- a station was given the block, and its node was taken
  pub Represents-given : (k : ℕ) → Gives n s k old new r → room_of rooms' w ≡ 0 → Represents n new rooms'
  Represents-given k gives own = record {
    lawful = IsLawful-gives n s k old new r represents.lawful gives;
    each_is_taken = each_is_taken;
    each_is_held = each_is_held;
  }
    where
      each_is_taken : (t : ℕ) (a : Region) (v : ℕ) → new t ≡ Some a → IsNodeOf n v a → room_of rooms' v ≡ 0
      each_is_taken t a v is named_v = elim (cases_eq t s) [
        | inl at ↦
            let a_is : r ≡ a = same_region (sym gives.held ∙ ap new (sym at) ∙ is) in
            let v_is : w ≡ v = IsNodeOf-one_node n w v r named (subst (λ x. IsNodeOf n v x) (sym a_is) named_v) in
            subst (λ x. room_of rooms' x ≡ 0) v_is own
        | inr other ↦
            let was : old t ≡ Some a = sym (gives.others t other) ∙ is in
            (others v (λ same. apart_nodes t a v was named_v same)).1 (represents.each_is_taken t a v was named_v)
      ]
        where
          apart_nodes : (t : ℕ) (a : Region) (v : ℕ) → old t ≡ Some a → IsNodeOf n v a → v ≡ w → ⊥
          apart_nodes t a v was named_v same =
              let a_is : a ≡ r = IsNodeOf-one_region n w a r (subst (λ x. IsNodeOf n x a) same named_v) named in
              not_apart r (subst (λ x. AreApart x r) a_is (gives.apart t a was))

      each_is_held : (v : ℕ) (a : Region) → IsNodeOf n v a → room_of rooms' v ≡ 0 → (t : ℕ) × (new t ≡ Some a)
      each_is_held v a named_v taken = elim (cases_eq v w) [
        | inl same ↦
            let a_is : r ≡ a = IsNodeOf-one_region n w r a named (subst (λ x. IsNodeOf n x a) same named_v) in
            (s, gives.held ∙ ap (λ (x : Region). Some x) a_is)
        | inr other ↦
            let found = represents.each_is_held v a named_v ((others v other).0 taken) in
            (found.0, gives.others found.0 (λ same. none_is_some (sym gives.idle ∙ ap old (sym same) ∙ found.1)) ∙ found.1)
      ]

  -- the block was taken back from its station, and its node is free
  pub Represents-taken_back : TakesBack s old new r → room_of rooms' w ≢ 0 → Represents n new rooms'
  Represents-taken_back back own = record {
    lawful = IsLawful-takes_back n s old new r represents.lawful back;
    each_is_taken = each_is_taken;
    each_is_held = each_is_held;
  }
    where
      each_is_taken : (t : ℕ) (a : Region) (v : ℕ) → new t ≡ Some a → IsNodeOf n v a → room_of rooms' v ≡ 0
      each_is_taken t a v is named_v = elim (cases_eq t s) [
        | inl at ↦ absurd (none_is_some (sym back.idle ∙ ap new (sym at) ∙ is))
        | inr other ↦
            let was : old t ≡ Some a = sym (back.others t other) ∙ is in
            (others v (λ same. apart_nodes t a v other was named_v same)).1 (represents.each_is_taken t a v was named_v)
      ]
        where
          apart_nodes : (t : ℕ) (a : Region) (v : ℕ) → t ≢ s → old t ≡ Some a → IsNodeOf n v a → v ≡ w → ⊥
          apart_nodes t a v other was named_v same =
              let a_is : a ≡ r = IsNodeOf-one_region n w a r (subst (λ x. IsNodeOf n x a) same named_v) named in
              not_apart r (subst (λ x. AreApart x r) a_is ((represents.lawful).apart t s a r other was back.held))

      each_is_held : (v : ℕ) (a : Region) → IsNodeOf n v a → room_of rooms' v ≡ 0 → (t : ℕ) × (new t ≡ Some a)
      each_is_held v a named_v taken = elim (cases_eq v w) [
        | inl same ↦ absurd (own (ap (room_of rooms') (sym same) ∙ taken))
        | inr other ↦
            let found = represents.each_is_held v a named_v ((others v other).0 taken) in
            (found.0, back.others found.0 (λ same. other (IsNodeOf-one_node n v w r (subst (λ x. IsNodeOf n v x) (sym (same_region (sym back.held ∙ ap old (sym same) ∙ found.1))) named_v) named)) ∙ found.1)
      ]

-- the first fit overlaps no held block
pub free_of_first : (n k m : ℕ) (held : Holdings) (r : Region) → r ≡ block k m → IsFirstFit n k held m → IsFree held r
free_of_first n k m held r is first = subst (IsFree held) (sym is) first.free
