-- A slot leaves the list of free slots, or becomes its first one.
use Rattle.std.proofs.Common.{◌≡◌, ◌≢◌, ℕ, ◌+◌, ◌<◌, ◌⊎◌, inl, inr, List, [], ◌∷◌, length, refl, sym, ◌∙◌, ap, subst, arith}
use Rattle.std.proofs.lemmas.Bool.{cases_eq}
use Rattle.sched_jobs.specs.declared.nodes.QueueNode.{QueueNode as NodeData}
use Rattle.sched_jobs.specs.Nodes.{estimate_of, key_of}
use Rattle.sched_law.specs.declared.job.Place.TheVariants.{Absent}
use Rattle.sched_jobs.specs.declared.slots.TheConstants.{MAX_GENERATION}
use Rattle.sched_jobs.specs.declared.slots.Slot.{Slot}
use Rattle.sched_jobs.specs.Slots.{before_of, generation_in, next_after, place_in}
use Rattle.sched_jobs.specs.Shows.{AreFree, HasBack, IsIn}
use Rattle.sched_jobs.specs.Inner.Put.{HasLink}
use Rattle.sched_jobs.proofs.FreeLemmas.{free_stays}

-- what a link says
pub after_more : (u v : ℕ) → next_after u (v + 1) ≡ v
after_more u v = grind arith

pub before_more : (u v : ℕ) → before_of u (v + 1) ≡ v
before_more u v = grind arith

-- the slot after one of the list is later in it, or there is none
pub after_in : (slots : List Slot) (nodes : List NodeData) (first v : ℕ) (rest : List ℕ) (slot : ℕ) → AreFree slots nodes first (v ∷ rest) → IsIn slot (v ∷ rest)
    → (next_after slot (key_of nodes slot) ≡ length slots) ⊎ IsIn (next_after slot (key_of nodes slot)) rest
after_in slots nodes first v [] slot is (inl same) = inl (subst (λ (x : ℕ). next_after x (key_of nodes x) ≡ length slots) (sym same) is.5)
after_in slots nodes first v [] slot is (inr has) = absurd has
after_in slots nodes first v (w ∷ rest) slot is (inl same) = inr (inl (subst (λ (x : ℕ). next_after x (key_of nodes x) ≡ w) (sym same) is.5.0))
after_in slots nodes first v (w ∷ rest) slot is (inr later) = elim (after_in slots nodes (next_after v (key_of nodes v)) w rest slot is.5 later) [
  | inl end ↦ inl end
  | inr has ↦ inr (inr has)
]

-- so it is not the first
pub after_apart : (slots : List Slot) (nodes : List NodeData) (first : ℕ) (list : List ℕ) (slot : ℕ) → AreFree slots nodes first list → IsIn slot list
    → next_after slot (key_of nodes slot) ≢ first
after_apart slots nodes first [] slot is has same = has
after_apart slots nodes first (v ∷ rest) slot is has same = elim (after_in slots nodes first v rest slot is has) [
  | inl end ↦
      let inside : first < length slots = subst (λ (x : ℕ). x < length slots) (sym is.0) is.1 in
      absurd (omega (arith, inside, same, end))
  | inr later ↦ is.4 (subst (λ (x : ℕ). IsIn x rest) (same ∙ is.0) later)
]

-- the first slot is linked back to the one before
pub back_of : (slots : List Slot) (nodes : List NodeData) (u first : ℕ) (rest : List ℕ) (slot : ℕ) → AreFree slots nodes first rest → HasBack nodes u rest → IsIn slot rest
    → before_of first (estimate_of nodes first) ≡ u
back_of slots nodes u first [] slot is back has = absurd has
back_of slots nodes u first (v ∷ rest) slot is back has = ap (λ (x : ℕ). before_of x (estimate_of nodes x)) is.0 ∙ back

-- a slot that is not the first is linked back to one of the list
pub before_in : (slots : List Slot) (nodes : List NodeData) (first : ℕ) (list : List ℕ) (slot : ℕ) → AreFree slots nodes first list → IsIn slot list → slot ≢ first
    → IsIn (before_of slot (estimate_of nodes slot)) list
before_in slots nodes first [] slot is has away = absurd has
before_in slots nodes first (u ∷ rest) slot is (inl same) away = absurd (away (same ∙ sym is.0))
before_in slots nodes first (u ∷ rest) slot is (inr later) away = elim (cases_eq slot (next_after u (key_of nodes u))) [
  | inl next ↦ inl (ap (λ (x : ℕ). before_of x (estimate_of nodes x)) next ∙ back_of slots nodes u (next_after u (key_of nodes u)) rest slot is.5 is.6 later)
  | inr other ↦ inr (before_in slots nodes (next_after u (key_of nodes u)) rest slot is.5 later other)
]

-- The list of free slots without one of them.
pub record Without (slots : List Slot) (nodes : List NodeData) (first : ℕ) (list : List ℕ) (slot : ℕ) : Type 0 where
  pub left : List ℕ
  pub free : AreFree slots nodes first left
  pub none : IsIn slot left → ⊥
  pub others : (u : ℕ) → u ≢ slot → IsIn u list → IsIn u left
  pub part : (u : ℕ) → IsIn u left → IsIn u list

-- the slots before and after one are linked to each other
module _ (slots : List Slot) (old new : List NodeData) (slot before after : ℕ) (count : length old ≡ length slots) (link : HasLink old new before after)
    (is_before : before ≡ before_of slot (estimate_of old slot)) (is_after : after ≡ next_after slot (key_of old slot)) where
  back_here : (u first : ℕ) (rest : List ℕ) → AreFree slots old first rest → first ≡ after → before ≡ u → HasBack new u rest
  back_here u first [] is at here = tt
  back_here u first (w ∷ rest) is at here =
      let one : w ≡ after = sym is.0 ∙ at in
      let within : after < length slots = subst (λ (x : ℕ). x < length slots) one is.1 in
      let inside : after < length old = omega (arith, within, count) in
      ap (λ (x : ℕ). before_of x (estimate_of new x)) one ∙ ap (before_of after) (link.back inside) ∙ before_more after before ∙ here

  back_later : (u first : ℕ) (rest : List ℕ) → AreFree slots new first rest → first ≢ after → before_of first (estimate_of old first) ≡ u → HasBack new u rest
  back_later u first [] is apart back = tt
  back_later u first (w ∷ rest) is apart back =
      ap (λ (x : ℕ). before_of x (estimate_of new x)) (sym is.0) ∙ ap (before_of first) (link.backs first apart) ∙ back

  unlinked_next : (first u : ℕ) (rest : List ℕ) → AreFree slots old first (u ∷ rest) → IsIn slot rest → slot ≡ next_after u (key_of old u)
      → Without slots new first (u ∷ rest) slot
  unlinked_next first u [] is later next = absurd later
  unlinked_next first u (v ∷ rest) is later next =
      let one : slot ≡ v = next ∙ is.5.0 in
      let here : before ≡ u = is_before ∙ ap (λ (x : ℕ). before_of x (estimate_of old x)) one ∙ is.6 in
      let at : next_after v (key_of old v) ≡ after = ap (λ (x : ℕ). next_after x (key_of old x)) (sym one) ∙ sym is_after in
      let kept : AreFree slots new (next_after v (key_of old v)) rest = free_stays slots slots old new refl (next_after v (key_of old v)) rest
      (λ z has. (refl, refl, link.others z (λ same. is.4 (inr (subst (λ (x : ℕ). IsIn x rest) (same ∙ here) has)))))
      (λ z has away. link.backs z (λ same. away (same ∙ sym at))) is.5.5 in
      let to : next_after u (key_of new u) ≡ next_after v (key_of old v) =
      ap (next_after u) (ap (key_of new) (sym here) ∙ link.here) ∙ after_more u after ∙ sym at in
      record {
        left = u ∷ rest;
        free = (
          is.0,
          is.1,
          is.2,
          is.3,
          λ has. is.4 (inr has),
          subst (λ (x : ℕ). AreFree slots new x rest) (sym to) kept,
          back_here u (next_after v (key_of old v)) rest is.5.5 at here,
        );
        none = λ has. elim has [
          | inl same ↦ is.4 (inl (sym same ∙ one))
          | inr more ↦ is.5.4 (subst (λ (x : ℕ). IsIn x rest) one more)
        ];
        others = λ z away has. elim has [
          | inl same ↦ inl same
          | inr more ↦ elim more [ inl same ↦ absurd (away (same ∙ sym one)) | inr last ↦ inr last ]
        ];
        part = λ z has. elim has [ inl same ↦ inl same | inr more ↦ inr (inr more) ];
      }

  unlinked_later : (first u : ℕ) (rest : List ℕ) → AreFree slots old first (u ∷ rest) → IsIn slot rest → slot ≢ next_after u (key_of old u)
      → Without slots new (next_after u (key_of old u)) rest slot → Without slots new first (u ∷ rest) slot
  unlinked_later first u rest is later other got =
      let next = next_after u (key_of old u) in
      let apart : u ≢ before = λ same. is.4 (subst (λ (x : ℕ). IsIn x rest) (sym (same ∙ is_before)) (before_in slots old next rest slot is.5 later other)) in
      let further : next ≢ after = λ same. after_apart slots old next rest slot is.5 later (sym is_after ∙ sym same) in
      record {
        left = u ∷ got.left;
        free = (
          is.0,
          is.1,
          is.2,
          is.3,
          λ has. is.4 (got.part u has),
          subst (λ (x : ℕ). AreFree slots new (next_after u x) got.left) (sym (link.others u apart)) got.free,
          back_later u next got.left got.free further (back_of slots old u next rest slot is.5 is.6 later),
        );
        none = λ has. elim has [
          | inl same ↦ is.4 (subst (λ (x : ℕ). IsIn x rest) same later)
          | inr more ↦ got.none more
        ];
        others = λ z away has. elim has [ inl same ↦ inl same | inr more ↦ inr (got.others z away more) ];
        part = λ z has. elim has [ inl same ↦ inl same | inr more ↦ inr (got.part z more) ];
      }

  pub unlinked : (first : ℕ) (list : List ℕ) → AreFree slots old first list → IsIn slot list → slot ≢ first → Without slots new first list slot
  unlinked first [] is has away = absurd has
  unlinked first (u ∷ rest) is (inl same) away = absurd (away (same ∙ sym is.0))
  unlinked first (u ∷ rest) is (inr later) away = elim (cases_eq slot (next_after u (key_of old u))) [
    | inl next ↦ unlinked_next first u rest is later next
    | inr other ↦ unlinked_later first u rest is later other (unlinked (next_after u (key_of old u)) rest is.5 later other)
  ]

-- a slot becomes the first
pub pushed : (slots : List Slot) (old new : List NodeData) (at first : ℕ) (list : List ℕ) → length old ≡ length slots → at < length slots → place_in slots at ≡ Absent
    → generation_in slots at < MAX_GENERATION → (IsIn at list → ⊥) → HasLink old new at first → AreFree slots old first list → AreFree slots new at (at ∷ list)
pushed slots old new at first list count inside absent fewer none link is = (
  refl,
  inside,
  absent,
  fewer,
  none,
  subst (λ (x : ℕ). AreFree slots new x list) (sym (ap (next_after at) link.here ∙ after_more at first)) kept,
  back list is,
)
  where
    kept : AreFree slots new first list
    kept = free_stays slots slots old new refl first list (λ u has. (refl, refl, link.others u (λ same. none (subst (λ (x : ℕ). IsIn x list) same has))))
        (λ u has away. link.backs u away) is

    back : (of : List ℕ) → AreFree slots old first of → HasBack new at of
    back [] are = tt
    back (w ∷ rest) are =
        let within : first < length slots = subst (λ (x : ℕ). x < length slots) (sym are.0) are.1 in
        let within_old : first < length old = omega (arith, within, count) in
        ap (λ (x : ℕ). before_of x (estimate_of new x)) (sym are.0) ∙ ap (before_of first) (link.back within_old) ∙ before_more first at
