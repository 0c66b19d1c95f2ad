-- The nodes in use in a state of the scheduler.
use Rattle.std.proofs.Common.{◌≡◌, ℕ, zero, suc, ◌-◌, ◌/◌, ◌^◌, ◌<◌, ◌⊎◌, inl, inr, Bool, true, false, List, refl, sym, ◌∙◌, ap, subst, arith}
use Rattle.std.specs.Prelude.{◌↔◌, ◌==◌}
use Rattle.std.proofs.lemmas.Bool.{cases_eq, cases_lt, eq-eqb, eqb-true, true≢false}
use Rattle.cube_shape.specs.declared.region.Region.{Region}
use Rattle.cube_shape.specs.Region.{AreApart}
use Rattle.cube_shape.specs.Node.{IsInCube, IsNodeOf, OnPath}
use Rattle.cube_shape.proofs.PathLemmas.{OnPath-le, OnPath-parent, OnPath-self, OnPath-trans, OnPath-up}
use Rattle.cube_shape.proofs.RegionLemmas.{AreApart-paths, AreApart-sym, IsNodeOf-of_aligned, IsNodeOf-one_node}
use Rattle.fit_tree.specs.Rooms.{IsNode, IsSound as AreSound, room_of}
use Rattle.fit_tree.specs.Fit.{held_in}
use Rattle.fit_tree.specs.Image.{fit_in}
use Rattle.fit_tree.proofs.ImageLemmas.{Represents-in}
use Rattle.fit_tree.proofs.NodeLemmas.{IsNode-has, IsNode-in_cube, IsNode-of, IsNodeOf-at, steps_up}
use Rattle.sched_law.specs.declared.job.SchedRun.{SchedRun}
use Rattle.sched_law.specs.State.{Sched, IsVacant, Runs, block_of, held}
use Rattle.sched_law.specs.Law.{IsSafe}
use Rattle.sched_law.proofs.SetLemmas.{same}
use Rattle.sched_blocks.specs.Ends.{HasNoEndBeside}
use Rattle.sched_blocks.specs.Busy.{HasNoneBeside}
use Rattle.sched_blocks.specs.Use.{AreOwnEnds, AreUsed, HasBlock, IsInUse}

-- ---- nodes on one path

-- whether a node is on the path to another
on_path : (n d e u v : ℕ) → IsNode n d u → IsNode n e v → OnPath u v ⊎ (OnPath u v → ⊥)
on_path n d e u v upper lower = elim (cases_lt d e) [
  | inl less ↦ inr (λ on. omega (arith, less, (steps_up n d e u v upper lower on).0))
  | inr order ↦ elim (cases_eq (v / 2 ^ (d - e)) u) [
    | inl is ↦ inl ((IsNode-in_cube n d u upper).0, (d - e, is))
    | inr other ↦ inr (λ on. other (steps_up n d e u v upper lower on).1)
  ]
]

-- blocks that are not apart have nodes on one path
pub related : (n u v : ℕ) (a b : Region) → IsNodeOf n u a → IsNodeOf n v b → (AreApart a b → ⊥) → OnPath u v ⊎ OnPath v u
related n u v a b of_a of_b meets = elim (on_path n a.dim b.dim u v (IsNode-of n u a of_a) (IsNode-of n v b of_b)) [
  | inl on ↦ inl on
  | inr off ↦ elim (on_path n b.dim a.dim v u (IsNode-of n v b of_b) (IsNode-of n u a of_a)) [
    | inl on ↦ inr on
    | inr off_too ↦ absurd (meets ((AreApart-paths n u v a b of_a of_b).1 (λ either. elim either [ inl on ↦ off on | inr on ↦ off_too on ])))
  ]
]

-- the block that a node names
pub named_at : (n v : ℕ) → IsInCube n v → (r : Region) × IsNodeOf n v r
named_at n v inside = let found = IsNode-has n v inside in (_, IsNodeOf-at n found.0 v found.1)

-- A node in use is at or above this one, or none is.
abbrev pub UsedOver : (ℕ → Bool) → ℕ → Type 0
UsedOver used v = ((u : ℕ) × OnPath u v × (used u ≡ true)) ⊎ ((u : ℕ) → OnPath u v → used u ≡ false)

over_step : (used : ℕ → Bool) (v : ℕ) → 0 < v → (0 < v / 2 → UsedOver used (v / 2)) → (t : Bool) → used v ≡ t → UsedOver used v
over_step used v positive above true is = inl (v, OnPath-self v positive, is)
over_step used v positive above false is = elim (cases_lt 0 (v / 2)) [
  | inl inner ↦ elim (above inner) [
    | inl found ↦ inl (found.0, OnPath-trans found.0 (v / 2) v found.1 (OnPath-parent v inner), found.2)
    | inr none ↦
        inr (λ u on. elim (cases_eq u v) [ inl here ↦ ap used here ∙ is | inr other ↦ none u (OnPath-up u v on other) ])
  ]
  | inr root ↦
      inr (λ u on. let here : u ≡ v = omega (arith, root, OnPath-le u v on, on.0, positive) in ap used here ∙ is)
]

pub used_over : (used : ℕ → Bool) (fuel v : ℕ) → v < fuel → 0 < v → UsedOver used v
used_over used zero v less positive = absurd (omega (arith, less))
used_over used (suc fuel) v less positive =
    over_step used v positive (λ inner. used_over used fuel (v / 2) (omega (arith, less, positive)) inner) (used v) refl

-- ---- blocks in use

module _ (w : Sched) (safe : IsSafe w) where
  -- a job's block has a node
  pub run_node : (j : ℕ) (run : SchedRun) → Runs w j run → (u : ℕ) × IsNodeOf w.dim u run.block
  run_node j run runs = IsNodeOf-of_aligned w.dim run.block (safe.lawful.aligned j run.block (ap block_of runs))

  -- two blocks in use are the same, or apart
  in_use_apart : (a b : Region) → IsInUse w a → IsInUse w b → (a ≡ b) ⊎ AreApart a b
  in_use_apart a b (inl (s, is_a)) (inl (t, is_b)) = elim (cases_eq s t) [
    | inl here ↦ inl (same (sym is_a ∙ ap (held w) here ∙ is_b))
    | inr other ↦ inr (safe.lawful.apart s t a b other is_a is_b)
  ]
  in_use_apart a b (inl (s, is_a)) (inr (t, is_b)) = inr (safe.apart s t a b is_a is_b)
  in_use_apart a b (inr (s, is_a)) (inl (t, is_b)) = inr (AreApart-sym b a (safe.apart t s b a is_b is_a))
  in_use_apart a b (inr (s, is_a)) (inr (t, is_b)) = elim (cases_eq s t) [
    | inl here ↦ inl (same (sym is_a ∙ ap w.occupied here ∙ is_b))
    | inr other ↦ inr (safe.out.apart s t a b other is_a is_b)
  ]

  module _ (used : ℕ → Bool) (uses : AreUsed w used) where
    idle_or : (u : ℕ) → (used u ≡ true → ⊥) → used u ≡ false
    idle_or u not = by (used u) refl
      where
        by : (t : Bool) → used u ≡ t → used u ≡ false
        by true is = absurd (not is)
        by false is = is

    -- no other node above or below one in use is in use
    pub used_alone : (v : ℕ) → IsInCube w.dim v → used v ≡ true → HasNoneBeside w.dim used v
    used_alone v inside is u within on other = idle_or u in_use
      where
        in_use : used u ≡ true → ⊥
        in_use both =
            let a = named_at w.dim u within in
            let b = named_at w.dim v inside in
            elim (in_use_apart a.0 b.0 ((uses.each u a.0 a.1).0 both) ((uses.each v b.0 b.1).0 is)) [
              | inl here ↦ other (IsNodeOf-one_node w.dim u v b.0 (subst (IsNodeOf w.dim u) here a.1) b.1)
              | inr apart ↦ (AreApart-paths w.dim u v a.0 b.0 a.1 b.1).0 apart on
            ]

    -- no node at, above or below a vacant one is in use
    pub vacant_idle : (v : ℕ) (r : Region) → IsNodeOf w.dim v r → IsVacant w r → (u : ℕ) → IsInCube w.dim u → OnPath u v ⊎ OnPath v u → used u ≡ false
    vacant_idle v r named vacant u within on = idle_or u in_use
      where
        apart : (a : Region) → IsInUse w a → AreApart a r
        apart a (inl (s, is)) = vacant.0 s a is
        apart a (inr (s, is)) = vacant.1 s a is

        in_use : used u ≡ true → ⊥
        in_use is =
            let a = named_at w.dim u within in
            (AreApart-paths w.dim u v a.0 r a.1 named).0 (apart a.0 ((uses.each u a.0 a.1).0 is)) on

    -- what is not in use has no end
    pub idle_no_end : (own : ℕ → ℕ) → AreOwnEnds w own → (u : ℕ) → IsInCube w.dim u → used u ≡ false → own u ≡ 0
    idle_no_end own owns u within idle = elim (owns.none u within) [
      | inl none ↦ none
      | inr (j, run, runs, named) ↦ absurd (true≢false (sym ((uses.each u run.block named).1 (inl (j, ap block_of runs))) ∙ idle))
    ]

    pub no_end_beside : (own : ℕ → ℕ) → AreOwnEnds w own → (v : ℕ) → HasNoneBeside w.dim used v → HasNoEndBeside w.dim own v
    no_end_beside own owns v alone u within on other = idle_no_end own owns u within (alone u within on other)

-- ---- what a state decides

pub one_own : (w : Sched) (own other : ℕ → ℕ) → AreOwnEnds w own → AreOwnEnds w other → (u : ℕ) → IsInCube w.dim u → own u ≡ other u
one_own w own other owns owns_too u within = elim (owns.none u within) [
  | inl none ↦ elim (owns_too.none u within) [
    | inl none_too ↦ none ∙ sym none_too
    | inr (j, run, runs, named) ↦ owns.runs u j run runs named ∙ sym (owns_too.runs u j run runs named)
  ]
  | inr (j, run, runs, named) ↦ owns.runs u j run runs named ∙ sym (owns_too.runs u j run runs named)
]

same_bool : (a b : Bool) → (a ≡ true → b ≡ true) → (b ≡ true → a ≡ true) → a ≡ b
same_bool true b into back = sym (into refl)
same_bool false true into back = back refl
same_bool false false into back = refl

pub one_used : (w : Sched) (used other : ℕ → Bool) → AreUsed w used → AreUsed w other → (u : ℕ) → IsInCube w.dim u → used u ≡ other u
one_used w used other uses uses_too u within =
    let a = named_at w.dim u within in
    same_bool (used u) (other u) (λ is. (uses_too.each u a.0 a.1).1 ((uses.each u a.0 a.1).0 is)) (λ is. (uses.each u a.0 a.1).1 ((uses_too.each u a.0 a.1).0 is))

-- the nodes in use are those that were taken, if the image holds the blocks in use
pub rooms_used : (w : Sched) (rooms : List ℕ) → AreSound w.dim rooms → ((a : Region) → HasBlock (held_in (fit_in w.dim rooms)) a ↔ IsInUse w a) → AreUsed w (λ v. room_of rooms v == 0)
rooms_used w rooms sound alike = record { each = each }
  where
    each : (v : ℕ) (r : Region) → IsNodeOf w.dim v r → ((room_of rooms v == 0) ≡ true) ↔ IsInUse w r
    each v r named =
        let represents = Represents-in w.dim rooms sound in (
          λ is. (alike r).0 (represents.each_is_held v r named (eqb-true (room_of rooms v) 0 is)),
          λ in_use. let has = (alike r).1 in_use in eq-eqb (room_of rooms v) 0 (represents.each_is_taken has.0 r v has.1 named),
        )
