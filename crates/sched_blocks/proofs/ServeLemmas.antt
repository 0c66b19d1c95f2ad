-- The trees give what the policy asks for.
use Rattle.std.proofs.Common.{◌≡◌, ◌≢◌, ℕ, suc, ◌+◌, ◌-◌, ◌*◌, ◌/◌, ◌^◌, ◌<◌, ◌≤◌, ◌⊎◌, inl, inr, List, Bool, true, false, sym, ◌∙◌, ap, subst, arith}
use Rattle.std.specs.Prelude.{◌↔◌}
use Rattle.std.proofs.lemmas.Bool.{cases_eq, cases_lt, true≢false}
use Rattle.std.proofs.lemmas.Nat.{pow-add}
use Rattle.cube_shape.specs.declared.region.Region.{Region}
use Rattle.cube_shape.specs.Region.{Covers, IsAligned}
use Rattle.cube_shape.specs.Node.{IsInCube, IsNodeOf, OnPath}
use Rattle.cube_shape.proofs.PathLemmas.{OnPath-le, OnPath-leaf, OnPath-linear, OnPath-self, OnPath-trans, OnPath-up}
use Rattle.cube_shape.proofs.RegionLemmas.{AreApart-paths, Covers-leaf, IsAligned-end, IsNodeOf-aligned, IsNodeOf-in_cube, IsNodeOf-of_aligned}
use Rattle.fit_tree.specs.Rooms.{IsNode}
use Rattle.fit_tree.specs.Halves.{lower_half, upper_half}
use Rattle.fit_tree.proofs.CountLemmas.{count_alike, count_unique}
use Rattle.fit_tree.proofs.NodeLemmas.{IsNode-in_cube, IsNode-of, IsNode-left, IsNode-right, OnPath-left, OnPath-right}
use Rattle.fit_tree.proofs.SplitLemmas.{named_lower, named_upper}
use Rattle.sched_law.specs.declared.job.SchedRun.{SchedRun}
use Rattle.sched_law.specs.State.{Sched}
use Rattle.sched_law.specs.Policy.{IsBetter, IsBusy, IsBusyCount, IsLatest, RunsIn}
use Rattle.sched_law.specs.Law.{IsSafe}
use Rattle.sched_law.proofs.PolicyLemmas.{latest_least}
use Rattle.sched_blocks.specs.Ends.{entry_of, IsLatestIn}
use Rattle.sched_blocks.specs.Busy.{HasNoneBeside, IsEarlier, IsUsedIn}
use Rattle.sched_blocks.specs.Use.{AreOwnEnds, AreUsed, IsInUse, HasNoneAbove, Tracks}
use Rattle.sched_blocks.proofs.EndLemmas.{none_below as no_end_below}
use Rattle.sched_blocks.proofs.BusyLemmas.{Busy, count_all, leaf_inside, none_below}
use Rattle.sched_blocks.proofs.UseLemmas.{idle_no_end, named_at, no_end_beside, related, run_node, used_alone, used_over}

-- ---- the latest end

-- The latest end at node x is that of block r, if what has an end is below x exactly if it meets r.
module _ (w : Sched) (safe : IsSafe w) (own : ℕ → ℕ) (owns : AreOwnEnds w own) (x t v : ℕ) (r : Region)
    (latest : IsLatestIn w.dim own x t) (named : IsNodeOf w.dim v r)
    (inside : (u : ℕ) → IsInCube w.dim u → OnPath u v ⊎ OnPath v u → (own u ≡ 0) ⊎ OnPath x u)
    (meets : (u : ℕ) → IsInCube w.dim u → OnPath x u → (own u ≡ 0) ⊎ (OnPath u v ⊎ OnPath v u)) where
  all_end : (j : ℕ) (run : SchedRun) → RunsIn w r j run → run.end ≤ t
  all_end j run runs_in =
      let found = run_node w safe j run runs_in.0 in
      let cube = IsNodeOf-in_cube w.dim found.0 run.block found.1 in
      let is = owns.runs found.0 j run runs_in.0 found.1 in
      elim (inside found.0 cube (related w.dim found.0 v run.block r found.1 named runs_in.1)) [
        | inl none ↦ omega (arith, none, is, (safe.ends j run runs_in.0).0)
        | inr on ↦ omega (arith, is, latest.all found.0 cube on)
      ]

  one_ends : (t ≡ 0) ⊎ ((j : ℕ) × (run : SchedRun) × RunsIn w r j run × (run.end ≡ t))
  one_ends = elim (latest.reached) [
    | inl none ↦ inl none
    | inr found ↦ elim (owns.none found.0 found.1) [
      | inl none ↦ inl (sym found.3 ∙ none)
      | inr (j, run, runs, of_run) ↦ elim (meets found.0 found.1 found.2) [
        | inl none ↦ inl (sym found.3 ∙ none)
        | inr on ↦
            inr (j, run, (runs, λ apart. (AreApart-paths w.dim found.0 v run.block r of_run named).0 apart on), sym (owns.runs found.0 j run runs of_run) ∙ found.3)
      ]
    ]
  ]

  latest_from : IsLatest w r t
  latest_from = record { all = all_end; reached = one_ends }

-- ---- busy processors

-- the processor of a block is a leaf below its node
leaf_of : (n v : ℕ) (r : Region) → IsNodeOf n v r → (i : ℕ) → v * 2 ^ r.dim + i ≡ 2 ^ n + (r.base + i)
leaf_of n v r (fits, (m, within, is, place)) i =
    let base : r.base ≡ m * 2 ^ r.dim = ap (λ (x : Region). x.base) is in
    let parts : n - r.dim + r.dim ≡ n = omega (arith, fits) in
    let all : 2 ^ (n - r.dim) * 2 ^ r.dim ≡ 2 ^ n = sym (pow-add 2 (n - r.dim) r.dim) ∙ ap (λ i. 2 ^ i) parts in
    let rows : v * 2 ^ r.dim ≡ (2 ^ (n - r.dim) + m) * 2 ^ r.dim = ap (λ x. x * 2 ^ r.dim) place in
    omega (arith, rows, all, base)

module _ (w : Sched) (safe : IsSafe w) (used : ℕ → Bool) (uses : AreUsed w used) (v : ℕ) (r : Region) (named : IsNodeOf w.dim v r)
    (i : ℕ) (less : i < 2 ^ r.dim) where
  node : IsNode w.dim r.dim v
  node = IsNode-of w.dim v r named

  leaf : v * 2 ^ r.dim + i ≡ 2 ^ w.dim + (r.base + i)
  leaf = leaf_of w.dim v r named i

  in_machine : r.base + i < 2 ^ w.dim
  in_machine = omega (arith, less, IsAligned-end w.dim r (IsNodeOf-aligned w.dim v r named))

  over_leaf : OnPath v (v * 2 ^ r.dim + i)
  over_leaf = OnPath-leaf v r.dim i (IsNode-in_cube w.dim r.dim v node).0 less

  -- what is below a node in use is busy
  busy_under : (u : ℕ) → used u ≡ true → OnPath u (v * 2 ^ r.dim + i) → IsBusy w (r.base + i)
  busy_under u is on =
      let within : IsInCube w.dim u = (on.0, omega (arith, OnPath-le u (v * 2 ^ r.dim + i) on, leaf_inside w.dim r.dim v i node less)) in
      let a = named_at w.dim u within in
      let covers = (Covers-leaf w.dim u a.0 a.1 (r.base + i) in_machine).1 (subst (OnPath u) leaf on) in
      elim ((uses.each u a.0 a.1).0 is) [
        | inl (s, held_is) ↦ inl (s, a.0, held_is, covers)
        | inr (s, out) ↦ inr (s, a.0, out, covers)
      ]

  -- a block in use has a node in use above each of its processors
  used_of : (a : Region) → IsInUse w a → Covers a (r.base + i) → (u : ℕ) × (used u ≡ true) × OnPath u (v * 2 ^ r.dim + i)
  used_of a has covers =
      let found = IsNodeOf-of_aligned w.dim a (aligned has) in
      (found.0, (uses.each found.0 a found.1).1 has, subst (OnPath found.0) (sym leaf) ((Covers-leaf w.dim found.0 a found.1 (r.base + i) in_machine).0 covers))
    where
      aligned : IsInUse w a → IsAligned w.dim a
      aligned (inl (s, is)) = safe.lawful.aligned s a is
      aligned (inr (s, is)) = safe.out.aligned s a is

  over_busy : IsBusy w (r.base + i) → (u : ℕ) × (used u ≡ true) × OnPath u (v * 2 ^ r.dim + i)
  over_busy (inl (s, a, is, covers)) = used_of a (inl (s, is)) covers
  over_busy (inr (s, a, is, covers)) = used_of a (inr (s, is)) covers

  -- the processor is busy exactly if it is in a node in use at v or below it
  busy_at : HasNoneAbove used v → IsUsedIn used v (v * 2 ^ r.dim + i) ↔ IsBusy w (r.base + i)
  busy_at none = (λ found. busy_under found.0 found.1 found.3, back)
    where
      back : IsBusy w (r.base + i) → IsUsedIn used v (v * 2 ^ r.dim + i)
      back busy =
          let found = over_busy busy in
          elim (cases_lt found.0 v) [
            | inl above ↦ absurd (true≢false (sym found.1 ∙ none found.0 (OnPath-linear found.0 v (v * 2 ^ r.dim + i) found.2 over_leaf (omega (arith, above))) (λ same. omega (arith, same, above))))
            | inr below ↦ (found.0, found.1, OnPath-linear v found.0 (v * 2 ^ r.dim + i) over_leaf found.2 below, found.2)
          ]

-- ---- both

-- the comparison of blocks by their values
better_by : (w : Sched) (a b : Region) (s t c d : ℕ) → IsLatest w a s → IsLatest w b t → IsBusyCount w a c → IsBusyCount w b d
    → ((s < t) ⊎ ((s ≡ t) × (c < d))) ↔ IsBetter w a b
better_by w a b s t c d of_s of_t of_c of_d = (into, back)
  where
    into : (s < t) ⊎ ((s ≡ t) × (c < d)) → IsBetter w a b
    into (inl less) = (s, t, of_s, of_t, inl less)
    into (inr (here, less)) = (s, t, of_s, of_t, inr (here, (c, d, of_c, of_d, less)))

    one : (r : Region) (x y : ℕ) → IsLatest w r x → IsLatest w r y → x ≡ y
    one r x y of_x of_y = omega (arith, latest_least w r x y of_x of_y.all, latest_least w r y x of_y of_x.all)

    count_one : (r : Region) (x y : ℕ) → IsBusyCount w r x → IsBusyCount w r y → x ≡ y
    count_one r x y of_x of_y = count_unique (λ i. IsBusy w (r.base + i)) (2 ^ r.dim) x y of_x of_y

    back : IsBetter w a b → (s < t) ⊎ ((s ≡ t) × (c < d))
    back (x, y, of_x, of_y, inl less) = inl (omega (arith, less, one a x s of_x of_s, one b y t of_y of_t))
    back (x, y, of_x, of_y, inr (here, (e, f, of_e, of_f, less))) =
        inr (omega (arith, here, one a x s of_x of_s, one b y t of_y of_t), omega (arith, less, count_one a e c of_e of_c, count_one b f d of_f of_d))

module _ (w : Sched) (own : ℕ → ℕ) (used : ℕ → Bool) (ends busy : List ℕ) (tracks : Tracks w own used ends busy) where
  module _ (v : ℕ) (r : Region) (named : IsNodeOf w.dim v r) where
    cube : IsInCube w.dim v
    cube = IsNodeOf-in_cube w.dim v r named

    pub serves_latest : HasNoneAbove used v → IsLatest w r (entry_of ends v)
    serves_latest none = latest_from w tracks.safe own tracks.owns v (entry_of ends v) v r (tracks.latest.each v cube) named inside (λ u within on. inr (inr on))
      where
        inside : (u : ℕ) → IsInCube w.dim u → OnPath u v ⊎ OnPath v u → (own u ≡ 0) ⊎ OnPath v u
        inside u within (inr on) = inr on
        inside u within (inl on) = elim (cases_eq u v) [
          | inl here ↦ inr (subst (OnPath v) (sym here) (OnPath-self v cube.0))
          | inr other ↦ inl (idle_no_end w tracks.safe used tracks.uses own tracks.owns u within (none u on other))
        ]

    pub serves_busy : HasNoneAbove used v → IsBusyCount w r (entry_of busy v)
    serves_busy none =
        count_alike (Busy used r.dim v) (λ i. IsBusy w (r.base + i)) (2 ^ r.dim) (entry_of busy v)
        (λ i less. busy_at w tracks.safe used tracks.uses v r named i less none) (tracks.counted.each r.dim v (IsNode-of w.dim v r named))

    module _ (x : ℕ) (is : used x ≡ true) (over : OnPath x v) where
      within_x : IsInCube w.dim x
      within_x = (over.0, omega (arith, OnPath-le x v over, cube.1))

      -- a node above or below v is also above or below x
      both_over : (u : ℕ) → OnPath u v ⊎ OnPath v u → OnPath u x ⊎ OnPath x u
      both_over u (inr on) = inr (OnPath-trans x v u over on)
      both_over u (inl on) = elim (cases_lt u x) [
        | inl above ↦ inl (OnPath-linear u x v on over (omega (arith, above)))
        | inr below ↦ inr (OnPath-linear x u v over on below)
      ]

      no_end_near : (u : ℕ) → IsInCube w.dim u → OnPath u x ⊎ OnPath x u → u ≢ x → own u ≡ 0
      no_end_near = no_end_beside w tracks.safe used tracks.uses own tracks.owns x (used_alone w tracks.safe used tracks.uses x within_x is)

      pub serves_latest_under : IsLatest w r (entry_of ends x)
      serves_latest_under = latest_from w tracks.safe own tracks.owns x (entry_of ends x) v r (tracks.latest.each x within_x) named inside meets
        where
          inside : (u : ℕ) → IsInCube w.dim u → OnPath u v ⊎ OnPath v u → (own u ≡ 0) ⊎ OnPath x u
          inside u within on = elim (cases_eq u x) [
            | inl here ↦ inr (subst (OnPath x) (sym here) (OnPath-self x over.0))
            | inr other ↦ inl (no_end_near u within (both_over u on) other)
          ]

          meets : (u : ℕ) → IsInCube w.dim u → OnPath x u → (own u ≡ 0) ⊎ (OnPath u v ⊎ OnPath v u)
          meets u within on = elim (cases_eq u x) [
            | inl here ↦ inr (inl (subst (λ y. OnPath y v) (sym here) over))
            | inr other ↦ inl (no_end_near u within (inr on) other)
          ]

      pub serves_busy_under : IsBusyCount w r (2 ^ r.dim)
      serves_busy_under =
          count_all (λ i. IsBusy w (r.base + i)) (2 ^ r.dim)
          (λ i less. busy_under w tracks.safe used tracks.uses v r named i less x is (OnPath-trans x v (v * 2 ^ r.dim + i) over (over_leaf w tracks.safe used tracks.uses v r named i less)))

  -- the better one of two halves
  pub serves_better : (v : ℕ) (r : Region) → IsNodeOf w.dim v r → 0 < r.dim → IsEarlier ends busy (2 * v + 1) (2 * v) ↔ IsBetter w (upper_half r) (lower_half r)
  serves_better v r named some = elim (used_over used (v + 1) v (omega arith) positive) [
    | inl (x, over, is) ↦ under x over is
    | inr none ↦
        better_by w (upper_half r) (lower_half r) (entry_of ends (2 * v + 1)) (entry_of ends (2 * v)) (entry_of busy (2 * v + 1)) (entry_of busy (2 * v))
        (serves_latest (2 * v + 1) (upper_half r) upper (none_over (2 * v + 1) (omega arith) none)) (serves_latest (2 * v) (lower_half r) lower (none_over (2 * v) (omega arith) none))
        (serves_busy (2 * v + 1) (upper_half r) upper (none_over (2 * v + 1) (omega arith) none)) (serves_busy (2 * v) (lower_half r) lower (none_over (2 * v) (omega arith) none))
  ]
    where
      down : r.dim ≡ suc (r.dim - 1)
      down = omega (arith, some)

      node : IsNode w.dim (suc (r.dim - 1)) v
      node = subst (λ d. IsNode w.dim d v) down (IsNode-of w.dim v r named)

      positive : 0 < v
      positive = (IsNodeOf-in_cube w.dim v r named).0

      lower : IsNodeOf w.dim (2 * v) (lower_half r)
      lower = named_lower w.dim (r.dim - 1) v r node named

      upper : IsNodeOf w.dim (2 * v + 1) (upper_half r)
      upper = named_upper w.dim (r.dim - 1) v r node named

      none_over : (c : ℕ) → c / 2 ≡ v → ((u : ℕ) → OnPath u v → used u ≡ false) → HasNoneAbove used c
      none_over c half none u on other = none u (subst (OnPath u) half (OnPath-up u c on other))

      -- below a node in use both halves are alike
      under : (x : ℕ) → OnPath x v → used x ≡ true → IsEarlier ends busy (2 * v + 1) (2 * v) ↔ IsBetter w (upper_half r) (lower_half r)
      under x over is = (λ earlier. absurd (not_earlier earlier), λ better. absurd (not_better (by_values.1 better)))
        where
          within_x : IsInCube w.dim x
          within_x = (over.0, omega (arith, OnPath-le x v over, (IsNodeOf-in_cube w.dim v r named).1))

          alone : HasNoneBeside w.dim used x
          alone = used_alone w tracks.safe used tracks.uses x within_x is

          over_left : OnPath x (2 * v)
          over_left = OnPath-trans x v (2 * v) over (OnPath-left v positive)

          over_right : OnPath x (2 * v + 1)
          over_right = OnPath-trans x v (2 * v + 1) over (OnPath-right v positive)

          end_none : (c : ℕ) → OnPath x c → v < c → IsInCube w.dim c → entry_of ends c ≡ 0
          end_none c on more inside =
              no_end_below w.dim own ends tracks.latest x c (no_end_beside w tracks.safe used tracks.uses own tracks.owns x alone) on (λ same. omega (arith, same, more, OnPath-le x v over)) inside

          busy_none : (c : ℕ) → OnPath x c → v < c → IsNode w.dim (r.dim - 1) c → entry_of busy c ≡ 0
          busy_none c on more inside =
              none_below w.dim used busy tracks.counted x (r.dim - 1) c alone on (λ same. omega (arith, same, more, OnPath-le x v over)) inside

          left_node : IsNode w.dim (r.dim - 1) (2 * v)
          left_node = IsNode-left w.dim (r.dim - 1) v node

          right_node : IsNode w.dim (r.dim - 1) (2 * v + 1)
          right_node = IsNode-right w.dim (r.dim - 1) v node

          not_earlier : IsEarlier ends busy (2 * v + 1) (2 * v) → ⊥
          not_earlier (inl less) = omega (arith, less, end_none (2 * v) over_left (omega (arith, positive)) (IsNode-in_cube w.dim (r.dim - 1) (2 * v) left_node))
          not_earlier (inr (here, less)) = omega (arith, less, busy_none (2 * v) over_left (omega (arith, positive)) left_node)

          by_values : ((entry_of ends x < entry_of ends x) ⊎ ((entry_of ends x ≡ entry_of ends x) × (2 ^ (r.dim - 1) < 2 ^ (r.dim - 1)))) ↔ IsBetter w (upper_half r) (lower_half r)
          by_values =
              better_by w (upper_half r) (lower_half r) (entry_of ends x) (entry_of ends x) (2 ^ (r.dim - 1)) (2 ^ (r.dim - 1))
              (serves_latest_under (2 * v + 1) (upper_half r) upper x is over_right) (serves_latest_under (2 * v) (lower_half r) lower x is over_left)
              (serves_busy_under (2 * v + 1) (upper_half r) upper x is over_right) (serves_busy_under (2 * v) (lower_half r) lower x is over_left)

          not_better : (entry_of ends x < entry_of ends x) ⊎ ((entry_of ends x ≡ entry_of ends x) × (2 ^ (r.dim - 1) < 2 ^ (r.dim - 1))) → ⊥
          not_better (inl less) = omega (arith, less)
          not_better (inr (here, less)) = omega (arith, less)
