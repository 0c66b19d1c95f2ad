-- The first open node apart from one that is to be avoided, found on the way up from that node.
use Rattle.std.proofs.Common.{◌≡◌, ◌≢◌, ℕ, suc, ◌+◌, ◌-◌, ◌*◌, ◌/◌, ◌%◌, ◌^◌, ◌<◌, ◌≤◌, ◌⊎◌, inl, inr, true, false, List, Option, Some, None, IfSome, IfNone, sym, ◌∙◌, ap, subst, arith}
use Rattle.std.proofs.lemmas.Nat.{shr-shr}
use Rattle.std.proofs.lemmas.Bool.{cases_lt, cases_eq, true≢false}
use Rattle.std.specs.Option.{is_some}
use Rattle.fit_tree.specs.declared.apart.Start.{Start}
use Rattle.std.proofs.Math.Pow.{shr_mono}
use Rattle.cube_shape.specs.Node.{OnPath}
use Rattle.cube_shape.proofs.PathLemmas.{OnPath-le, OnPath-linear, OnPath-one_child, OnPath-parent, OnPath-trans, OnPath-up}
use Rattle.fit_tree.specs.Rooms.{IsNode, IsSound, room_of}
use Rattle.fit_tree.specs.InnerNodes.{HasNoTakenAbove, IsOpen}
use Rattle.fit_tree.specs.InnerApart.{AreUnrelated, HasNoneIn, IsFound, IsMost, IsPlaced, IsStart}
use Rattle.fit_tree.proofs.NodeLemmas.{IsNode-has, IsNode-in_cube, IsNode-left, IsNode-parent, IsNode-right, below_child, same_dim, steps_up}
use Rattle.fit_tree.proofs.RoomLemmas.{none_open, room_bound}
use Rattle.fit_tree.proofs.WalkLemmas.{Descent-begin, Descent-ends, Descent-first, Descent-node, Descent-open, OnPath-root}

-- two children of one node
abbrev AreSiblings : ℕ → ℕ → Type 0
AreSiblings c s = ((c ≡ 2 * (c / 2)) × (s ≡ 2 * (c / 2) + 1)) ⊎ ((c ≡ 2 * (c / 2) + 1) × (s ≡ 2 * (c / 2)))

pub sibling_right : (c : ℕ) → c % 2 ≡ 0 → AreSiblings c (c + 1)
sibling_right c even = inl (omega arith, omega arith)

pub sibling_left : (c : ℕ) → c % 2 ≢ 0 → AreSiblings c (c - 1)
sibling_left c odd = inr (omega (arith, odd), omega (arith, odd))

same_parent : (c s : ℕ) → AreSiblings c s → (s / 2 ≡ c / 2) × (s ≢ c)
same_parent c s (inl is) = (omega (arith, is.1), λ same. omega (arith, is.0, is.1, same))
same_parent c s (inr is) = (omega (arith, is.1), λ same. omega (arith, is.0, is.1, same))

-- what is below the parent is the parent, or below one of the two
under_parent : (c s w : ℕ) → AreSiblings c s → OnPath (c / 2) w → (w ≡ c / 2) ⊎ OnPath c w ⊎ OnPath s w
under_parent c s w siblings on = elim (below_child (c / 2) w on) [
  | inl same ↦ inl same
  | inr child ↦ elim child [
    | inl left ↦ elim siblings [
      | inl is ↦ inr (inl (subst (λ x. OnPath x w) (sym is.0) left))
      | inr is ↦ inr (inr (subst (λ x. OnPath x w) (sym is.1) left))
    ]
    | inr right ↦ elim siblings [
      | inl is ↦ inr (inr (subst (λ x. OnPath x w) (sym is.1) right))
      | inr is ↦ inr (inl (subst (λ x. OnPath x w) (sym is.0) right))
    ]
  ]
]

module _ (n k : ℕ) (rooms : List ℕ) (avoid d c : ℕ) (node : IsNode n d c)
    (inner : d < n) (way : OnPath c avoid) where
  parent : IsNode n (suc d) (c / 2)
  parent = IsNode-parent n d c inner node

  positive : 0 < c / 2
  positive = (IsNode-in_cube n (suc d) (c / 2) parent).0

  over : OnPath (c / 2) c
  over = OnPath-parent c positive

  pub way_up : OnPath (c / 2) avoid
  way_up = OnPath-trans (c / 2) c avoid over way

  -- nothing below a taken node is open
  pub widen-taken : room_of rooms (c / 2) ≡ 0 → HasNoneIn n k rooms avoid (c / 2)
  widen-taken taken w lower under apart free = free (c / 2) (IsNode-in_cube n (suc d) (c / 2) parent) taken (inl under)

  module _ (s : ℕ) (siblings : AreSiblings c s) where
    pub sibling_node : IsNode n d s
    sibling_node = elim siblings [
      | inl is ↦ subst (λ x. IsNode n d x) (sym is.1) (IsNode-right n d (c / 2) parent)
      | inr is ↦ subst (λ x. IsNode n d x) (sym is.1) (IsNode-left n d (c / 2) parent)
    ]

    pub sibling_inside : s < 2 ^ (n + 1)
    sibling_inside = (IsNode-in_cube n d s sibling_node).1

    sibling_under : OnPath (c / 2) s
    sibling_under =
        let same = same_parent c s siblings in
        subst (λ x. OnPath x s) same.0 (OnPath-parent s (omega (arith, same.0, positive)))

    sibling_apart : AreUnrelated avoid s
    sibling_apart (inl on) = (same_parent c s siblings).1 (sym (same_dim n d c s node sibling_node (OnPath-trans c avoid s way on)))
    sibling_apart (inr on) = (same_parent c s siblings).1 (OnPath-one_child s c avoid on way (same_parent c s siblings).0)

    -- the sibling has no open node
    abbrev HasNoRoom : Type 0
    HasNoRoom = (d < k) ⊎ (room_of rooms s < k + 2)

    no_room : IsSound n rooms → HasNoRoom → (w : ℕ) → IsNode n k w → OnPath s w → IsOpen n rooms w → ⊥
    no_room sound (inl small) w lower under free = omega (arith, small, (steps_up n d k s w sibling_node lower under).0)
    no_room sound (inr less) w lower under free = none_open n rooms sound d s k w sibling_node lower under less free

    -- the sibling is entered: it comes before all that was found
    pub widen-enter : room_of rooms (c / 2) ≢ 0 → k ≤ d → k + 2 ≤ room_of rooms s
        → (c < s → HasNoneIn n k rooms avoid c)
        → IsStart n k rooms avoid (c / 2) d s
    widen-enter here fits enough earlier = record {
      fits = fits;
      node = sibling_node;
      inside = sibling_under;
      apart = sibling_apart;
      enough = enough;
      above = above;
      before = before;
    }
      where
        above : (u : ℕ) → OnPath (c / 2) u → OnPath u s → u ≢ s → room_of rooms u ≢ 0
        above u low high other taken =
            let up = OnPath-up u s high other in
            let small : u ≤ c / 2 = omega (arith, OnPath-le u (s / 2) up, (same_parent c s siblings).0) in
            let same : u ≡ c / 2 = omega (arith, small, OnPath-le (c / 2) u low) in
            here (ap (room_of rooms) (sym same) ∙ taken)

        before : (w : ℕ) → IsNode n k w → OnPath (c / 2) w → AreUnrelated avoid w → w / 2 ^ (d - k) < s → IsOpen n rooms w → ⊥
        before w lower under apart less free = elim (under_parent c s w siblings under) [
          | inl same ↦ apart (inr (subst (λ x. OnPath x avoid) (sym same) way_up))
          | inr child ↦ elim child [
            | inl in_c ↦
                let is = (steps_up n d k c w node lower in_c).1 in earlier (omega (arith, is, less)) w lower in_c apart free
            | inr in_s ↦ omega (arith, less, (steps_up n d k s w sibling_node lower in_s).1)
          ]
        ]

    -- nothing was found, and the sibling has no room
    pub widen-none : IsSound n rooms → HasNoRoom → HasNoneIn n k rooms avoid c → HasNoneIn n k rooms avoid (c / 2)
    widen-none sound less none w lower under apart free = elim (under_parent c s w siblings under) [
      | inl same ↦ apart (inr (subst (λ x. OnPath x avoid) (sym same) way_up))
      | inr child ↦ elim child [
        | inl in_c ↦ none w lower in_c apart free
        | inr in_s ↦ no_room sound less w lower in_s free
      ]
    ]

    -- what was found stays the first, where the sibling has no room or comes after it
    pub widen-keep : IsSound n rooms → room_of rooms (c / 2) ≢ 0 → HasNoRoom ⊎ (c < s) → (e t : ℕ)
        → IsStart n k rooms avoid c e t
        → IsStart n k rooms avoid (c / 2) e t
    widen-keep sound here either e t start = record {
      fits = start.fits;
      node = start.node;
      inside = OnPath-trans (c / 2) c t over start.inside;
      apart = start.apart;
      enough = start.enough;
      above = above;
      before = before;
    }
      where
        above : (u : ℕ) → OnPath (c / 2) u → OnPath u t → u ≢ t → room_of rooms u ≢ 0
        above u low high other = elim (cases_lt u c) [
          | inl less ↦ λ taken.
              let up = OnPath-up u c (OnPath-linear u c t high start.inside (omega (arith, less))) (λ same. omega (arith, same, less)) in
              let same : u ≡ c / 2 = omega (arith, OnPath-le u (c / 2) up, OnPath-le (c / 2) u low) in
              here (ap (room_of rooms) (sym same) ∙ taken)
          | inr from ↦ start.above u (OnPath-linear c u t start.inside high from) high other
        ]

        -- the way from `t` up to `c`, and from `w` up to the sibling
        later : c < s → (w : ℕ) → IsNode n k w → OnPath s w → w / 2 ^ (e - k) < t → ⊥
        later order w lower in_s less =
            let t_up = steps_up n d e c t node start.node start.inside in
            let w_up = steps_up n d k s w sibling_node lower in_s in
            let fits = start.fits in
            let parts : e - k + (d - e) ≡ d - k = omega (arith, fits, t_up.0) in
            let w_is : w / 2 ^ (e - k) / 2 ^ (d - e) ≡ s = shr-shr w (e - k) (d - e) ∙ ap (λ i. w / 2 ^ i) parts ∙ w_up.1 in
            let mono : w / 2 ^ (e - k) / 2 ^ (d - e) ≤ t / 2 ^ (d - e) = shr_mono (d - e) (omega (arith, less)) in
            omega (arith, mono, w_is, t_up.1, order)

        before : (w : ℕ) → IsNode n k w → OnPath (c / 2) w → AreUnrelated avoid w → w / 2 ^ (e - k) < t → IsOpen n rooms w → ⊥
        before w lower under apart less free = elim (under_parent c s w siblings under) [
          | inl same ↦ apart (inr (subst (λ x. OnPath x avoid) (sym same) way_up))
          | inr child ↦ elim child [
            | inl in_c ↦ start.before w lower in_c apart less free
            | inr in_s ↦ elim either [
              | inl none ↦ no_room sound none w lower in_s free
              | inr order ↦ later order w lower in_s less
            ]
          ]
        ]

-- ---- the ends of the way up

pub none_in_avoid : (n k : ℕ) (rooms : List ℕ) (avoid : ℕ) → HasNoneIn n k rooms avoid avoid
none_in_avoid n k rooms avoid w lower under apart free = apart (inl under)

pub root_is : (n v : ℕ) → IsNode n n v → v ≡ 1
root_is n v node =
    let none : n - n ≡ 0 = omega arith in
    let one : 2 ^ (n - n) ≡ 1 = ap (λ i. 2 ^ i) none in
    omega (arith, node.1, node.2, one)

pub none_at_root : (n k : ℕ) (rooms : List ℕ) (avoid : ℕ) → HasNoneIn n k rooms avoid 1
    → (w : ℕ) → IsNode n k w → AreUnrelated avoid w → IsOpen n rooms w → ⊥
none_at_root n k rooms avoid none w lower apart free = none w lower (OnPath-root n k w lower) apart free

module _ (n k : ℕ) (rooms : List ℕ) (sound : IsSound n rooms) (avoid d s : ℕ) (start : IsStart n k rooms avoid 1 d s) where
  pub start_above : HasNoTakenAbove rooms s
  start_above u on other =
      let inside = IsNode-in_cube n d s start.node in
      let found = IsNode-has n u (on.0, omega (arith, inside.1, OnPath-le u s on)) in
      start.above u (OnPath-root n found.0 u found.1) on other

  module _ (v : ℕ) (node : IsNode n k v) (under : OnPath s v)
      (first : (w : ℕ) → IsNode n k w → OnPath s w → w < v → IsOpen n rooms w → ⊥) where
    pub start_apart : AreUnrelated avoid v
    start_apart (inl on) = start.apart (elim (cases_lt avoid s) [
      | inl less ↦ inl (OnPath-linear avoid s v on under (omega (arith, less)))
      | inr from ↦ inr (OnPath-linear s avoid v under on from)
    ])
    start_apart (inr on) = start.apart (inr (OnPath-trans s v avoid under on))

    pub start_before : (w : ℕ) → IsNode n k w → AreUnrelated avoid w → w < v → IsOpen n rooms w → ⊥
    start_before w lower apart less free =
        let v_up = steps_up n d k s v start.node node under in
        let mono : w / 2 ^ (d - k) ≤ v / 2 ^ (d - k) = shr_mono (d - k) (omega (arith, less)) in
        elim (cases_eq (w / 2 ^ (d - k)) s) [
          | inl same ↦ first w lower (under.0, (d - k, same)) less free
          | inr other ↦ start.before w lower (OnPath-root n k w lower) apart (omega (arith, other, mono, v_up.1)) free
        ]

-- ---- what the code finds

abbrev IsEntered : ℕ → List ℕ → ℕ → ℕ → Start → Type 0
IsEntered k rooms d s start = (start.node ≡ s) × (start.dim ≡ d) × (k ≤ d) × (k + 2 ≤ room_of rooms s)

pub placed_entered : (n k d s : ℕ) (rooms : List ℕ) (found : Option Start) → IsNode n d s → IfSome found (IsEntered k rooms d s) → IsPlaced n k found
placed_entered n k d s rooms None node is = is
placed_entered n k d s rooms (Some start) node is =
    (omega (arith, is.1, is.2), subst (λ x. IsNode n x start.node) (sym is.1) (subst (IsNode n d) (sym is.0) node))

pub placed_some : (n k : ℕ) (found : Option Start) (start : Start) → found ≡ Some start → IsPlaced n k found → (k ≤ start.dim) × IsNode n start.dim start.node
placed_some n k found start some is = subst (IsPlaced n k) some is

module _ (n k : ℕ) (rooms : List ℕ) (sound : IsSound n rooms) (avoid d c : ℕ) (node : IsNode n d c)
    (inner : d < n) (way : OnPath c avoid) (here : room_of rooms (c / 2) ≢ 0) (s : ℕ) (siblings : AreSiblings c s) where
  pub found-entered : (start : Start) → IsEntered k rooms d s start → (c < s → HasNoneIn n k rooms avoid c)
      → IsStart n k rooms avoid (c / 2) start.dim start.node
  found-entered start is earlier =
      subst (λ x. IsStart n k rooms avoid (c / 2) x start.node) (sym is.1)
      (subst (λ x. IsStart n k rooms avoid (c / 2) d x) (sym is.0)
      (widen-enter n k rooms avoid d c node inner way s siblings here is.2 is.3 earlier))

  pub found-right : (found : Option Start) → IfSome found (IsEntered k rooms d s)
      → IfNone found ((d < k) ⊎ (room_of rooms s < k + 2))
      → HasNoneIn n k rooms avoid c
      → IsFound n k rooms avoid (c / 2) found
  found-right None some none before = widen-none n k rooms avoid d c node inner way s siblings sound none before
  found-right (Some start) some none before = found-entered start some (λ _. before)

  pub found-kept : (found : Option Start) → (c < s) → is_some found ≡ true
      → IsFound n k rooms avoid c found
      → IsFound n k rooms avoid (c / 2) found
  found-kept None order is before = absurd (true≢false (sym is))
  found-kept (Some start) order is before = widen-keep n k rooms avoid d c node inner way s siblings sound here (inr order) start.dim start.node before

  pub found-same : (found : Option Start) → (d < k) ⊎ (room_of rooms s < k + 2)
      → IsFound n k rooms avoid c found
      → IsFound n k rooms avoid (c / 2) found
  found-same None less before = widen-none n k rooms avoid d c node inner way s siblings sound less before
  found-same (Some start) less before = widen-keep n k rooms avoid d c node inner way s siblings sound here (inl less) start.dim start.node before

-- nothing was found so far where the test says so
pub none_found : (n k : ℕ) (rooms : List ℕ) (avoid c : ℕ) (found : Option Start) → is_some found ≡ false → IsFound n k rooms avoid c found → HasNoneIn n k rooms avoid c
none_found n k rooms avoid c None is before = before
none_found n k rooms avoid c (Some start) is before = absurd (true≢false is)

-- at the end of the way up the node is the root
pub found_at_root : (n k : ℕ) (rooms : List ℕ) (avoid level v : ℕ) (found : Option Start) → level ≡ n → IsNode n level v → IsFound n k rooms avoid v found → IsFound n k rooms avoid 1 found
found_at_root n k rooms avoid level v found all node is =
    subst (λ x. IsFound n k rooms avoid x found) (root_is n v (subst (λ d. IsNode n d v) all node)) is

pub found_none : (n k : ℕ) (rooms : List ℕ) (avoid : ℕ) (found : Option Start) → found ≡ None → IsFound n k rooms avoid 1 found → HasNoneIn n k rooms avoid 1
found_none n k rooms avoid found none is = subst (IsFound n k rooms avoid 1) none is

pub found_some : (n k : ℕ) (rooms : List ℕ) (avoid : ℕ) (found : Option Start) (start : Start) → found ≡ Some start → IsFound n k rooms avoid 1 found → IsStart n k rooms avoid 1 start.dim start.node
found_some n k rooms avoid found start some is = subst (IsFound n k rooms avoid 1) some is

-- ---- the most room

pub most_taken : (n : ℕ) (rooms : List ℕ) (avoid d c : ℕ) → IsNode n d c → d < n → OnPath c avoid → room_of rooms (c / 2) ≡ 0 → IsMost n rooms avoid (c / 2) 0
most_taken n rooms avoid d c node inner way taken = (
  λ k enough. absurd (omega (arith, enough)),
  λ k less. widen-taken n k rooms avoid d c node inner way taken,
)

module _ (n : ℕ) (rooms : List ℕ) (sound : IsSound n rooms) (avoid d c : ℕ) (node : IsNode n d c) (inner : d < n) (way : OnPath c avoid)
    (here : room_of rooms (c / 2) ≢ 0) (s : ℕ) (siblings : AreSiblings c s) (most now : ℕ) (before : IsMost n rooms avoid c most)
    (least : most ≤ now) (room : room_of rooms s ≤ now) (one_of : (now ≡ most) ⊎ (now ≡ room_of rooms s)) where
  -- the sibling is entered
  enters : (k : ℕ) → k + 2 ≤ room_of rooms s → (c < s → HasNoneIn n k rooms avoid c) → (e : ℕ) × (t : ℕ) × IsStart n k rooms avoid (c / 2) e t
  enters k enough earlier =
      let bound = room_bound n rooms sound d s (sibling_node n k rooms avoid d c node inner way s siblings) in
      (d, s, widen-enter n k rooms avoid d c node inner way s siblings here (omega (arith, enough, bound)) enough earlier)

  some_now : (k : ℕ) → k + 2 ≤ now → (e : ℕ) × (t : ℕ) × IsStart n k rooms avoid (c / 2) e t
  some_now k enough = elim (cases_lt most (k + 2)) [
    | inl less ↦ enters k (elim one_of [ inl same ↦ absurd (omega (arith, same, less, enough)) | inr same ↦ omega (arith, same, enough) ]) (λ _. before.1 k less)
    | inr more ↦
        let start = before.0 k more in
        elim (cases_lt c s) [
          | inl order ↦ (start.0, start.1, widen-keep n k rooms avoid d c node inner way s siblings sound here (inr order) start.0 start.1 start.2)
          | inr order ↦ elim (cases_lt (room_of rooms s) (k + 2)) [
            | inl none ↦ (start.0, start.1, widen-keep n k rooms avoid d c node inner way s siblings sound here (inl (inr none)) start.0 start.1 start.2)
            | inr fits ↦ enters k fits (λ less. absurd (omega (arith, less, order)))
          ]
        ]
  ]

  pub most_widened : IsMost n rooms avoid (c / 2) now
  most_widened = (
    some_now,
    λ k less. widen-none n k rooms avoid d c node inner way s siblings sound (inr (omega (arith, less, room))) (before.1 k (omega (arith, less, least))),
  )

pub most_begins : (n : ℕ) (rooms : List ℕ) (avoid : ℕ) → IsMost n rooms avoid avoid 0
most_begins n rooms avoid = (λ k enough. absurd (omega (arith, enough)), λ k less. none_in_avoid n k rooms avoid)

pub most_at_root : (n : ℕ) (rooms : List ℕ) (avoid level v most : ℕ) → level ≡ n → IsNode n level v → IsMost n rooms avoid v most → IsMost n rooms avoid 1 most
most_at_root n rooms avoid level v most all node is =
    subst (λ x. IsMost n rooms avoid x most) (root_is n v (subst (λ d. IsNode n d v) all node)) is

-- where there is a start, an open node is apart
pub start_open : (n k : ℕ) (rooms : List ℕ) (sound : IsSound n rooms) (avoid d s : ℕ) → IsStart n k rooms avoid 1 d s
    → (w : ℕ) × IsNode n k w × IsOpen n rooms w × AreUnrelated avoid w
start_open n k rooms sound avoid d s start =
    let above = start_above n k rooms sound avoid d s start in
    let found = Descent-ends n k rooms sound d s (d - k) k s (omega (arith, start.fits)) (Descent-begin n k rooms d s start.fits start.node start.enough above) in
    let node = Descent-node n k rooms sound d s found.0 found.1 in (
      found.0,
      node,
      Descent-open n k rooms sound d s found.0 found.1,
      start_apart n k rooms sound avoid d s start found.0 node found.1.below (Descent-first n k rooms sound d s found.0 found.1),
    )
