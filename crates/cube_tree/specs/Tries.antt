-- Tries of one node after another.
use Rattle.std.specs.Prelude.{◌≡◌, ℕ, zero, suc, ◌+◌, ◌*◌, ◌^◌, ◌<◌, ◌≤◌, List, [], ◌∷◌, length}
use Rattle.cube_core.specs.declared.event.Event.{Event}
use Rattle.cube_core.specs.declared.event.Kind.{Kind}
use Rattle.cube_core.specs.declared.event.Kind.TheVariants.{Look, Claim, Raise}
use Rattle.cube_core.specs.declared.event.Note.{Note}
use Rattle.cube_core.specs.declared.event.Note.TheVariants as note
use Rattle.tree_steps.specs.declared.why.Why.{Why}
use Rattle.tree_steps.specs.declared.why.Why.TheVariants.{InUse, Lost, Under}
use Rattle.tree_steps.specs.declared.view.Entry.{Entry}
use Rattle.cube_tree.specs.declared.refusal.Refusal.{Refusal}
use Rattle.cube_tree.specs.declared.handles.Cube.{Cube}
use Rattle.cube_tree.specs.declared.handles.Subcube.{Subcube}
use Rattle.cube_tree.specs.Handles.{cube_dim, subcube_entry, IsRefusedTry, TakesNode}

-- The counts with one refusal more.
abbrev pub counted : Why → Refusal → Refusal
counted InUse r = record r { in_use = r.in_use + 1 }
counted Lost r = record r { lost = r.lost + 1 }
counted (Under at) r = record r { under = r.under + 1 }

-- No refusals.
abbrev pub no_refusal : Refusal
no_refusal = record { in_use = 0; lost = 0; under = 0 }

-- The sum of the three counts.
abbrev pub refusal_sum : Refusal → ℕ
refusal_sum r = r.in_use + r.lost + r.under

-- The counts of an event that refuses a take, for its reason. Such an event is a look that found
-- its node in use, a claim that was lost, or a raise at an occupied ancestor.
abbrev pub refusals_by : Kind → Note → Refusal
refusals_by Look note.InUse = record no_refusal { in_use = 1 }
refusals_by Claim note.Lost = record no_refusal { lost = 1 }
refusals_by Raise note.Under = record no_refusal { under = 1 }
refusals_by kind n = no_refusal

-- The sum of two counts, for each reason.
abbrev pub added : Refusal → Refusal → Refusal
added r s =
    record { in_use = r.in_use + s.in_use; lost = r.lost + s.lost; under = r.under + s.under }

-- The counts of the events in a trail.
abbrev pub refusals_in : List Event → Refusal
refusals_in [] = no_refusal
refusals_in (e ∷ earlier) = added (refusals_by e.kind e.note) (refusals_in earlier)

-- A try of one node more, which was refused. The counts grow by its reason.
pub record OneMore (n node : ℕ) (before refusal : Refusal) (between new : Entry) : Type 0 where
  pub why : Why
  pub refused : IsRefusedTry n node between new why
  pub counts : refusal ≡ counted why before

-- The station tried this number of nodes in order, from the first one on, and was refused each. The
-- counts are those of its refusals.
abbrev pub Tries : ℕ → ℕ → ℕ → Refusal → Entry → Entry → Type 0
Tries n first zero refusal old new = (new ≡ old) × (refusal ≡ no_refusal)
Tries n first (suc m) refusal old new =
    (between : Entry) × (before : Refusal) × Tries n first m before old between
    × OneMore n (first + m) before refusal between new

-- After `m` refusals of the first nodes of a level, the station took the next one. The level is `j`
-- levels below the root.
pub record TakesOne (cube : Cube) (j : ℕ) (old : Entry) (subcube : Subcube) : Type 0 where
  pub m : ℕ
  pub there : m < 2 ^ j
  pub between : Entry
  pub before : Refusal
  pub tries : Tries (cube_dim cube) (2 ^ j) m before old between
  pub taken : TakesNode cube (2 ^ j + m) between subcube
  pub bound : length (subcube_entry subcube).trail ≤ length old.trail + 2 ^ j * (3 + 7 * j)

-- All nodes of the level were refused.
pub record IsRefusedAll (n j : ℕ) (old new : Entry) (refusal : Refusal) : Type 0 where
  pub tries : Tries n (2 ^ j) (2 ^ j) refusal old new
  pub sum : refusal_sum refusal ≡ 2 ^ j
  pub events : refusals_in new.trail ≡ added refusal (refusals_in old.trail)
  pub bound : length new.trail ≤ length old.trail + 2 ^ j * (3 + 7 * j)
