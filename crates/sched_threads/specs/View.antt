-- What seats know, and how a turn changes that.
use Rattle.std.specs.Prelude.{ℕ, zero, suc, Option, Some, None, List, [], ◌∷◌, true, false}
use Rattle.sched_threads.specs.declared.clocked.ClockedDesk.{ClockedDesk}
use Rattle.sched_threads.specs.declared.view.Turn.{Turn}
use Rattle.sched_threads.specs.declared.view.View.{View}

-- What a seat knows that found no other with the turn: its turns, and the desk that it found if it
-- has the turn.
abbrev pub view : List Turn → Option ClockedDesk → View
view notes found = record { notes = notes; found = found; barred = false }

-- What a seat knows at first: nothing.
abbrev pub blank_view : View
blank_view = view [] None

-- What a seat knows that made no turn, and found that another seat has it.
abbrev pub barred_view : View
barred_view = record { notes = []; found = None; barred = true }

-- What a new seat knows that found this number in the word.
abbrev pub first_view : ℕ → View
first_view zero = blank_view
first_view (suc n) = barred_view

-- The same view, of a seat that has the turn and found this desk.
abbrev pub holding : View → ClockedDesk → View
holding v x = view v.notes (Some x)

-- A turn after this number of others, from one desk to another.
abbrev pub turn : ℕ → ClockedDesk → ClockedDesk → Turn
turn at x y = record { at = at; from = x; to = y }

-- What a seat knows after a turn.
abbrev pub noting : View → Turn → View
noting v t = view (t ∷ v.notes) None
